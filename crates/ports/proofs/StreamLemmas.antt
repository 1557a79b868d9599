-- How what a writer took is put together.
use Rattle.std.proofs.Common.{◌≡◌, ℕ, ◌+◌, ◌-◌, ◌≤◌, List, [], ◌++◌, take, drop, Option, Some, None, sym, refl, ◌∙◌, ap}
use Rattle.std.proofs.Common.{append_assoc, append-nil, arith, length, length-drop, subst}
use Rattle.std.proofs.Math.Seq.{take-add}
use Rattle.std.proofs.lemmas.List.{take_all}
use Rattle.std.specs.Io.KnownBytes.{Appends, Keeps}
use Rattle.ports.specs.Counts.{Rose}
use Rattle.ports.specs.Streams.{TookAll, TookFirst, stream_report}
use Rattle.ports.specs.Writing.{FailsToPut}

-- nothing was taken
pub kept_nothing : (contents contents' : Option (List ℕ)) → Keeps contents contents' → Appends contents contents' []
kept_nothing None contents' kept = tt
kept_nothing (Some xs) None kept = kept
kept_nothing (Some xs) (Some ys) kept = kept ∙ sym (append-nil xs)

pub took_nothing : (contents contents' : Option (List ℕ)) → Appends contents contents' [] → Keeps contents contents'
took_nothing None contents' took = tt
took_nothing (Some xs) None took = took
took_nothing (Some xs) (Some ys) took = took ∙ append-nil xs

-- the rest of the bytes, as a slice from a place on
rest_of : (bytes : List ℕ) (i : ℕ) → take (length bytes - i) (drop i bytes) ≡ drop i bytes
rest_of bytes i = take_all (length bytes - i) (drop i bytes) (omega (arith, length-drop i bytes))

front_more : (bytes : List ℕ) (i n : ℕ)
    → take i bytes ++ take n (take (length bytes - i) (drop i bytes)) ≡ take (i + n) bytes
front_more bytes i n =
    ap (λ rest. take i bytes ++ take n rest) (rest_of bytes i) ∙ sym (take-add i n bytes)

-- one call after another
pub text_more : (bytes : List ℕ) (i n : ℕ) (a b c : List ℕ) → b ≡ a ++ take i bytes
    → c ≡ b ++ take n (take (length bytes - i) (drop i bytes)) → c ≡ a ++ take (i + n) bytes
text_more bytes i n a b c one two =
    two ∙ (ap (λ front. front ++ take n (take (length bytes - i) (drop i bytes))) one
    ∙ (append_assoc a (take i bytes) (take n (take (length bytes - i) (drop i bytes)))
    ∙ ap (λ more. a ++ more) (front_more bytes i n)))

pub took_more : (bytes : List ℕ) (i n : ℕ) (a b c : Option (List ℕ)) → Appends a b (take i bytes)
    → Appends b c (take n (take (length bytes - i) (drop i bytes))) → Appends a c (take (i + n) bytes)
took_more bytes i n None b c one two = tt
took_more bytes i n (Some xs) None c one two = absurd one
took_more bytes i n (Some xs) (Some ys) None one two = two
took_more bytes i n (Some xs) (Some ys) (Some zs) one two = text_more bytes i n xs ys zs one two

pub took_kept : (bytes : List ℕ) (a b c : Option (List ℕ)) → Appends a b bytes → Keeps b c → Appends a c bytes
took_kept bytes None b c took kept = tt
took_kept bytes (Some xs) None c took kept = absurd took
took_kept bytes (Some xs) (Some ys) None took kept = kept
took_kept bytes (Some xs) (Some ys) (Some zs) took kept = kept ∙ took

pub first_kept : (bytes : List ℕ) (a b c : Option (List ℕ)) (text text' : List ℕ) → TookFirst bytes a text b text'
    → Keeps b c → TookFirst bytes a text c text'
first_kept bytes a b c text text' (n, added, took) kept = (n, added, took_kept (take n bytes) a b c took kept)

pub all_kept : (bytes : List ℕ) (a b c : Option (List ℕ)) (text text' : List ℕ) → TookAll bytes a text b text'
    → Keeps b c → TookAll bytes a text c text'
all_kept bytes a b c text text' (added, took) kept = (added, took_kept bytes a b c took kept)

-- the first of the bytes, which may be all
pub first_of : (bytes : List ℕ) (i : ℕ) (a b : Option (List ℕ)) (text text' : List ℕ) → text' ≡ text ++ take i bytes
    → Appends a b (take i bytes) → TookFirst bytes a text b text'
first_of bytes i a b text text' added took = (i, added, took)

pub all_of : (bytes : List ℕ) (i : ℕ) (a b : Option (List ℕ)) (text text' : List ℕ) → length bytes ≤ i
    → text' ≡ text ++ take i bytes → Appends a b (take i bytes) → TookAll bytes a text b text'
all_of bytes i a b text text' long added took =
    (added ∙ ap (λ more. text ++ more) (take_all i bytes long), subst (Appends a b) (take_all i bytes long) took)

-- a put that failed
pub failed_put : (bytes : List ℕ) (contents contents' : Option (List ℕ)) (text text' : List ℕ) (puts faults faults' : ℕ)
    → TookFirst bytes contents text contents' text' → Rose faults faults' → faults ≤ faults'
    → FailsToPut (stream_report text puts faults) bytes (stream_report text' puts faults')
failed_put bytes contents contents' text text' puts faults faults' (n, added, took) rose risen =
    record { text = (n, ap Some added); puts = refl; fault = rose; faults = risen }
