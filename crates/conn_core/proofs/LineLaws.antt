-- Lines that were written to a sink, one after another.
use Rattle.std.proofs.Common.{◌≡◌, ◌≢◌, ℕ, suc, ◌+◌, ◌<◌, ◌≤◌, ◌⊎◌, inl, inr, List, [], ◌∷◌, ◌++◌, length, get_or, take}
use Rattle.std.proofs.Common.{drop, refl, ap, sym, ◌∙◌, arith, append-nil, append_assoc, subst}
use Rattle.std.specs.Prelude.{Option, Some, None}
use Rattle.std.specs.Option.{option_map}
use Rattle.std.proofs.lemmas.Grind.{flat_map-append}
use Rattle.std.proofs.lemmas.List.{drop_more, take-append-le, take_all, take_more, take-append-drop}
use Rattle.std.proofs.Math.Seq.{take-append-add}
use Rattle.ev_types.specs.declared.item.Notice.{Notice}
use Rattle.notice_sink.specs.Lines.{lines_of, notice_line}
use Rattle.ports.specs.Writing.{Got, GotPrefix, SinkReport}
use Rattle.list_laws.specs.Prefix.{IsPrefix}
use Rattle.conn_core.specs.Turning.{CountedPuts, GotFirstLines, puts_after}

pub got_nothing : (text : Option (List ℕ)) → Got text [] text
got_nothing None = refl
got_nothing (Some text) = ap Some (sym (append-nil text))

twice : (text : Option (List ℕ)) (first second : List ℕ)
    → option_map (λ (bytes : List ℕ). bytes ++ second) (option_map (λ (bytes : List ℕ). bytes ++ first) text)
    ≡ option_map (λ (bytes : List ℕ). bytes ++ (first ++ second)) text
twice None first second = refl
twice (Some text) first second = ap Some (append_assoc text first second)

pub got_then : (a b c : Option (List ℕ)) (first second : List ℕ) → Got a first b → Got b second c
    → Got a (first ++ second) c
got_then a b c first second one two =
    two ∙ ap (option_map (λ (bytes : List ℕ). bytes ++ second)) one ∙ twice a first second

-- the first n bytes are as many of a longer list
front_of : (n : ℕ) (bytes rest : List ℕ) → (m : ℕ) × (take n bytes ≡ take m (bytes ++ rest))
front_of n bytes rest =
    let side : (n ≤ length bytes) ⊎ (length bytes ≤ n) = grind arith in
    elim side [
      | inl within ↦ (n, sym (take-append-le n bytes rest within))
      | inr over ↦ (
        length bytes,
        take_all n bytes over ∙ sym (take_all (length bytes) bytes (omega arith))
            ∙ sym (take-append-le (length bytes) bytes rest (omega arith)),
      )
    ]

pub front_then : (a b c : Option (List ℕ)) (first second rest whole : List ℕ) → whole ≡ first ++ (second ++ rest)
    → Got a first b → GotPrefix b second c → GotPrefix a whole c
front_then a b c first second rest whole is one two =
    let front = front_of two.0 second rest in (
      length first + front.0,
      got_then a b c first (take two.0 second) one two.1
          ∙ ap (λ (bytes : List ℕ). option_map (λ (text : List ℕ). text ++ (first ++ bytes)) a) front.1
          ∙ ap (λ (bytes : List ℕ). option_map (λ (text : List ℕ). text ++ bytes) a)
          (sym (take-append-add first (second ++ rest) front.0) ∙ ap (take (length first + front.0)) (sym is)),
    )

pub front_nothing : (text : Option (List ℕ)) (whole : List ℕ) → GotPrefix text whole text
front_nothing text whole = (0, got_nothing text)

-- one more notice
pub lines_more : (notices : List Notice) (i : ℕ) (notice : Notice) → i < length notices
    → notice ≡ get_or notices i notice
    → lines_of (take (i + 1) notices) ≡ lines_of (take i notices) ++ notice_line notice
lines_more notices i notice within is =
    ap lines_of (take_more notices i notice within)
    ∙ flat_map-append notice_line (take i notices) (get_or notices i notice ∷ [])
    ∙ ap (λ (n : Notice). lines_of (take i notices) ++ (notice_line n ++ [])) (sym is)
    ∙ ap (λ (bytes : List ℕ). lines_of (take i notices) ++ bytes) (append-nil (notice_line notice))

-- the lines before a notice, its own, and those after it
pub lines_split : (notices : List Notice) (i : ℕ) (notice : Notice) → i < length notices
    → notice ≡ get_or notices i notice
    → lines_of notices ≡ lines_of (take i notices) ++ (notice_line notice ++ lines_of (drop (i + 1) notices))
lines_split notices i notice within is =
    ap lines_of (sym (take-append-drop i notices))
    ∙ flat_map-append notice_line (take i notices) (drop i notices)
    ∙ ap (λ (ns : List Notice). lines_of (take i notices) ++ lines_of ns) (drop_more notices i notice within)
    ∙ ap (λ (n : Notice). lines_of (take i notices) ++ (notice_line n ++ lines_of (drop (i + 1) notices))) (sym is)

-- ---- the count of puts

pub counted_nothing : (puts : Option ℕ) → CountedPuts puts 0 puts
counted_nothing None = refl
counted_nothing (Some count) = refl

counted_one : (puts : Option ℕ) (i : ℕ)
    → option_map (puts_after 1) (option_map (puts_after i) puts) ≡ option_map (puts_after (suc i)) puts
counted_one None i = refl
counted_one (Some count) i = refl

pub counted_then : (a b c : Option ℕ) (i : ℕ) → CountedPuts a i b → CountedPuts b 1 c → CountedPuts a (suc i) c
counted_then a b c i one two = two ∙ ap (option_map (puts_after 1)) one ∙ counted_one a i

-- ---- the first lines

-- the line of a notice is that of the first one from its number on
next_line : (notices : List Notice) (i : ℕ) (notice : Notice) → i < length notices → notice ≡ get_or notices i notice
    → lines_of (take 1 (drop i notices)) ≡ notice_line notice
next_line notices i notice within is =
    ap (λ (ns : List Notice). lines_of (take 1 ns)) (drop_more notices i notice within)
    ∙ append-nil (notice_line (get_or notices i notice))
    ∙ ap notice_line (sym is)

part_of : (n : ℕ) (bytes : List ℕ) → IsPrefix (take n bytes) bytes
part_of n bytes = (drop n bytes, sym (take-append-drop n bytes))

some_length : (notices : List Notice) → notices ≢ [] → 0 < length notices
some_length [] some = absurd (some refl)
some_length (notice ∷ notices) some = omega arith

-- nothing was written
pub first_nothing : (got : SinkReport) (notices : List Notice) → GotFirstLines got notices got
first_nothing got notices = record {
  whole = 0;
  within = omega arith;
  missing = some_length notices;
  part = [];
  next = (lines_of (take 1 (drop 0 notices)), refl);
  text = got_nothing got.text;
  puts = counted_nothing got.puts;
}

-- a notice's line was not written whole
pub first_then : (old mid new : SinkReport) (notices : List Notice) (i : ℕ) (notice : Notice) → i < length notices
    → notice ≡ get_or notices i notice → Got old.text (lines_of (take i notices)) mid.text
    → CountedPuts old.puts i mid.puts → GotPrefix mid.text (notice_line notice) new.text → new.puts ≡ mid.puts
    → GotFirstLines old notices new
first_then old mid new notices i notice within is got puts prefix same = record {
  whole = i;
  within = omega arith;
  missing = λ _. within;
  part = take prefix.0 (notice_line notice);
  next = subst (λ (bytes : List ℕ). IsPrefix (take prefix.0 (notice_line notice)) bytes)
      (sym (next_line notices i notice within is)) (part_of prefix.0 (notice_line notice));
  text =
      got_then old.text mid.text new.text (lines_of (take i notices)) (take prefix.0 (notice_line notice)) got prefix.1;
  puts = same ∙ puts;
}
