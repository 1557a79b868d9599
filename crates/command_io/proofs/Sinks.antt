-- What a sink got, put together from what one put says.
use Rattle.std.proofs.Common.{◌≡◌, ℕ, zero, suc, ◌+◌, ◌<◌, ◌≤◌, ◌⊎◌, inl, inr, List, [], ◌∷◌, ◌++◌, length, take, drop}
use Rattle.std.proofs.Common.{get_or, refl, ap, sym, ◌∙◌, append-nil, append_assoc, arith}
use Rattle.std.specs.Borrow.{Bor}
use Rattle.std.specs.Option.{option_map}
use Rattle.std.specs.Prelude.{Option, Some, None, Result, Ok, Err, OnErr}
use Rattle.std.proofs.Math.Seq.{take-append_seam, take-append-add}
use Rattle.std.proofs.lemmas.List.{take-append-le, take_all}
use Rattle.command_io.specs.Lines.{joined}
use Rattle.ports.specs.Writing.{Got, GotPrefix}

-- a sink that was not put to got nothing, and an empty prefix
pub got_nothing : (old : Option (List ℕ)) → Got old [] old
got_nothing None = refl
got_nothing (Some text) = ap Some (sym (append-nil text))

pub nothing_appended : {X : Type 0} (old : Option (List X)) → option_map (λ texts. texts ++ []) old ≡ old
nothing_appended None = refl
nothing_appended (Some texts) = ap Some (append-nil texts)

pub appended_twice : {X : Type 0} (old : Option (List X)) (xs ys : List X)
    → option_map (λ texts. texts ++ ys) (option_map (λ texts. texts ++ xs) old)
    ≡ option_map (λ texts. texts ++ (xs ++ ys)) old
appended_twice None xs ys = refl
appended_twice (Some texts) xs ys = ap Some (append_assoc texts xs ys)

pub on_error : {T E P : Type 0} (r : Result T E) → P → OnErr r P
on_error (Ok x) fact = tt
on_error (Err e) fact = fact

-- a prefix of a piece in the middle of a line is a prefix of the line
take-within : (n : ℕ) (piece after : List ℕ) → (m : ℕ) × (take m (piece ++ after) ≡ take n piece)
take-within n piece after =
    let way : (n ≤ length piece) ⊎ (length piece ≤ n) = grind arith in
    elim way [
      | inl short ↦ (n, take-append-le n piece after short)
      | inr long ↦ (length piece, take-append_seam piece after ∙ sym (take_all n piece long))
    ]

pub front_within : (old mid new : Option (List ℕ)) (before piece after whole : List ℕ)
    → whole ≡ before ++ (piece ++ after)
    → Got old before mid → GotPrefix mid piece new → GotPrefix old whole new
front_within old mid new before piece after whole whole_is got front =
    let m = take-within front.0 piece after in (
      length before + m.0,
      rw (whole_is, take-append-add before (piece ++ after) m.0, m.1, front.1, got)
          (appended_twice old before (take front.0 piece)),
    )

-- pieces up to one of them, that one, and those after it
joined_at : (pieces : List (Bor (List ℕ))) (i : ℕ) (d : Bor (List ℕ)) → i < length pieces
    → joined pieces ≡ joined (take i pieces) ++ ((get_or pieces i d).now ++ joined (drop (suc i) pieces))
joined_at [] i d within = absurd (omega arith)
joined_at (piece ∷ pieces) zero d within = refl
joined_at (piece ∷ pieces) (suc i) d within =
    rw (joined_at pieces i d (omega arith))
    (sym (append_assoc piece.now (joined (take i pieces)) ((get_or pieces i d).now ++ joined (drop (suc i) pieces))))

pub front_of_pieces : (old mid new : Option (List ℕ)) (pieces : List (Bor (List ℕ))) (i : ℕ) (d : Bor (List ℕ))
    → i < length pieces
    → Got old (joined (take i pieces)) mid → GotPrefix mid (get_or pieces i d).now new
    → GotPrefix old (joined pieces) new
front_of_pieces old mid new pieces i d within got front =
    front_within old mid new (joined (take i pieces)) (get_or pieces i d).now (joined (drop (suc i) pieces))
    (joined pieces) (joined_at pieces i d within) got front
