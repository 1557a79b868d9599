-- Where an equality tells values apart, `starts_with` by it says whether a list begins with another.
use Rattle.std.proofs.Common.{◌≡◌, ◌↔◌, Bool, IsTrue, List, ◌++◌, length, take, drop, sym, ◌∙◌, ap}
use Rattle.std.specs.List.{starts_with}
use Rattle.std.specs.Cmp.Lexicographic.{pointwise_decides}
use Rattle.std.proofs.lemmas.List.{take-append-drop}
use Rattle.std.proofs.Math.Seq.{take-append_seam}
use Rattle.list_laws.specs.Prefix.{IsPrefix, TellsApart}

IsPrefix-take : {T : Type 0} (front whole : List T) → front ≡ take (length front) whole → IsPrefix front whole
IsPrefix-take front whole is = (
  drop (length front) whole,
  sym (ap (λ xs. xs ++ drop (length front) whole) is ∙ take-append-drop (length front) whole),
)

take-IsPrefix : {T : Type 0} (front whole : List T) → IsPrefix front whole → front ≡ take (length front) whole
take-IsPrefix front whole (rest, is) = sym (ap (take (length front)) is ∙ take-append_seam front rest)

pub IsPrefix-starts_with : {T : Type 0} (eq : T → T → Bool) → TellsApart eq → (front whole : List T) (answer : Bool)
    → answer ≡ starts_with eq whole front → IsTrue answer ↔ IsPrefix front whole
IsPrefix-starts_with eq apart front whole answer is =
    let decided = pointwise_decides {E = eq} apart front (take (length front) whole) in (
      λ yes. IsPrefix-take front whole (decided.0 (sym is ∙ yes)),
      λ prefix. is ∙ decided.1 (take-IsPrefix front whole prefix),
    )
