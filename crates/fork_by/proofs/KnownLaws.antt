-- Keys of events that are found without being made.
use Rattle.std.proofs.Common.{◌≡◌, ℕ, eqb, List, slice_get, Option, None, Some, IfSome, refl, sym, ◌∙◌, ap, subst}
use Rattle.std.proofs.Common.{inl, inr}
use mathlib.Core.Bool.{true≢false}
use Rattle.std.specs.List.{IsDistinct}
use Rattle.std.specs.Map.{keys_of, lookup}
use Rattle.std.specs.Option.{option_map}
use Rattle.ev_types.specs.declared.value.Value.{Value}
use Rattle.ev_types.specs.Key.{same_key}
use Rattle.ev_types.proofs.Values.{same_key_decides}
use Rattle.linked_slots.proofs.ListLaws.{bool_cases, eqb-true, eqb-apart}
use Rattle.fork_by.proofs.KeptLaws.{lookup_index, lookup_some, keys_apart}

-- the number that is kept with a key is that of the key
pub lookup_at : (entries : List (List Value × ℕ)) (index number : ℕ) (key : List Value)
    → IsDistinct same_key (keys_of entries)
    → slice_get entries index ≡ Some (key, number) → lookup (same_key key) entries ≡ Some number
lookup_at entries index number key distinct at = known (lookup (same_key key) entries) refl
  where
    numbered : Option (List Value × ℕ) → Option ℕ
    numbered entry = option_map (λ e. e.1) entry

    known : (o : Option ℕ) → lookup (same_key key) entries ≡ o → lookup (same_key key) entries ≡ Some number
    known None none =
        absurd (lookup_some (same_key key) entries index number key at ((same_key_decides key key).1 refl) none)
    known (Some other) some =
        let found = lookup_index (same_key key) entries other some in
        elim (bool_cases (eqb index found.0)) [
          | inl here ↦
              some
              ∙ sym (ap numbered found.2)
              ∙ ap (λ i. numbered (slice_get entries i)) (sym (eqb-true index found.0 here))
              ∙ ap numbered at
          | inr apart ↦
              absurd (true≢false (sym found.3
              ∙ keys_apart entries index found.0 (key, number) (found.1, other) distinct at found.2
              (eqb-apart index found.0 apart)))
        ]

-- what holds of the number that is found holds of one that is it, if there is one
pub if_found : (P : ℕ → Type 0) (found o : Option ℕ) → IfSome o (λ n. found ≡ Some n) → IfSome found P → IfSome o P
if_found P found None is all = tt
if_found P found (Some n) is all = subst (λ (f : Option ℕ). IfSome f P) is all
