-- Reading summaries one after the other, as a loop does.
use Rattle.std.proofs.Common.{◌≡◌, ℕ, suc, ◌-◌, ◌+◌, ◌≤◌, ◌<◌, List, [], ◌∷◌, ◌++◌, Option, Some, None, refl, sym, ap}
use Rattle.std.proofs.Common.{◌∙◌, append_assoc, arith}
use Rattle.std.proofs.lemmas.List.{append-nil}
use Rattle.journal_format.specs.declared.turn_record.Summary.{Summary}
use Rattle.journal_format.specs.declared.unread.Unread.{Unread}
use Rattle.journal_format.specs.declared.unread.Unread.TheVariants.{Memory, Refused}
use Rattle.journal_format.specs.Reading.{◌>>=◌, Fails, summary_at, summaries_at}

-- what was read before, and what is still read
abbrev pub with_front : List Summary → Option (List Summary × List ℕ) → Option (List Summary × List ℕ)
with_front front read = read >>= λ x. Some (front ++ x.0, x.1)

regroup : (front : List Summary) (s : Summary) (read : Option (List Summary × List ℕ))
    → with_front front (read >>= λ x. Some (s ∷ x.0, x.1)) ≡ with_front (front ++ s ∷ []) read
regroup front s (Some x) = ap (λ (ss : List Summary). Some (ss, x.1)) (simp append_assoc)
regroup front s None = refl

pub goes_on : (front : List Summary) (count i : ℕ) (bytes : List ℕ) (s : Summary) (after : List ℕ)
    (total : Option (List Summary × List ℕ)) → i < count → summary_at bytes ≡ Some (s, after)
    → with_front front (summaries_at (count - i) bytes) ≡ total
    → with_front (front ++ s ∷ []) (summaries_at (count - (i + 1)) after) ≡ total
unfolding summaries_at
goes_on front count i bytes s after total lt h so_far =
    let k : count - i ≡ suc (count - (i + 1)) = omega arith in
    let one : with_front front (summaries_at (count - i) bytes)
    ≡ with_front (front ++ s ∷ []) (summaries_at (count - (i + 1)) after) =
    rw (k, h) (regroup front s (summaries_at (count - (i + 1)) after)) in
    sym one ∙ so_far

pub ends : (why : Unread) (front : List Summary) (count i : ℕ) (bytes : List ℕ) (total : Option (List Summary × List ℕ))
    → i < count → Fails why (summary_at bytes)
    → with_front front (summaries_at (count - i) bytes) ≡ total → Fails why total
unfolding summaries_at
ends Memory front count i bytes total lt h so_far = tt
ends Refused front count i bytes total lt h so_far =
    let k : count - i ≡ suc (count - (i + 1)) = omega arith in
    let one : with_front front (summaries_at (count - i) bytes) ≡ None = rw (k, h) refl in
    sym so_far ∙ one

pub is_done : (front : List Summary) (count i : ℕ) (bytes : List ℕ) (total : Option (List Summary × List ℕ)) → count ≤ i
    → with_front front (summaries_at (count - i) bytes) ≡ total → total ≡ Some (front, bytes)
unfolding summaries_at
is_done front count i bytes total le so_far =
    let k : count - i ≡ 0 = omega arith in
    let one : with_front front (summaries_at (count - i) bytes) ≡ Some (front, bytes) =
    rw k (ap (λ (ss : List Summary). Some (ss, bytes)) (append-nil front)) in
    sym so_far ∙ one
