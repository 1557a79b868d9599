-- A queue of due moments, as contracts see it: pairs of an id and its moment, by rising id.
use Rattle.std.specs.Prelude.{◌≡◌, ℕ, ◌≤◌, not, nat_le, eqb, List, [], map, filter, Option, if◌then◌else◌, MatchOption}
use Rattle.std.specs.Prelude.{Contains}
use Rattle.std.specs.List.{All}
use Rattle.std.specs.List.Sorted.{IsStrictlySortedBy}
use Rattle.std.specs.Map.{lookup, keys_of, values_of}
use Rattle.std.specs.Ordering.{nat_cmp}
use Rattle.std.specs.BTreeMap.{is_at}

-- the moment at which the id is due, if there is one
abbrev pub moment_at : ℕ → List (ℕ × ℕ) → Option ℕ
moment_at id queue = lookup (is_at (nat_cmp id)) queue

-- the ids rise, so the queue is determined by the moment at each id
abbrev pub IsRising : List (ℕ × ℕ) → Type 0
IsRising queue = IsStrictlySortedBy nat_cmp (keys_of queue)

-- the id has this moment or none now, and every other id has what it had
abbrev pub Sets : List (ℕ × ℕ) → List (ℕ × ℕ) → ℕ → Option ℕ → Type 0
Sets old new id moment = (other : ℕ) → moment_at other new ≡ (if eqb other id then moment else moment_at other old)

-- the queue without the id
abbrev pub without : ℕ → List (ℕ × ℕ) → List (ℕ × ℕ)
without id queue = filter (λ entry. not (eqb entry.0 id)) queue

-- the ids that are due at or before the moment, by rising id
abbrev pub due_ids : ℕ → List (ℕ × ℕ) → List ℕ
due_ids now queue = map (λ entry. entry.0) (filter (λ entry. nat_le entry.1 now) queue)

-- what is due later than the moment
abbrev pub due_later : ℕ → List (ℕ × ℕ) → List (ℕ × ℕ)
due_later now queue = filter (λ entry. not (nat_le entry.1 now)) queue

-- the least of the moments, or none where there are no moments
abbrev pub IsLeast : List ℕ → Option ℕ → Type 0
IsLeast moments least =
    MatchOption least (moments ≡ []) (λ moment. Contains moments moment × All (λ other. moment ≤ other) moments)

-- the least moment in the queue
abbrev pub IsNext : List (ℕ × ℕ) → Option ℕ → Type 0
IsNext queue next = IsLeast (values_of queue) next
