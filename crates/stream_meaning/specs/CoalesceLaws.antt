-- What coalesce passes on, apart from its order.
use Rattle.std.specs.Prelude.{ℕ, List, map, filter}
use Rattle.std.specs.List.Sorted.{IsPermutation, IsStrictlySortedBy}
use Rattle.index_log.specs.IndexKey.{index_key_cmp}
use Rattle.stream_meaning.specs.Came.{Timed}
use Rattle.stream_meaning.specs.Coalesce.{newest, still_passes, event_of, coalesced}

-- the last events of each host and service that still pass, each as often, in another order
abbrev pub CoalescedAreTheNewest : Type 0
CoalescedAreTheNewest = (secs t : ℕ) (came : List Timed) →
    IsPermutation (map event_of (filter (still_passes secs t) (newest came))) (coalesced secs t came)

-- in key order, and each host and service once
abbrev pub CoalescedRise : Type 0
CoalescedRise = (secs t : ℕ) (came : List Timed) → IsStrictlySortedBy index_key_cmp (coalesced secs t came)
