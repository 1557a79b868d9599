-- What the store in memory answers, and what it counts.
use Rattle.std.specs.Prelude.{ℕ, ◌+◌, ◌==◌, nat_lt, List, ◌++◌, length, Option, Some, None, if◌then◌else◌}
use Rattle.std.specs.List.{list_any}
use Rattle.ports.specs.Counts.{count_after}
use Rattle.ports.specs.Files.{held_in}
use Rattle.ports.specs.Reading.{reads_made}
use Rattle.ports.specs.declared.mem_store.MemStore.{MemStore}
use Rattle.ports.specs.declared.store.ReadAnswer.{ReadAnswer}
use Rattle.ports.specs.declared.store.ReadAnswer.TheVariants.{Bytes, Failed, TooLong, Memory}

-- the answer for the file of a name, unless the read is out of memory
abbrev pub answer_for : ℕ → Option (List ℕ) → ReadAnswer
answer_for limit None = Failed
answer_for limit (Some bytes) = if nat_lt limit (length bytes) then TooLong else Bytes bytes

-- what a read of the store answers, unless it is out of memory
abbrev pub answer_of : MemStore → List ℕ → ℕ → ReadAnswer
answer_of store name limit =
    if list_any (λ number. number == store.calls) store.failing.items then Failed
    else answer_for limit (held_in store.files.items name)

-- how many bytes of a file the answer took
abbrev pub taken_for : ℕ → ReadAnswer → ℕ
taken_for limit (Bytes bytes) = length bytes
taken_for limit Failed = 0
taken_for limit TooLong = limit + 1
taken_for limit Memory = 0

-- the store after a read that gave this answer; if memory ran out, it is the store before
abbrev pub store_after : MemStore → List ℕ → ℕ → ReadAnswer → MemStore
store_after store name limit Memory = store
store_after store name limit (Bytes bytes) = record store {
  calls = count_after store.calls 1;
  taken = count_after store.taken (taken_for limit (Bytes bytes));
  reads = store.reads ++ reads_made name (Bytes bytes);
}
store_after store name limit TooLong = record store {
  calls = count_after store.calls 1;
  taken = count_after store.taken (taken_for limit TooLong);
  reads = store.reads ++ reads_made name TooLong;
}
store_after store name limit Failed = record store {
  calls = count_after store.calls 1;
  faults = count_after store.faults 1;
  reads = store.reads ++ reads_made name Failed;
}
