-- Where links wait.
use Rattle.std.specs.Prelude.{◌+◌, ◌≤◌, ◌==◌, ◌||◌, ◌&&◌, nat_lt, slice_get, if◌then◌else◌, Bool, Option}
use Rattle.std.specs.Option.{option_map}
use Rattle.std.specs.VecDeque.{deque_capacity, deque_len}
use Rattle.mio_links.specs.declared.queue.Queue.{Queue}
use Rattle.mio_links.specs.declared.queue.Source.{Source}
use Rattle.mio_links.specs.declared.queue.Source.TheVariants.{Link}

-- the source that is served next: the first one of the queue, and in the last turn of a round the link that was put off
-- first
abbrev pub next_source : Queue → Option Source
next_source queue = if nat_lt 1 queue.left then slice_get queue.sources.items 0
    else option_map Link (slice_get queue.put_off.items 0)

-- no turn of the round is left
abbrev pub is_over : Queue → Bool
is_over queue = (queue.left == 0) || (queue.left == 1) && (deque_len queue.put_off == 0)

-- a source more can wait for its turn only with more memory
abbrev pub IsFull : Queue → Type 0
IsFull queue = deque_capacity queue.sources ≤ deque_len queue.sources

-- one link more can wait, and no memory is needed for it
abbrev pub HasRoom : Queue → Type 0
HasRoom queue = (deque_len queue.sources + 1 ≤ deque_capacity queue.sources)
    × (deque_len queue.put_off + 1 ≤ deque_capacity queue.put_off)
    × (deque_len queue.held_back + 1 ≤ deque_capacity queue.held_back)
