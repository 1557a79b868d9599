-- Reading one field of an event from bytes that are known to be those that this server writes: texts are not tested,
-- and what lies before the field is only skipped. These are words of the private functions that read. No public clause
-- cites them.
use Rattle.std.specs.Prelude.{ℕ, ℤ, List, Option, Some}
use Rattle.std.specs.Int.{w32}
use Rattle.packed_event.specs.Reading.{◌>>=◌, bytes_part, int64_part, number_part, optional, repeated}
use Rattle.packed_event.specs.Reading.{required, sint64_part}

unfoldable pub state_part : List ℕ → Option (Option (List ℕ))
state_part bytes = do
  time ← required 8 int64_part bytes
  state ← optional 18 bytes_part time.1
  Some state.0

unfoldable pub description_part : List ℕ → Option (Option (List ℕ))
description_part bytes = do
  time ← required 8 int64_part bytes
  state ← optional 18 bytes_part time.1
  service ← optional 26 bytes_part state.1
  host ← optional 34 bytes_part service.1
  description ← optional 42 bytes_part host.1
  Some description.0

-- the bytes that begin with the attributes, of those that begin with the tags
unfoldable pub attributes_start : List ℕ → Option (List ℕ)
attributes_start bytes = do
  tags ← repeated 58 bytes_part bytes
  ttl ← optional 69 (number_part w32) tags.1
  Some ttl.1

-- the metric, from the bytes that begin with the tags
unfoldable pub metric_part : List ℕ → Option (Option ℤ)
metric_part bytes = do
  tags ← repeated 58 bytes_part bytes
  ttl ← optional 69 (number_part w32) tags.1
  attributes ← repeated 74 bytes_part ttl.1
  micros ← optional 80 int64_part attributes.1
  metric ← optional 104 sint64_part micros.1
  Some metric.0
