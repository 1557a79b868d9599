-- Where the host of a path is.
use Rattle.std.specs.Prelude.{◌≡◌, ℕ, ◌+◌, ◌-◌, ◌<◌, ◌≤◌, List, ◌++◌, length, take, drop, slice_index, IfSome, Option}
use Rattle.std.specs.Option.{option_copied}
use Rattle.graphite_lines.specs.declared.path.Placed.{Placed}
use Rattle.graphite_lines.specs.Lines.{host_in, other_parts, part_of, parts_of, service_in}

-- the part of this number, from 1, is between these places, with a dot after it, and before it where it is not the
-- first
pub record IsSpan (path : List ℕ) (number start end : ℕ) : Type 0 where
  pub more : number < length (parts_of path)
  pub ordered : start ≤ end
  pub dot : slice_index path end ≡ 46
  pub dot_before : 0 < start → slice_index path (start - 1) ≡ 46
  pub within : end < length path
  pub part : take (end - start) (drop start path) ≡ part_of number path
  pub others : take start path ++ drop (end + 1) path ≡ other_parts number path

-- the path gives this host and this service
pub record IsPlaced (host_part : Option ℕ) (path : List ℕ) (placed : Placed) : Type 0 where
  pub host : option_copied placed.host ≡ host_in host_part path
  pub service : placed.front.now ++ placed.back.now ≡ service_in host_part path
  pub short : length (placed.front.now ++ placed.back.now) ≤ length path
  pub host_short : IfSome placed.host (λ host. length host.now ≤ length path)
