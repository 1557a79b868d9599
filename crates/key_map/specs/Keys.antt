-- A map from keys to numbers, as contracts see it: pairs of a key and its number, in key order. A key is a host and a
-- service, each of which may be absent.
use Rattle.std.specs.Prelude.{◌≡◌, ℕ, List, length, filter, Option, Some, IsSome, Contains, if◌then◌else◌}
use Rattle.std.specs.List.Sorted.{IsStrictlySortedBy}
use Rattle.std.specs.Map.{lookup, keys_of}
use Rattle.std.specs.Ordering.{nat_cmp, ordering_then}
use Rattle.std.specs.Cmp.Lexicographic.{slice_cmp}
use Rattle.std.specs.declared.cmp.Ordering.{Ordering}
use Rattle.std.specs.BTreeMap.{is_at}
use Rattle.index_log.specs.IndexKey.{text_cmp}

abbrev pub IndexKey : Type 0
IndexKey = Option (List ℕ) × Option (List ℕ)

-- the order of keys: by host, then by service, absent before present
abbrev pub key_cmp : IndexKey → IndexKey → Ordering
key_cmp a b = ordering_then (text_cmp a.0 b.0) (text_cmp a.1 b.1)

abbrev pub Numbers : Type 0
Numbers = List (IndexKey × ℕ)

-- the number of the key, if it has one
abbrev pub number_at : IndexKey → Numbers → Option ℕ
number_at key numbers = lookup (is_at (key_cmp key)) numbers

-- the keys rise, so the map is determined by the number at each key
abbrev pub IsRising : Numbers → Type 0
IsRising numbers = IsStrictlySortedBy key_cmp (keys_of numbers)

-- the key has this number or none now, and every other key has what it had
abbrev pub Sets : Numbers → Numbers → IndexKey → Option ℕ → Type 0
Sets old new key number =
    (other : IndexKey) → number_at other new ≡ (if is_at (key_cmp key) other then number else number_at other old)

-- the keys of the host, with their numbers
abbrev pub of_host : Option (List ℕ) → Numbers → Numbers
of_host host numbers = filter (λ entry. is_at (text_cmp host) (entry.0).0) numbers

-- the count is that of the hosts that have a key
pub record CountsHosts (count : ℕ) (numbers : Numbers) : Type 0 where
  pub hosts : List (List ℕ)
  pub rising : IsStrictlySortedBy (slice_cmp nat_cmp) hosts
  pub have_keys : (host : List ℕ) → Contains hosts host
      → (service : Option (List ℕ)) × IsSome (number_at (Some host, service) numbers)
  pub all : (host : List ℕ) (service : Option (List ℕ)) → IsSome (number_at (Some host, service) numbers)
      → Contains hosts host
  pub counted : count ≡ length hosts
