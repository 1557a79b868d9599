-- How a map from keys to numbers is kept: the numbers of each host, by service.
use Rattle.std.specs.Prelude.{◌≡◌, ◌≢◌, ℕ, false, ◌&&◌, List, [], ◌∷◌, ◌++◌, map, Option, None, Some, if◌then◌else◌}
use Rattle.std.specs.List.{All}
use Rattle.std.specs.List.Sorted.{IsStrictlySortedBy}
use Rattle.std.specs.Map.{lookup, keys_of, values_of}
use Rattle.std.specs.Ordering.{nat_cmp}
use Rattle.std.specs.Cmp.Lexicographic.{slice_cmp}
use Rattle.std.specs.BTreeMap.{is_at}
use Rattle.index_log.specs.IndexKey.{text_cmp}
use Rattle.key_map.specs.Keys.{Numbers}

-- the numbers of a host, each with its service, in order
abbrev pub Services : Type 0
Services = List (Option (List ℕ) × ℕ)

-- the number of the service, if it has one
abbrev pub service_at : Option (List ℕ) → Services → Option ℕ
service_at service services = lookup (is_at (text_cmp service)) services

abbrev pub ServicesRise : Services → Type 0
ServicesRise services = IsStrictlySortedBy text_cmp (keys_of services)

-- the number of the absent service, and those of the others
abbrev pub services_of : Option ℕ → List (List ℕ × ℕ) → Services
services_of None present = map (λ entry. (Some entry.0, entry.1)) present
services_of (Some number) present = (None, number) ∷ map (λ entry. (Some entry.0, entry.1)) present

-- the numbers of a host, by key
abbrev pub with_host : Option (List ℕ) → Services → Numbers
with_host host services = map (λ entry. ((host, entry.0), entry.1)) services

-- the numbers of hosts, by key
abbrev pub by_key : List (List ℕ × Services) → Numbers
by_key [] = []
by_key (section ∷ rest) = with_host (Some section.0) section.1 ++ by_key rest

-- the numbers without a host, and those of the hosts
abbrev pub numbers_of : Services → List (List ℕ × Services) → Numbers
numbers_of without hosts = with_host None without ++ by_key hosts

-- the service has this number or none now, and every other service has what it had
abbrev pub SetsService : Services → Services → Option (List ℕ) → Option ℕ → Type 0
SetsService old new service number = (other : Option (List ℕ))
    → service_at other new ≡ (if is_at (text_cmp service) other then number else service_at other old)

-- the services of the host, if it is there
abbrev pub services_at : List ℕ → List (List ℕ × Services) → Option Services
services_at host hosts = lookup (is_at (slice_cmp nat_cmp host)) hosts

abbrev pub service_in : Option (List ℕ) → Option Services → Option ℕ
service_in service None = None
service_in service (Some services) = service_at service services

-- the number of the host's service, if it has one
abbrev pub host_at : List ℕ → Option (List ℕ) → List (List ℕ × Services) → Option ℕ
host_at host service hosts = service_in service (services_at host hosts)

-- the host's service has this number or none now, and every other service of every host has what it had
abbrev pub SetsIn : List (List ℕ × Services) → List (List ℕ × Services) → List ℕ → Option (List ℕ) → Option ℕ → Type 0
SetsIn old new host service number = (other : List ℕ) (q : Option (List ℕ)) →
    host_at other q new
    ≡ (if is_at (slice_cmp nat_cmp host) other && is_at (text_cmp service) q then number else host_at other q old)

-- every service of every host has what it had
abbrev pub SameIn : List (List ℕ × Services) → List (List ℕ × Services) → Type 0
SameIn old new = (other : List ℕ) (q : Option (List ℕ)) → host_at other q new ≡ host_at other q old

-- the hosts rise, and the services of each
pub record SectionsRise (hosts : List (List ℕ × Services)) : Type 0 where
  pub rising : IsStrictlySortedBy (slice_cmp nat_cmp) (keys_of hosts)
  pub each : All ServicesRise (values_of hosts)

-- every host has a service
abbrev pub HaveServices : List (List ℕ × Services) → Type 0
HaveServices hosts = (host : List ℕ) → services_at host hosts ≢ Some []

-- every host but the given one has a service
abbrev pub OthersHaveServices : List ℕ → List (List ℕ × Services) → Type 0
OthersHaveServices host hosts =
    (other : List ℕ) → is_at (slice_cmp nat_cmp host) other ≡ false → services_at other hosts ≢ Some []

pub record AreSections (without : Services) (hosts : List (List ℕ × Services)) : Type 0 where
  pub first : ServicesRise without
  pub sections : SectionsRise hosts
  pub full : HaveServices hosts
