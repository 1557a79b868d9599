-- Keys of events that are lent.
use Rattle.std.specs.Prelude.{ℕ, List, Option, None, Some, option_copied}
use Rattle.std.specs.Hash.FoldHasher as folding
use Rattle.std.specs.declared.hash.FoldHasher.{FoldHasher}
use Rattle.ev_types.specs.declared.event.Event.{Event}
use Rattle.key_map.specs.Keys.{IndexKey}
use Rattle.stored_event.specs.declared.key.KeyRef.{KeyRef}

-- the host and the service of an event
abbrev pub key_of : Event → IndexKey
key_of event = (event.host, event.service)

-- the key that is lent
abbrev pub key_lent : KeyRef → IndexKey
key_lent key = (option_copied key.host, option_copied key.service)

-- a hasher once it was fed a text, if there is one
abbrev pub hash_fed : Option (List ℕ) → FoldHasher → FoldHasher
hash_fed None hasher = hasher
hash_fed (Some text) hasher = folding.write hasher text

-- the hash of a key
abbrev pub key_hash : IndexKey → ℕ
key_hash key = folding.finish (hash_fed key.1 (hash_fed key.0 folding.initial))
