-- The key of an event in an index: its host and its service, each of which may be absent.
use Rattle.std.specs.Prelude.{ℕ, Bool, List, [], ◌∷◌, Option, Some, None}
use Rattle.std.specs.declared.cmp.Ordering.{Ordering}
use Rattle.std.specs.Ordering.{nat_cmp, on, then_cmp, is_eq}
use Rattle.std.specs.Cmp.Lexicographic.{slice_cmp}
use Rattle.ev_types.specs.declared.event.Event.{Event}

-- absent before present, then by bytes
abbrev pub listed : Option (List ℕ) → List (List ℕ)
listed None = []
listed (Some text) = text ∷ []

abbrev pub text_cmp : Option (List ℕ) → Option (List ℕ) → Ordering
text_cmp = on listed (slice_cmp (slice_cmp nat_cmp))

abbrev pub event_host : Event → Option (List ℕ)
event_host event = event.host

abbrev pub event_service : Event → Option (List ℕ)
event_service event = event.service

-- the order of an index: by host, then by service
unfoldable pub index_key_cmp : Event → Event → Ordering
index_key_cmp = then_cmp (on event_host text_cmp) (on event_service text_cmp)

-- two events are of one host and one service
abbrev pub same_index_key : Event → Event → Bool
same_index_key a b = is_eq (index_key_cmp a b)
