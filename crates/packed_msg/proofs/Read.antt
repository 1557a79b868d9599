-- Fields that hold events are a message of these events.
use Rattle.std.proofs.Common.{◌≡◌, ℕ, false, eqb, List, [], ◌∷◌, ◌++◌, map, Option, Some, None, pos, refl, sym, ap, ◌∙◌}
use Rattle.std.proofs.Common.{append_assoc}
use Rattle.std.proofs.lemmas.List.{append-nil}
use Rattle.std.specs.Prelude.{IfSome}
use Rattle.ev_types.specs.declared.event.Event.{Event}
use Rattle.pb_wire.specs.declared.reader.Next.{Next}
use Rattle.pb_wire.specs.declared.reader.Next.TheVariants.{End, Field, Refused}
use Rattle.pb_wire.specs.Fields.{Advances, Cursor, FieldAt, fault_from, fields_fault, fields_from, fields_of}
use Rattle.pb_wire.specs.ReadBack.{values_of}
use Rattle.pb_wire.specs.Spelling.{Content}
use Rattle.riemann_msg.specs.Draft.{field_at, value_at}
use Rattle.riemann_msg.specs.Fault.{first_fault, first_of, message_field_fault}
use Rattle.riemann_msg.specs.Value.{all_in, bool_in, bytes_in, event_in, message_from, message_of, state_in}
use Rattle.packed_msg.specs.Parts.{Holds, HoldsNext}
use Rattle.packed_msg.specs.Sent.{sent_of}

-- each field holds the event of the same number
abbrev pub AllHold : List ℕ → List FieldAt → List Event → Type 0
AllHold bytes [] [] = Unit {0}
AllHold bytes [] (event ∷ events) = ⊥
AllHold bytes (field ∷ fields) [] = ⊥
AllHold bytes (field ∷ fields) (event ∷ events) = Holds bytes field event × AllHold bytes fields events

-- up to the place, the fields of the bytes hold the events
pub record Read (bytes : List ℕ) (place : ℕ) (events : List Event) : Type 0 where
  pub fields : List FieldAt
  pub held : AllHold bytes fields events
  pub all : fields_of bytes ≡ fields ++ fields_from bytes place
  pub fault : fields_fault bytes ≡ fault_from bytes place

pub read_none : (bytes : List ℕ) → Read bytes 0 []
unfolding fields_of fields_fault
read_none bytes = record { fields = []; held = tt; all = refl; fault = refl }

-- ---- one more event

all_more : (bytes : List ℕ) (fields : List FieldAt) (events : List Event) (field : FieldAt) (event : Event)
    → AllHold bytes fields events → Holds bytes field event
    → AllHold bytes (fields ++ field ∷ []) (events ++ event ∷ [])
all_more bytes [] [] field event held more = (more, tt)
all_more bytes [] (e ∷ events) field event held more = absurd held
all_more bytes (f ∷ fields) [] field event held more = absurd held
all_more bytes (f ∷ fields) (e ∷ events) field event held more =
    (held.0, all_more bytes fields events field event held.1 more)

pub read_more : (bytes : List ℕ) (old new : Cursor) (events : List Event) (next : Next) (event : Event)
    → old.bytes ≡ bytes → Read bytes old.place events → Advances old next new → HoldsNext bytes next event
    → Read bytes new.place (events ++ event ∷ [])
read_more bytes old new events End event is read steps more = absurd more
read_more bytes old new events (Refused place why) event is read steps more = absurd more
read_more bytes old new events (Field number body place) event is read steps more =
    let one = field_at number body place in
    record {
      fields = read.fields ++ one ∷ [];
      held = all_more bytes read.fields events one event read.held more;
      all =
          read.all ∙ ap (λ (rest : List FieldAt). read.fields ++ rest) (rw is at steps.fields)
          ∙ sym (append_assoc read.fields (one ∷ []) (fields_from bytes new.place));
      fault = read.fault ∙ (rw is at steps.fault);
    }

-- ---- all of them

none_held : {A : Type 0} (get : Content → Option A) (number : ℕ) → eqb 6 number ≡ false → (bytes : List ℕ)
    (fields : List FieldAt) (events : List Event)
    → AllHold bytes fields events → all_in get number (map (value_at bytes) fields) ≡ []
none_held get number other bytes [] events held = refl
none_held get number other bytes (field ∷ fields) [] held = absurd held
none_held get number other bytes (field ∷ fields) (event ∷ events) held =
    rw (held.0.number, other) (none_held get number other bytes fields events held.1)

events_held : (now : ℕ) (bytes : List ℕ) (fields : List FieldAt) (events : List Event) → AllHold bytes fields events
    → all_in (event_in (pos now)) 6 (map (value_at bytes) fields) ≡ events
events_held now bytes [] [] held = refl
events_held now bytes [] (event ∷ events) held = absurd held
events_held now bytes (field ∷ fields) [] held = absurd held
events_held now bytes (field ∷ fields) (event ∷ events) held =
    rw (held.0.number, held.0.is now)
    (ap (λ (rest : List Event). event ∷ rest) (events_held now bytes fields events held.1))

message_held : (now : ℕ) (bytes : List ℕ) (fields : List FieldAt) (events : List Event) → AllHold bytes fields events
    → message_from (pos now) (map (value_at bytes) fields) ≡ sent_of events
message_held now bytes fields events held =
    rw (
      none_held bool_in 2 refl bytes fields events held,
      none_held bytes_in 3 refl bytes fields events held,
      none_held bytes_in 5 refl bytes fields events held,
      none_held (state_in (pos now)) 4 refl bytes fields events held,
      events_held now bytes fields events held,
    )
    refl

clean_held : (bytes : List ℕ) (fields : List FieldAt) (events : List Event) → AllHold bytes fields events
    → first_of (message_field_fault bytes) fields ≡ None
clean_held bytes [] events held = refl
clean_held bytes (field ∷ fields) [] held = absurd held
clean_held bytes (field ∷ fields) (event ∷ events) held =
    rw held.0.clean (clean_held bytes fields events held.1)

all_read : (bytes : List ℕ) (old new : Cursor) (events : List Event) (read : Read bytes old.place events)
    → old.bytes ≡ bytes → Advances old End new → fields_of bytes ≡ read.fields
all_read bytes old new events read is steps =
    read.all ∙ ap (λ (rest : List FieldAt). read.fields ++ rest) (rw is at steps.0.fields) ∙ append-nil read.fields

pub read_clean : (bytes : List ℕ) (old new : Cursor) (events : List Event) → old.bytes ≡ bytes
    → Read bytes old.place events → Advances old End new → first_fault bytes ≡ None
unfolding first_fault
read_clean bytes old new events is read steps =
    let none : fields_fault bytes ≡ None = read.fault ∙ (rw is at steps.0.fault_is) in
    rw (all_read bytes old new events read is steps, clean_held bytes read.fields events read.held, none) refl

pub read_sent : (bytes : List ℕ) (old new : Cursor) (events : List Event) → old.bytes ≡ bytes
    → Read bytes old.place events → Advances old End new → (now : ℕ) → message_of now bytes ≡ sent_of events
unfolding message_of values_of
read_sent bytes old new events is read steps now =
    ap (λ (fields : List FieldAt). message_from (pos now) (map (value_at bytes) fields))
    (all_read bytes old new events read is steps)
    ∙ message_held now bytes read.fields events read.held

-- ---- a message of one field

abbrev pub start : List ℕ → Cursor
start bytes = record { bytes = bytes; place = 0 }

-- after a field that may hold an event, nothing is left
pub one_clean : (bytes : List ℕ) (middle last : Cursor) (next : Next) (event : Option Event) → middle.bytes ≡ bytes
    → Advances (start bytes) next middle → Advances middle End last
    → IfSome event (λ event. HoldsNext bytes next event) → IfSome event (λ event. first_fault bytes ≡ None)
one_clean bytes middle last next None is first second holds = tt
one_clean bytes middle last next (Some event) is first second holds =
    read_clean bytes middle last (event ∷ []) is
    (read_more bytes (start bytes) middle [] next event refl (read_none bytes) first holds) second

pub one_sent : (bytes : List ℕ) (middle last : Cursor) (next : Next) (event : Option Event) → middle.bytes ≡ bytes
    → Advances (start bytes) next middle → Advances middle End last
    → IfSome event (λ event. HoldsNext bytes next event)
    → IfSome event (λ event. (now : ℕ) → message_of now bytes ≡ sent_of (event ∷ []))
one_sent bytes middle last next None is first second holds = tt
one_sent bytes middle last next (Some event) is first second holds =
    read_sent bytes middle last (event ∷ []) is
    (read_more bytes (start bytes) middle [] next event refl (read_none bytes) first holds) second
