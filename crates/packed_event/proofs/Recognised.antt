-- Bytes that are recognised are those of the event that they are read as, and those of each event are recognised.
use Rattle.std.proofs.Common.{◌≡◌, ℕ, ◌^◌, ◌<◌, ◌≤◌, List, drop, length, Option, Some, None, pos, refl, sym, ap, subst}
use Rattle.std.proofs.Common.{◌∙◌, arith}
use Rattle.std.specs.Prelude.{IfSome, IsSome}
use Rattle.std.specs.Option.{option_map}
use Rattle.ev_types.specs.declared.event.Event.{Event}
use Rattle.riemann_msg.specs.Fault.{event_fault}
use Rattle.riemann_msg.specs.ReadBack.{IsWellFormedEvent}
use Rattle.riemann_msg.specs.Spelling.{event_values, spelled}
use Rattle.riemann_msg.specs.Value.{event_of}
use Rattle.packed_event.specs.Kept.{IsKept, event_in, tags_start}
use Rattle.packed_event.specs.Packed.{IsPacked, PackedEventsAreRead}
use Rattle.packed_event.specs.Reading.{Gives, packed_in}
use Rattle.packed_event.specs.declared.places.Places.{Places}
use Rattle.packed_event.proofs.Events.{EventSound, packed_sound, packed_whole}
use Rattle.packed_event.proofs.OneEvent.{event_read_back}
use Rattle.packed_event.proofs.Parts.{IsBytes, some_is}
use Rattle.packed_event.proofs.Texts.{event_is}

abbrev same : Places → Places
same places = places

abbrev places_of_read : Option (Places × Event) → Option Places
places_of_read read = option_map (λ (r : Places × Event). r.0) read

-- ---- what is packed is read

pub packed_is_read : PackedEventsAreRead
packed_is_read now bytes places event packed short =
    let size : length (spelled (event_values event)) < 2 ^ 32 =
    subst (λ (t : List ℕ). length t < 2 ^ 32) packed.spelled_as short in
    let back = event_read_back now event packed.well_formed size in
    subst (λ (t : List ℕ). (event_fault t ≡ None) × (event_of (pos now) t ≡ event)) (sym packed.spelled_as) back

packed_from : (bytes : List ℕ) (read : Places × Event) → EventSound bytes read → IsPacked bytes read.0 read.1
packed_from bytes read sound = record {
  well_formed = sound.good;
  spelled_as = sound.parts ∙ sym (event_is read.1);
  host = sound.host;
  service = sound.service;
  host_within = sound.host_within;
  service_within = sound.service_within;
  time = sound.time;
  ttl = sound.ttl;
  ends = sound.ends;
}

-- ---- what is recognised is packed

record Found (bytes : List ℕ) (places : Places) : Type 0 where
  event : Event
  packed : IsPacked bytes places event
  tags : tags_start bytes ≡ Some (drop places.tags bytes)
  tags_within : places.tags ≤ length bytes

found : (bytes : List ℕ) (places : Places) (read : Option (Places × Event)) → IsBytes bytes → packed_in bytes ≡ read
    → places_of_read read ≡ Some places → Found bytes places
found bytes places None fits is e = absurd cc
found bytes places (Some read) fits is e =
    subst (λ (p : Places). Found bytes p) (some_is read.0 places e)
    (let sound = packed_sound bytes read fits is in record {
      event = read.1;
      packed = packed_from bytes read sound;
      tags = sound.tags;
      tags_within = sound.tags_within;
    })

found_by : (bytes : List ℕ) (places : Places) → IsBytes bytes → places_of_read (packed_in bytes) ≡ Some places
    → Found bytes places
found_by bytes places fits e = found bytes places (packed_in bytes) fits refl e

-- bytes that are kept have no fault, and their places are those in the event that they are read as at any moment
pub clean_by : (bytes : List ℕ) (result : Option Places) → IfSome result (IsKept bytes)
    → IfSome result (λ places. event_fault bytes ≡ None)
clean_by bytes None kept = tt
clean_by bytes (Some places) kept = (packed_is_read 0 bytes places (event_in bytes) kept.packed kept.few).0

pub packed_by : (bytes : List ℕ) (result : Option Places) → IfSome result (IsKept bytes)
    → IfSome result (λ places. (now : ℕ) → IsPacked bytes places (event_of (pos now) bytes))
packed_by bytes None kept = tt
packed_by bytes (Some places) kept =
    λ now. subst (λ (e : Event). IsPacked bytes places e)
    (sym (packed_is_read now bytes places (event_in bytes) kept.packed kept.few).1) kept.packed

pub few_by : (bytes : List ℕ) (result : Option Places) → IfSome result (IsKept bytes)
    → IfSome result (λ places. length bytes < 2 ^ 32)
few_by bytes None kept = tt
few_by bytes (Some places) kept = kept.few

pub kept_by : (bytes : List ℕ) (result : Option Places) → IsBytes bytes → length bytes < 2 ^ 32
    → Gives same result (places_of_read (packed_in bytes)) → IfSome result (IsKept bytes)
kept_by bytes None fits short given = tt
kept_by bytes (Some places) fits short given =
    let f = found_by bytes places fits given in record {
      packed =
          subst (λ (e : Event). IsPacked bytes places e)
          (sym (packed_is_read 0 bytes places f.event f.packed short).1)
          f.packed;
      few = short;
      tags = f.tags;
      tags_within = f.tags_within;
    }

-- ---- what is written is recognised

pub recognised_by : (bytes : List ℕ) (result : Option Places) → length bytes < 2 ^ 32
    → Gives same result (places_of_read (packed_in bytes))
    → (event : Event) → IsWellFormedEvent event → bytes ≡ spelled (event_values event) → length bytes < 2 ^ 32
    → IsSome result
recognised_by bytes (Some places) short given event good is size = refl
recognised_by bytes None short given event good is size =
    let text = is ∙ event_is event in
    let whole = packed_whole event good (subst (λ (t : List ℕ). length t < 2 ^ 64) text (omega arith)) in
    let read : packed_in bytes ≡ Some (whole.0, event) = ap packed_in text ∙ whole.1 in
    absurd (none_some whole.0 (sym given ∙ ap places_of_read read))
  where
    none_some : (places : Places) → None ≡ Some places → ⊥
    none_some places e = cc
