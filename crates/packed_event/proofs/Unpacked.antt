-- The parts that are unpacked one after the other are those of the event.
use Rattle.std.proofs.Common.{◌≡◌, ℕ, ◌^◌, ◌<◌, List, ◌++◌, length, Option, Some, ℤ, pos, ap, subst, ◌∙◌, arith}
use Rattle.std.specs.Int.{w32, w64}
use Rattle.ev_types.specs.Set.{event_at}
use Rattle.ev_types.specs.declared.event.Attr.{Attr}
use Rattle.ev_types.specs.declared.event.Event.{Event}
use Rattle.riemann_msg.specs.ReadBack.{IsWellFormedEvent}
use Rattle.packed_event.specs.Kept.{bytes_of}
use Rattle.packed_event.specs.Reading.{NamesRead, NumbersRead, attribute_part, event_read, int64_part, names_part}
use Rattle.packed_event.specs.Reading.{micros_part, number_part, numbers_part, optional, packed_in, repeated, required}
use Rattle.packed_event.specs.Reading.{sint64_part, text_part, ttl_part}
use Rattle.packed_event.specs.Unpacking.{with_names, with_numbers}
use Rattle.packed_event.specs.declared.places.Places.{Places}
use Rattle.packed_event.proofs.Events.{packed_whole}
use Rattle.packed_event.proofs.Parts.{bind_some, some_is}
use Rattle.packed_event.proofs.Stages.{at_end_sound}
use Rattle.packed_event.proofs.Texts.{event_is}

-- the bytes of an event are read
pub reads_back : (bytes : List ℕ) (event : Event) → IsWellFormedEvent event → bytes ≡ bytes_of event
    → length bytes < 2 ^ 32 → (places : Places) × (packed_in bytes ≡ Some (places, event))
reads_back bytes event good is few =
    let text = is ∙ event_is event in
    let whole = packed_whole event good (subst (λ (t : List ℕ). length t < 2 ^ 64) text (omega arith)) in
    (whole.0, ap packed_in text ∙ whole.1)

abbrev made : Event → List (List ℕ) → Option ℕ → List Attr → NumbersRead → Event
made event tags ttl attributes numbers =
    with_numbers (record event { tags = tags; ttl = ttl; attributes = attributes }) numbers

pub all_unpacked : (first named : Event) (names : NamesRead) (tags : List (List ℕ)) (ttl : Option ℕ)
    (attributes : List Attr) (numbers : NumbersRead) (tags' : List (List ℕ)) (ttl' : Option ℕ) (attributes' : List Attr)
    → first ≡ event_at (pos 0) → named ≡ with_names first names → tags' ≡ named.tags ++ tags → ttl' ≡ ttl
    → attributes' ≡ named.attributes ++ attributes
    → made named tags' ttl' attributes' numbers ≡ event_read names tags ttl attributes numbers
all_unpacked first named names tags ttl attributes numbers tags' ttl' attributes' cleared named_is tags_is ttl_is
    attributes_is =
    let base : Event = with_names (event_at (pos 0)) names in
    let is : named ≡ base = named_is ∙ ap (λ (e : Event). with_names e names) cleared in
    ap (λ (e : Event). made e tags' ttl' attributes' numbers) is
    ∙ ap (λ (t : List (List ℕ)). made base t ttl' attributes' numbers)
    (tags_is ∙ ap (λ (e : Event). e.tags ++ tags) is)
    ∙ ap (λ (t : Option ℕ). made base tags t attributes' numbers) ttl_is
    ∙ ap (λ (t : List Attr). made base tags ttl t numbers)
    (attributes_is ∙ ap (λ (e : Event). e.attributes ++ attributes) is)

-- ---- what was read, part by part

pub record NameStages (bytes : List ℕ) (read : NamesRead × List ℕ) : Type 0 where
  pub time : ℤ × List ℕ
  pub state : Option (List ℕ) × List ℕ
  pub service : Option (List ℕ) × List ℕ
  pub host : Option (List ℕ) × List ℕ
  pub description : Option (List ℕ) × List ℕ
  pub time_read : required 8 int64_part bytes ≡ Some time
  pub state_read : optional 18 text_part time.1 ≡ Some state
  pub service_read : optional 26 text_part state.1 ≡ Some service
  pub host_read : optional 34 text_part service.1 ≡ Some host
  pub description_read : optional 42 text_part host.1 ≡ Some description
  pub rest : description.1 ≡ read.1
  pub named : (event : Event) → record event {
    time = time.0;
    state = state.0;
    service = service.0;
    host = host.0;
    description = description.0;
  } ≡ with_names event read.0

pub name_stages : (total : ℕ) (bytes : List ℕ) (read : NamesRead × List ℕ) → names_part total bytes ≡ Some read
    → NameStages bytes read
unfolding names_part
name_stages total bytes read e =
    let a = bind_some (required 8 int64_part bytes) _ read e in
    let b = bind_some (optional 18 text_part a.0.1) _ read a.2 in
    let c = bind_some (optional 26 text_part b.0.1) _ read b.2 in
    let d = bind_some (optional 34 text_part c.0.1) _ read c.2 in
    let f = bind_some (optional 42 text_part d.0.1) _ read d.2 in
    let is = some_is {A = NamesRead × List ℕ} _ read f.2 in
    record {
      time = a.0;
      state = b.0;
      service = c.0;
      host = d.0;
      description = f.0;
      time_read = a.1;
      state_read = b.1;
      service_read = c.1;
      host_read = d.1;
      description_read = f.1;
      rest = ap (λ (r : NamesRead × List ℕ). r.1) is;
      named = λ event. ap (λ (r : NamesRead × List ℕ). with_names event r.0) is;
    }

pub record EventStages (bytes : List ℕ) (read : Places × Event) : Type 0 where
  pub names : NamesRead × List ℕ
  pub tags : List (List ℕ) × List ℕ
  pub ttl : Option ℕ × List ℕ
  pub attributes : List Attr × List ℕ
  pub numbers : NumbersRead × List ℕ
  pub names_read : names_part (length bytes) bytes ≡ Some names
  pub tags_read : repeated 58 text_part names.1 ≡ Some tags
  pub ttl_read : optional 69 ttl_part tags.1 ≡ Some ttl
  pub attributes_read : repeated 74 attribute_part ttl.1 ≡ Some attributes
  pub numbers_are : numbers_part names.0.time attributes.1 ≡ Some numbers
  pub event : event_read names.0 tags.0 ttl.0 attributes.0 numbers.0 ≡ read.1

pub event_stages : (bytes : List ℕ) (read : Places × Event) → packed_in bytes ≡ Some read → EventStages bytes read
unfolding packed_in
event_stages bytes read e =
    let a = bind_some (names_part (length bytes) bytes) _ read e in
    let b = bind_some (repeated 58 text_part a.0.1) _ read a.2 in
    let c = bind_some (optional 69 ttl_part b.0.1) _ read b.2 in
    let d = bind_some (repeated 74 attribute_part c.0.1) _ read c.2 in
    let f = bind_some (numbers_part a.0.0.time d.0.1) _ read d.2 in
    let last = at_end_sound {A = Places × Event} _ read f.0.1 f.2 in
    record {
      names = a.0;
      tags = b.0;
      ttl = c.0;
      attributes = d.0;
      numbers = f.0;
      names_read = a.1;
      tags_read = b.1;
      ttl_read = c.1;
      attributes_read = d.1;
      numbers_are = f.1;
      event = ap (λ (r : Places × Event). r.1) last.0;
    }

pub record NumberStages (time : ℤ) (bytes : List ℕ) (read : NumbersRead × List ℕ) : Type 0 where
  pub micros : Option ℤ × List ℕ
  pub metric : Option ℤ × List ℕ
  pub micros_read : optional 80 (micros_part time) bytes ≡ Some micros
  pub metric_read : optional 104 sint64_part micros.1 ≡ Some metric
  pub metric_is : metric.0 ≡ read.0.metric

pub number_stages : (time : ℤ) (bytes : List ℕ) (read : NumbersRead × List ℕ) → numbers_part time bytes ≡ Some read
    → NumberStages time bytes read
unfolding numbers_part
number_stages time bytes read e =
    let a = bind_some (optional 80 (micros_part time) bytes) _ read e in
    let b = bind_some (optional 104 sint64_part a.0.1) _ read a.2 in
    let c = bind_some (optional 113 (number_part w64) b.0.1) _ read b.2 in
    let d = bind_some (optional 125 (number_part w32) c.0.1) _ read c.2 in
    let is = some_is {A = NumbersRead × List ℕ} _ read d.2 in
    record {
      micros = a.0;
      metric = b.0;
      micros_read = a.1;
      metric_read = b.1;
      metric_is = ap (λ (r : NumbersRead × List ℕ). r.0.metric) is;
    }
