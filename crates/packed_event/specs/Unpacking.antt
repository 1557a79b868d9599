-- What is known of an event when its first fields were unpacked: words of the private functions that unpack. No public
-- clause cites them.
use Rattle.std.specs.Option.{option_copied}
use Rattle.ev_types.specs.declared.event.Attr.{Attr}
use Rattle.ev_types.specs.declared.event.Event.{Event}
use Rattle.packed_event.specs.Reading.{NamesRead, NumbersRead}
use Rattle.packed_event.specs.declared.attribute.AttrParts.{AttrParts}
use Rattle.packed_event.specs.declared.numbers.Numbers.{Numbers}

-- what the code keeps of an attribute, and of the numbers, as it was read
abbrev pub attribute_read : AttrParts → Attr
attribute_read parts = record { key = parts.key.now; value = option_copied parts.value }

abbrev pub numbers_read : Numbers → NumbersRead
numbers_read numbers = record {
  micros = numbers.micros;
  metric = numbers.metric;
  raw_d = numbers.raw_d;
  raw_f = numbers.raw_f;
}

-- the event with this time and these texts
abbrev pub with_names : Event → NamesRead → Event
with_names event names = record event {
  time = names.time;
  state = names.state;
  service = names.service;
  host = names.host;
  description = names.description;
}

-- the event with these numbers
abbrev pub with_numbers : Event → NumbersRead → Event
with_numbers event numbers = record event {
  time_micros = numbers.micros;
  metric = numbers.metric;
  raw_d = numbers.raw_d;
  raw_f = numbers.raw_f;
}
