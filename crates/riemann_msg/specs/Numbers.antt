-- The numbers of the fields of messages, as Riemann's `proto.proto` has them. Those of a state are this project's
-- profile.
use Rattle.std.specs.Prelude.{ℕ, List, [], ◌∷◌}

-- of a message: whether it was accepted
abbrev pub ok_field : ℕ
ok_field = 2

-- of a message: why it was not
abbrev pub error_field : ℕ
error_field = 3

-- of a message: a state, as clients older than events send it
abbrev pub states_field : ℕ
states_field = 4

-- of a message: its query
abbrev pub query_field : ℕ
query_field = 5

-- of a message: an event
abbrev pub events_field : ℕ
events_field = 6

-- of a query: its text
abbrev pub string_field : ℕ
string_field = 1

-- of an attribute
abbrev pub key_field : ℕ
key_field = 1

-- of an attribute
abbrev pub value_field : ℕ
value_field = 2

-- of an event, in seconds
abbrev pub time_field : ℕ
time_field = 1

-- of an event
abbrev pub state_field : ℕ
state_field = 2

-- of an event
abbrev pub service_field : ℕ
service_field = 3

-- of an event
abbrev pub host_field : ℕ
host_field = 4

-- of an event
abbrev pub description_field : ℕ
description_field = 5

-- of an event: a tag
abbrev pub tags_field : ℕ
tags_field = 7

-- of an event
abbrev pub ttl_field : ℕ
ttl_field = 8

-- of an event: an attribute
abbrev pub attributes_field : ℕ
attributes_field = 9

-- of an event, in microseconds
abbrev pub time_micros_field : ℕ
time_micros_field = 10

-- of an event: its metric as a whole number
abbrev pub metric_sint64_field : ℕ
metric_sint64_field = 13

-- of an event: its metric in 64 bits
abbrev pub metric_d_field : ℕ
metric_d_field = 14

-- of an event: its metric in 32 bits
abbrev pub metric_f_field : ℕ
metric_f_field = 15

-- of a state: its time, state, service, host, description, tags and ttl, which are those of an event. Field 6, `once`,
-- is not among them.
abbrev pub fields_of_a_state : List ℕ
fields_of_a_state = 1 ∷ 2 ∷ 3 ∷ 4 ∷ 5 ∷ 7 ∷ 8 ∷ []
