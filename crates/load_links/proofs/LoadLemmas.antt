-- How long the messages of a load are, and how its turns are put together.
use Rattle.std.proofs.Common.{◌≡◌, ℕ, zero, suc, ◌+◌, ◌-◌, ◌/◌, ◌%◌, ◌<◌, ◌≤◌, ◌==◌, true, false, cond, List, [], ◌∷◌}
use Rattle.std.proofs.Common.{◌++◌, length, Some, pos, refl, sym, ◌∙◌, ap, arith, length-append, append_assoc}
use Rattle.std.proofs.Common.{append-nil, lit<}
use Rattle.std.specs.Prelude.{codes, nat_lt}
use Rattle.std.specs.Fmt.{decimal}
use Rattle.std.specs.Int.{w32, w64, cast_unsigned, to_be_bytes}
use Rattle.std.proofs.lemmas.Fmt.{length-decimal-le}
use Rattle.framing.specs.Frames.{HasFrame, after_frame, frame, frames_of}
use Rattle.framing.proofs.FrameLaws.{after_frame_length, frames_at_frame, length_of_length}
use Rattle.pb_wire.specs.Spelling.{Bytes, field_spelling}
use Rattle.pb_wire.specs.Varint.{varint, spelled_within}
use Rattle.ports.specs.declared.script.Step.{Step}
use Rattle.riemann_msg.specs.Spelling.{optional, spelled, spelling, event_values, message_values, name_values}
use Rattle.riemann_msg.specs.Spelling.{number_values, query_values, zigzag}
use Rattle.riemann_msg.proofs.Lengths.{event_length, message_length, metric_length, names_length, text_length}
use Rattle.load_links.specs.Load.{event_msg, event_step, event_steps, load_event, number_after, number_at, query_msg}
use Rattle.load_links.specs.Load.{state_of}

within_few : (n value : ℕ) → length (spelled_within n value) ≤ n + 1
unfolding spelled_within
within_few zero value = omega arith
within_few (suc n) value =
    let more = within_few n (value / 128) in
    elim (nat_lt value 128) as
    (λ b. length (cond b (value ∷ []) ((128 + value % 128) ∷ spelled_within n (value / 128))) ≤ suc n + 1)
    [ true ↦ omega arith | false ↦ omega arith ]

varint_few : (value : ℕ) → length (varint value) ≤ 10
unfolding varint
varint_few value = within_few 9 value

text_few : (number : ℕ) (bytes : List ℕ) → number < 16
    → length (spelled (optional number Bytes (Some bytes))) ≤ 11 + length bytes
text_few number bytes small =
    let few = varint_few (length bytes) in
    omega (arith, text_length number bytes small)

state_few : (drawn : ℕ) → length (state_of drawn) ≤ 8
state_few drawn =
    elim (drawn / 50 % 4 == 0) as (λ b. length (cond b (codes "critical") (codes "ok")) ≤ 8)
    [ true ↦ omega arith | false ↦ omega arith ]

name_few : (name : List ℕ) (digit : ℕ) → length name ≤ 1 → digit < 10 → length (name ++ decimal digit) ≤ 2
name_few name digit short small =
    let digits : length (decimal digit) ≤ 1 = length-decimal-le 1 digit (lit< tt) small (omega arith) in
    omega (arith, length-append name (decimal digit), digits)

host_few : (drawn : ℕ) → length (spelled (optional 4 Bytes (Some (codes "h" ++ decimal (drawn % 10))))) ≤ 13
host_few drawn =
    let name = name_few (codes "h") (drawn % 10) (omega arith) (omega arith) in
    let field = text_few 4 (codes "h" ++ decimal (drawn % 10)) (omega arith) in
    omega (arith, name, field)

service_few : (drawn : ℕ) → length (spelled (optional 3 Bytes (Some (codes "s" ++ decimal (drawn / 10 % 5))))) ≤ 13
service_few drawn =
    let name = name_few (codes "s") (drawn / 10 % 5) (omega arith) (omega arith) in
    let field = text_few 3 (codes "s" ++ decimal (drawn / 10 % 5)) (omega arith) in
    omega (arith, name, field)

state_field_few : (drawn : ℕ) → length (spelled (optional 2 Bytes (Some (state_of drawn)))) ≤ 19
state_field_few drawn =
    let state = state_few drawn in
    let field = text_few 2 (state_of drawn) (omega arith) in
    omega (arith, state, field)

names_few : (second drawn : ℕ) → length (spelled (name_values (load_event second drawn))) ≤ 56
names_few second drawn =
    let whole : length (spelled (name_values (load_event second drawn)))
    ≡ (1 + length (varint (cast_unsigned w64 (pos second))))
    + (length (spelled (optional 2 Bytes (Some (state_of drawn))))
    + (length (spelled (optional 3 Bytes (Some (codes "s" ++ decimal (drawn / 10 % 5)))))
    + (length (spelled (optional 4 Bytes (Some (codes "h" ++ decimal (drawn % 10))))) + 0))) =
    names_length (load_event second drawn) in
    omega (
      arith,
      whole,
      varint_few (cast_unsigned w64 (pos second)),
      state_field_few drawn,
      service_few drawn,
      host_few drawn,
    )

numbers_few : (second drawn : ℕ) → length (spelled (number_values (load_event second drawn))) ≤ 11
numbers_few second drawn =
    let metric : length (spelled (number_values (load_event second drawn)))
    ≡ 1 + length (varint (zigzag (pos (drawn / 200 % 1000)))) =
    metric_length (pos (drawn / 200 % 1000)) in
    omega (arith, metric, varint_few (zigzag (pos (drawn / 200 % 1000))))

event_few : (second drawn : ℕ) → length (spelled (event_values (load_event second drawn))) ≤ 67
event_few second drawn =
    let whole : length (spelled (event_values (load_event second drawn)))
    ≡ length (spelled (name_values (load_event second drawn)))
    + (0 + (0 + (0 + length (spelled (number_values (load_event second drawn)))))) =
    event_length (load_event second drawn) in
    omega (arith, whole, names_few second drawn, numbers_few second drawn)

-- the messages of a load fit one read
pub event_fits : (second drawn : ℕ) → length (spelling (event_msg (load_event second drawn))) ≤ 65532
event_fits second drawn =
    let whole : length (spelling (event_msg (load_event second drawn)))
    ≡ 0 + (0 + (0 + length (spelled (optional 6 Bytes (Some (spelled (event_values (load_event second drawn)))))))) =
    message_length (event_msg (load_event second drawn)) in
    omega
    (arith, whole, text_few 6 (spelled (event_values (load_event second drawn))) (omega arith), event_few second drawn)

query_length : length (spelling query_msg) ≡ 8
unfolding spelling message_values query_values field_spelling varint spelled_within
query_length = refl

pub query_fits : length (spelling query_msg) ≤ 65532
query_fits = omega (arith, query_length)

-- the reads of one more event
pub events_more : (before : List Step) (start i n : ℕ)
    → (before ++ event_step start i ∷ []) ++ event_steps start (i + 1) n ≡ before ++ event_steps start i (suc n)
events_more before start i n = append_assoc before (event_step start i ∷ []) (event_steps start (i + 1) n)

-- The reads before the one of event i are there, and the generator's number is that of the event before it.
pub record IsPushed (before steps : List Step) (start count number i : ℕ) : Type 0 where
  pub drawn : number ≡ number_at start (i - 1)
  pub whole : steps ++ event_steps start i (count + 1 - i) ≡ before ++ event_steps start 1 count

pub pushed_none : (before : List Step) (start count : ℕ) → IsPushed before before start count start 1
pushed_none before start count = record {
  drawn = refl;
  whole = let left : count + 1 - 1 ≡ count = omega arith in ap (λ n. before ++ event_steps start 1 n) left;
}

pub next_number : (before steps : List Step) (start count number i : ℕ) → 1 ≤ i
    → IsPushed before steps start count number i → number_after number ≡ number_at start i
next_number before steps start count number i positive was =
    let step : suc (i - 1) ≡ i = omega arith in
    ap number_after was.drawn ∙ ap (number_at start) step

pub pushed_more : (before steps : List Step) (start count number i : ℕ) → 1 ≤ i → i < count + 1
    → IsPushed before steps start count number i
    → IsPushed before (steps ++ event_step start i ∷ []) start count (number_after number) (i + 1)
pushed_more before steps start count number i positive below was =
    let same : i ≡ i + 1 - 1 = omega arith in
    let left : suc (count + 1 - (i + 1)) ≡ count + 1 - i = omega arith in
    record {
      drawn = next_number before steps start count number i positive was ∙ ap (number_at start) same;
      whole =
          events_more steps start i (count + 1 - (i + 1)) ∙ (ap (λ n. steps ++ event_steps start i n) left ∙ was.whole);
    }

pub pushed_all : (before steps : List Step) (start count number i : ℕ) → i ≡ count + 1
    → IsPushed before steps start count number i → steps ≡ before ++ event_steps start 1 count
pushed_all before steps start count number i last was =
    let none : 0 ≡ count + 1 - i = omega arith in
    sym (append-nil steps) ∙ (ap (λ n. steps ++ event_steps start i n) none ∙ was.whole)

-- the turns of a load, put together one after another
pub turns_whole : (before : List Step) (opened : Step) (events : List Step) (asked ended : Step) → before ≡ []
    → (((before ++ opened ∷ []) ++ events) ++ asked ∷ []) ++ ended ∷ [] ≡ opened ∷ (events ++ asked ∷ ended ∷ [])
turns_whole before opened events asked ended empty =
    rw empty (ap (λ xs. opened ∷ xs) (append_assoc events (asked ∷ []) (ended ∷ [])))

pub frame_length : (body : List ℕ) → length (frame body) ≡ 4 + length body
frame_length body =
    length-append (to_be_bytes w32 (length body)) body ∙ ap (λ n. n + length body) (length_of_length (length body))

-- one more frame
pub frames_more : (bytes after : List ℕ) (count all : ℕ) → HasFrame bytes → after ≡ after_frame bytes
    → count + length (frames_of bytes) ≡ all → count + 1 + length (frames_of after) ≡ all
frames_more bytes after count all has is was =
    let one : length (frames_of bytes) ≡ suc (length (frames_of (after_frame bytes))) =
    ap length (frames_at_frame bytes has) in
    let same : length (frames_of after) ≡ length (frames_of (after_frame bytes)) = ap (λ b. length (frames_of b)) is in
    omega (arith, one, same, was)

pub bytes_fewer : (bytes after : List ℕ) → HasFrame bytes → after ≡ after_frame bytes → length after + 4 ≤ length bytes
bytes_fewer bytes after has is =
    let same : length after ≡ length (after_frame bytes) = ap length is in
    omega (arith, same, after_frame_length bytes has)

-- one more frame counted, of bytes that were counted so far
pub counted_more : (bytes after : List ℕ) (count all limit : ℕ) → HasFrame bytes → after ≡ after_frame bytes
    → (count + length (frames_of bytes) ≡ all) × (count + length bytes ≤ limit)
    → (count + 1 + length (frames_of after) ≡ all) × (count + 1 + length after ≤ limit)
counted_more bytes after count all limit has is was =
    let fewer = bytes_fewer bytes after has is in
    (frames_more bytes after count all has is was.0, omega (arith, fewer, was.1))
