-- The frames of a text are read again as the events of its lines.
use Rattle.std.proofs.Common.{◌≡◌, ℕ, ℤ, zero, suc, ◌+◌, ◌-◌, ◌/◌, ◌%◌, ◌<◌, ◌≤◌, ◌^◌, Bool, true, false, not, cond}
use Rattle.std.proofs.Common.{nat_lt, List, [], ◌∷◌, ◌++◌, length, map, take, drop, get_or, Option, Some, None, refl}
use Rattle.std.proofs.Common.{sym, ◌∙◌, ap, subst, arith, append_assoc, length-append, length-drop, inl, inr}
use Rattle.std.proofs.lemmas.Bool.{and_parts, cases_lt, ltb-true, not-false}
use Rattle.std.proofs.lemmas.List.Splits.{join_with_byte-slice_split}
use Rattle.std.proofs.lemmas.List.Sums.{prefix_len-le-length}
use Rattle.std.proofs.lemmas.Str.{IsCharBoundary-after_ascii, IsCharBoundary-before_ascii, IsUtf8-append, IsUtf8-drop}
use Rattle.std.proofs.lemmas.Str.{IsUtf8-from_ascii, IsUtf8-from_is_utf8, IsUtf8-nil, IsUtf8-take}
use Rattle.std.proofs.lemmas.Str.Ascii.{IsAscii-cons, IsAscii-nil}
use Rattle.std.specs.Int.{w64, cast_unsigned}
use Rattle.std.specs.List.{AllByRecursion, cons_option, filter_map, flat_map, join_with_byte, position_or_len, remove}
use Rattle.std.specs.Option.{IfSome}
use Rattle.std.specs.Prelude.{FitsSigned}
use Rattle.std.specs.Str.{IsUtf8}
use Rattle.std.specs.Str.Parse.{digits_value}
use Rattle.ev_types.specs.declared.event.Event.{Event}
use Rattle.framing.specs.Frames.{AreWithinLimit, frame}
use Rattle.framing.proofs.FrameLaws.{splits_are_one}
use Rattle.pb_wire.specs.Spelling.{Bytes}
use Rattle.pb_wire.specs.Varint.{spelled_within, varint}
use Rattle.riemann_msg.specs.Fault.{first_fault}
use Rattle.riemann_msg.specs.ReadBack.{IsWellFormedEvent}
use Rattle.riemann_msg.specs.Spelling.{event_values, optional, spelled, spelling, zigzag}
use Rattle.riemann_msg.specs.Value.{message_of}
use Rattle.riemann_msg.proofs.Lengths.{text_length}
use Rattle.riemann_msg.proofs.ReadAgain.{message_back}
use Rattle.graphite_lines.specs.declared.fault.LineWhy.TheVariants.{Words, Path, Value, Time}
use Rattle.graphite_lines.specs.Frames.{AreReadBack, FramesAreReadBack, accepted, accepted_in, frames_with}
use Rattle.graphite_lines.specs.Frames.{message_with}
use Rattle.graphite_lines.specs.Lines.{event_of, has_more_parts, host_in, line_says, lines_of, metric_event}
use Rattle.graphite_lines.specs.Lines.{other_parts, part_of, parts_of, said_by, service_in, unless, word_at}
use Rattle.graphite_lines.specs.Words.{is_path, is_time, is_value, is_whole, time_of, value_of, words_of}
use Rattle.graphite_lines.proofs.Finds.{split_nowhere}
use Rattle.graphite_lines.proofs.NumberLaws.{fits_decides}
use Rattle.graphite_lines.proofs.PathLaws.{dot_is, is_dot, parts_at_dot, path_length}
use Rattle.graphite_lines.proofs.Spelled.{one_length, said_sum}

-- ---- the texts of a path are UTF-8 and short

parts_utf8 : (n : ℕ) (path : List ℕ) → length path ≤ n → IsUtf8 path → AllByRecursion IsUtf8 (parts_of path)
parts_utf8 zero path few text =
    let most : position_or_len is_dot path ≤ length path = prefix_len-le-length _ path in
    let whole : position_or_len is_dot path ≡ length path = omega arith in
    let P : List (List ℕ) → Type 0 = λ parts. AllByRecursion IsUtf8 parts in
    subst P (sym (split_nowhere is_dot path whole)) (text, tt)
parts_utf8 (suc n) path few text =
    let P : List (List ℕ) → Type 0 = λ parts. AllByRecursion IsUtf8 parts in
    elim (cases_lt (position_or_len is_dot path) (length path)) [
      | inl inside ↦
          let dot = position_or_len is_dot path in
          let is = dot_is path dot refl inside in
          let ascii : get_or path dot 0 < 128 = omega arith in
          let first : IsUtf8 (take dot path) =
          IsUtf8-take path dot text (IsCharBoundary-before_ascii path dot inside ascii) in
          let rest : IsUtf8 (drop (dot + 1) path) =
          IsUtf8-drop path (dot + 1) text (IsCharBoundary-after_ascii path dot text inside ascii) in
          let fewer : length (drop (dot + 1) path) ≤ n = omega (arith, length-drop (dot + 1) path) in
          subst P (sym (parts_at_dot path dot refl inside)) (first, parts_utf8 n (drop (dot + 1) path) fewer rest)
      | inr outside ↦
          let most : position_or_len is_dot path ≤ length path = prefix_len-le-length _ path in
          let whole : position_or_len is_dot path ≡ length path = omega arith in
          subst P (sym (split_nowhere is_dot path whole)) (text, tt)
    ]

part_utf8 : (parts : List (List ℕ)) (i : ℕ) → AllByRecursion IsUtf8 parts → IsUtf8 (get_or parts i [])
part_utf8 [] i all = IsUtf8-nil
part_utf8 (part ∷ parts) zero all = all.0
part_utf8 (part ∷ parts) (suc i) all = part_utf8 parts i all.1

dot_utf8 : IsUtf8 (46 ∷ [])
dot_utf8 = IsUtf8-from_ascii (46 ∷ []) (IsAscii-cons 46 [] (omega arith) IsAscii-nil)

join_utf8 : (parts : List (List ℕ)) → AllByRecursion IsUtf8 parts → IsUtf8 (join_with_byte 46 parts)
join_utf8 [] all = IsUtf8-nil
join_utf8 (part ∷ []) all = all.0
join_utf8 (part ∷ next ∷ parts) all =
    IsUtf8-append part (46 ∷ join_with_byte 46 (next ∷ parts)) all.0
    (IsUtf8-append (46 ∷ []) (join_with_byte 46 (next ∷ parts)) dot_utf8 (join_utf8 (next ∷ parts) all.1))

removed_nothing : (i : ℕ) → remove {X = List ℕ} [] i ≡ []
removed_nothing zero = refl
removed_nothing (suc i) = refl

removed_utf8 : (parts : List (List ℕ)) (i : ℕ) → AllByRecursion IsUtf8 parts → AllByRecursion IsUtf8 (remove parts i)
removed_utf8 [] i all =
    let P : List (List ℕ) → Type 0 = λ parts. AllByRecursion IsUtf8 parts in subst P (sym (removed_nothing i)) tt
removed_utf8 (part ∷ parts) zero all = all.1
removed_utf8 (part ∷ parts) (suc i) all = (all.0, removed_utf8 parts i all.1)

join_most : (part : List ℕ) (parts : List (List ℕ))
    → length (join_with_byte 46 (part ∷ parts)) ≤ length part + (1 + length (join_with_byte 46 parts))
join_most part [] = omega arith
join_most part (next ∷ parts) = simp length-append (omega arith)

join_is : (part next : List ℕ) (parts : List (List ℕ))
    → length (join_with_byte 46 (part ∷ next ∷ parts)) ≡ length part + (1 + length (join_with_byte 46 (next ∷ parts)))
join_is part next parts = simp length-append (omega arith)

removed_length : (parts : List (List ℕ)) (i : ℕ)
    → length (join_with_byte 46 (remove parts i)) ≤ length (join_with_byte 46 parts)
removed_length [] i = rw (removed_nothing i) (omega arith)
removed_length (part ∷ []) zero = omega arith
removed_length (part ∷ []) (suc i) = rw (removed_nothing i) (omega arith)
removed_length (part ∷ next ∷ parts) zero = omega (arith, join_is part next parts)
removed_length (part ∷ next ∷ parts) (suc i) =
    omega (arith, join_is part next parts, join_most part (remove (next ∷ parts) i), removed_length (next ∷ parts) i)

one_length_of : (parts : List (List ℕ)) (i : ℕ) → length (get_or parts i []) ≤ length (join_with_byte 46 parts)
one_length_of [] i = omega arith
one_length_of (part ∷ []) zero = omega arith
one_length_of (part ∷ []) (suc i) = omega arith
one_length_of (part ∷ next ∷ parts) zero = omega (arith, join_is part next parts)
one_length_of (part ∷ next ∷ parts) (suc i) = omega (arith, join_is part next parts, one_length_of (next ∷ parts) i)

-- what a path gives
record IsShortText (path : List ℕ) (text : List ℕ) : Type 0 where
  utf8 : IsUtf8 text
  short : length text ≤ length path

service_given : (host_part : Option ℕ) (path : List ℕ) → IsUtf8 path → IsShortText path (service_in host_part path)
service_given None path text = record { utf8 = text; short = omega arith }
service_given (Some number) path text =
    elim (has_more_parts number path) as (λ more. IsShortText path (cond more (other_parts number path) path)) [
      | true ↦ record {
        utf8 =
            join_utf8 (remove (parts_of path) (number - 1))
            (removed_utf8 (parts_of path) (number - 1) (parts_utf8 (length path) path (omega arith) text));
        short =
            omega (arith, removed_length (parts_of path) (number - 1), ap length (join_with_byte-slice_split 46 path));
      }
      | false ↦ record { utf8 = text; short = omega arith }
    ]

host_given : (host_part : Option ℕ) (path : List ℕ) → IsUtf8 path → IfSome (host_in host_part path) (IsShortText path)
host_given None path text = tt
host_given (Some number) path text =
    elim (has_more_parts number path) as
    (λ more. IfSome (cond more (Some (part_of number path)) None) (IsShortText path)) [
      | true ↦ record {
        utf8 = part_utf8 (parts_of path) (number - 1) (parts_utf8 (length path) path (omega arith) text);
        short =
            omega (arith, one_length_of (parts_of path) (number - 1), ap length (join_with_byte-slice_split 46 path));
      }
      | false ↦ tt
    ]

-- ---- the event of a line

record IsGiven (event : Event) : Type 0 where
  formed : IsWellFormedEvent event
  small : length (spelling (message_with event)) ≤ 4000

varint_within : (n value : ℕ) → length (spelled_within n value) ≤ n + 1
unfolding spelled_within
varint_within zero value = omega arith
varint_within (suc n) value =
    let more = varint_within n (value / 128) in
    elim (nat_lt value 128) as
    (λ b. length (cond b (value ∷ []) ((128 + value % 128) ∷ spelled_within n (value / 128))) ≤ suc n + 1)
    [ true ↦ omega arith | false ↦ omega arith ]

varint_few : (value : ℕ) → length (varint value) ≤ 10
unfolding varint
varint_few value = varint_within 9 value

host_few : (path : List ℕ) (host : Option (List ℕ)) → length path ≤ 1024 → IfSome host (IsShortText path)
    → length (spelled (optional 4 Bytes host)) ≤ 1035
host_few path None few given = omega arith
host_few path (Some host) few given =
    let short = given.short in let size = varint_few (length host) in omega (arith, text_length 4 host (omega arith))

event_few : (path : List ℕ) (time : ℤ) (service : List ℕ) (host : Option (List ℕ)) (metric : ℤ) → length path ≤ 1024
    → IsShortText path service → IfSome host (IsShortText path)
    → length (spelling (message_with (metric_event time service host metric))) ≤ 4000
event_few path time service host metric few given hosted =
    let short = given.short in
    let event = metric_event time service host metric in
    let size = varint_few (length (spelled (event_values event))) in
    let a = varint_few (cast_unsigned w64 time) in
    let b = varint_few (length service) in
    let c = varint_few (zigzag metric) in
    let h = host_few path host few hosted in
    omega (arith, one_length event, said_sum time service host metric)

utf8_host : (path : List ℕ) (host : Option (List ℕ)) → IfSome host (IsShortText path) → IfSome host IsUtf8
utf8_host path None given = tt
utf8_host path (Some host) given = given.utf8

path_is : (word : List ℕ) → is_path word ≡ true → IsUtf8 word
unfolding is_path
path_is word h = let outer = and_parts _ _ h in IsUtf8-from_is_utf8 word outer.1

value_is : (word : List ℕ) → is_value word ≡ true → FitsSigned w64 (value_of word)
unfolding is_value is_whole
value_is word h =
    let outer = and_parts _ _ h in let inner = and_parts _ _ outer.0 in (fits_decides (value_of word)).0 inner.1

time_is_given : (word : List ℕ) → is_time word ≡ true → FitsSigned w64 (time_of word)
unfolding is_time
time_is_given word h =
    let outer = and_parts _ _ h in record { sfits = ltb-true (digits_value 10 word) (2 ^ 63) outer.1 }

event_given : (host_part : Option ℕ) (words : List (List ℕ)) → is_path (word_at words 0) ≡ true
    → is_value (word_at words 1) ≡ true
    → is_time (word_at words 2) ≡ true → IsGiven (event_of host_part words)
event_given host_part words p v t =
    let path = word_at words 0 in let text = path_is path p in
    let service = service_given host_part path text in let host = host_given host_part path text in
    record {
      formed = record {
        host = utf8_host path (host_in host_part path) host;
        service = service.utf8;
        state = tt;
        description = tt;
        tags = tt;
        time = time_is_given (word_at words 2) t;
        time_micros = tt;
        ttl = tt;
        metric = value_is (word_at words 1) v;
        raw_d = tt;
        raw_f = tt;
        attributes = tt;
      };
      small =
          event_few path (time_of (word_at words 2)) (service_in host_part path) (host_in host_part path)
          (value_of (word_at words 1)) (path_length path p) service host;
    }

words_given : (host_part : Option ℕ) (words : List (List ℕ)) (w x y z : Bool) → not (is_path (word_at words 0)) ≡ x
    → not (is_value (word_at words 1)) ≡ y
    → not (is_time (word_at words 2)) ≡ z
    → IfSome
    (accepted_in (unless (cond w (Some Words) (cond x (Some Path) (cond y (Some Value) (cond z (Some Time) None))))
    (event_of host_part words)))
    IsGiven
words_given host_part words true x y z p v t = tt
words_given host_part words false true y z p v t = tt
words_given host_part words false false true z p v t = tt
words_given host_part words false false false true p v t = tt
words_given host_part words false false false false p v t =
    event_given host_part words (not-false _ p) (not-false _ v) (not-false _ t)

said_given : (host_part : Option ℕ) (words : List (List ℕ)) → IfSome (accepted_in (said_by host_part words)) IsGiven
said_given host_part [] = tt
said_given host_part (word ∷ words) = words_given host_part (word ∷ words) _ _ _ _ refl refl refl

line_given : (host_part : Option ℕ) (line : List ℕ) → IfSome (accepted_in (line_says host_part line)) IsGiven
unfolding line_says
line_given host_part line = said_given host_part (words_of line)

one_more : (event : Option Event) (events : List Event) → IfSome event IsGiven → AllByRecursion IsGiven events
    → AllByRecursion IsGiven (cons_option event events)
one_more None events given all = all
one_more (Some event) events given all = (given, all)

all_given : (host_part : Option ℕ) (lines : List (List ℕ)) → AllByRecursion IsGiven (accepted host_part lines)
unfolding accepted
all_given host_part [] = tt
all_given host_part (line ∷ lines) =
    one_more (accepted_in (line_says host_part line))
    (filter_map (λ line. accepted_in (line_says host_part line)) lines) (line_given host_part line)
    (all_given host_part lines)

-- ---- the frames

one_back : (now : ℕ) (event : Event) → IsGiven event
    → (first_fault (spelling (message_with event)) ≡ None)
    × (message_of now (spelling (message_with event)) ≡ message_with event)
one_back now event given =
    let small = given.small in
    message_back now (message_with event) (record { error = tt; query = tt; events = (given.formed, tt) }) (omega arith)

within_limit : (events : List Event) → AllByRecursion IsGiven events
    → AreWithinLimit (map (λ event. spelling (message_with event)) events)
within_limit [] given = tt
within_limit (event ∷ events) given = (let small = given.0.small in omega arith, within_limit events given.1)

frames_as_bodies : (events : List Event)
    → frames_with events ≡ flat_map frame (map (λ event. spelling (message_with event)) events) ++ []
unfolding frames_with
frames_as_bodies [] = refl
frames_as_bodies (event ∷ events) =
    ap (λ more. frame (spelling (message_with event)) ++ more) (frames_as_bodies events)
    ∙ sym (append_assoc (frame (spelling (message_with event)))
    (flat_map frame (map (λ event. spelling (message_with event)) events)) [])

no_faults : (events : List Event) → AllByRecursion IsGiven events
    → AllByRecursion (λ body. first_fault body ≡ None) (map (λ event. spelling (message_with event)) events)
no_faults [] given = tt
no_faults (event ∷ events) given = ((one_back 0 event given.0).0, no_faults events given.1)

same_messages : (now : ℕ) (events : List Event) → AllByRecursion IsGiven events
    → map (message_of now) (map (λ event. spelling (message_with event)) events) ≡ map message_with events
same_messages now [] given = refl
same_messages now (event ∷ events) given =
    ap (λ m. m ∷ map (message_of now) (map (λ event. spelling (message_with event)) events))
    (one_back now event given.0).1
    ∙ ap (λ ms. message_with event ∷ ms) (same_messages now events given.1)

events_back : (events : List Event) → AllByRecursion IsGiven events → AreReadBack events (frames_with events)
events_back events given =
    let bodies : List (List ℕ) = map (λ (event : Event). spelling (message_with event)) events in
    let one =
    splits_are_one bodies (frames_with events) [] (frames_as_bodies events) (within_limit events given)
    (λ h. let head = h.head in absurd (omega arith)) in
    record {
      whole = sym one.1;
      faultless =
          let P : List (List ℕ) → Type 0 = λ bs. AllByRecursion (λ body. first_fault body ≡ None) bs in
          subst P one.0 (no_faults events given);
      same = λ now. ap (map (message_of now)) (sym one.0) ∙ same_messages now events given;
    }

pub read_back : FramesAreReadBack
read_back host_part text = events_back (accepted host_part (lines_of text)) (all_given host_part (lines_of text))
