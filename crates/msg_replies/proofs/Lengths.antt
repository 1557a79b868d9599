-- How long replies are, and the reasons in them.
use Rattle.std.proofs.Common.{◌≡◌, ℕ, zero, suc, ◌+◌, ◌/◌, ◌%◌, ◌^◌, ◌<◌, ◌≤◌, true, false, cond, List, [], ◌∷◌, length}
use Rattle.std.proofs.Common.{refl, arith, length-append, lit<}
use Rattle.std.specs.Prelude.{nat_lt}
use Rattle.std.specs.Fmt.{decimal}
use Rattle.std.proofs.lemmas.Bool.Decides.{nat_tests}
use Rattle.std.proofs.lemmas.Fmt.{length-decimal-le}
use Rattle.framing.specs.declared.TheConstants.{BODY_LIMIT}
use Rattle.pb_wire.specs.Spelling.{field_spelling}
use Rattle.pb_wire.specs.Varint.{varint, spelled_within}
use Rattle.query_lang.specs.declared.read.TheConstants.{MAX_BYTES}
use Rattle.query_lang.specs.declared.fault.QueryFault.{QueryFault}
use Rattle.query_lang.specs.declared.fault.QueryFault.TheVariants.{TooLong, Refused as QueryRefused, TooDeep}
use Rattle.query_lang.specs.declared.fault.QueryFault.TheVariants.{Memory as NoMemory}
use Rattle.riemann_msg.specs.declared.fault.MsgWhy.{MsgWhy}
use Rattle.riemann_msg.specs.declared.fault.MsgWhy.TheVariants.{Short, Varint, Tag, Wire, Utf8, Key, Ttl}
use Rattle.riemann_msg.specs.declared.msg.Msg.{Msg}
use Rattle.riemann_msg.specs.Spelling.{spelling, message_values}
use Rattle.riemann_msg.specs.Fault.{why_name}
use Rattle.hub_meaning.specs.Replies.{accepted, busy, framed, limited, message_refusal, over_limit, oversized}
use Rattle.hub_meaning.specs.Replies.{pattern_refusal, query_refusal, refused}

pub accepted_frame : framed accepted ≡ 0 ∷ 0 ∷ 0 ∷ 2 ∷ 16 ∷ 1 ∷ []
unfolding framed spelling message_values field_spelling varint spelled_within
accepted_frame = refl

spelled_within_length : (n value : ℕ) → length (spelled_within n value) ≤ n + 1
unfolding spelled_within
spelled_within_length zero value = omega arith
spelled_within_length (suc n) value =
    let more = spelled_within_length n (value / 128) in
    elim (nat_lt value 128) as
    (λ b. length (cond b (value ∷ []) ((128 + value % 128) ∷ spelled_within n (value / 128))) ≤ suc n + 1)
    [ true ↦ omega arith | false ↦ omega arith ]

varint_length : (value : ℕ) → length (varint value) ≤ 10
unfolding varint
varint_length value = spelled_within_length 9 value

pub refused_length : (reason : List ℕ) → length reason < 1000 → length (spelling (refused reason)) < 2 ^ 32
unfolding spelling message_values field_spelling
refused_length reason short =
    let first = varint_length 16 in
    let second = varint_length 0 in
    let third = varint_length 26 in
    let fourth = varint_length (length reason) in
    simp length-append (omega arith)

pub limited_within : (msg : Msg) → length (spelling msg) ≤ BODY_LIMIT → limited msg ≡ msg
unfolding limited
limited_within msg small = grind (arith, nat_tests)

pub limited_over : (msg : Msg) → BODY_LIMIT < length (spelling msg)
    → limited msg ≡ refused (over_limit (length (spelling msg)))
unfolding limited
limited_over msg large = grind (arith, nat_tests)

body_digits : length (decimal BODY_LIMIT) ≤ 20
body_digits = length-decimal-le 20 BODY_LIMIT (lit< tt) (omega arith) (lit< tt)

query_digits : length (decimal MAX_BYTES) ≤ 20
query_digits = length-decimal-le 20 MAX_BYTES (lit< tt) (omega arith) (lit< tt)

pub over_limit_length : (size : ℕ) → size < 2 ^ 64 → length (over_limit size) < 1000
unfolding over_limit
over_limit_length size small =
    let digits : length (decimal size) ≤ 20 = length-decimal-le 20 size (lit< tt) (omega arith) small in
    let limit = body_digits in
    simp length-append (omega arith)

why_length : (why : MsgWhy) → length (why_name why) ≤ 6
why_length Short = omega arith
why_length Varint = omega arith
why_length Tag = omega arith
why_length Wire = omega arith
why_length Utf8 = omega arith
why_length Key = omega arith
why_length Ttl = omega arith

pub refusal_length : (place : ℕ) (why : MsgWhy) → place < 2 ^ 64 → length (message_refusal place why) < 1000
unfolding message_refusal
refusal_length place why small =
    let digits : length (decimal place) ≤ 20 = length-decimal-le 20 place (lit< tt) (omega arith) small in
    let name = why_length why in
    simp length-append (omega arith)

pub pattern_refusal_length : (number : ℕ) → number < 2 ^ 32 → length (pattern_refusal number) < 1000
unfolding pattern_refusal
pattern_refusal_length number small =
    let digits : length (decimal number) ≤ 20 = length-decimal-le 20 number (lit< tt) (omega arith) (omega arith) in
    simp length-append (omega arith)

-- the numbers in a fault of a query are those of a place in memory
abbrev pub IsSmallFault : QueryFault → Type 0
IsSmallFault (TooLong size) = size < 2 ^ 64
IsSmallFault (QueryRefused place) = place < 2 ^ 64
IsSmallFault (TooDeep place) = place < 2 ^ 64
IsSmallFault NoMemory = Unit {0}

pub query_refusal_length : (fault : QueryFault) → IsSmallFault fault → length (query_refusal fault) < 1000
unfolding query_refusal
query_refusal_length (TooLong size) small =
    let digits : length (decimal size) ≤ 20 = length-decimal-le 20 size (lit< tt) (omega arith) small in
    let limit = query_digits in
    simp length-append (omega arith)
query_refusal_length (QueryRefused place) small =
    let digits : length (decimal place) ≤ 20 = length-decimal-le 20 place (lit< tt) (omega arith) small in
    simp length-append (omega arith)
query_refusal_length (TooDeep place) small =
    let digits : length (decimal place) ≤ 20 = length-decimal-le 20 place (lit< tt) (omega arith) small in
    simp length-append (omega arith)
query_refusal_length NoMemory small = omega arith

pub busy_length : (unsent : ℕ) → unsent < 2 ^ 64 → length (busy unsent) < 1000
unfolding busy
busy_length unsent small =
    let digits : length (decimal unsent) ≤ 20 = length-decimal-le 20 unsent (lit< tt) (omega arith) small in
    simp length-append (omega arith)

pub oversized_length : (size : ℕ) → size < 2 ^ 32 → length (oversized size) < 1000
unfolding oversized
oversized_length size small =
    let digits : length (decimal size) ≤ 20 = length-decimal-le 20 size (lit< tt) (omega arith) (omega arith) in
    let limit = body_digits in
    simp length-append (omega arith)
