-- The frame of a message that asks a query.
use Rattle.std.proofs.Common.{◌≡◌, ℕ, ◌+◌, ◌<◌, ◌≤◌, ◌^◌, List, [], ◌∷◌, length, Some, ap, sym, ◌∙◌, arith}
use Rattle.std.proofs.Common.{append-nil}
use Rattle.framing.specs.Frames.{frames_of}
use Rattle.framing.specs.declared.TheConstants.{BODY_LIMIT}
use Rattle.framing.proofs.FrameLaws.{frames_of_frame, frames_of_nothing}
use Rattle.pb_wire.specs.Varint.{varint}
use Rattle.pb_wire.proofs.SpellingLaws.{varint_is}
use Rattle.query_lang.specs.declared.read.TheConstants.{MAX_BYTES}
use Rattle.riemann_msg.specs.Spelling.{optional, query_content, query_values, spelled, spelling}
use Rattle.riemann_msg.specs.declared.msg.QueryPart.{QueryPart}
use Rattle.riemann_msg.proofs.Lengths.{message_length, query_length, text_length}
use Rattle.command_client.specs.Queries.{QueriesAreRequests, asked_part, asking, query_frame}

few : (value : ℕ) → value < 2 ^ 64 → length (varint value) ≤ 10
few value small = (varint_is value small).few

part_length : (text : List ℕ)
    → length (spelled (query_values (asked_part text))) ≡ 1 + (length (varint (length text)) + length text)
unfolding query_values
part_length text = text_length 1 text (omega arith)

pub query_within : (text : List ℕ) → length text ≤ MAX_BYTES → length (spelling (asking text)) ≤ BODY_LIMIT
query_within text short =
    let part : QueryPart = asked_part text in
    let inner = part_length text in
    let one = few (length text) (omega arith) in
    let two = few (length (spelled (query_values part))) (omega (arith, inner, one, short)) in
    let outer = query_length part in
    let whole : length (spelling (asking text))
    ≡ 0 + (0 + (length (spelled (optional 5 query_content (Some part))) + 0)) =
    message_length (asking text) in
    omega (arith, inner, one, two, outer, whole, short)

pub queries_lem : QueriesAreRequests
queries_lem text short =
    ap frames_of (sym (append-nil (query_frame text)))
    ∙ frames_of_frame (spelling (asking text)) [] (query_within text short)
    ∙ ap (λ (bodies : List (List ℕ)). spelling (asking text) ∷ bodies) frames_of_nothing
