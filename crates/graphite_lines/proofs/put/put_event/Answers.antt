use Rattle.std.proofs.Common.{◌≡◌, rules}
use Rattle.std.specs.Int.{w64, cast_unsigned}
use Rattle.std.specs.Option.{option_copied}
use Rattle.riemann_msg.specs.Spelling.{zigzag}
use Rattle.graphite_lines.specs.Reading.{said_service}
use Rattle.graphite_lines.proofs.Spelled.{said_grown}
use Rattle.graphite_lines.proofs.put.put_event.Goals as goal

pub returns-clause-ok : goal.returns-clause-ok
returns-clause-ok c =
    let said = c.args.said in
    let time : c.cast_unsigned.result ≡ cast_unsigned w64 said.time = search rules in
    let metric : c.zigzag.result ≡ zigzag said.metric = search rules in
    said_grown said.time (said_service said) (option_copied said.placed.host) said.metric _ _ _ _ _
    c.cast_unsigned.result c.zigzag.result
    c.in_ok-put_field.ensures.ok c.in_ok-put_service.ensures.ok c.in_ok-put_host.ensures.ok
    c.in_ok-put_field-2.ensures.ok time metric
