use Rattle.std.proofs.lemmas.Result.{err_from_is_err_and}
use Rattle.riemann_msg.proofs.Folds.{attribute_read, attribute_keyless, attribute_refused}
use Rattle.riemann_msg.proofs.read.read_attribute.Goals as goal

pub returns-in_err-read_fields : goal.returns-in_err-read_fields
returns-in_err-read_fields c =
    let p = err_from_is_err_and c.from_residual.result c.from_residual.ensures.1 in
    rw (p.1, p.2)
    (attribute_refused c.args.bytes.now c.args.base c.in_err-read_fields.field-0.0 c.in_err-read_fields.ensures.refused)

pub returns-in-Some : goal.returns-in-Some
returns-in-Some c =
    attribute_read c.args.bytes.now c.args.base c.read_fields.new.draft c.in-Some.key c.in_ok-read_fields.ensures.ok.0
    c.in_ok-read_fields.ensures.ok.1 c.in-Some.is

pub returns-in-None : goal.returns-in-None
returns-in-None c =
    attribute_keyless c.args.bytes.now c.args.base c.read_fields.new.draft c.in_ok-read_fields.ensures.ok.0
    c.in_ok-read_fields.ensures.ok.1 c.in-None.is
