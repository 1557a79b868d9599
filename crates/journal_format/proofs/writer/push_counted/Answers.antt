use Rattle.std.proofs.Common.{length, rules}
use Rattle.std.specs.Int.{w32, to_be_bytes}
use Rattle.journal_format.proofs.PartLaws.{if_err, not_added, two_cut, two_end}
use Rattle.journal_format.proofs.writer.push_counted.Goals as goal

pub returns-in_err-push_bytes-clause-ok : goal.returns-in_err-push_bytes-clause-ok
returns-in_err-push_bytes-clause-ok c = not_added _ c.from_residual.result _ c.from_residual.ensures.1

pub returns-in_err-push_bytes-clause-err : goal.returns-in_err-push_bytes-clause-err
returns-in_err-push_bytes-clause-err c = if_err c.from_residual.result _ c.in_err-push_bytes.ensures.err

pub returns-clause-ok : goal.returns-clause-ok
returns-clause-ok c =
    let bytes = c.args.bytes.now in
    two_end c.push_bytes-2.result c.args.out.now.items (to_be_bytes w32 (length bytes)) bytes c.push_bytes.new.out.items
    c.push_bytes-2.new.out.items (search rules) c.push_bytes-2.ensures.ok

pub returns-clause-err : goal.returns-clause-err
returns-clause-err c = two_cut c.push_bytes-2.result _ _ _ _ c.in_ok-push_bytes.ensures.ok c.push_bytes-2.ensures.err
