use Rattle.std.proofs.Common.{arith}
use Rattle.sexp_read.proofs.QuotedLaws.{byte_taken, escape_taken}
use Rattle.sexp_read.proofs.quoted.take_one.Goals as goal

pub returns-then-byte-ne-BACKSLASH-clause-takes : goal.returns-then-byte-ne-BACKSLASH-clause-takes
returns-then-byte-ne-BACKSLASH-clause-takes c =
    byte_taken c.args.kind c.args.text.now c.args.bytes.now _ c.args.start c.args.place 0 c.requires.within
    c.requires.inside c.if-byte-ne-BACKSLASH.true c.in_ok-push.ensures.ok

pub returns-clause-takes : goal.returns-clause-takes
returns-clause-takes c = escape_taken c.args.kind c.args.text.now c.args.bytes.now _ c.args.start c.args.place
    (omega arith) c.if-byte-ne-BACKSLASH.false c.in_ok-put_escape.ensures.ok
