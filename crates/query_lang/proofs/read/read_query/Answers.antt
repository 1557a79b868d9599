use Rattle.query_lang.proofs.AnswerLaws.{says_only, reads_ok, reads_err}
use Rattle.query_lang.proofs.read.read_query.Goals as goal

pub returns : goal.returns
returns c =
    let short = c.if-text-gt-MAX_BYTES.false in
    let ok = reads_ok _ c.read_short.result short c.read_short.ensures in
    let err = reads_err _ c.read_short.result short c.read_short.ensures in
    record { query = ok; fault = err; only = says_only _ c.read_short.result ok err }
