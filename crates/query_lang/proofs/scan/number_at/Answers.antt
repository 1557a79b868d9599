use Rattle.query_lang.proofs.ScanLaws.{literal_taken}
use Rattle.query_lang.proofs.scan.number_at.Goals as goal

pub number_of-requires : goal.number_of-requires
number_of-requires c =
    literal_taken c.args.bytes.now _ _ c.requires c.digits_len-size.ensures.value c.split_at.ensures.front
