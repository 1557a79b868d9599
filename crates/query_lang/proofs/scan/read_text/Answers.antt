use Rattle.std.proofs.Common.{subst}
use Rattle.ev_types.specs.declared.text.TextFault.{TextFault}
use Rattle.ev_types.specs.Text.{IsNoText}
use Rattle.query_lang.proofs.ScanLaws.{no_text}
use Rattle.query_lang.proofs.scan.read_text.Goals as goal

pub returns-in-Err-Utf8 : goal.returns-in-Err-Utf8
returns-in-Err-Utf8 c = λ _. no_text c.args.bytes.now c.in-Err-Utf8.field-0-0
    (subst (λ (fault : TextFault). IsNoText c.args.bytes.now fault) c.in-Err-Utf8.field-0-is
    c.in-Err-Utf8.ensures.fault)
