use Rattle.command_texts.proofs.ConvertLaws.{text_ends}
use Rattle.command_texts.proofs.text.convert_text.Goals as goal

pub returns-in-Ok-clause-ends : goal.returns-in-Ok-clause-ends
returns-in-Ok-clause-ends g c =
    text_ends c.frames_are_read_back.ensures c.args.host_part c.args.text.now c.in-Ok.made.frames c.in-Ok.made.refused _
    _ _ _ c.write_converted.result
    c.in-Ok.ensures.0 c.in-Ok.ensures.1 c.write_converted.ensures.ends
