use Rattle.std.proofs.Common.{refl, rules}
use Rattle.std.specs.Prelude.{Err}
use Rattle.command_setup.proofs.FaultLaws.{cut_not_complete}
use Rattle.framing.specs.Frames.{partial}
use Rattle.command_files.proofs.BytesLaws.{bytes_cut, bytes_ended, run_was_cut}
use Rattle.command_files.proofs.serve.serve_links.Goals as goal

pub returns-in-Ok-clause-ends : goal.returns-in-Ok-clause-ends
returns-in-Ok-clause-ends g c = λ bytes store store' given played counted.
    bytes_ended c.feeds_are_answered.ensures c.args.setup bytes _ _ c.run_script.new.links.log c.write_replies.result
    (rw played at c.in-Ok.ensures.whole) (search rules)
    (rw (c.as_slice.ensures, c.taken.ensures) at c.write_replies.ensures.writes (partial bytes) counted)

pub returns-clause-ends : goal.returns-clause-ends
returns-clause-ends g c = λ bytes store store' given played counted.
    rw c.ending_of_fault.ensures (bytes_cut c.args.setup bytes _ _ _ (Err c.in-Err.fault) c.in-Err.fault refl
    (rw played at c.in-Err.ensures.cut) refl c.in-Err.ensures.links_work c.in-Err.ensures.sink_fault
    c.in-Err.ensures.sink_quiet)

pub returns-clause-quiet : goal.returns-clause-quiet
returns-clause-quiet g c =
    λ complete. absurd (cut_not_complete c.in-Err.fault (rw c.ending_of_fault.ensures at complete))

pub returns-clause-after : goal.returns-clause-after
returns-clause-after g c =
    rw c.ending_of_fault.ensures (run_was_cut (Err c.in-Err.fault) c.in-Err.fault refl c.in-Err.ensures.links_work)
