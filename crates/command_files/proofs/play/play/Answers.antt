use Rattle.std.proofs.Common.{refl, rules}
use Rattle.std.specs.Prelude.{Err}
use Rattle.command_setup.proofs.FaultLaws.{cut_not_complete}
use Rattle.command_files.proofs.PlayLaws.{play_cut, play_ended, run_was_cut}
use Rattle.command_files.proofs.play.play.Goals as goal

pub returns-in-Ok-clause-ends : goal.returns-in-Ok-clause-ends
returns-in-Ok-clause-ends g c = λ store store' given err err'.
    play_ended _ _ _ _ (g.O.Sink.report c.run_script.new.sink) _ _
    c.in-Ok.ensures.whole (search rules) (rw c.in-Ok.ensures.script at c.write_links.ensures.writes)

pub returns-clause-ends : goal.returns-clause-ends
returns-clause-ends g c = λ store store' given err err'.
    rw c.ending_of_fault.ensures (play_cut _ _ _ _ _ (Err c.in-Err.fault) c.in-Err.fault refl
    c.in-Err.ensures.cut c.in-Err.ensures.links_work c.in-Err.ensures.sink_fault c.in-Err.ensures.sink_quiet)

pub returns-clause-quiet : goal.returns-clause-quiet
returns-clause-quiet g c =
    λ complete. absurd (cut_not_complete c.in-Err.fault (rw c.ending_of_fault.ensures at complete))

pub returns-clause-after : goal.returns-clause-after
returns-clause-after g c =
    rw c.ending_of_fault.ensures (run_was_cut (Err c.in-Err.fault) c.in-Err.fault refl c.in-Err.ensures.links_work)
