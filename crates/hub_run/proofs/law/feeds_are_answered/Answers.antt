use Rattle.std.proofs.Common.{List, filter, sym, ◌∙◌, ap, subst}
use Rattle.hub_run.specs.Taken.{steps_of}
use Rattle.ports.specs.Pieces.{feed_script}
use Rattle.ports.specs.Playing.{AreAnswered, begun, bytes_taken, succeeded}
use Rattle.ports.specs.declared.entry.Entry.{Entry}
use Rattle.hub_run.proofs.EntryLaws.{steps_entries}
use Rattle.hub_run.proofs.FeedLaws.{fed_from}
use Rattle.hub_run.proofs.law.feeds_are_answered.Goals as goal

pub returns : goal.returns
returns c config limit bytes address secs turns run legal settled =
    ap (bytes_taken 0) (sym (steps_entries turns))
    ∙ fed_from config limit bytes (steps_of turns)
    (subst (λ (entries : List Entry). AreAnswered (begun (feed_script limit bytes)) (filter succeeded entries))
    (sym (steps_entries turns)) run.1)
    legal settled
