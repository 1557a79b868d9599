use Rattle.std.proofs.Common.{ap, sym, ◌∙◌}
use Rattle.ports.specs.declared.links.Turn.{Turn}
use Rattle.journal_links.specs.Opened.{opened_after}
use Rattle.journal_links.proofs.again.note_and_give.Goals as goal

pub returns-clause-gives : goal.returns-clause-gives
returns-clause-gives c = λ entry later is.
    let gives = c.in_ok-turn.ensures.gives entry later is in (
      gives,
      c.in_ok-note_next.ensures entry later is ∙ ap
          (λ (turn : Turn). opened_after turn.what c.args.opened.now.numbers.keys) (sym gives.turn_is),
    )
