use Rattle.std.proofs.Common.{subst, sym, ◌∙◌}
use Rattle.riemann_msg.specs.declared.msg.Msg.{Msg}
use Rattle.riemann_msg.specs.Fault.{first_fault}
use Rattle.riemann_msg.specs.Spelling.{IsSpellable}
use Rattle.riemann_msg.proofs.Folds.{message_read, message_spellable}
use Rattle.riemann_msg.proofs.read.read_msg_into.Goals as goal

pub returns-clause-reads : goal.returns-clause-reads
unfolding first_fault
returns-clause-reads c = (
  c.in_ok-read_fields.ensures.ok.0,
  c.in_ok-into_msg.ensures
      ∙ message_read c.args.now c.args.body.now c.reusing-draft.result c.read_fields.new.draft
      c.reusing-draft.ensures c.in_ok-read_fields.ensures.ok.0 c.in_ok-read_fields.ensures.ok.1,
)

pub returns-clause-spellable : goal.returns-clause-spellable
returns-clause-spellable c =
    let read =
    c.in_ok-into_msg.ensures
    ∙ message_read c.args.now c.args.body.now c.reusing-draft.result c.read_fields.new.draft c.reusing-draft.ensures
    c.in_ok-read_fields.ensures.ok.0 c.in_ok-read_fields.ensures.ok.1 in
    subst (λ (msg : Msg). IsSpellable msg) (sym read) (message_spellable c.args.now c.args.body.now)
