use Rattle.std.proofs.Common.{[], ◌∷◌, rules}
use Rattle.ports.proofs.CallLemmas.{played_calls}
use Rattle.ports.proofs.ScriptLemmas.{playing_listened, plays_some}
use Rattle.ports.specs.declared.entry.Entry.TheVariants.{Listen}
use Rattle.ports.specs.declared.links.ListenAnswer.TheVariants.{Ready}
use Rattle.ports.proofs.script_links.ScriptLinksLinks.listen.Goals as goal

pub invariant_of-self : goal.invariant_of-self
invariant_of-self c =
    rw c.listened.ensures (playing_listened _ _ _ _ _ _ _ _ c.self.invariant c.if-self.false c.args.address.now)

pub returns-clause-adds : goal.returns-clause-adds
returns-clause-adds c =
    played_calls c.args.self.now
    (record { script = c.self.inside.state.script; log = c.listened.new.self; poisoned = c.self.inside.poisoned })
    (Listen c.args.address.now (Ready c.self.inside.state.secs) ∷ []) (search rules) (search rules)
    (plays_some _ _ (invariant_of-self c).run)
