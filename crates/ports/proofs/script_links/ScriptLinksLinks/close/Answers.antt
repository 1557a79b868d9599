use Rattle.std.proofs.Common.{[], ◌∷◌, rules}
use Rattle.ports.proofs.CallLemmas.{played_calls}
use Rattle.ports.proofs.ScriptLemmas.{playing_closed, plays_some}
use Rattle.ports.specs.declared.entry.Entry.TheVariants.{Close}
use Rattle.ports.proofs.script_links.ScriptLinksLinks.close.Goals as goal

pub invariant_of-self : goal.invariant_of-self
invariant_of-self c = rw c.closed.ensures (playing_closed _ _ _ _ _ _ _ _ c.self.invariant c.args.link)

pub returns-clause-adds : goal.returns-clause-adds
returns-clause-adds c =
    played_calls c.args.self.now
    (record { script = c.self.inside.state.script; log = c.closed.new.self; poisoned = c.self.inside.poisoned })
    (Close c.args.link ∷ []) (search rules) (search rules) (plays_some _ _ (invariant_of-self c).run)
