use Rattle.std.proofs.Common.{Some, ◌∙◌, subst}
use Rattle.std.specs.Prelude.{OnOk}
use Rattle.ev_types.specs.declared.event.Event.{Event}
use Rattle.live_index.specs.Slots.{key_of, Puts}
use Rattle.live_index.proofs.slots.Slots.put.Goals as goal

pub returns-clause-puts : goal.returns-clause-puts
returns-clause-puts g c =
    subst
    (λ (event : Event). OnOk c.add.result (Puts (key_of event) (Some event) c.args.self.now.numbers
    c.args.self.now.events.values c.add.new.self.numbers c.add.new.self.events.values))
    (c.in_ok-stored.ensures ∙ c.replace-moved.ensures.value) c.add.ensures.puts
