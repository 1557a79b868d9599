use Rattle.std.proofs.Common.{List, [], ◌∷◌, ◌++◌, Option, None, sym, ◌∙◌, subst}
use Rattle.std.specs.Prelude.{IfSome}
use Rattle.ev_types.specs.declared.event.Event.{Event}
use Rattle.key_map.specs.Keys.{Numbers}
use Rattle.live_index.specs.Slots.{key_of, IsTaking, Puts}
use Rattle.live_index.proofs.TakeLaws.{taking-none, taking-some}
use Rattle.live_index.proofs.ReplaceLaws.{replaced-at}
use Rattle.live_index.proofs.slots.Slots.take_into.Goals as goal

pub returns-clause-step : goal.returns-clause-step
returns-clause-step g c = λ gone numbers table taking.
    let puts =
    subst
    (λ (event : Option Event). IfSome event (λ event. Puts (key_of event) None c.args.self.now.numbers
    c.args.self.now.events.values c.take.new.self.numbers c.take.new.self.events.values))
    c.in-Some.is c.in_ok-event.ensures.puts in
    taking-some gone c.args.number numbers c.args.self.now.numbers c.take.new.self.numbers table
    c.args.self.now.events.values c.take.new.self.events.values
    c.args.events.now.keys c.replace.new.self.keys taking c.in-Some.event
    (sym c.in_ok-event.ensures.taken ∙ c.in-Some.is)
    c.in_ok-event.ensures.linked c.in_ok-event.ensures.slots puts
    c.replace.ensures.ordered
    (λ q. replaced-at q c.in-Some.event c.args.events.now.keys c.replace.new.self.keys taking.taken.rising
    c.in_ok-replace.ensures.keys)

pub returns-in_default-clause-step : goal.returns-in_default-clause-step
returns-in_default-clause-step g c = λ gone numbers table taking.
    let same = c.in_ok-event.ensures.same c.in_default.is in
    let next =
    taking-none gone c.args.number numbers c.args.self.now.numbers c.args.self.now.numbers table
    c.args.self.now.events.values c.args.self.now.events.values c.args.events.now.keys c.args.events.now.keys
    taking (sym c.in_ok-event.ensures.taken ∙ c.in_default.is) in
    subst
    (λ (ns : Numbers).
    IsTaking (gone ++ c.args.number ∷ []) numbers table ns c.take.new.self.events.values c.args.events.now.keys)
    (sym same.0)
    (subst
    (λ (tab : List (Option Event)).
    IsTaking (gone ++ c.args.number ∷ []) numbers table c.args.self.now.numbers tab c.args.events.now.keys)
    (sym same.1) next)
