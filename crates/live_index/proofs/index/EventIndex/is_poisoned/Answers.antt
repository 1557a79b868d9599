use Rattle.std.proofs.Common.{◌≡◌, false, sym, ap, ◌∙◌}
use Rattle.live_index.specs.Slots.{events_in}
use Rattle.live_index.proofs.LogLaws.{log_of, log-live, all_current}
use Rattle.live_index.proofs.RowLaws.{events-rise}
use Rattle.live_index.proofs.SlotsLaws.{not_poisoned}
use Rattle.live_index.proofs.index.EventIndex.is_poisoned.Goals as goal

pub returns-clause-represents : goal.returns-clause-represents
returns-clause-represents g c = λ sound.
    let numbers = c.self.inside.slots.numbers in
    let table = c.self.inside.slots.events.values in
    let is_sound : c.self.inside.poisoned ≡ false = ap (λ index. index.poisoned) c.self.view_is ∙ sound in
    let linked = (c.self.invariant.0 is_sound).linked in (
      log_of (events_in numbers table),
      record {
        sound = sound;
        live =
            sym (not_poisoned c.self.inside.poisoned numbers table is_sound ∙ ap (λ index. index.events) c.self.view_is)
            ∙ sym
            (log-live (events_in numbers table) (events-rise numbers table linked) (all_current numbers table linked));
      },
    )
