use Rattle.std.proofs.Common.{ℕ, List, sym, ◌∙◌, ap, subst, not, filter, nat_le}
use Rattle.std.specs.List.{list_any}
use Rattle.std.specs.Ordering.{nat_cmp}
use Rattle.std.specs.BTreeMap.{is_at}
use Rattle.tick_schedule.proofs.QueueLaws.{later-left, none-later}
use Rattle.tick_schedule.proofs.ScheduleLaws.{rising_some}
use Rattle.tick_schedule.specs.Queue.{IsRising}
use Rattle.tick_schedule.proofs.queue.DueQueue.take_due.Goals as goal

pub returns-then-not-is_due-clause-later : goal.returns-then-not-is_due-clause-later
returns-then-not-is_due-clause-later g c =
    sym (none-later c.args.now c.args.self.now (c.is_due.ensures.none c.if-not-is_due.true))

pub returns-clause-rising : goal.returns-clause-rising
returns-clause-rising g c =
    let later =
    c.clear_all.ensures
    ∙ ap (λ ids. filter (λ entry. not (list_any (is_at (nat_cmp entry.0)) ids)) c.args.self.now) c.in_ok-ids.ensures
    ∙ later-left c.args.now c.args.self.now c.is_due.ensures.rising in
    let P : List (ℕ × ℕ) → Type 0 = IsRising in
    subst P (sym later) (rising_some (λ entry. not (nat_le entry.1 c.args.now)) c.args.self.now c.is_due.ensures.rising)

pub returns-clause-later : goal.returns-clause-later
returns-clause-later g c =
    c.clear_all.ensures
    ∙ ap (λ ids. filter (λ entry. not (list_any (is_at (nat_cmp entry.0)) ids)) c.args.self.now) c.in_ok-ids.ensures
    ∙ later-left c.args.now c.args.self.now c.is_due.ensures.rising
