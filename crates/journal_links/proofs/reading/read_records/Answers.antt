use Rattle.std.proofs.Common.{◌≡◌, ◌∷◌, List, true, length, rules, subst, sym}
use Rattle.std.specs.List.{list_all}
use Rattle.journal_format.specs.declared.turn_record.TurnRecord.{TurnRecord}
use Rattle.journal_format.specs.declared.unread.Unread.TheVariants as unread
use Rattle.journal_links.specs.Reading.{AreLeft, has_event}
use Rattle.journal_links.proofs.ReadLaws.{all_read, events_more, goes_on, never_ends, never_refused, one_follows}
use Rattle.journal_links.proofs.reading.read_records.Goals as goal

pub returns-then-gate-eq0-clause-read : goal.returns-then-gate-eq0-clause-read
returns-then-gate-eq0-clause-read c = λ all ends.
    let is : c.records.rest.now ≡ c.in-Some.gate.now ∷ c.in-Some.after.now = search rules in
    all_read all c.records.records c.records.rest.now c.in-Some.gate.now c.in-Some.after.now
    (c.records.invariant.0 all ends) is c.if-gate-eq0.true

pub returns-in-Err-Refused-clause-read : goal.returns-in-Err-Refused-clause-read
returns-in-Err-Refused-clause-read c = λ all ends.
    let is : c.records.rest.now ≡ c.in-Some.gate.now ∷ c.in-Some.after.now = search rules in
    let follows = one_follows all c.records.records c.records.rest.now c.in-Some.gate.now c.in-Some.after.now
    (c.records.invariant.0 all ends) is c.if-gate-eq0.false in
    let refused : c.in-Err-Refused.field-0 ≡ unread.Refused = search rules in
    never_refused all c.records.records c.in-Some.after.now follows c.in-Err-Refused.field-0 refused
    (c.in-Err-Refused.ensures.only follows.entry follows.rest follows.allowed follows.spelled)

pub records-preserved : goal.records-preserved
records-preserved c = (
  λ all ends.
      let is : c.records.rest.now ≡ c.in-Some.gate.now ∷ c.in-Some.after.now = search rules in
      let follows = one_follows all c.records.records c.records.rest.now c.in-Some.gate.now c.in-Some.after.now
      (c.records.invariant.0 all ends) is c.if-gate-eq0.false in
      subst (λ (read : List TurnRecord). AreLeft all read c.in-Ok.read.1.now) (sym c.in_ok-push.ensures.ok)
      (goes_on all c.records.records c.in-Some.after.now c.in-Ok.read.0 c.in-Ok.read.1.now follows
      (c.in-Ok.ensures.only follows.entry follows.rest follows.allowed follows.spelled)),
  subst (λ (read : List TurnRecord). list_all has_event read ≡ true) (sym c.in_ok-push.ensures.ok)
      (events_more c.records.records c.in-Ok.read.0 c.records.invariant.1 c.in-Ok.ensures.found.0),
)

pub returns-clause-read : goal.returns-clause-read
returns-clause-read c = λ all ends.
    let empty : length c.records.rest.now ≡ 0 = search rules in
    never_ends all c.records.records c.records.rest.now (c.records.invariant.0 all ends) empty
