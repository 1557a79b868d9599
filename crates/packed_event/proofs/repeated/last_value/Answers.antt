use Rattle.std.proofs.Common.{ℕ, List, arith}
use denote.Ref.{Bor}
use Rattle.std.specs.Option.{option_copied}
use Rattle.packed_event.specs.Reading.{after_tag, attribute_part}
use Rattle.packed_event.specs.Unpacking.{attribute_read}
use Rattle.packed_event.specs.declared.attribute.AttrParts.{AttrParts}
use Rattle.packed_event.proofs.Parts.{gives_none}
use Rattle.packed_event.proofs.Sought.{latest_ends, latest_fails, latest_more}
use Rattle.packed_event.proofs.repeated.last_value.Goals as goal

pub returns-in_default-attribute_at-clause-text : goal.returns-in_default-attribute_at-clause-text
returns-in_default-attribute_at-clause-text c =
    let none =
    gives_none (λ (r : AttrParts × Bor (List ℕ)). (attribute_read r.0, r.1.now)) c.attribute_at.result
    (attribute_part c.in-Some.attribute.now) c.attribute_at.ensures.reads c.in_default-attribute_at.is in
    λ read e.
    absurd (latest_fails c.args.key.now 74 c.args.bytes.now c.each.rest.now c.in-Some.attribute.now
    (option_copied c.each.last) c.each.invariant.0 c.in-Some.ensures.reads none read e)

pub each-preserved : goal.each-preserved
each-preserved c = (
  latest_more c.args.key.now 74 c.args.bytes.now c.each.rest.now c.in-Some.attribute.now
      c.in-Some-attribute_at.after.now (attribute_read c.in-Some-attribute_at.parts) (option_copied c.each.last)
      (option_copied c.value_or-last.result) c.each.invariant.0 c.in-Some.ensures.reads
      c.in-Some-attribute_at.ensures.reads (omega (arith, c.in-Some-attribute_at.ensures.shorter))
      c.value_or-last.ensures.value,
  c.value_or-last.ensures.utf8 c.in-Some-attribute_at.ensures.well_formed c.each.invariant.1,
)

pub returns-clause-text : goal.returns-clause-text
returns-clause-text c =
    let none =
    gives_none (λ (rest : Bor (List ℕ)). rest.now) c.after_tag.result (after_tag 74 c.each.rest.now)
    c.after_tag.ensures.reads c.in_default.is in
    latest_ends c.args.key.now 74 c.args.bytes.now c.each.rest.now (option_copied c.each.last) c.each.invariant.0 none
