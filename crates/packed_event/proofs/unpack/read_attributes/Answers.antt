use Rattle.std.proofs.Common.{List, ℕ, ◌∷◌, ◌++◌, [], sym, ap, subst, ◌∙◌, arith}
use denote.Ref.{Bor}
use Rattle.ev_types.specs.declared.event.Attr.{Attr}
use Rattle.packed_event.specs.Reading.{after_tag, attribute_part}
use Rattle.packed_event.specs.Unpacking.{attribute_read}
use Rattle.packed_event.specs.declared.attribute.AttrParts.{AttrParts}
use Rattle.packed_event.proofs.Parts.{gives_none}
use Rattle.packed_event.proofs.Taken.{Takes, takes_ends, takes_fails, takes_more}
use Rattle.packed_event.proofs.unpack.read_attributes.Goals as goal

pub returns-in_default-attribute_at : goal.returns-in_default-attribute_at
returns-in_default-attribute_at c =
    let none =
    gives_none (λ (r : AttrParts × Bor (List ℕ)). (attribute_read r.0, r.1.now)) c.attribute_at.result
    (attribute_part c.in-Some.attribute.now) c.attribute_at.ensures.reads c.in_default-attribute_at.is in
    λ read e.
    absurd (takes_fails 74 attribute_part c.args.bytes.now c.args.attributes.now c.each.rest.now
    c.in-Some.attribute.now c.each.attributes c.each.invariant c.in-Some.ensures.reads none read e)

pub each-preserved : goal.each-preserved
each-preserved c =
    let after = c.in-Some-attribute_at.after.now in
    let pushed =
    c.in_ok-push.ensures.ok ∙ ap (λ (item : Attr). c.each.attributes ++ item ∷ []) c.in_ok-owned.ensures in
    subst (λ (now : List Attr). Takes 74 attribute_part c.args.bytes.now c.args.attributes.now after now)
    (sym pushed)
    (takes_more 74 attribute_part c.args.bytes.now c.args.attributes.now c.each.rest.now
    c.in-Some.attribute.now after (attribute_read c.in-Some-attribute_at.parts) c.each.attributes c.each.invariant
    c.in-Some.ensures.reads c.in-Some-attribute_at.ensures.reads
    (omega (arith, c.in-Some-attribute_at.ensures.shorter)))

pub returns : goal.returns
returns c =
    let none =
    gives_none (λ (rest : Bor (List ℕ)). rest.now) c.after_tag.result (after_tag 74 c.each.rest.now)
    c.after_tag.ensures.reads c.in_default.is in
    λ read e.
    takes_ends 74 attribute_part c.args.bytes.now c.args.attributes.now c.each.rest.now c.each.attributes
    c.each.invariant none read e
