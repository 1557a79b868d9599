use Rattle.std.proofs.Common.{List, ℕ, ◌∷◌, ◌++◌, [], sym, ap, subst, ◌∙◌, arith}
use denote.Ref.{Bor}
use Rattle.packed_event.specs.Reading.{after_tag, text_part}
use Rattle.packed_event.proofs.Parts.{gives_none}
use Rattle.packed_event.proofs.Taken.{Takes, takes_ends, takes_fails, takes_more}
use Rattle.packed_event.proofs.unpack.read_tags.Goals as goal

pub returns-in_default-text : goal.returns-in_default-text
returns-in_default-text c =
    let none =
    gives_none (λ (r : Bor (List ℕ) × Bor (List ℕ)). (r.0.now, r.1.now)) c.text.result
    (text_part c.in-Some.tag.now) c.text.ensures.reads c.in_default-text.is in
    λ read e.
    absurd (takes_fails 58 text_part c.args.bytes.now c.args.tags.now c.each.rest.now
    c.in-Some.tag.now c.each.tags c.each.invariant c.in-Some.ensures.reads none read e)

pub each-preserved : goal.each-preserved
each-preserved c =
    let after = c.in-Some-text.after.now in
    let pushed =
    c.in_ok-push.ensures.ok ∙ ap (λ (item : (List ℕ)). c.each.tags ++ item ∷ []) c.in_ok-owned.ensures in
    subst (λ (now : List (List ℕ)). Takes 58 text_part c.args.bytes.now c.args.tags.now after now)
    (sym pushed)
    (takes_more 58 text_part c.args.bytes.now c.args.tags.now c.each.rest.now
    c.in-Some.tag.now after c.in-Some-text.tag.now c.each.tags c.each.invariant
    c.in-Some.ensures.reads c.in-Some-text.ensures.reads (omega (arith, c.in-Some-text.ensures.within)))

pub returns : goal.returns
returns c =
    let none =
    gives_none (λ (rest : Bor (List ℕ)). rest.now) c.after_tag.result (after_tag 58 c.each.rest.now)
    c.after_tag.ensures.reads c.in_default.is in
    λ read e.
    takes_ends 58 text_part c.args.bytes.now c.args.tags.now c.each.rest.now c.each.tags
    c.each.invariant none read e
