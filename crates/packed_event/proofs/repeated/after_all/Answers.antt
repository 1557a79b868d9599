use Rattle.std.proofs.Common.{◌≡◌, ℕ, List, None, ap, arith}
use denote.Ref.{Bor}
use Rattle.std.proofs.lemmas.Grind.{common_steps}
use Rattle.packed_event.specs.Reading.{after_tag, bytes_part, repeated}
use Rattle.packed_event.proofs.Loops.{rest_of, skip_ends, skip_fails, skip_more}
use Rattle.packed_event.proofs.Parts.{gives_none}
use Rattle.packed_event.proofs.repeated.after_all.Goals as goal

pub returns-in_err-after : goal.returns-in_err-after
returns-in_err-after c =
    let none : rest_of (repeated c.args.tag bytes_part c.args.bytes.now) ≡ None =
    skip_fails c.args.tag bytes_part c.args.bytes.now c.each.rest.now c.in-Some.body.now c.each.invariant
    c.in-Some.ensures.reads (ap rest_of c.in_err-after.ensures.reads) in
    grind (arith, common_steps, none)

pub each-preserved : goal.each-preserved
each-preserved c =
    skip_more c.args.tag bytes_part c.args.bytes.now c.each.rest.now c.in-Some.body.now c.in_ok-after.after.now
    c.each.invariant c.in-Some.ensures.reads (ap rest_of c.in_ok-after.ensures.reads)
    (omega (arith, c.in_ok-after.ensures.within))

pub returns : goal.returns
returns c =
    skip_ends c.args.tag bytes_part c.args.bytes.now c.each.rest.now c.each.invariant
    (gives_none (λ (rest : Bor (List ℕ)). rest.now) c.after_tag.result (after_tag c.args.tag c.each.rest.now)
    c.after_tag.ensures.reads c.in_default.is)
