use Rattle.std.proofs.Common.{rules, ◌≡◌, true, false, ℕ, List, arith}
use denote.Ref.{Bor}
use Rattle.std.specs.Str.{bytes_eq}
use Rattle.packed_event.specs.Reading.{after_tag, bytes_part}
use Rattle.packed_event.proofs.Parts.{gives_none}
use Rattle.packed_event.proofs.Sought.{seeks_ends, seeks_fails, seeks_found, seeks_more}
use Rattle.packed_event.proofs.repeated.has_tag.Goals as goal

pub returns-in_default-counted : goal.returns-in_default-counted
returns-in_default-counted c =
    let none =
    gives_none (λ (r : Bor (List ℕ) × Bor (List ℕ)). (r.0.now, r.1.now)) c.counted.result
    (bytes_part c.in-Some.tag.now) c.counted.ensures.reads c.in_default-counted.is in
    λ read e.
    absurd (seeks_fails (λ text. bytes_eq text c.args.wanted.now) 58 c.args.bytes.now c.each.rest.now
    c.in-Some.tag.now c.each.invariant c.in-Some.ensures.reads none read e)

pub returns : goal.returns
returns c =
    let none =
    gives_none (λ (rest : Bor (List ℕ)). rest.now) c.after_tag.result (after_tag 58 c.each.rest.now)
    c.after_tag.ensures.reads c.in_default.is in
    seeks_ends (λ text. bytes_eq text c.args.wanted.now) 58 c.args.bytes.now c.each.rest.now c.each.invariant none

pub returns-then-eq : goal.returns-then-eq
returns-then-eq c =
    let same : bytes_eq c.in-Some-counted.tag.now c.args.wanted.now ≡ true = search rules in
    seeks_found (λ text. bytes_eq text c.args.wanted.now) 58 c.args.bytes.now c.each.rest.now c.in-Some.tag.now
    c.in-Some-counted.after.now c.in-Some-counted.tag.now c.each.invariant c.in-Some.ensures.reads
    c.in-Some-counted.ensures.reads (omega (arith, c.in-Some-counted.ensures.within)) same

pub each-preserved : goal.each-preserved
each-preserved c =
    let other : bytes_eq c.in-Some-counted.tag.now c.args.wanted.now ≡ false = search rules in
    seeks_more (λ text. bytes_eq text c.args.wanted.now) 58 c.args.bytes.now c.each.rest.now c.in-Some.tag.now
    c.in-Some-counted.after.now c.in-Some-counted.tag.now c.each.invariant c.in-Some.ensures.reads
    c.in-Some-counted.ensures.reads (omega (arith, c.in-Some-counted.ensures.within)) other
