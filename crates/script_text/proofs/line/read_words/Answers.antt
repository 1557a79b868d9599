use Rattle.std.proofs.Common.{sym}
use Rattle.script_text.proofs.LineLemmas.{of_more}
use Rattle.script_text.proofs.line.read_words.Goals as goal

pub returns-in-Some-rest-3 : goal.returns-in-Some-rest-3
returns-in-Some-rest-3 c =
    let first = rw c.in-Some.is at c.cut.ensures.parts in
    let second = rw c.in-Some-rest.is at c.cut-2.ensures.parts in
    let third = rw c.in-Some-rest-2.is at c.cut-3.ensures.parts in
    let fourth = rw c.in-Some-rest-3.is at c.cut-4.ensures.parts in
    sym (of_more c.args.line.now c.cut.result.0.now c.in-Some.rest.now c.cut-2.result.0.now c.in-Some-rest.rest.now
    c.cut-3.result.0.now c.in-Some-rest-2.rest.now c.cut-4.result.0.now c.in-Some-rest-3.field-0.now first second third
    fourth)
