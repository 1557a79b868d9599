use Rattle.std.proofs.Common.{ℕ, List, take, sym, subst, ◌∙◌}
use Rattle.std.specs.Str.{IsUtf8}
use Rattle.std.proofs.lemmas.Str.{IsUtf8-from_is_utf8}
use Rattle.packed_event.proofs.body.text.Goals as goal

pub returns-clause-utf8 : goal.returns-clause-utf8
returns-clause-utf8 c =
    let text = take c.in_ok-len.len c.in_ok-len.rest.now in
    subst (λ (t : List ℕ). IsUtf8 t) (sym c.split_at.ensures.front)
    (IsUtf8-from_is_utf8 text (sym c.begins_with_utf8.ensures ∙ c.if-not-begins_with_utf8.false))
