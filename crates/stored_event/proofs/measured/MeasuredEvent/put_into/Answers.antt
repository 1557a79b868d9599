use Rattle.std.proofs.Common.{◌≡◌, ◌≤◌, [], ◌∷◌, ◌++◌, length, drop, sym, ap, ◌∙◌, subst}
use Rattle.riemann_msg.specs.Reply.{found}
use Rattle.riemann_msg.specs.Spelling.{spelling}
use Rattle.stored_event.proofs.ReplyLengths.{some_len}
use Rattle.stored_event.proofs.ReplySpellings.{after_flag}
use Rattle.stored_event.proofs.measured.MeasuredEvent.put_into.Goals as goal

pub after_flag-requires : goal.after_flag-requires
after_flag-requires c =
    let written : c.as_slice.result.now ≡ spelling (found (c.args.self.now ∷ [])) =
    c.as_slice.ensures ∙ c.in_ok-write_found.ensures.ok
    ∙ ap (λ reply. reply ++ spelling (found (c.self.inside.event ∷ []))) c.clear.ensures
    ∙ ap (λ event. spelling (found (event ∷ []))) c.self.view_is in
    subst (λ bytes. 2 ≤ length bytes) (sym written) (some_len (c.args.self.now ∷ []))

pub returns-clause-ok : goal.returns-clause-ok
returns-clause-ok c =
    let written : c.as_slice.result.now ≡ spelling (found (c.args.self.now ∷ [])) =
    c.as_slice.ensures ∙ c.in_ok-write_found.ensures.ok
    ∙ ap (λ reply. reply ++ spelling (found (c.self.inside.event ∷ []))) c.clear.ensures
    ∙ ap (λ event. spelling (found (event ∷ []))) c.self.view_is in
    c.in_ok-append.ensures.ok
    ∙ ap (λ bytes. c.args.out.now ++ bytes)
    (c.after_flag.ensures ∙ ap (drop 2) written ∙ after_flag (c.args.self.now ∷ []))
