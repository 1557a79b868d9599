use Rattle.std.proofs.Common.{◌≡◌, ◌+◌, ℕ, List, take, drop, ap, ◌∙◌, subst}
use Rattle.framing.specs.Frames.{HasFrame, length_at}
use Rattle.riemann_client.specs.Requests.{Requested, waiting}
use Rattle.riemann_client.proofs.RequestLaws.{answers_none, answers_sent}
use Rattle.riemann_client.proofs.requests.Requests.answer_next.Goals as goal

pub returns-in-Some-clause-answers : goal.returns-in-Some-clause-answers
returns-in-Some-clause-answers c =
    let seen : c.split_at-2.result.1.now ≡ waiting c.args.self.now =
    c.split_at-2.ensures.back
    ∙ ap (drop c.self.inside.answered) (c.split_at.ensures.front ∙ ap (take c.self.inside.taken) c.as_slice.ensures)
    ∙ ap (λ (r : Requested). waiting r) c.self.view_is in
    answers_sent c.args.self.now _ c.in-Some.length
    (ap (λ (r : Requested). r.stream) c.self.view_is)
    (ap (λ (r : Requested). r.taken) c.self.view_is)
    (ap (λ (r : Requested). r.answered + c.in-Some.length) c.self.view_is)
    (subst HasFrame seen c.in-Some.ensures.0) (c.in-Some.ensures.1 ∙ ap (λ (bytes : List ℕ). 4 + length_at bytes) seen)

pub returns-in-None-clause-answers : goal.returns-in-None-clause-answers
returns-in-None-clause-answers c =
    let seen : c.split_at-2.result.1.now ≡ waiting c.args.self.now =
    c.split_at-2.ensures.back
    ∙ ap (drop c.self.inside.answered) (c.split_at.ensures.front ∙ ap (take c.self.inside.taken) c.as_slice.ensures)
    ∙ ap (λ (r : Requested). waiting r) c.self.view_is in
    answers_none c.args.self.now c.args.self.now (subst (λ (bytes : List ℕ). HasFrame bytes → ⊥) seen c.in-None.ensures)
