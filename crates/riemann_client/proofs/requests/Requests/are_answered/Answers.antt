use Rattle.std.proofs.Common.{◌≡◌, drop, ap, ◌∙◌, sym}
use Rattle.riemann_client.specs.Requests.{Requested}
use Rattle.riemann_client.proofs.RequestLaws.{all_answered, kept_at, none_test}
use Rattle.riemann_client.proofs.requests.Requests.are_answered.Goals as goal

pub returns : goal.returns
returns c count is =
    let kept = kept_at _ c.args.self.now c.self.view_is c.self.invariant in
    let seen : c.split_at.result.1.now ≡ drop c.args.self.now.answered c.args.self.now.stream =
    c.split_at.ensures.back ∙ ap (drop c.self.inside.answered) c.as_slice.ensures
    ∙ ap (λ (r : Requested). drop r.answered r.stream) c.self.view_is in
    sym (none_test c.first_frame_len.result c.is_none.result c.is_none.ensures)
    ∙ all_answered c.args.self.now count kept.0 kept.1 is c.split_at.result.1.now c.first_frame_len.result seen
    c.first_frame_len.ensures
