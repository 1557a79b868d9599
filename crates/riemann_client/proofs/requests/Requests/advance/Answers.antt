use Rattle.std.proofs.Common.{◌≡◌, length, ap, arith, length-drop}
use Rattle.riemann_client.specs.Requests.{Requested}
use Rattle.riemann_client.proofs.RequestLaws.{answered_stays, kept_at}
use Rattle.riemann_client.proofs.requests.Requests.advance.Goals as goal

pub returns-clause-answered : goal.returns-clause-answered
returns-clause-answered c =
    let kept = kept_at _ c.args.self.now c.self.view_is c.self.invariant in
    let taken_is : c.self.inside.taken ≡ c.args.self.now.taken = ap (λ (r : Requested). r.taken) c.self.view_is in
    let stream_is : length c.self.inside.frames ≡ length c.args.self.now.stream =
    ap (λ (r : Requested). length r.stream) c.self.view_is in
    let rest = length-drop c.args.self.now.taken c.args.self.now.stream in
    let all : c.min.result ≡ c.args.count = omega (arith, c.min.ensures, c.len.ensures, c.requires) in
    answered_stays c.args.self.now _ c.args.count kept.0 kept.1 (ap (λ (r : Requested). r.stream) c.self.view_is)
    (omega arith)
    (ap (λ (r : Requested). r.answered) c.self.view_is)
