use Rattle.riemann_server.proofs.ServingLaws.{has_served, if_ok, serve_no_option}
use Rattle.riemann_server.proofs.run_server.Goals as goal

pub returns : goal.returns
returns g c =
    if_ok _ _ c.args.words c.run.ensures.command
    (λ given promises config turns is.
    let promise = promises (serve_no_option given.items config turns is) in
    let serves = promise.serve config turns is in
    let served = has_served config turns _ _ _ c.run.result c.requires serves in
    served)
