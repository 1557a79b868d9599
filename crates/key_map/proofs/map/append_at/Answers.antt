use Rattle.std.proofs.Common.{◌++◌, sym, ap, ◌∙◌}
use Rattle.std.proofs.lemmas.List.{append-nil}
use Rattle.std.proofs.lemmas.Result.{on_ok_weaker}
use Rattle.key_map.proofs.SectionLaws.{host-numbers, values_in}
use Rattle.key_map.proofs.map.append_at.Goals as goal

pub returns-in-Some : goal.returns-in-Some
returns-in-Some c =
    on_ok_weaker c.append_numbers.result
    (λ more k. more
    ∙ ap (λ ids. c.args.out.now ++ ids)
    (sym (host-numbers c.args.host.now c.args.hosts.now.entries k.rising ∙ ap values_in (sym c.in-Some.ensures.value))))
    c.append_numbers.ensures.ok

pub returns-in-None : goal.returns-in-None
returns-in-None c = λ k.
    sym (ap (λ ids. c.args.out.now ++ ids)
    (host-numbers c.args.host.now c.args.hosts.now.entries k.rising ∙ ap values_in (sym c.in-None.ensures.value))
    ∙ append-nil c.args.out.now)
