use Rattle.std.proofs.Common.{◌≡◌, ◌++◌, map, rules, sym, ap, ◌∙◌}
use Rattle.std.specs.List.{flat_map}
use Rattle.std.specs.Map.{values_of}
use Rattle.std.specs.Map.Iter.{deref}
use Rattle.std.proofs.lemmas.Map.Iter.{iter_end}
use Rattle.key_map.proofs.SectionLaws.{values-hosts}
use Rattle.key_map.proofs.map.append_all.Goals as goal

pub returns : goal.returns
returns c =
    let all : map deref c.loop-services.yielded ≡ values_of c.args.hosts.now.entries = search (rules, iter_end) in
    c.loop-services.invariant
    ∙ ap (λ sections. c.args.out.now ++ flat_map values_of sections) all
    ∙ ap (λ ids. c.args.out.now ++ ids) (sym (values-hosts c.args.hosts.now.entries))
