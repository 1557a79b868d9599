use Rattle.std.proofs.Common.{sym, ◌∙◌, subst}
use Rattle.std.specs.Map.{keys_of}
use Rattle.std.proofs.lemmas.Map.Entries.{length-keys_of}
use Rattle.key_map.specs.Keys.{CountsHosts}
use Rattle.key_map.proofs.HostLaws.{has-key, is-kept}
use Rattle.key_map.proofs.map.KeyMap.host_count.Goals as goal

pub returns : goal.returns
returns c =
    let without = c.self.inside.without_host in
    let hosts = c.self.inside.hosts.entries in
    subst (CountsHosts c.len.result) c.self.view_is (record {
      hosts = keys_of hosts;
      rising = c.self.invariant.sections.rising;
      have_keys = has-key without hosts c.self.invariant.sections.rising c.self.invariant.full;
      all = is-kept without hosts c.self.invariant.sections.rising;
      counted = c.len.ensures.len ∙ sym (length-keys_of hosts);
    })
