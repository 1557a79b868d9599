-- How the calls of two parts of an exchange are put together.
use Rattle.std.proofs.Common.{List, [], ◌++◌}
use Rattle.ports.specs.Calls.{LinksReport}
use Rattle.ports.specs.declared.entry.Entry.{Entry}
use Rattle.ports.proofs.CallLemmas.{calls_then, no_calls}
use Rattle.riemann_client.specs.Sending.{MakesCalls}
use Rattle.client_run.specs.Runs.{AddsRun}

pub adds_nothing : (report : LinksReport) (P : List Entry → Type 0) → P [] → AddsRun report report P
adds_nothing report P holds = record { run = []; grew = no_calls report; holds = holds }

-- the calls of one part, and then those of the next
pub adds_then : (a b c : LinksReport) (P Q R : List Entry → Type 0) → AddsRun a b P → AddsRun b c Q
    → ((first second : List Entry) → P first → Q second → R (first ++ second)) → AddsRun a c R
adds_then a b c P Q R one two both = record {
  run = one.run ++ two.run;
  grew = calls_then a b c one.run two.run one.grew two.grew;
  holds = both one.run two.run one.holds two.holds;
}

pub adds_weaken : (a b : LinksReport) (P Q : List Entry → Type 0) → ((run : List Entry) → P run → Q run) → AddsRun a b P
    → AddsRun a b Q
adds_weaken a b P Q f one = record { run = one.run; grew = one.grew; holds = f one.run one.holds }

-- calls of which none is a fault
pub adds_made : (a b : LinksReport) (P : List Entry → Type 0) → MakesCalls a b P → AddsRun a b P
adds_made a b P made = record { run = made.run; grew = made.grew; holds = made.holds }
