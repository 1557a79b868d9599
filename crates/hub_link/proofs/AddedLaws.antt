-- How the calls of two parts of a run are put together.
use Rattle.std.proofs.Common.{ℕ, List, [], ◌∷◌, ◌++◌, refl, ◌∙◌}
use Rattle.ports.specs.declared.entry.Entry.{Entry}
use Rattle.ports.specs.declared.links.SendAnswer.{SendAnswer}
use Rattle.ports.specs.declared.links.SendAnswer.TheVariants as send
use Rattle.ports.specs.Calls.{LinksReport}
use Rattle.ports.specs.Links.{send_entries}
use Rattle.ports.proofs.CallLemmas.{calls_then, no_calls}
use Rattle.std.specs.List.{AllByRecursion}
use Rattle.hub_link.specs.Added.{Added, IsSendOrClose}

all_calls : (first second : List Entry) → AllByRecursion IsSendOrClose first → AllByRecursion IsSendOrClose second
    → AllByRecursion IsSendOrClose (first ++ second)
all_calls [] second one two = two
all_calls (entry ∷ first) second one two = (one.0, all_calls first second one.1 two)

pub added_nothing : (report : LinksReport) (P : List Entry → Type 0) → P [] → Added report report P
added_nothing report P holds = record { run = []; grew = no_calls report; no_fault = refl; calls = tt; holds = holds }

-- the calls of one part, and then those of the next
pub added_then : (a b c : LinksReport) (P Q R : List Entry → Type 0) → Added a b P → Added b c Q
    → ((first second : List Entry) → P first → Q second → R (first ++ second)) → Added a c R
added_then a b c P Q R one two both = record {
  run = one.run ++ two.run;
  grew = calls_then a b c one.run two.run one.grew two.grew;
  no_fault = two.no_fault ∙ one.no_fault;
  calls = all_calls one.run two.run one.calls two.calls;
  holds = both one.run two.run one.holds two.holds;
}

pub added_weaken : (a b : LinksReport) (P Q : List Entry → Type 0) → ((run : List Entry) → P run → Q run) → Added a b P
    → Added a b Q
added_weaken a b P Q f one =
    record { run = one.run; grew = one.grew; no_fault = one.no_fault; calls = one.calls; holds = f one.run one.holds }

-- what a send adds
pub send_calls : (link : ℕ) (bytes : List ℕ) (answer : SendAnswer)
    → AllByRecursion IsSendOrClose (send_entries link bytes answer)
send_calls link bytes (send.Took count) = (tt, tt)
send_calls link bytes send.Later = (tt, tt)
send_calls link bytes send.Failed = (tt, tt)
send_calls link bytes send.Memory = tt
