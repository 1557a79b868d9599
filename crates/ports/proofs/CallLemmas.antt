-- What calls of links add, put together.
use Rattle.std.proofs.Common.{◌≡◌, ◌≤◌, ℕ, List, [], ◌++◌, refl, ap, sym, ◌∙◌, append-nil, append_assoc}
use Rattle.std.proofs.Math.Nat.{le_refl, le_trans}
use Rattle.std.specs.Prelude.{Option, Some, None}
use Rattle.ports.specs.Calls.{AddsCalls, LinksReport}
use Rattle.ports.specs.Links.{grown}
use Rattle.ports.specs.Playing.{Plays}
use Rattle.ports.specs.ScriptLinks.{ScriptedCalls, script_report}
use Rattle.ports.specs.declared.entry.Entry.{Entry}

pub grown_nothing : (log : Option (List Entry)) → log ≡ grown log []
grown_nothing None = refl
grown_nothing (Some log) = ap Some (sym (append-nil log))

pub grown_twice : (log : Option (List Entry)) (first second : List Entry)
    → grown (grown log first) second ≡ grown log (first ++ second)
grown_twice None first second = refl
grown_twice (Some log) first second = ap Some (append_assoc log first second)

pub no_calls : (report : LinksReport) → AddsCalls report report []
no_calls report =
    record { log = grown_nothing report.log; script = refl; plays = λ plays. plays; faults = le_refl report.faults }

pub calls_then : (a b c : LinksReport) (first second : List Entry) → AddsCalls a b first → AddsCalls b c second
    → AddsCalls a c (first ++ second)
calls_then a b c first second one two = record {
  log = two.log ∙ ap (λ (log : Option (List Entry)). grown log second) one.log ∙ grown_twice a.log first second;
  script = two.script ∙ one.script;
  plays = λ plays. two.plays (one.plays plays);
  faults = le_trans one.faults two.faults;
}

-- calls of links that play a script, which they still play after them
pub played_calls : (links links' : ScriptedCalls) (made : List Entry) → Some links'.log ≡ grown (Some links.log) made
    → links'.script ≡ links.script → Plays (Some links'.script) (Some links'.log)
    → AddsCalls (script_report links) (script_report links') made
played_calls links links' made log script plays =
    record { log = log; script = ap Some script; plays = λ _. plays; faults = le_refl 0 }

-- the same calls, with another count of faults beside them
pub calls_counted : (links links' : ScriptedCalls) (faults faults' : ℕ) (made : List Entry)
    → AddsCalls (script_report links) (script_report links') made → faults ≤ faults'
    → AddsCalls (record (script_report links) { faults = faults }) (record (script_report links') { faults = faults' })
    made
calls_counted links links' faults faults' made calls risen =
    record { log = calls.log; script = calls.script; plays = calls.plays; faults = risen }
