-- What links in memory hold while they play a script.
use Rattle.std.specs.Prelude.{◌≡◌, ℕ, ◌≤◌, Bool, false, if◌then◌else◌, List, [], length, drop, Some}
use Rattle.ports.specs.Calls.{LinksReport}
use Rattle.ports.specs.Playing.{IsScriptedRun, SendRules, bytes_taken, playing}
use Rattle.ports.specs.declared.entry.Entry.{Entry}
use Rattle.ports.specs.declared.links.ListenAnswer.{ListenAnswer}
use Rattle.ports.specs.declared.links.ListenAnswer.TheVariants.{Ready, Memory}
use Rattle.ports.specs.declared.script.Script.{Script}

-- what contracts see of them: the script, the calls so far, and whether a call of `next` or `send` was out of memory
pub record ScriptedCalls : Type 0 where
  pub script : Script
  pub log : List Entry
  pub poisoned : Bool

abbrev pub script_report : ScriptedCalls → LinksReport
script_report links = record { log = Some links.log; script = Some links.script; faults = 0 }

-- what a call of `listen` answers: the last reading, or, after a call that was out of memory, the same
abbrev pub listen_answer : ScriptedCalls → ListenAnswer
listen_answer links = if links.poisoned then Memory else Ready (playing links.script links.log).secs

-- What is kept beside the script and the calls is what they say: the bytes taken from each link, and, unless memory
-- ran out, the number of lines played, the last reading, and the rules.
pub record IsPlaying (script : Script) (log : List Entry) (next secs : ℕ) (rules : SendRules) (taken : ℕ → List ℕ)
    (nothing : List ℕ) (poisoned : Bool) : Type 0 where
  pub run : IsScriptedRun script log
  pub within : next ≤ length script.steps
  pub bytes : (link : ℕ) → taken link ≡ bytes_taken link log
  pub no_bytes : nothing ≡ []
  pub place : poisoned ≡ false → playing script log
      ≡ record { steps = drop next script.steps; secs = secs; rules = rules }
