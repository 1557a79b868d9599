-- What links report of themselves, and what a call adds to it.
use Rattle.std.specs.Prelude.{◌≡◌, ℕ, ◌≤◌, List, Option}
use Rattle.ports.specs.Links.{grown}
use Rattle.ports.specs.Playing.{Plays}
use Rattle.ports.specs.declared.entry.Entry.{Entry}
use Rattle.ports.specs.declared.script.Script.{Script}

pub record LinksReport : Type 0 where
  -- every call so far that did not answer out of memory, in order, with its arguments and its answer, where they report
  -- it
  pub log : Option (List Entry)
  -- the script that the links play, where they play one
  pub script : Option Script
  -- the number of calls of `listen` and `next` that failed
  pub faults : ℕ

-- These calls were made. The script never changes, and where the calls before were those of a run of it, all are.
pub record AddsCalls (old new : LinksReport) (made : List Entry) : Type 0 where
  pub log : new.log ≡ grown old.log made
  pub script : new.script ≡ old.script
  pub plays : Plays old.script old.log → Plays new.script new.log
  pub faults : old.faults ≤ new.faults
