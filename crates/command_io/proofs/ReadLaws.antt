-- What a command read, from what one read after another answered.
use Rattle.std.proofs.Common.{ℕ, suc, List, [], ◌∷◌, length, refl, ap, ◌∙◌}
use Rattle.std.specs.Borrow.{Bor}
use Rattle.std.specs.Prelude.{Err, Option}
use Rattle.ports.specs.declared.store.StoreRead.{StoreRead}
use Rattle.command_io.specs.declared.ending.Ending.{Ending}
use Rattle.command_io.specs.declared.ending.Ending.TheVariants.{Finished, ConfigRefused, Unread, OverLimit, BytesLeft}
use Rattle.command_io.specs.declared.ending.Ending.TheVariants.{WriteFailed, LinksFailed, ScriptRefused, OutOfMemory}
use Rattle.command_io.specs.declared.fetch.FetchFault.{FetchFault}
use Rattle.command_io.specs.declared.fetch.FetchFault.TheVariants as fetch
use Rattle.config_terms.specs.declared.fault.ConfigFault.TheVariants.{Refused, Memory}
use Rattle.command_io.specs.declared.read.FileFault.TheVariants as file
use Rattle.command_io.specs.Endings.{HaveFailed, IsReadOnce, ReadsFiles}
use Rattle.command_io.specs.Fetches.{ending_of_fetch, fetch_reads}
use Rattle.command_io.specs.Files.{LastFailed, ReadMore, bad_read, good_read}
use Rattle.command_io.proofs.Sinks.{appended_twice}

-- one good read, of the only file
pub read_alone : (C : ℕ → Type 0) (old new : Option (List StoreRead)) (name : List ℕ) (ending : Ending)
    → ReadMore (good_read name ∷ []) old new → C 1
    → HaveFailed ending (good_read name ∷ []) → ReadsFiles (name ∷ []) C old new ending
read_alone C old new name ending grew counted failed =
    record { made = good_read name ∷ []; grew = grew; named = refl; counted = counted; failed = failed }

-- the reads of a configuration that there is not
pub fetch_reads_once : (old new : Option (List StoreRead)) (name : List ℕ) (shown : Bor (List ℕ)) (fault : FetchFault)
    → ReadMore (fetch_reads name (Err fault)) old new
    → ReadsFiles (name ∷ []) (IsReadOnce (ending_of_fetch shown fault)) old new (ending_of_fetch shown fault)
fetch_reads_once old new name shown (fetch.Config (Refused place why)) grew =
    record { made = good_read name ∷ []; grew = grew; named = refl; counted = refl; failed = (refl, tt) }
fetch_reads_once old new name shown (fetch.File file.Unread) grew =
    record { made = bad_read name ∷ []; grew = grew; named = refl; counted = refl; failed = refl }
fetch_reads_once old new name shown (fetch.File file.TooLong) grew =
    record { made = good_read name ∷ []; grew = grew; named = refl; counted = refl; failed = (refl, tt) }
fetch_reads_once old new name shown (fetch.File file.Memory) grew =
    record { made = []; grew = grew; named = refl; counted = tt; failed = tt }
fetch_reads_once old new name shown (fetch.Config Memory) grew =
    record { made = good_read name ∷ []; grew = grew; named = refl; counted = tt; failed = (refl, tt) }

-- one good read, of the first of two files
pub read_first : (C : ℕ → Type 0) (old new : Option (List StoreRead)) (name other : List ℕ) (ending : Ending)
    → ReadMore (good_read name ∷ []) old new → C 1
    → HaveFailed ending (good_read name ∷ []) → ReadsFiles (name ∷ (other ∷ [])) C old new ending
read_first C old new name other ending grew counted failed =
    record { made = good_read name ∷ []; grew = grew; named = refl; counted = counted; failed = failed }

last_failed_after : (name : List ℕ) (made : List StoreRead) → LastFailed made → LastFailed (good_read name ∷ made)
last_failed_after name [] failed = absurd failed
last_failed_after name (read ∷ made) failed = (refl, failed)

failed_after : (name : List ℕ) (ending : Ending) (made : List StoreRead) → HaveFailed ending made
    → HaveFailed ending (good_read name ∷ made)
failed_after name (Unread unread) made failed = last_failed_after name made failed
failed_after name _ made failed = (refl, failed)

-- the first file was read, and then the other one
pub reads_both : (C D : ℕ → Type 0) (old mid new : Option (List StoreRead)) (name other : List ℕ) (ending : Ending)
    → ReadMore (good_read name ∷ []) old mid
    → ((count : ℕ) → C count → D (suc count)) → ReadsFiles (other ∷ []) C mid new ending
    → ReadsFiles (name ∷ (other ∷ [])) D old new ending
reads_both C D old mid new name other ending first more second = record {
  made = good_read name ∷ second.made;
  grew = second.grew ∙ (rw first (appended_twice old (good_read name ∷ []) second.made));
  named = ap (λ names. name ∷ names) second.named;
  counted = more (length second.made) second.counted;
  failed = failed_after name ending second.made second.failed;
}
