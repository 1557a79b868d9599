-- What is read of the journal that was loaded.
use Rattle.std.proofs.Common.{Err, ◌≡◌, ℕ, ◌+◌, Bool, subst, List, [], ◌∷◌, ◌++◌, take, length, ap, sym, ◌∙◌}
use Rattle.std.proofs.Common.{append_assoc, length-append, arith}
use Rattle.std.proofs.lemmas.List.{take-append-le, take_all}
use Rattle.disk_port.specs.Past.{Past, synced}
use Rattle.journal_format.specs.declared.finder.Found.{Found}
use Rattle.journal_format.specs.declared.turn_record.TurnRecord.{TurnRecord}
use Rattle.journal_links.specs.Resuming.{Resumes}
use Rattle.turn_journal.specs.Loading.{IsLoaded, IsWhyRefused}
use Rattle.turn_journal.specs.Standing.{Stands}
use Rattle.turn_journal.specs.declared.fault.JournalFault.{JournalFault}
use Rattle.turn_journal.specs.declared.fault.JournalFault.TheVariants.{Refused, DiskFault, Memory}
use Rattle.journal_links.specs.Reading.{IsOrMemory, IsWhole}

-- the bytes that were loaded are the journal with its closed gate
pub loaded_whole : (past : Past) (found : Found) (bytes : List ℕ) (at : IsLoaded past found bytes)
    → IsWhole at.journal bytes
loaded_whole past found bytes at = record {
  front = at.stands.holds.front;
  begins = at.stands.holds.begins;
  whole =
      let front = at.stands.holds.front in
      let size : length front ≡ found.gate = at.stands.holds.gate in
      at.text
      ∙ ap (take (found.gate + 1)) (at.stands.holds.whole ∙ sym (append_assoc front (0 ∷ []) at.stands.holds.rest))
      ∙ take-append-le (found.gate + 1) (front ++ 0 ∷ []) at.stands.holds.rest
      (omega (arith, size, length-append front (0 ∷ [])))
      ∙ take_all (found.gate + 1) (front ++ 0 ∷ []) (omega (arith, size, length-append front (0 ∷ [])));
}

-- its configuration and its records were read
pub resumes : (past : Past) (gate gate' : ℕ) (has has' : Bool) (bytes config : List ℕ) (records : List TurnRecord)
    (at : IsLoaded past (record { gate = gate; has_record = has }) bytes)
    → gate' ≡ gate → has' ≡ has → config ≡ at.journal.config → records ≡ at.journal.records
    → Resumes past (record { gate = gate'; has_record = has' }) config records
resumes past gate gate' has has' bytes config records at gate_is has_is config_is records_are = record {
  journal = at.journal;
  stands =
      let stands : Stands (synced past) gate' has at.journal =
      subst (λ (g : ℕ). Stands (synced past) g has at.journal) (sym gate_is) at.stands in
      subst (λ (b : Bool). Stands (synced past) gate' b at.journal) (sym has_is) stands;
  config_is = config_is;
  records_are = records_are;
}

-- what was loaded is read, unless memory runs out
pub never_refused : {X : Type 0} (wanted : X) (why : JournalFault) (file : List ℕ) → IsOrMemory wanted (Err why)
    → IsWhyRefused file why
never_refused wanted (Refused place) file is = absurd is
never_refused wanted DiskFault file is = absurd is
never_refused wanted Memory file is = tt
