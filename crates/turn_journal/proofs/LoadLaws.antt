-- What is read of a file that a journal may be in.
use Rattle.std.proofs.Common.{◌≡◌, ℕ, ◌+◌, ◌≤◌, min, Bool, true, false, not, List, [], ◌∷◌, ◌++◌, take, drop, length}
use Rattle.std.proofs.Common.{Option, Some, None, Result, Ok, Err, IfOk, refl, sym, ap, subst, ◌∙◌, append_assoc}
use Rattle.std.proofs.Common.{length-append, arith}
use Rattle.std.specs.Int.{w32, to_be_bytes}
use Rattle.std.specs.Option.{ForSome, option_map}
use Rattle.std.proofs.lemmas.List.{take-append-drop, take-take, take_min}
use Rattle.std.proofs.lemmas.Option.{none-some, same_Some}
use Rattle.disk_port.specs.Past.{Past, synced, text_of}
use Rattle.journal_format.specs.Limits.{config_limit, journal_limit}
use Rattle.journal_format.specs.Journals.{AreRecords, HoldsAt, Journal, head_bytes, is_empty}
use Rattle.journal_format.specs.Finding.{Ends}
use Rattle.journal_format.specs.declared.finder.Found.{Found}
use Rattle.journal_format.specs.declared.turn_record.TurnRecord.{TurnRecord}
use Rattle.journal_format.proofs.NumberLaws.{wide32}
use Rattle.turn_journal.specs.Loading.{IsLoaded}
use Rattle.turn_journal.specs.Standing.{IsReady, Stands}

module _ {X E : Type 0} (items : X → List ℕ) where
  -- as many bytes as there are, up to the limit
  pub front_bytes : (answer : Result X E) (old mid : Option Past) (count size : ℕ) → mid ≡ old
      → ForSome old (λ past. size ≡ length (text_of past)) → count ≡ min size journal_limit
      → IfOk answer (λ x. ForSome mid (λ past. items x ≡ take count (text_of past)))
      → IfOk answer (λ x. ForSome old (λ past. items x ≡ take journal_limit (text_of past)))
  front_bytes (Ok x) old mid count size same size_is count_is clause = λ past is.
      let count_as : count ≡ min journal_limit (length (text_of past)) = omega (arith, count_is, size_is past is) in
      clause past (same ∙ is) ∙ ap (λ n. take n (text_of past)) count_as ∙ take_min journal_limit (text_of past)
  front_bytes (Err error) old mid count size same size_is count_is clause = tt

  -- a sync changes nothing that is read
  pub synced_bytes : (answer : Result X E) (old mid : Option Past) (count : ℕ) → mid ≡ option_map synced old
      → IfOk answer (λ x. ForSome mid (λ past. items x ≡ take count (text_of past)))
      → IfOk answer (λ x. ForSome old (λ past. items x ≡ take count (text_of past)))
  synced_bytes (Ok x) old mid count mid_is clause = λ past is. clause (synced past) (mid_is ∙ ap (option_map synced) is)
  synced_bytes (Err error) old mid count mid_is clause = tt

-- what holds a journal within the limit holds it
holds_more : (journal : Journal) (gate : ℕ) (file : List ℕ) → HoldsAt journal gate (take journal_limit file)
    → HoldsAt journal gate file
holds_more journal gate file holds = record {
  front = holds.front;
  rest = holds.rest ++ drop journal_limit file;
  begins = holds.begins;
  whole = sym (take-append-drop journal_limit file)
      ∙ ap (λ (t : List ℕ). t ++ drop journal_limit file) holds.whole
      ∙ append_assoc holds.front (0 ∷ holds.rest) (drop journal_limit file);
  gate = holds.gate;
  limit = holds.limit;
}

is_loaded : (past : Past) (bytes blob : List ℕ) (found : Found) → bytes ≡ take journal_limit (text_of past)
    → Ends bytes found → blob ≡ take (found.gate + 1) bytes → IsLoaded past found blob
is_loaded past bytes blob found bytes_are ends blob_is = record {
  journal = ends.journal;
  stands = record {
    rests = λ image leaves. leaves;
    holds =
        holds_more ends.journal found.gate (text_of past)
        (subst (HoldsAt ends.journal found.gate) bytes_are ends.holds);
    blank = ends.has_record;
  };
  text =
      blob_is ∙ ap (take (found.gate + 1)) bytes_are
      ∙ take-take (found.gate + 1) journal_limit (text_of past) (omega (arith, ends.holds.limit));
}

pub loaded : {X E : Type 0} (found : X → Found) (blob : X → List ℕ) (answer : Result X E) (old : Option Past)
    (bytes : List ℕ) → ForSome old (λ past. bytes ≡ take journal_limit (text_of past))
    → IfOk answer (λ x. Ends bytes (found x) × (blob x ≡ take ((found x).gate + 1) bytes))
    → IfOk answer (λ x. ForSome old (λ past. IsLoaded past (found x) (blob x)))
loaded found blob (Ok x) old bytes bytes_are ends =
    λ past is. is_loaded past bytes (blob x) (found x) (bytes_are past is) ends.0 ends.1
loaded found blob (Err error) old bytes bytes_are ends = tt

-- the journal that was found is ready for the next record
pub loaded_ready : {X E : Type 0} (found : X → Found) (blob : X → List ℕ) (answer : Result X E) (old new : Option Past)
    (bytes : List ℕ) → new ≡ option_map synced old → ForSome old (λ past. bytes ≡ take journal_limit (text_of past))
    → IfOk answer (λ x. Ends bytes (found x) × (blob x ≡ take ((found x).gate + 1) bytes))
    → IfOk answer (λ x. IsReady new (found x).gate (found x).has_record)
loaded_ready found blob (Ok x) None new bytes new_is bytes_are ends =
    λ past is. absurd (none-some past (sym new_is ∙ is))
loaded_ready found blob (Ok x) (Some old) new bytes new_is bytes_are ends = λ past is.
    let at = is_loaded old bytes (blob x) (found x) (bytes_are old refl) ends.0 ends.1 in (
      at.journal,
      subst (λ (p : Past). Stands p (found x).gate (found x).has_record at.journal)
          (same_Some (synced old) past (sym new_is ∙ is)) at.stands,
    )
loaded_ready found blob (Err error) old new bytes new_is bytes_are ends = tt

pub same_found : (told : Option Past) (found : Found) (gate : ℕ) (has_record : Bool) (bytes : List ℕ)
    → gate ≡ found.gate → has_record ≡ found.has_record → ForSome told (λ past. IsLoaded past found bytes)
    → ForSome told (λ past. IsLoaded past (record { gate = gate; has_record = has_record }) bytes)
same_found told found gate has_record bytes gate_is has_is clause past is =
    let at = clause past is in
    let stands : Stands (synced past) gate found.has_record at.journal =
    subst (λ (g : ℕ). Stands (synced past) g found.has_record at.journal) (sym gate_is) at.stands in
    record {
      journal = at.journal;
      stands = subst (λ (b : Bool). Stands (synced past) gate b at.journal) (sym has_is) stands;
      text = at.text ∙ ap (λ n. take (n + 1) (text_of past)) (sym gate_is);
    }

-- the gate of a journal without a record
pub blank_gate : (bytes : List ℕ) (found : Found) → Ends bytes found → found.has_record ≡ false
    → found.gate ≤ config_limit + 5
blank_gate bytes found ends none =
    let begins = ends.holds.begins in
    let config = ends.journal.config in
    let empty = no_run ends.journal.records begins.run (ends.has_record ∙ ap not none) begins.records in
    omega (
      arith,
      ends.holds.gate,
      ap length begins.whole,
      length-append (head_bytes config) begins.run,
      length-append (to_be_bytes w32 (length config)) config,
      wide32.len (length config),
      begins.small,
      empty,
    )
  where
    no_run : (records : List TurnRecord) (run : List ℕ) → is_empty records ≡ true → AreRecords true records run
        → length run ≡ 0
    no_run [] run is are = ap length are
    no_run (entry ∷ records) run is are = absurd (cc is)
