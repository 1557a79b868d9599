-- Reading the records of a journal one after the other.
use Rattle.std.proofs.Common.{◌≡◌, ◌≢◌, ℕ, Bool, true, false, ◌&&◌, List, [], ◌∷◌, ◌++◌, length, Some, Err, refl, sym}
use Rattle.std.proofs.Common.{ap, subst, ◌∙◌, append_assoc, length-append, arith}
use Rattle.std.specs.List.{list_all}
use Rattle.std.specs.Prelude.{nat_lt, nat_le}
use Rattle.std.proofs.lemmas.Bool.{le-leb, lt-ltb}
use Rattle.std.proofs.lemmas.List.{append-nil}
use Rattle.std.proofs.lemmas.List.Folds.{list_all-append}
use Rattle.journal_format.specs.Journals.{Journal, head_bytes}
use Rattle.journal_format.specs.Spelling.{IsRecord, record_bytes, IsEvent}
use Rattle.journal_format.specs.Reading.{Fails, read_as}
use Rattle.journal_format.specs.declared.unread.Unread.{Unread}
use Rattle.journal_format.specs.declared.unread.Unread.TheVariants as unread
use Rattle.journal_format.proofs.NumberLaws.{some_is}
use Rattle.journal_format.specs.Limits.{piece_limit}
use Rattle.journal_format.specs.declared.turn_record.TurnEvent.{TurnEvent}
use Rattle.journal_format.specs.declared.turn_record.TurnEvent.TheVariants.{Listen, Idle, Opened, Read, Ended, Broken}
use Rattle.journal_format.specs.declared.turn_record.TurnEvent.TheVariants.{Room}
use Rattle.journal_format.specs.declared.turn_record.TurnRecord.{TurnRecord}
use Rattle.turn_journal.specs.declared.fault.JournalFault.{JournalFault}
use Rattle.turn_journal.specs.declared.fault.JournalFault.TheVariants as fault
use Rattle.journal_links.specs.Reading.{AreLeft, EndWith, Heads, IsOrMemory, IsWhole, has_event, is_event}

-- before the first
pub none_read : (all : List TurnRecord) (bytes : List ℕ) → EndWith true all bytes → AreLeft all [] bytes
none_read all bytes ends = record { first = true; left = all; all_are = refl; end_with = ends }

-- at a closed gate none are left
pub all_read : (all read : List TurnRecord) (bytes : List ℕ) (gate : ℕ) (after : List ℕ) → AreLeft all read bytes
    → bytes ≡ gate ∷ after → gate ≡ 0 → read ≡ all
all_read all read bytes gate after are is shut = by_left are.left are.all_are are.end_with
  where
    by_left : (left : List TurnRecord) → all ≡ read ++ left → EndWith are.first left bytes → read ≡ all
    by_left [] all_are ends = sym (all_are ∙ append-nil read)
    by_left (entry ∷ left) all_are ends =
        let begins = ends.records_are.1 in
        let same : begins.gate ∷ ((begins.text ++ ends.records_are.0) ++ 0 ∷ []) ≡ gate ∷ after =
        sym (ap (λ (run : List ℕ). run ++ 0 ∷ []) begins.whole) ∙ (sym ends.whole ∙ is) in
        let gates : begins.gate ≡ gate = cc in
        absurd (omega (arith, begins.is_open, gates, shut))

-- the record that is next, and what follows it
pub record Follows (all read : List TurnRecord) (after : List ℕ) : Type 0 where
  pub entry : TurnRecord
  pub rest : List ℕ
  pub allowed : IsRecord entry
  pub spelled : after ≡ record_bytes entry ++ rest
  pub are_left : AreLeft all (read ++ entry ∷ []) rest

pub one_follows : (all read : List TurnRecord) (bytes : List ℕ) (gate : ℕ) (after : List ℕ) → AreLeft all read bytes
    → bytes ≡ gate ∷ after → gate ≢ 0 → Follows all read after
one_follows all read bytes gate after are is is_open = by_left are.left are.all_are are.end_with
  where
    by_left : (left : List TurnRecord) → all ≡ read ++ left → EndWith are.first left bytes → Follows all read after
    by_left [] all_are ends =
        let same : 0 ∷ [] ≡ gate ∷ after =
        sym (ap (λ (run : List ℕ). run ++ 0 ∷ []) ends.records_are) ∙ (sym ends.whole ∙ is) in
        let gates : 0 ≡ gate = cc in
        absurd (is_open (sym gates))
    by_left (entry ∷ left) all_are ends =
        let more = ends.records_are.0 in
        let begins = ends.records_are.1 in
        let same : begins.gate ∷ ((begins.text ++ more) ++ 0 ∷ []) ≡ gate ∷ after =
        sym (ap (λ (run : List ℕ). run ++ 0 ∷ []) begins.whole) ∙ (sym ends.whole ∙ is) in
        let tails : (begins.text ++ more) ++ 0 ∷ [] ≡ after = cc in
        record {
          entry = entry;
          rest = more ++ 0 ∷ [];
          allowed = begins.spells.allowed;
          spelled =
              sym tails ∙ (append_assoc begins.text more (0 ∷ []) ∙ ap
              (λ (text : List ℕ). text ++ (more ++ 0 ∷ [])) begins.spells.text);
          are_left = record {
            first = false;
            left = left;
            all_are = all_are ∙ sym (append_assoc read (entry ∷ []) left);
            end_with = record { run = more; records_are = ends.records_are.2; whole = refl };
          };
        }

-- the record that was read is that one
pub goes_on : (all read : List TurnRecord) (after : List ℕ) (entry : TurnRecord) (rest : List ℕ)
    (follows : Follows all read after)
    → read_as follows.entry follows.rest ≡ Some (entry, rest) → AreLeft all (read ++ entry ∷ []) rest
goes_on all read after entry rest follows is =
    let next : TurnRecord × List ℕ = (follows.entry, follows.rest) in
    let found : TurnRecord × List ℕ = (entry, rest) in
    subst (λ (pair : TurnRecord × List ℕ). AreLeft all (read ++ pair.0 ∷ []) pair.1)
    (some_is next found is) follows.are_left

-- the bytes do not end before a closed gate
pub never_ends : (all read : List TurnRecord) (bytes : List ℕ) → AreLeft all read bytes → length bytes ≡ 0 → ⊥
never_ends all read bytes are empty =
    let ends = are.end_with in
    omega (arith, empty, ap length ends.whole, length-append ends.run (0 ∷ []))

-- no refusal comes where a record is next
pub never_refused : (all read : List TurnRecord) (after : List ℕ) (follows : Follows all read after) (why : Unread)
    → why ≡ unread.Refused → Fails why (read_as follows.entry follows.rest) → ⊥
never_refused all read after follows unread.Refused refused is = absurd (cc is)
never_refused all read after follows unread.Memory refused is = absurd (cc refused)

-- ---- the bytes of reads

both : (a b : Bool) → a ≡ true → b ≡ true → (a && b) ≡ true
both true b is other = other
both false b is other = absurd (cc is)

event_is : (event : TurnEvent) → IsEvent event → is_event event ≡ true
event_is Listen allowed = refl
event_is Idle allowed = refl
event_is (Opened link) allowed = refl
event_is (Read link bytes) allowed =
    both (nat_lt 0 (length bytes)) (nat_le (length bytes) piece_limit) (lt-ltb 0 (length bytes) allowed.1.0)
    (le-leb (length bytes) piece_limit allowed.1.1)
event_is (Ended link) allowed = refl
event_is (Broken link) allowed = refl
event_is (Room link) allowed = refl

pub events_more : (read : List TurnRecord) (entry : TurnRecord) → list_all has_event read ≡ true → IsRecord entry
    → list_all has_event (read ++ entry ∷ []) ≡ true
events_more read entry so_far allowed =
    list_all-append has_event read (entry ∷ []) ∙ both (list_all has_event read)
    (list_all has_event (entry ∷ [])) so_far (both (has_event entry) true (event_is entry.event allowed.event) refl)

-- ---- the whole journal

pub record WholeParts (journal : Journal) (bytes : List ℕ) : Type 0 where
  pub more : List ℕ
  pub heads : Heads bytes journal.config more
  pub end_with : EndWith true journal.records more

pub whole_parts : (journal : Journal) (bytes : List ℕ) → IsWhole journal bytes → WholeParts journal bytes
whole_parts journal bytes is =
    let begins = is.begins in
    record {
      more = begins.run ++ 0 ∷ [];
      heads = record {
        gate = begins.gate;
        small = omega (arith, begins.small);
        whole =
            is.whole ∙ (ap (λ (front : List ℕ). front ++ 0 ∷ []) begins.whole ∙ ap
            (λ (rest : List ℕ). begins.gate ∷ rest) (append_assoc (head_bytes journal.config) begins.run (0 ∷ [])));
      };
      end_with = record { run = begins.run; records_are = begins.records; whole = refl };
    }

pub same_fault : {X Y : Type 0} (a : X) (b : Y) (why : JournalFault) → IsOrMemory a (Err why) → IsOrMemory b (Err why)
same_fault a b (fault.Refused place) is = absurd is
same_fault a b fault.DiskFault is = absurd is
same_fault a b fault.Memory is = tt

pub pair_is : {X : Type 0} (config config' : List ℕ) (records records' : X) → config ≡ config' → records ≡ records'
    → ◌≡◌ {A = List ℕ × X} (config, records) (config', records')
pair_is {X} config config' records records' same other =
    subst (λ (c : List ℕ). ◌≡◌ {A = List ℕ × X} (config, records) (c, records')) same
    (ap (λ (r : X). let pair : List ℕ × X = (config, r) in pair) other)
