-- What beginning a journal makes of a file, and what a crash may make of it.
use Rattle.std.proofs.Common.{◌≡◌, inl, inr, ℕ, ◌+◌, ◌<◌, ◌≤◌, true, false, List, [], ◌∷◌, ◌++◌, length, take, drop}
use Rattle.std.proofs.Common.{Option, Some, None, Result, Ok, Err, IfErr, IfOk, OnOk, refl, sym, ap, subst, ◌∙◌}
use Rattle.std.proofs.Common.{append_assoc, append-nil, length-append, length-take, arith}
use Rattle.std.specs.Int.{w32, to_be_bytes}
use Rattle.std.specs.Option.{ForSome, option_map}
use Rattle.std.proofs.lemmas.Bool.{cases_eq}
use Rattle.std.proofs.lemmas.List.{take-append-drop}
use Rattle.std.proofs.lemmas.Option.{same_Some}
use Rattle.disk_port.specs.Past.{LeavesOnly, Past, TearsOnly, Torn, put, synced, text_of, written}
use Rattle.disk_port.specs.Calls.{IsReadAt}
use Rattle.disk_port.proofs.PastLaws.{begins, then_more, weaker}
use Rattle.journal_format.specs.Limits.{config_limit}
use Rattle.journal_format.specs.Journals.{HoldsAt, Journal, blank, head_bytes}
use Rattle.journal_format.specs.declared.finder.Found.{Found}
use Rattle.turn_journal.specs.Beginning.{BeginsOnly, HoldsBlankOrFree, IsClosed, IsFirst, IsFree, IsOfDisk, IsShort}
use Rattle.turn_journal.specs.Beginning.{IsWhyTaken, LeavesAfterSync, StandsBlank, blank_bytes, blank_end, blank_past}
use Rattle.turn_journal.specs.Beginning.{closed_past, headed_past, is_taken}
use Rattle.turn_journal.specs.Loading.{IsSyncedOrNot}
use Rattle.turn_journal.specs.Standing.{IsReady, Stands, Told}
use Rattle.turn_journal.specs.declared.begin.First.{First}
use Rattle.turn_journal.specs.declared.begin.First.TheVariants.{Short, Closed, Taken}
use Rattle.turn_journal.specs.declared.fault.JournalFault.{JournalFault}
use Rattle.turn_journal.specs.declared.fault.JournalFault.TheVariants.{Refused, DiskFault, Memory}
use Rattle.turn_journal.proofs.AppendLaws.{place_then, put_gate, torn_gate}

-- ---- the first bytes of a file

closed_free : (rest : List ℕ) → is_taken (0 ∷ rest) ≡ false
closed_free [] = refl
closed_free (next ∷ rest) = refl

pub free_if_closed : (file : List ℕ) → IsClosed file → is_taken file ≡ false
free_if_closed file (rest, is) = ap is_taken is ∙ closed_free rest

pub free_if_short : (file : List ℕ) → IsShort file → is_taken file ≡ false
free_if_short [] short = refl
free_if_short (gate ∷ []) short = refl
free_if_short (gate ∷ next ∷ rest) short = absurd (omega (arith, short))

taken_more : (part more : List ℕ) → is_taken part ≡ true → is_taken (part ++ more) ≡ true
taken_more [] more taken = absurd cc
taken_more (gate ∷ []) more taken = absurd cc
taken_more (gate ∷ next ∷ rest) more taken = taken

-- what is known of the first bytes that were read is known of the file
pub first_of_file : (count : ℕ) (buf text : List ℕ) (first : First) → length buf ≡ 2 → IsReadAt 0 text count buf
    → IsFirst (take count buf) first → IsFirst text first
first_of_file count buf text Short two read short = omega (arith, two, read.number, short, length-take count buf)
first_of_file count buf text Closed two read (rest, is) = (
  rest ++ drop count text,
  sym (take-append-drop count text) ∙ ap (λ (t : List ℕ). t ++ drop count text) (sym read.bytes ∙ is),
)
first_of_file count buf text Taken two read taken =
    let part : is_taken (take count text) ≡ true = ap is_taken (sym read.bytes) ∙ taken in
    ap is_taken (sym (take-append-drop count text)) ∙ taken_more (take count text) (drop count text) part

-- ---- the three writes

short_torn : (file image : List ℕ) → IsShort file → Torn 0 1 file image → is_taken image ≡ false
short_torn file image short torn = free_if_short image (omega (arith, short, torn.no_longer))

head_torn : (count : ℕ) (file image : List ℕ) → IsClosed file → Torn 1 count file image → is_taken image ≡ false
head_torn count file [] closed torn = refl
head_torn count file (gate ∷ rest) (after, is) torn =
    let front : gate ∷ [] ≡ 0 ∷ [] = torn.before ∙ ap (take 1) is in
    let shut : gate ≡ 0 = cc in
    ap (λ (b : ℕ). is_taken (b ∷ rest)) shut ∙ closed_free rest

-- what follows the head and its gate
abbrev tail_of : List ℕ → List ℕ → List ℕ
tail_of config file = drop (1 + length (blank_bytes config)) file

headed_text : (config file : List ℕ) → IsClosed file
    → put 1 (blank_bytes config) file ≡ 0 ∷ (head_bytes config ++ 0 ∷ tail_of config file)
headed_text config file (rest, is) =
    let tail = tail_of config file in
    ap (λ (t : List ℕ). t ++ (blank_bytes config ++ tail)) (ap (take 1) is)
    ∙ ap (λ (t : List ℕ). 0 ∷ t) (append_assoc (head_bytes config) (0 ∷ []) tail)

holds_blank : (config tail : List ℕ) (gate : ℕ) → 0 < gate → length config ≤ config_limit
    → HoldsAt (blank config) (length config + 5) (gate ∷ (head_bytes config ++ 0 ∷ tail))
holds_blank config tail gate is_open small =
    let four : length (to_be_bytes w32 (length config)) ≡ 4 = refl in
    record {
      front = gate ∷ head_bytes config;
      rest = tail;
      begins = record {
        gate = gate;
        run = [];
        is_open = is_open;
        small = small;
        records = refl;
        whole = ap (λ (t : List ℕ). gate ∷ t) (sym (append-nil (head_bytes config)));
      };
      whole = refl;
      gate = omega (arith, four, length-append (to_be_bytes w32 (length config)) config);
      limit = omega (arith, small);
    }

-- with any byte at the first gate
blank_or_free : (config tail : List ℕ) (gate : ℕ) → length config ≤ config_limit
    → HoldsBlankOrFree config (gate ∷ (head_bytes config ++ 0 ∷ tail))
blank_or_free config tail gate small = elim (cases_eq gate 0) [
  | inl shut ↦
      inr (ap (λ (b : ℕ). is_taken (b ∷ (head_bytes config ++ 0 ∷ tail))) shut
      ∙ closed_free (head_bytes config ++ 0 ∷ tail))
  | inr not_shut ↦ inl (length config + 5, holds_blank config tail gate (omega (arith, not_shut)) small)
]

opened_torn : (config file image : List ℕ) → length config ≤ config_limit → IsClosed file
    → Torn 0 1 (put 1 (blank_bytes config) file) image → HoldsBlankOrFree config image
opened_torn config file image small closed torn =
    let after = head_bytes config ++ 0 ∷ tail_of config file in
    let t =
    torn_gate [] after 0 refl 0 image
    (subst (λ (text : List ℕ). Torn 0 1 text image) (headed_text config file closed) torn) in
    subst (HoldsBlankOrFree config) (sym t.1) (blank_or_free config (tail_of config file) t.0 small)

blank_text : (config file : List ℕ) → IsClosed file
    → put 0 (1 ∷ []) (put 1 (blank_bytes config) file) ≡ 1 ∷ (head_bytes config ++ 0 ∷ tail_of config file)
blank_text config file closed =
    ap (put 0 (1 ∷ [])) (headed_text config file closed)
    ∙ put_gate [] (head_bytes config ++ 0 ∷ tail_of config file) 0 refl 0 1

pub stands_blank : (config : List ℕ) (past : Past) → length config ≤ config_limit → IsClosed (text_of past)
    → Stands (blank_past config past) (length config + 5) false (blank config)
stands_blank config past small closed = record {
  rests = λ image leaves. leaves;
  holds =
      subst (HoldsAt (blank config) (length config + 5)) (sym (blank_text config (text_of past) closed))
      (holds_blank config (tail_of config (text_of past)) 1 (omega arith) small);
  blank = refl;
}

closed_text : (file : List ℕ) → put 0 (0 ∷ []) file ≡ 0 ∷ drop 1 file
closed_text file = refl

pub closes : (past : Past) → IsClosed (text_of (closed_past past))
closes past = (drop 1 (text_of past), closed_text (text_of past))

-- ---- a crash in them

pub head_only : (config : List ℕ) (count : ℕ) (old mid : Option Past) → ForSome old (λ past. TearsOnly 1 count past mid)
    → BeginsOnly IsClosed config old mid
head_only config count old mid tears past is rests closed =
    let t = tears past is rests in (
      t.0,
      t.1,
      weaker past t.0 (Torn 1 count (text_of past)) (HoldsBlankOrFree config)
          (λ image torn. inr (head_torn count (text_of past) image closed torn)) t.2,
    )

pub close_only : (config : List ℕ) (old mid : Option Past) → ForSome old (λ past. TearsOnly 0 1 past mid)
    → BeginsOnly IsShort config old mid
close_only config old mid tears past is rests short =
    let t = tears past is rests in (
      t.0,
      t.1,
      weaker past t.0 (Torn 0 1 (text_of past)) (HoldsBlankOrFree config)
          (λ image torn. inr (short_torn (text_of past) image short torn)) t.2,
    )

open_only : (config : List ℕ) (old mid new : Option Past) → length config ≤ config_limit
    → mid ≡ option_map (headed_past config) old → ForSome mid (λ past. TearsOnly 0 1 past new)
    → ForSome old
    (λ past. IsClosed (text_of past)
    → Told new (λ now. LeavesOnly (headed_past config past) now (HoldsBlankOrFree config)))
open_only config old mid new small mid_is tears past is closed =
    let headed = headed_past config past in
    let t = tears headed (mid_is ∙ ap (option_map (headed_past config)) is) (λ image leaves. leaves) in (
      t.0,
      t.1,
      weaker headed t.0 (Torn 0 1 (text_of headed)) (HoldsBlankOrFree config)
          (λ image torn. opened_torn config (text_of past) image small closed torn) t.2,
    )

-- one step, and then what it leads to
then_steps : (old mid new : Option Past) (f : Past → Past) (P : List ℕ → Type 0) → mid ≡ option_map f old
    → (past : Past) → old ≡ Some past → Told mid (λ now. LeavesOnly past now P)
    → Told new (λ now. LeavesOnly (f past) now P) → Told new (λ now. LeavesOnly past now P)
then_steps old mid new f P mid_is past is first second =
    let same : first.0 ≡ f past = same_Some first.0 (f past) (sym first.1 ∙ mid_is ∙ ap (option_map f) is) in (
      second.0,
      second.1,
      then_more past first.0 second.0 P first.2
          (subst (λ (from : Past). LeavesOnly from second.0 P) (sym same) second.2),
    )

pub both_only : (config : List ℕ) (count : ℕ) (old mid new : Option Past) → length config ≤ config_limit
    → mid ≡ option_map (headed_past config) old
    → ForSome old (λ past. TearsOnly 1 count past mid) → ForSome mid (λ past. TearsOnly 0 1 past new)
    → BeginsOnly IsClosed config old new
both_only config count old mid new small mid_is tears tears_gate past is rests closed =
    then_steps old mid new (headed_past config) (HoldsBlankOrFree config) mid_is past is
    (head_only config count old mid tears past is rests closed)
    (open_only config old mid new small mid_is tears_gate past is closed)

pub close_then : (config : List ℕ) (old mid new : Option Past) → mid ≡ option_map closed_past old
    → ForSome old (λ past. TearsOnly 0 1 past mid) → BeginsOnly IsClosed config mid new
    → BeginsOnly IsShort config old new
close_then config old mid new mid_is tears clause past is rests short =
    then_steps old mid new closed_past (HoldsBlankOrFree config) mid_is past is
    (close_only config old mid tears past is rests short)
    (clause (closed_past past) (mid_is ∙ ap (option_map closed_past) is) (λ image leaves. leaves) (closes past))

-- ---- the equations of what was done

pub done_twice : {T E : Type 0} (answer : Result T E) (f g : Past → Past) (old mid new : Option Past)
    → mid ≡ option_map f old → OnOk answer (new ≡ option_map g mid)
    → OnOk answer (new ≡ option_map (λ past. g (f past)) old)
done_twice (Ok value) f g None mid new mid_is new_is = new_is ∙ ap (option_map g) mid_is
done_twice (Ok value) f g (Some past) mid new mid_is new_is = new_is ∙ ap (option_map g) mid_is
done_twice (Err error) f g old mid new mid_is new_is = tt

pub closed_long : (past : Past) → IsClosed (text_of past) → 1 ≤ length (text_of past)
closed_long past (rest, is) = omega (arith, ap length is)

pub always : (past : Past) → Unit {0} → 1 ≤ length (text_of (closed_past past))
always past nothing = closed_long (closed_past past) (closes past)

-- ---- all of it

module _ (config : List ℕ) (old new : Option Past) (P : List ℕ → Type 0) (f : Past → Past)
    (first : ForSome old (λ past. P (text_of past)))
    (stands : (past : Past) → P (text_of past) → Stands (f past) (length config + 5) false (blank config)) where
  pub begun_ok : {E : Type 0} (answer : Result Found E) → OnOk answer (new ≡ option_map f old)
      → IfOk answer (λ found. found ≡ blank_end config)
      → IfOk answer (λ found. ForSome old (λ _. StandsBlank config found new))
  begun_ok (Ok found) new_is end = λ past is. (
    f past,
    new_is ∙ ap (option_map f) is,
    subst (λ (e : Found). Stands (f past) e.gate e.has_record (blank config)) (sym end) (stands past (first past is)),
  )
  begun_ok (Err error) new_is end = tt

  pub begun_ready : {E : Type 0} (answer : Result Found E) → OnOk answer (new ≡ option_map f old)
      → IfOk answer (λ found. found ≡ blank_end config) → IfOk answer (λ found. IsReady new found.gate found.has_record)
  begun_ready (Ok found) new_is end =
      place_then f (λ past. P (text_of past))
      (λ past. (journal : Journal) × Stands past found.gate found.has_record journal) old new
      (λ past is. (
        blank config,
        subst (λ (e : Found). Stands (f past) e.gate e.has_record (blank config)) (sym end) (stands past is),
      )) new_is first
  begun_ready (Err error) new_is end = tt

-- where the file closes first
pub stands_short : (config : List ℕ) → length config ≤ config_limit → (past : Past) → IsShort (text_of past)
    → Stands (blank_past config (closed_past past)) (length config + 5) false (blank config)
stands_short config small past short = stands_blank config (closed_past past) small (closes past)

pub stands_closed : (config : List ℕ) → length config ≤ config_limit → (past : Past) → IsClosed (text_of past)
    → Stands (blank_past config past) (length config + 5) false (blank config)
stands_closed config small past closed = stands_blank config past small closed

-- of a file that is known to have P
module _ (P : List ℕ → Type 0) (free : (file : List ℕ) → P file → IsFree file) (old new : Option Past)
    (first : ForSome old (λ past. P (text_of past))) where
  pub free_unwritten : ForSome old (λ past. is_taken (text_of past) ≡ true → new ≡ old)
  free_unwritten past is taken = let known = free (text_of past) (first past is) in absurd cc

  pub free_if_ok : {T E : Type 0} (answer : Result T E) → OnOk answer (ForSome old (λ past. IsFree (text_of past)))
  free_if_ok (Ok value) = λ past is. free (text_of past) (first past is)
  free_if_ok (Err error) = tt

  pub free_only : (config : List ℕ) → BeginsOnly P config old new → BeginsOnly IsFree config old new
  free_only config clause past is rests known = clause past is rests (first past is)

-- a fault of the disk refuses nothing
pub disk_why : {T : Type 0} (answer : Result T JournalFault) (old : Option Past) → IfErr answer IsOfDisk
    → IfErr answer (λ fault. ForSome old (λ past. IsWhyTaken (text_of past) fault))
disk_why (Ok value) old why = tt
disk_why (Err (Refused place)) old why = absurd why
disk_why (Err DiskFault) old why = λ past is. tt
disk_why (Err Memory) old why = λ past is. tt

-- a file that is refused is left as it is
pub taken_only : (config : List ℕ) (old : Option Past) → ForSome old (λ past. is_taken (text_of past) ≡ true)
    → BeginsOnly IsFree config old old
taken_only config old first past is rests known = let taken = first past is in absurd cc

-- ---- the same after the first sync

module _ (config : List ℕ) (old mid new : Option Past) (mid_is : mid ≡ option_map synced old) where
  abbrev told : (past : Past) → old ≡ Some past → mid ≡ Some (synced past)
  told past is = mid_is ∙ ap (option_map synced) is

  pub synced_ok : {E : Type 0} (answer : Result Found E)
      → IfOk answer (λ found. ForSome mid (λ _. StandsBlank config found new))
      → IfOk answer (λ found. ForSome old (λ _. StandsBlank config found new))
  synced_ok (Ok found) clause = λ past is. clause (synced past) (told past is)
  synced_ok (Err error) clause = tt

  pub synced_free : {T E : Type 0} (answer : Result T E) → OnOk answer (ForSome mid (λ past. IsFree (text_of past)))
      → OnOk answer (ForSome old (λ past. IsFree (text_of past)))
  synced_free (Ok found) clause = λ past is. clause (synced past) (told past is)
  synced_free (Err error) clause = tt

  pub synced_why : {T : Type 0} (answer : Result T JournalFault)
      → IfErr answer (λ fault. ForSome mid (λ past. IsWhyTaken (text_of past) fault))
      → IfErr answer (λ fault. ForSome old (λ past. IsWhyTaken (text_of past) fault))
  synced_why (Ok found) clause = tt
  synced_why (Err fault) clause = λ past is. clause (synced past) (told past is)

  pub synced_unwritten : ForSome mid (λ past. is_taken (text_of past) ≡ true → new ≡ mid)
      → ForSome old (λ past. is_taken (text_of past) ≡ true → IsSyncedOrNot old new)
  synced_unwritten clause past is taken = inr (clause (synced past) (told past is) taken ∙ mid_is)

  pub synced_only : BeginsOnly IsFree config mid new
      → ForSome old (λ past. IsFree (text_of past) → LeavesAfterSync past new (HoldsBlankOrFree config))
  synced_only clause past is free = inr (clause (synced past) (told past is) (λ image leaves. leaves) free)

-- a sync changes nothing that is read
pub unsynced_first : {E : Type 0} (answer : Result First E) (old mid : Option Past) → mid ≡ option_map synced old
    → IfOk answer (λ first. ForSome mid (λ past. IsFirst (text_of past) first))
    → IfOk answer (λ first. ForSome old (λ past. IsFirst (text_of past) first))
unsynced_first (Ok first) old mid mid_is clause = λ past is. clause (synced past) (mid_is ∙ ap (option_map synced) is)
unsynced_first (Err error) old mid mid_is clause = tt

pub synced_first : (old mid : Option Past) (first : First) → mid ≡ option_map synced old
    → ForSome old (λ past. IsFirst (text_of past) first) → ForSome mid (λ past. IsFirst (text_of past) first)
synced_first old mid first mid_is known =
    place_then synced (λ past. IsFirst (text_of past) first) (λ past. IsFirst (text_of past) first) old mid
    (λ past is. is) mid_is known

-- nothing but that sync, if that
pub synced_or_not : (config : List ℕ) (old new : Option Past) → IsSyncedOrNot old new
    → ForSome old (λ past. IsFree (text_of past) → LeavesAfterSync past new (HoldsBlankOrFree config))
synced_or_not config old new (inl same) past is free = inl (same ∙ is)
synced_or_not config old new (inr done) past is free =
    inr (
      synced past,
      done ∙ ap (option_map synced) is,
      begins (synced past) (HoldsBlankOrFree config) (λ image leaves. inr (ap is_taken leaves ∙ free)),
    )

-- ---- the bytes that are written

pub same_done : {T E : Type 0} (answer : Result T E) (place : ℕ) (bytes other : List ℕ) (old new : Option Past)
    → bytes ≡ other
    → OnOk answer (new ≡ option_map (λ past. synced (written place bytes past)) old)
    → OnOk answer (new ≡ option_map (λ past. synced (written place other past)) old)
same_done answer place bytes other old new is clause =
    subst (λ (b : List ℕ). OnOk answer (new ≡ option_map (λ past. synced (written place b past)) old)) is clause

pub same_tears : (place : ℕ) (bytes other : List ℕ) (old new : Option Past) → bytes ≡ other
    → ForSome old (λ past. TearsOnly place (length bytes) past new)
    → ForSome old (λ past. TearsOnly place (length other) past new)
same_tears place bytes other old new is clause =
    subst (λ (b : List ℕ). ForSome old (λ past. TearsOnly place (length b) past new)) is clause
