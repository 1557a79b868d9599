-- What is said of all calls of links that resume a journal.
use Rattle.std.proofs.Common.{◌≡◌, ◌⊎◌, ℕ, true, false, List, [], ◌++◌, drop, length, refl, sym, ap, subst, ◌∙◌}
use Rattle.disk_port.specs.Calls.{DiskReport}
use Rattle.disk_port.specs.Past.{Past, synced}
use Rattle.std.specs.Prelude.{Some}
use Rattle.journal_format.specs.Journals.{Journal}
use Rattle.journal_format.specs.declared.finder.Found.{Found}
use Rattle.journal_format.specs.declared.turn_record.TurnRecord.{TurnRecord}
use Rattle.journal_links.specs.Resuming.{Resumes}
use Rattle.journal_links.specs.Steps.{CloseOf, NextOf, Progress, SendOf, close_again, close_passed, last_secs}
use Rattle.journal_links.specs.Steps.{next_again, next_broken, next_inner, next_unasked, progress_of, send_again}
use Rattle.journal_links.specs.Steps.{send_memory, send_passed}
use Rattle.journal_links.specs.Turns.{AreTurns, BeginsWithListen, PlainTurn, handed, turns_in}
use Rattle.journal_links.proofs.KeepLaws.{resumed_keeps}
use Rattle.ports.specs.Calls.{LinksReport}
use Rattle.ports.specs.Links.{next_entries}
use Rattle.ports.specs.declared.entry.Entry.{Entry}
use Rattle.ports.specs.declared.links.SendAnswer.{SendAnswer}
use Rattle.ports.specs.declared.links.Turn.{Turn}
use Rattle.ports.specs.declared.links.Want.{Want}
use Rattle.recorded_links.specs.Keeping.{Kept, is_recorded, kept_of}
use Rattle.recorded_links.specs.Noting.{Noted, noted}
use Rattle.recorded_links.specs.Steps.{OwnStep, Seen}
use Rattle.recorded_links.proofs.NoteLaws.{close_noted, send_noted}
use Rattle.recorded_links.specs.Giving.{MayFollow}
use Rattle.recorded_links.specs.Lending.{Keeps, Lent}
use Rattle.recorded_links.specs.Making.{handed_out, then_closed, then_sent}
use Rattle.recorded_links.specs.Recording.{AreRecorded, with_records}
use Rattle.recorded_links.proofs.CallLaws.{keeps_handed}
use Rattle.recorded_links.proofs.JournalLaws.{keeps_same}
use Rattle.journal_links.specs.Asking.{AsksFor}
use Rattle.journal_links.specs.Laws.{CallsArePassed, LastTurnIsKept, TurnsAreRecorded}
use Rattle.journal_links.specs.Making.{State}
use Rattle.journal_links.specs.Recording.{BeginAgain, MayResume, later_records, records_after}
use Rattle.journal_links.proofs.OwnLaws.{broken_at, own_handed}
use Rattle.journal_links.proofs.SplitLaws.{Splits, begin_so, later_is, splits_after, splits_again}
use Rattle.journal_links.proofs.TraceLaws.{Traces, first_made, traces_made}
use Rattle.turn_journal.specs.Standing.{Stands, Told}

-- what was lent, whose names do not matter
abbrev lent_so : Found → LinksReport → DiskReport → Lent
lent_so found links disk = record { links_name = 0; disk_name = 0; links = links; disk = disk; found = found }

-- ---- the turns of the journal that was loaded

record Loaded (records : List TurnRecord) : Type 0 where
  first : BeginsWithListen records
  others : AreTurns records

loaded : (past : Past) (config : List ℕ) (found : Found) (records : List TurnRecord)
    → Resumes past found config records → Loaded records
loaded past config found records resumes =
    let all = resumed_keeps past config (kept_of (Some (synced past)) found.gate found.has_record)
    (progress_of records 0 [] []) refl refl resumes in
    record { first = all.first; others = all.others }

-- the calls handed out the turns of the journal, and these records after them
later_so : (past : Past) (config : List ℕ) (found : Found) (records : List TurnRecord) (progress : Progress)
    (calls later : List Entry) (resumes : Resumes past found config records) → progress.records ≡ records
    → Splits progress calls later → (noted later).records ≡ later_records resumes.journal calls
later_so past config found records progress calls later resumes same splits =
    later_is progress calls later splits
    ∙ ap (λ (records : List TurnRecord). records_after (length records) calls) (same ∙ resumes.records_are)

again_so : (past : Past) (config : List ℕ) (found : Found) (records : List TurnRecord) (progress : Progress)
    (calls later : List Entry) (resumes : Resumes past found config records) → progress.records ≡ records
    → Splits progress calls later → BeginAgain resumes.journal calls
again_so past config found records progress calls later resumes same splits =
    let known = loaded past config found records resumes in
    subst
    (λ (records : List TurnRecord). ((rest : List PlainTurn) × (turns_in records ≡ handed calls ++ rest))
    ⊎ ((rest : List PlainTurn) × (handed calls ≡ turns_in records ++ rest)))
    (same ∙ resumes.records_are)
    (begin_so progress calls later splits (subst BeginsWithListen (sym same) known.first)
    (subst AreTurns (sym same) known.others))

pub turns_recorded : TurnsAreRecorded
turns_recorded past config found records links disk calls now made told resumes =
    let lent = lent_so found links disk in
    let all = traces_made lent records calls now made in
    let kept = (all.keeps).journal resumes.journal (synced past) told resumes.stands in (
      kept.now,
      kept.reported,
      (
        record {
          again = again_so past config found records now.progress calls all.later resumes all.records_are all.splits;
          recorded =
              subst (λ (entries : List TurnRecord). AreRecorded resumes.journal (synced past)
              (later_records resumes.journal calls) (MayResume entries now.seen.inner) kept.now) resumes.records_are
              (subst (λ (first : ℕ). AreRecorded resumes.journal (synced past) (later_records resumes.journal calls)
              (MayFollow (Some (last_secs records)) first now.seen.inner) kept.now)
              (first_made lent records calls now made)
              (subst (λ (turns : List TurnRecord). AreRecorded resumes.journal (synced past) turns
              (MayFollow (Some (last_secs records)) now.seen.first now.seen.inner) kept.now)
              (later_so past config found records now.progress calls all.later resumes all.records_are all.splits)
              kept.recorded));
        },
        λ live. subst (λ (turns : List TurnRecord). Stands kept.now now.seen.kept.gate now.seen.kept.has_record
            (with_records resumes.journal turns))
            (later_so past config found records now.progress calls all.later resumes all.records_are all.splits)
            (kept.stands live),
      ),
    )

pub calls_passed : CallsArePassed
calls_passed found records links disk calls now made =
    let lent = lent_so found links disk in
    let all = traces_made lent records calls now made in
    record {
      later = all.later;
      later_are = later_is now.progress calls all.later all.splits
          ∙ ap (λ (records : List TurnRecord). records_after (length records) calls) all.records_are;
      asked = all.asked;
      adds = all.adds;
      asks =
          subst (λ (first : ℕ). AsksFor first (last_secs records) calls all.later all.asked)
          (first_made lent records calls now made) all.asks;
    }

-- ---- the last turn

-- a turn was handed out, whether or not the links are spent after it
record Handed (first : ℕ) (lent : Lent) (records : List TurnRecord) (calls : List Entry) (now : State) : Type 0 where
  later : List Entry
  splits : Splits now.progress calls later
  keeps : Keeps lent (MayFollow (Some (last_secs records)) first now.seen.inner) later now.seen.kept now.seen.sends
      false
  records_are : now.progress.records ≡ records

handed_one : (lent : Lent) (records : List TurnRecord) (calls calls' : List Entry) (old now : State)
    (wants : List Want) (buf : List ℕ) (turn : Turn)
    → Traces old.seen.first lent records calls old.seen old.progress → calls' ≡ calls ++ next_entries wants buf turn
    → NextOf old.seen now.seen old.progress now.progress wants buf turn → is_recorded turn.what ≡ true
    → Handed old.seen.first lent records calls' now
handed_one lent records calls calls' old now wants buf turn all log (next_unasked over why memory rests stays)
    recorded =
    absurd (cc (ap is_recorded memory, recorded))
handed_one lent records calls calls' old now wants buf turn all log (next_again over gives) recorded =
    let sends_are : (noted all.later).sends ≡ old.seen.sends = (all.keeps).sends_are in
    record {
      later = all.later;
      splits = splits_again old.seen now.seen old.progress now.progress wants buf turn calls calls' all.later all.splits
          log over gives;
      keeps =
          keeps_same lent (MayFollow (Some (last_secs records)) old.seen.first old.seen.inner)
          (MayFollow (Some (last_secs records)) old.seen.first now.seen.inner)
          all.later all.later old.seen.kept now.seen.kept old.seen.sends now.seen.sends old.seen.spent
          false all.keeps refl (sends_are ∙ sym (gives.rests).sends) (gives.rests).kept
          (λ was. absurd (cc (gives.unspent, was))) (λ was. absurd (cc (gives.unspent, was)));
      records_are = gives.records ∙ all.records_are;
    }
handed_one lent records calls calls' old now wants buf turn all log (next_broken over broken) recorded = record {
  later = all.later ++ next_entries wants buf turn;
  splits = splits_after old.progress now.progress calls calls' all.later (next_entries wants buf turn) all.splits log
      over broken.records broken.given;
  keeps =
      own_handed lent all.later (all.later ++ next_entries wants buf turn) old.seen now.seen wants buf turn
      (last_secs records) broken.link false all.keeps refl
      (subst (λ (secs : ℕ). OwnStep old.seen now.seen (broken_at secs broken.link) turn) (ap last_secs all.records_are)
      broken.gives) recorded;
  records_are = broken.records ∙ all.records_are;
}
handed_one lent records calls calls' old now wants buf turn all log (next_inner over none step stays) recorded =
    record {
      later = all.later ++ next_entries wants buf turn;
      splits =
          splits_after old.progress now.progress calls calls' all.later (next_entries wants buf turn) all.splits log
          over stays.records stays.given;
      keeps =
          keeps_handed lent (Some (last_secs records)) all.later (all.later ++ next_entries wants buf turn)
          old.seen now.seen wants buf turn false
          all.keeps refl step recorded;
      records_are = stays.records ∙ all.records_are;
    }

-- the turns of the journal were handed out again, and the journal with these records more is on the disk
abbrev IsThere : Journal → List TurnRecord → Kept → Type 0
IsThere journal noted_records kept =
    (((rest : List PlainTurn) × (turns_in journal.records ≡ turns_in noted_records ++ rest))
    ⊎ ((rest : List PlainTurn) × (turns_in noted_records ≡ turns_in journal.records ++ rest)))
    × Told kept.past (λ file. Stands file kept.gate kept.has_record
    (with_records journal (drop (length journal.records) noted_records)))

still_there : (journal : Journal) (entries entries' : List TurnRecord) (kept kept' : Kept) → entries' ≡ entries
    → kept' ≡ kept → IsThere journal entries kept → IsThere journal entries' kept'
still_there journal entries entries' kept kept' entries_are kept_is there =
    subst (λ (entries : List TurnRecord). IsThere journal entries kept') (sym entries_are)
    (subst (IsThere journal entries) (sym kept_is) there)

kept_send : (old new : Seen) (was is : Progress) (link : ℕ) (bytes : List ℕ) (answer : SendAnswer)
    → SendOf old new was is link bytes answer → new.kept ≡ old.kept
kept_send old new was is link bytes answer (send_again over answer_is left records given opened rests spent) =
    rests.kept
kept_send old new was is link bytes answer (send_passed over step stays) = step.kept
kept_send old new was is link bytes answer (send_memory over memory unsent stays) = unsent.kept

kept_close : (old new : Seen) (was is : Progress) (link : ℕ) → CloseOf old new was is link → new.kept ≡ old.kept
kept_close old new was is link (close_again none opened records given left rests spent) = rests.kept
kept_close old new was is link (close_passed number at step stays) = step.kept

pub last_kept : LastTurnIsKept
last_kept past config found records links disk calls now (handed_out before old wants buf turn all step recorded log)
    told resumes =
    let lent = lent_so found links disk in
    let given =
    handed_one lent records before calls old now wants buf turn (traces_made lent records before old all) log
    step recorded in
    let kept = (given.keeps).journal resumes.journal (synced past) told resumes.stands in (
      again_so past config found records now.progress calls given.later resumes given.records_are given.splits,
      (
        kept.now,
        kept.reported,
        subst (λ (turns : List TurnRecord). Stands kept.now now.seen.kept.gate now.seen.kept.has_record
            (with_records resumes.journal turns))
            (later_so past config found records now.progress calls given.later resumes given.records_are given.splits)
            (kept.stands refl),
      ),
    )
last_kept past config found records links disk calls now (then_sent before old link bytes answer since step log) told
    resumes =
    still_there resumes.journal (noted before).records (noted calls).records old.seen.kept now.seen.kept
    (ap (λ (so_far : Noted). so_far.records) (send_noted before calls link bytes answer log))
    (kept_send old.seen now.seen old.progress now.progress link bytes answer step)
    (last_kept past config found records links disk before old since told resumes)
last_kept past config found records links disk calls now (then_closed before old link since step log) told resumes =
    still_there resumes.journal (noted before).records (noted calls).records old.seen.kept now.seen.kept
    (ap (λ (so_far : Noted). so_far.records) (close_noted before calls link log))
    (kept_close old.seen now.seen old.progress now.progress link step)
    (last_kept past config found records links disk before old since told resumes)
