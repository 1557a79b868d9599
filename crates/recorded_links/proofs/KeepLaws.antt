-- The records that are added, and what a journal gets of them.
use Rattle.std.proofs.Common.{◌≡◌, inl, ℕ, ◌+◌, ◌*◌, ◌≤◌, Bool, true, false, not, List, [], ◌∷◌, ◌++◌, length, refl}
use Rattle.std.proofs.Common.{sym, ap, subst, ◌∙◌, arith, length-append}
use Rattle.std.specs.Int.{w16, w32, w64, to_be_bytes}
use Rattle.std.specs.List.{flat_map, list_all}
use Rattle.std.proofs.lemmas.List.Concat.{flat_map-cons}
use Rattle.disk_port.specs.Past.{StaysPossible}
use Rattle.disk_port.proofs.PastLaws.{begins, same_possible}
use Rattle.journal_format.specs.Journals.{HoldsAt}
use Rattle.journal_format.specs.Limits.{step_limit, summary_limit}
use Rattle.journal_format.specs.Spelling.{IsEvent, IsRecord, IsWord, are_distinct, end_byte, event_bytes, is_listen}
use Rattle.journal_format.specs.Spelling.{record_bytes, summary_bytes}
use Rattle.journal_format.specs.declared.turn_record.Summary.{Summary}
use Rattle.journal_format.specs.declared.turn_record.TurnEvent.{TurnEvent}
use Rattle.journal_format.specs.declared.turn_record.TurnEvent.TheVariants as event
use Rattle.journal_format.specs.declared.turn_record.TurnRecord.{TurnRecord}
use Rattle.journal_format.proofs.NumberLaws.{wide16, wide32, wide64}
use Rattle.ports.specs.declared.links.Turn.{Turn}
use Rattle.ports.specs.declared.links.What.{What}
use Rattle.ports.specs.declared.links.What.TheVariants.{Idle, Opened, Read, Ended, Broken, Room, Stopped, Failed}
use Rattle.ports.specs.declared.links.What.TheVariants.{Memory}
use Rattle.turn_journal.specs.Standing.{Adds, HoldsOrWith, IsNext, LeavesOneOrBoth, StandsWith}
use Rattle.recorded_links.specs.Keeping.{AddsRecord, HasPiece, IsTurn, Kept, entry_of, event_of, listen_entry}
use Rattle.recorded_links.specs.Sending.{has_words}
use Rattle.recorded_links.proofs.SendLaws.{words_of}

-- ---- the length of a record

summary_length : (summary : Summary) → length (summary_bytes summary) ≡ 17
summary_length summary =
    omega (
      arith,
      length-append (to_be_bytes w64 summary.link)
          (to_be_bytes w64 summary.taken ++ end_byte summary.end ∷ []),
      length-append (to_be_bytes w64 summary.taken)
          (end_byte summary.end ∷ []),
      wide64.len summary.link,
      wide64.len summary.taken,
    )

summaries_length : (summaries : List Summary) → length (flat_map summary_bytes summaries) ≡ 17 * length summaries
summaries_length [] = refl
summaries_length (first ∷ rest) =
    ap length (flat_map-cons summary_bytes first rest)
    ∙ (let here = summary_length first in let later = summaries_length rest in
    omega (arith, here, later, length-append (summary_bytes first) (flat_map summary_bytes rest)))

event_length : (event : TurnEvent) → IsEvent event → length (event_bytes event) ≤ 65549
event_length event.Listen allowed = omega arith
event_length event.Idle allowed = omega arith
event_length (event.Opened link) allowed = omega (arith, wide64.len link)
event_length (event.Read link bytes) allowed =
    omega (
      arith,
      allowed.1.1,
      length-append (to_be_bytes w64 link) (to_be_bytes w32 (length bytes) ++ bytes),
      length-append (to_be_bytes w32 (length bytes)) bytes,
      wide64.len link,
      wide32.len (length bytes),
    )
event_length (event.Ended link) allowed = omega (arith, wide64.len link)
event_length (event.Broken link) allowed = omega (arith, wide64.len link)
event_length (event.Room link) allowed = omega (arith, wide64.len link)

pub record_short : (entry : TurnRecord) → IsRecord entry → length (record_bytes entry) + 1 ≤ step_limit
record_short entry allowed =
    let event = event_length entry.event allowed.event in
    omega (
      arith,
      allowed.few,
      event,
      length-append (to_be_bytes w16 (length entry.summaries))
          (flat_map summary_bytes entry.summaries ++ (to_be_bytes w64 entry.secs ++ event_bytes entry.event)),
      length-append (flat_map summary_bytes entry.summaries) (to_be_bytes w64 entry.secs ++ event_bytes entry.event),
      length-append (to_be_bytes w64 entry.secs) (event_bytes entry.event),
      wide16.len (length entry.summaries),
      wide64.len entry.secs,
      summaries_length entry.summaries,
    )

-- ---- the record of a turn

event_fits : (what : What) (piece : List ℕ) → IsTurn what → HasPiece what piece → IsEvent (event_of what piece)
event_fits Idle piece fits has = tt
event_fits (Opened link) piece fits has = fits
event_fits (Read link count) piece fits has = (fits, has)
event_fits (Ended link) piece fits has = fits
event_fits (Broken link) piece fits has = fits
event_fits (Room link) piece fits has = fits
event_fits Stopped piece fits has = tt
event_fits Failed piece fits has = tt
event_fits Memory piece fits has = tt

no_listen : (what : What) (piece : List ℕ) → is_listen (event_of what piece) ≡ false
no_listen Idle piece = refl
no_listen (Opened link) piece = refl
no_listen (Read link count) piece = refl
no_listen (Ended link) piece = refl
no_listen (Broken link) piece = refl
no_listen (Room link) piece = refl
no_listen Stopped piece = refl
no_listen Failed piece = refl
no_listen Memory piece = refl

pub turn_allowed : (summaries : List Summary) (turn : Turn) (piece : List ℕ) → length summaries ≤ summary_limit
    → list_all has_words summaries ≡ true → are_distinct summaries ≡ true
    → IsTurn turn.what → IsWord turn.secs → HasPiece turn.what piece → IsRecord (entry_of summaries turn piece)
turn_allowed summaries turn piece few words distinct fits secs has =
    record {
      few = few;
      summaries = words_of summaries words;
      distinct = distinct;
      secs = secs;
      event = event_fits turn.what piece fits has;
    }

pub listen_allowed : (summaries : List Summary) (secs : ℕ) → length summaries ≤ summary_limit
    → list_all has_words summaries ≡ true → are_distinct summaries ≡ true
    → IsWord secs → IsRecord (listen_entry summaries secs)
listen_allowed summaries secs few words distinct fits =
    record { few = few; summaries = words_of summaries words; distinct = distinct; secs = fits; event = tt }

pub turn_next : (summaries : List Summary) (turn : Turn) (piece bytes : List ℕ) (has_record : Bool)
    → IsRecord (entry_of summaries turn piece) → bytes ≡ record_bytes (entry_of summaries turn piece)
    → has_record ≡ true → IsNext has_record bytes
turn_next summaries turn piece bytes has_record allowed is begun = (
  entry_of summaries turn piece,
  record {
    allowed = allowed;
    order = no_listen turn.what piece ∙ sym (ap not begun);
    text = is;
  },
)

pub listen_next : (summaries : List Summary) (secs : ℕ) (bytes : List ℕ) (has_record : Bool)
    → IsRecord (listen_entry summaries secs) → bytes ≡ record_bytes (listen_entry summaries secs)
    → has_record ≡ false → IsNext has_record bytes
listen_next summaries secs bytes has_record allowed is unbegun =
    (listen_entry summaries secs, record { allowed = allowed; order = sym (ap not unbegun); text = is })

pub bytes_short : (entry : TurnRecord) (bytes : List ℕ) → IsRecord entry → bytes ≡ record_bytes entry
    → length bytes + 1 ≤ step_limit
bytes_short entry bytes allowed is =
    subst (λ (text : List ℕ). length text + 1 ≤ step_limit) (sym is) (record_short entry allowed)

-- nothing was done to it
pub untouched : (bytes : List ℕ) (old new : Kept) → new.past ≡ old.past → AddsRecord bytes false old new
untouched bytes old new same = record {
  any_moment = λ adds. (
    adds.past,
    same ∙ adds.is_told,
    begins adds.past (HoldsOrWith adds.journal adds.entry)
        (λ image leaves. inl (
          old.gate,
          subst (HoldsAt adds.journal old.gate)
              (sym (adds.stands.rests image leaves)) adds.stands.holds,
        )),
  );
  stands = λ is. absurd (cc is);
  possible = same_possible old.past new.past same;
}

-- an answer of `append`
pub added_ok : (bytes text : List ℕ) (old new : Kept) → text ≡ bytes
    → ((adds : Adds old.past old.gate old.has_record text) → LeavesOneOrBoth adds new.past)
    → ((adds : Adds old.past old.gate old.has_record text) → StandsWith adds new.past new.gate new.has_record)
    → StaysPossible old.past new.past → AddsRecord bytes true old new
added_ok bytes text old new is moment stands possible =
    subst (λ (b : List ℕ). AddsRecord b true old new) is
    (record { any_moment = moment; stands = λ flag. stands; possible = possible })

pub added_err : (bytes text : List ℕ) (old new : Kept) → text ≡ bytes
    → ((adds : Adds old.past old.gate old.has_record text) → LeavesOneOrBoth adds new.past)
    → StaysPossible old.past new.past → AddsRecord bytes false old new
added_err bytes text old new is moment possible =
    subst (λ (b : List ℕ). AddsRecord b false old new) is
    (record { any_moment = moment; stands = λ flag. absurd (cc flag); possible = possible })
