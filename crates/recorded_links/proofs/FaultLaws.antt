-- What each call of links that record adds to what they report, and to the faults of those that were lent to them.
use Rattle.std.proofs.Common.{◌≡◌, ℕ, ◌+◌, ◌<◌, ◌≤◌, Bool, true, false, ◌||◌, List, ◌++◌, refl, sym, ◌∙◌, ap}
use Rattle.std.proofs.Common.{subst, arith, IsTrue}
use Rattle.std.specs.Prelude.{Option, Some, None}
use Rattle.std.specs.Option.{ForSome, option_map}
use Rattle.disk_port.specs.Calls.{DiskReport}
use Rattle.list_laws.specs.Counts.{Rose, greatest}
use Rattle.ports.specs.Calls.{AddsCalls, LinksReport}
use Rattle.ports.specs.Links.{HasListenCause, HasNextCause, MayClose, is_unclosed}
use Rattle.ports.specs.declared.entry.Entry.{Entry}
use Rattle.ports.specs.declared.links.ListenAnswer.{ListenAnswer}
use Rattle.ports.specs.declared.links.ListenAnswer.TheVariants as listen
use Rattle.ports.specs.declared.links.Turn.{Turn}
use Rattle.ports.specs.declared.links.Want.{Want}
use Rattle.ports.specs.declared.links.What.{What}
use Rattle.ports.specs.declared.links.What.TheVariants.{Idle, Opened, Read, Ended, Broken, Room, Stopped, Failed}
use Rattle.ports.specs.declared.links.What.TheVariants.{Memory}
use Rattle.recorded_links.specs.Keeping.{FailedIf}
use Rattle.recorded_links.specs.Steps.{Asks, ListenStep, NextStep, Seen, answered, listen_refused}
use Rattle.recorded_links.specs.Steps.{listen_taken, next_full, next_refused, next_taken, not_asked, own_report}
use Rattle.recorded_links.specs.Lending.{disk_faults, traced_report}

-- ---- the faults of the inner links do not fall

same_faults : (old new : LinksReport) → new ≡ old → old.faults ≤ new.faults
same_faults old new same = let faults = ap (λ (report : LinksReport). report.faults) same in omega (arith, faults)

asked_risen : (first : ℕ) (old new : LinksReport) (wants : List Want) (buf : List ℕ) (asked : Turn)
    → Asks first old new wants buf asked → old.faults ≤ new.faults
asked_risen first old new wants buf asked (not_asked memory same) = same_faults old new same
asked_risen first old new wants buf asked (answered answer calls cause is) = calls.faults

pub next_risen : (old new : Seen) (wants : List Want) (buf : List ℕ) (turn : Turn) → NextStep old new wants buf turn
    → old.inner.faults ≤ new.inner.faults
next_risen old new wants buf turn (next_refused why memory rests) = same_faults old.inner new.inner rests.inner
next_risen old new wants buf turn (next_full ready full stopped rests) = same_faults old.inner new.inner rests.inner
next_risen old new wants buf turn (next_taken takes) =
    asked_risen old.first old.inner new.inner wants buf takes.asked takes.asks

pub listen_risen : (old new : Seen) (address : List ℕ) (answer : ListenAnswer) → ListenStep old new address answer
    → old.inner.faults ≤ new.inner.faults
listen_risen old new address answer (listen_refused why memory rests) = same_faults old.inner new.inner rests.inner
listen_risen old new address answer (listen_taken takes) = takes.asks.faults

-- ---- what these links report

pub traced_calls : (calls calls' made : List Entry) (links links' : LinksReport) (failed last : Bool)
    → calls' ≡ calls ++ made → links.faults ≤ links'.faults
    → AddsCalls (traced_report calls links failed) (traced_report calls' links' (failed || last)) made
traced_calls calls calls' made links links' failed last log risen = record {
  log = ap Some log;
  script = refl;
  plays = λ plays script is. absurd (cc is);
  faults = by_flags failed last;
}
  where
    by_flags : (failed last : Bool) → links.faults + disk_faults failed ≤ links'.faults + disk_faults (failed || last)
    by_flags true last = omega (arith, risen)
    by_flags false true = omega (arith, risen)
    by_flags false false = omega (arith, risen)

-- a fault of the disk is one of these links
faulty : (i i' : ℕ) (x : ℕ) → Rose (i + x) (i' + greatest)
faulty i i' x below = absurd (omega (arith, below))

quiet_next : (i i' d d' x : ℕ) (what : What) → HasNextCause (i + d) (i' + d') what → d' ≡ d
    → (what ≡ Failed → Rose i i') → HasNextCause (i + x) (i' + x) what
quiet_next i i' d d' x Idle cause same rose = omega (arith, cause, same)
quiet_next i i' d d' x (Opened link) cause same rose = omega (arith, cause, same)
quiet_next i i' d d' x (Read link count) cause same rose = omega (arith, cause, same)
quiet_next i i' d d' x (Ended link) cause same rose = omega (arith, cause, same)
quiet_next i i' d d' x (Broken link) cause same rose = omega (arith, cause, same)
quiet_next i i' d d' x (Room link) cause same rose = omega (arith, cause, same)
quiet_next i i' d d' x Stopped cause same rose = omega (arith, cause, same)
quiet_next i i' d d' x Failed cause same rose =
    λ below. let more : i < i' = rose refl (omega (arith, below)) in omega (arith, more)
quiet_next i i' d d' x Memory cause same rose = omega (arith, cause, same)

pub next_cause : (i i' d d' : ℕ) (failed last : Bool) (what : What) → HasNextCause (i + d) (i' + d') what
    → FailedIf last d d' → (what ≡ Failed → last ≡ false → Rose i i') → (last ≡ true → what ≡ Failed)
    → HasNextCause (i + disk_faults failed) (i' + disk_faults (failed || last)) what
next_cause i i' d d' true true what cause flag rose lost =
    subst (HasNextCause (i + greatest) (i' + greatest)) (sym (lost refl)) (faulty i i' greatest)
next_cause i i' d d' false true what cause flag rose lost =
    subst (HasNextCause (i + 0) (i' + greatest)) (sym (lost refl)) (faulty i i' 0)
next_cause i i' d d' true false what cause same rose lost =
    quiet_next i i' d d' greatest what cause same (λ failed. rose failed refl)
next_cause i i' d d' false false what cause same rose lost =
    quiet_next i i' d d' 0 what cause same (λ failed. rose failed refl)

quiet_listen : (i i' d d' x : ℕ) (answer : ListenAnswer) → HasListenCause (i + d) (i' + d') answer → d' ≡ d
    → (answer ≡ listen.Failed → Rose i i') → HasListenCause (i + x) (i' + x) answer
quiet_listen i i' d d' x (listen.Ready secs) cause same rose = omega (arith, cause, same)
quiet_listen i i' d d' x listen.Failed cause same rose =
    λ below. let more : i < i' = rose refl (omega (arith, below)) in omega (arith, more)
quiet_listen i i' d d' x listen.Memory cause same rose = omega (arith, cause, same)

pub listen_cause : (i i' d d' : ℕ) (failed last : Bool) (answer : ListenAnswer)
    → HasListenCause (i + d) (i' + d') answer → FailedIf last d d' → (answer ≡ listen.Failed → last ≡ false → Rose i i')
    → (last ≡ true → answer ≡ listen.Failed)
    → HasListenCause (i + disk_faults failed) (i' + disk_faults (failed || last)) answer
listen_cause i i' d d' true true answer cause flag rose lost =
    subst (HasListenCause (i + greatest) (i' + greatest)) (sym (lost refl)) (faulty i i' greatest)
listen_cause i i' d d' false true answer cause flag rose lost =
    subst (HasListenCause (i + 0) (i' + greatest)) (sym (lost refl)) (faulty i i' 0)
listen_cause i i' d d' true false answer cause same rose lost =
    quiet_listen i i' d d' greatest answer cause same (λ failed. rose failed refl)
listen_cause i i' d d' false false answer cause same rose lost =
    quiet_listen i i' d d' 0 answer cause same (λ failed. rose failed refl)

-- a link that may be closed here may be closed by the log of the links that record
pub may_close : (calls : List Entry) (links : LinksReport) (disk : DiskReport) (link : ℕ) → MayClose (Some calls) link
    → MayClose (own_report calls links disk).log link
may_close calls links disk link may = by_log links.log refl
  where
    by_log : (log : Option (List Entry)) → links.log ≡ log
        → ForSome (option_map (λ _. calls) log) (λ entries. IsTrue (is_unclosed link entries))
    by_log None is entries same = absurd (cc same)
    by_log (Some log) is entries same = may entries same

-- ---- the faults of the disk since it was lent

pub still_quiet : (first d d' : ℕ) (failed last : Bool) → (failed ≡ false → d ≡ first) → FailedIf last d d'
    → (failed || last) ≡ false → d' ≡ first
still_quiet first d d' true last quiet flag is = absurd (cc is)
still_quiet first d d' false true quiet flag is = absurd (cc is)
still_quiet first d d' false false quiet same is = same ∙ quiet refl

pub still_broke : (first d d' : ℕ) (failed last : Bool) → (failed ≡ true → Rose first d) → first ≤ d
    → FailedIf last d d' → (failed || last) ≡ true → Rose first d'
still_broke first d d' true true broke least fails is =
    λ below. let more : d < d' = fails.risen below in omega (arith, more, least)
still_broke first d d' false true broke least fails is =
    λ below. let more : d < d' = fails.risen below in omega (arith, more, least)
still_broke first d d' true false broke least same is = subst (Rose first) (sym same) (broke refl)
still_broke first d d' false false broke least same is = absurd (cc is)

pub still_least : (first d d' : ℕ) (last : Bool) → first ≤ d → FailedIf last d d' → first ≤ d'
still_least first d d' true least fails = let more = fails.no_less in omega (arith, more, least)
still_least first d d' false least same = omega (arith, same, least)

-- ---- calls in which the disk does not fail

pub quiet_calls : (calls calls' made : List Entry) (links links' : LinksReport) (failed : Bool) → calls' ≡ calls ++ made
    → links'.faults ≡ links.faults → AddsCalls (traced_report calls links failed)
    (traced_report calls' links' failed) made
quiet_calls calls calls' made links links' failed log same =
    record { log = ap Some log; script = refl; plays = λ plays script is. absurd (cc is); faults = omega (arith, same) }

-- the faults of the inner links, where those of the disk are the same
pub inner_still : (i i' d d' : ℕ) → i' + d' ≡ i + d → d' ≡ d → i' ≡ i
inner_still i i' d d' sum same = omega (arith, sum, same)
