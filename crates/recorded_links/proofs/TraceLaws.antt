-- What became of the journal and of the inner links in the calls of links that record.
use Rattle.std.proofs.Common.{◌≡◌, ℕ, Bool, false, List, [], ◌∷◌, ◌++◌, refl, ap, sym, ◌∙◌, subst}
use Rattle.std.specs.Prelude.{None}
use Rattle.disk_port.specs.Calls.{DiskReport}
use Rattle.journal_format.specs.declared.finder.Found.{Found}
use Rattle.journal_format.specs.declared.turn_record.Summary.{Summary}
use Rattle.ports.specs.Calls.{LinksReport}
use Rattle.ports.specs.Links.{listen_entries, next_entries, send_entries}
use Rattle.ports.specs.declared.entry.Entry.{Entry}
use Rattle.ports.specs.declared.entry.Entry.TheVariants.{Close}
use Rattle.recorded_links.specs.Steps.{Seen, seen}
use Rattle.recorded_links.specs.Giving.{MayFollow}
use Rattle.recorded_links.specs.Lending.{Keeps, Lent, Passed}
use Rattle.recorded_links.specs.Making.{AreCalls, IsCall, closed, listened, none_yet, one_more, recording, sent}
use Rattle.recorded_links.specs.Making.{turned, uncalled}
use Rattle.recorded_links.proofs.CallLaws.{keeps_close, keeps_listen, keeps_next, keeps_send}
use Rattle.recorded_links.proofs.JournalLaws.{keeps_begun}
use Rattle.recorded_links.proofs.PassLaws.{passed_close, passed_listen, passed_next, passed_none, passed_send}

-- before the first call
pub seen_uncalled : (first first' : ℕ) (found : Found) (links links' : LinksReport) (disk disk' : DiskReport) (gate : ℕ)
    (has : Bool) (sends : List Summary) (spent : Bool) → first ≡ first' → links ≡ links' → disk ≡ disk'
    → ◌≡◌ {A = Found} (record { gate = gate; has_record = has }) found → sends ≡ [] → spent ≡ false
    → seen links first disk gate has sends spent ≡ uncalled first' found links' disk'
seen_uncalled first first' found links links' disk disk' gate has sends spent first_is links_are disk_is end unsent
    unspent =
    let gate_is : gate ≡ found.gate = ap (λ (end : Found). end.gate) end in
    let has_is : has ≡ found.has_record = ap (λ (end : Found). end.has_record) end in
    cc

-- what became of the journal and of the links in these calls
pub record Traces (lent : Lent) (calls : List Entry) (seen : Seen) : Type 0 where
  pub keeps : Keeps lent (MayFollow None seen.first seen.inner) calls seen.kept seen.sends seen.spent
  pub passed : Passed seen.first lent.links calls seen.inner

traces_begun : (first : ℕ) (lent : Lent) (calls : List Entry) (now : Seen) → calls ≡ []
    → now ≡ uncalled first lent.found lent.links lent.disk → Traces lent calls now
traces_begun first lent calls now fresh is =
    let start : Seen = uncalled first lent.found lent.links lent.disk in
    let begun : Traces lent [] start = record {
      keeps = keeps_begun lent (MayFollow None start.first start.inner) start.kept start.sends start.spent refl refl;
      passed = passed_none start.first lent.links start.inner refl;
    } in
    subst (λ (calls : List Entry). Traces lent calls now) (sym fresh) (subst (Traces lent []) (sym is) begun)

-- the numbers of the inner links begin where they did
renumbered : (lent : Lent) (calls : List Entry) (old new : Seen) → new.first ≡ old.first
    → Keeps lent (MayFollow None old.first new.inner) calls new.kept new.sends new.spent
    → Passed old.first lent.links calls new.inner → Traces lent calls new
renumbered lent calls old new same keeps passed = record {
  keeps =
      subst (λ (first : ℕ). Keeps lent (MayFollow None first new.inner) calls new.kept new.sends new.spent) (sym same)
      keeps;
  passed = subst (λ (first : ℕ). Passed first lent.links calls new.inner) (sym same) passed;
}

-- one call more
traces_more : (lent : Lent) (calls calls' made : List Entry) (old new : Seen) → Traces lent calls old
    → IsCall recording old new made → new.first ≡ old.first → calls' ≡ calls ++ made → Traces lent calls' new
traces_more lent calls calls' made old new before (turned wants buf turn step spends is) same log =
    let grew : calls' ≡ calls ++ next_entries wants buf turn = log ∙ ap (λ (more : List Entry). calls ++ more) is in
    renumbered lent calls' old new same
    (keeps_next lent None calls calls' old new wants buf turn before.keeps grew step spends)
    (passed_next lent.links old new calls calls' wants buf turn before.passed grew step)
traces_more lent calls calls' made old new before (listened address answer step spends is) same log =
    let grew : calls' ≡ calls ++ listen_entries address answer = log ∙ ap (λ (more : List Entry). calls ++ more) is in
    renumbered lent calls' old new same
    (keeps_listen lent None calls calls' old new address answer before.keeps grew step spends)
    (passed_listen lent.links old new calls calls' address answer before.passed grew step)
traces_more lent calls calls' made old new before (sent link bytes answer step spends is) same log =
    let grew : calls' ≡ calls ++ send_entries link bytes answer = log ∙ ap (λ (more : List Entry). calls ++ more) is in
    renumbered lent calls' old new same
    (keeps_send lent None calls calls' old new link bytes answer before.keeps grew step.0 step.1 spends)
    (passed_send lent.links old new calls calls' link bytes answer before.passed (before.keeps).sends_are grew step.0
    step.1)
traces_more lent calls calls' made old new before (closed link step is) same log =
    let grew : calls' ≡ calls ++ Close link ∷ [] = log ∙ ap (λ (more : List Entry). calls ++ more) is in
    renumbered lent calls' old new same (keeps_close lent None calls calls' old new link before.keeps grew step)
    (passed_close lent.links old new calls calls' link before.passed grew step)

-- ---- all calls

abbrev Recorded : ℕ → Lent → List Entry → Seen → Type 0
Recorded first lent calls now = AreCalls recording (uncalled first lent.found lent.links lent.disk) calls now

pub traces_made : (first : ℕ) (lent : Lent) (calls : List Entry) (now : Seen) → Recorded first lent calls now
    → Traces lent calls now
traces_made first lent calls now (none_yet fresh is) = traces_begun first lent calls now fresh is
traces_made first lent calls now (one_more before made old all call same log) =
    traces_more lent before calls made old now (traces_made first lent before old all) call same log

pub first_made : (first : ℕ) (lent : Lent) (calls : List Entry) (now : Seen) → Recorded first lent calls now
    → now.first ≡ first
first_made first lent calls now (none_yet fresh is) = ap (λ (seen : Seen). seen.first) is
first_made first lent calls now (one_more before made old all call same log) =
    same ∙ first_made first lent before old all
