-- The calls of links that resume a journal with no records are those of links that record.
use Rattle.std.proofs.Common.{◌≡◌, ◌≢◌, inl, inr, ℕ, ◌-◌, Bool, true, List, [], length, ap, ◌∙◌}
use Rattle.std.proofs.Common.{arith}
use Rattle.std.specs.Prelude.{if◌then◌else◌, nat_le, slice_get, Option, Some, None}
use Rattle.std.proofs.lemmas.Bool.{le-leb}
use Rattle.disk_port.specs.Calls.{DiskReport}
use Rattle.journal_format.specs.declared.finder.Found.{Found}
use Rattle.ports.specs.Calls.{LinksReport}
use Rattle.ports.specs.declared.entry.Entry.{Entry}
use Rattle.ports.specs.declared.links.SendAnswer.TheVariants as send
use Rattle.recorded_links.specs.Making.{AreCalls, IsCall, closed, listened, none_yet, one_more, recording, sent, turned}
use Rattle.recorded_links.specs.Making.{uncalled}
use Rattle.recorded_links.specs.Numbers.{inner_number}
use Rattle.recorded_links.specs.Steps.{listen_refused}
use Rattle.journal_links.specs.Making.{Made, State, resuming}
use Rattle.journal_links.specs.Steps.{Stays, close_again, close_passed, is_over, listen_again, listen_first}
use Rattle.journal_links.specs.Steps.{listen_unasked, next_again, next_broken, next_inner, next_unasked, send_again}
use Rattle.journal_links.specs.Steps.{send_memory, send_passed}
use Rattle.journal_links.proofs.TraceLaws.{unsent_of}

-- no turn of a journal is left, and none of its links is open
pub record IsBlank (state : State) : Type 0 where
  records : (state.progress).records ≡ []
  given : (state.progress).given ≡ 0
  opened : (state.progress).opened ≡ []
  first : (state.seen).first ≡ 0

stays_blank : (old new : State) → IsBlank old → Stays old.progress new.progress → (new.seen).first ≡ (old.seen).first
    → IsBlank new
stays_blank old new blank stays same = record {
  records = stays.records ∙ blank.records;
  given = stays.given ∙ blank.given;
  opened = stays.opened ∙ blank.opened;
  first = same ∙ blank.first;
}

is_done : (state : State) → IsBlank state → is_over state.progress ≡ true
is_done state blank =
    let none : length (state.progress).records ≡ 0 = ap length blank.records in
    le-leb (length (state.progress).records) (state.progress).given (omega (arith, none))

all_inner : (first link : ℕ) → first ≡ 0 → inner_number first link ≢ None
all_inner first link is none =
    let test : nat_le first link ≡ true = le-leb first link (omega (arith, is)) in
    let number : Bool → Option ℕ = λ t. if t then Some (link - first) else None in
    let some : number (nat_le first link) ≡ Some (link - first) = ap number test in
    absurd (cc (none, some))

record IsRecorded (old new : State) (made : List Entry) : Type 0 where
  call : IsCall recording old.seen new.seen made
  blank : IsBlank new

one_call : (old new : State) (made : List Entry) → IsBlank old → IsCall resuming old new made
    → (new.seen).first ≡ (old.seen).first → IsRecorded old new made
one_call old new made blank (turned wants buf turn (next_unasked over why memory rests stays) spends is) same =
    let done = is_done old blank in absurd (cc (over, done))
one_call old new made blank (turned wants buf turn (next_again over gives) spends is) same =
    let done = is_done old blank in absurd (cc (over, done))
one_call old new made blank (turned wants buf turn (next_broken over breaks) spends is) same =
    let none : slice_get (old.progress).opened 0 ≡ None = ap (λ (links : List ℕ). slice_get links 0) blank.opened in
    let some = breaks.first in
    absurd (cc (some, none))
one_call old new made blank (turned wants buf turn (next_inner over none step stays) spends is) same =
    record { call = turned wants buf turn step spends is; blank = stays_blank old new blank stays same }
one_call old new made blank (listened address answer (listen_unasked (inl spent) memory rests stays) spends is) same =
    record {
      call = listened address answer (listen_refused (inl spent) memory rests) spends is;
      blank = stays_blank old new blank stays same;
    }
one_call old new made blank (listened address answer (listen_unasked (inr begun) memory rests stays) spends is) same =
    let none = blank.given in absurd (omega (arith, begun, none))
one_call old new made blank (listened address answer (listen_again again) spends is) same =
    let none : length (old.progress).records ≡ 0 = ap length blank.records in
    let some = again.some in
    absurd (omega (arith, some, none))
one_call old new made blank (listened address answer (listen_first over step stays) spends is) same =
    record { call = listened address answer step spends is; blank = stays_blank old new blank stays same }
one_call old new made blank
    (sent link bytes answer (send_again over answer_is left records given opened rests spent) spends is) same =
    let done = is_done old blank in absurd (cc (over, done))
one_call old new made blank (sent link bytes answer (send_passed over step stays) spends is) same = record {
  call = sent link bytes answer ((λ some. step), (λ memory. unsent_of old.seen new.seen link bytes answer memory step))
      spends is;
  blank = stays_blank old new blank stays same;
}
one_call old new made blank (sent link bytes answer (send_memory over memory unsent stays) spends is) same = record {
  call = sent link bytes answer ((λ some. absurd (some memory)), (λ none. unsent)) spends is;
  blank = stays_blank old new blank stays same;
}
one_call old new made blank (closed link (close_again none opened records given left rests spent) is) same =
    absurd (all_inner (old.seen).first link blank.first none)
one_call old new made blank (closed link (close_passed number at step stays) is) same =
    record { call = closed link step is; blank = stays_blank old new blank stays same }

pub record AreRecorded (found : Found) (links : LinksReport) (disk : DiskReport) (calls : List Entry)
    (now : State) : Type 0 where
  pub made : AreCalls recording (uncalled 0 found links disk) calls now.seen
  pub blank : IsBlank now

pub recorded_calls : (found : Found) (links : LinksReport) (disk : DiskReport) (calls : List Entry) (now : State)
    → Made found [] links disk calls now → AreRecorded found links disk calls now
recorded_calls found links disk calls now (none_yet fresh is) = record {
  made = none_yet fresh (ap (λ (state : State). state.seen) is);
  blank = record {
    records = ap (λ (state : State). (state.progress).records) is;
    given = ap (λ (state : State). (state.progress).given) is;
    opened = ap (λ (state : State). (state.progress).opened) is;
    first = ap (λ (state : State). (state.seen).first) is;
  };
}
recorded_calls found links disk calls now (one_more before made old all call same log) =
    let so_far = recorded_calls found links disk before old all in
    let more = one_call old now made so_far.blank call same in
    record { made = one_more before made old.seen so_far.made more.call same log; blank = more.blank }
