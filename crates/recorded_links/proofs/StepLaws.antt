-- What one call of recorded links adds to their own log and faults, and what is known of open links after it.
use Rattle.std.proofs.Common.{◌≡◌, ◌≢◌, ◌⊎◌, inl, inr, ℕ, ◌+◌, ◌-◌, ◌^◌, ◌≤◌, ◌==◌, Bool, true, false, cond, not, ◌||◌}
use Rattle.std.proofs.Common.{List, [], ◌∷◌, ◌++◌, filter, fold, length, refl, ap, sym, ◌∙◌, subst, arith, IsTrue}
use Rattle.std.specs.Prelude.{◌&&◌, Option, Some, None, nat_le, nat_lt}
use Rattle.std.specs.List.{list_any}
use Rattle.std.specs.Option.{ForSome, option_map}
use Rattle.std.proofs.lemmas.Bool.{eqb-true, eq-eqb, ne_eqb, leb-true}
use Rattle.std.proofs.lemmas.List.Sums.{fold-append}
use Rattle.std.proofs.lemmas.Map.Views.{any-filter_same}
use Rattle.std.proofs.lemmas.Option.{none-some}
use Rattle.disk_port.specs.Calls.{DiskReport}
use Rattle.ports.specs.Calls.{AddsCalls, LinksReport}
use Rattle.ports.proofs.CallLemmas.{no_calls}
use Rattle.ports.specs.Counts.{Rose}
use Rattle.ports.specs.Links.{HasNextCause, grown, is_failed_turn, next_entries, send_entries, unclosed, unclosed_after}
use Rattle.ports.specs.Links.{unclosed_after_turn}
use Rattle.ports.specs.declared.entry.Entry.{Entry}
use Rattle.ports.specs.declared.entry.Entry.TheVariants.{Close}
use Rattle.ports.specs.declared.links.SendAnswer.{SendAnswer}
use Rattle.ports.specs.declared.links.SendAnswer.TheVariants as send
use Rattle.ports.specs.declared.links.Turn.{Turn}
use Rattle.ports.specs.declared.links.Want.{Want}
use Rattle.ports.specs.declared.links.What.{What}
use Rattle.ports.specs.declared.links.What.TheVariants.{Idle, Opened, Read, Ended, Broken, Room, Stopped, Failed}
use Rattle.ports.specs.declared.links.What.TheVariants.{Memory}
use Rattle.recorded_links.specs.Keeping.{HandsOut, is_lost}
use Rattle.recorded_links.specs.Numbers.{Knows, inner_number, inner_wants, of_link, own_number, own_turn, own_what}
use Rattle.journal_format.specs.declared.turn_record.Summary.{Summary}
use Rattle.recorded_links.specs.Sending.{may_note}
use Rattle.recorded_links.specs.Steps.{Asks, answered, not_asked, own_report}

-- ---- calls and faults

-- a log that grew with that of the inner links
own_log : (log made : List Entry) (inner inner' : Option (List Entry)) (asked : List Entry) → inner' ≡ grown inner asked
    → option_map (λ _. log ++ made) inner' ≡ grown (option_map (λ _. log) inner) made
own_log log made None inner' asked grew = ap (option_map (λ _. log ++ made)) grew
own_log log made (Some entries) inner' asked grew = ap (option_map (λ _. log ++ made)) grew

pub own_calls : (log log' made asked : List Entry) (inner inner' : LinksReport) (disk disk' : DiskReport)
    → log' ≡ log ++ made → AddsCalls inner inner' asked → disk.faults ≤ disk'.faults
    → AddsCalls (own_report log inner disk) (own_report log' inner' disk') made
own_calls log log' made asked inner inner' disk disk' log_is calls risen =
    subst (λ (l : List Entry). AddsCalls (own_report log inner disk) (own_report l inner' disk') made) (sym log_is)
    (record {
      log = own_log log made inner.log inner'.log asked calls.log;
      script = refl;
      plays = λ plays script is. absurd (cc is);
      faults = let more = calls.faults in omega (arith, more, risen);
    })

-- the inner links were asked with what is wanted of them
pub asked_so : (first : ℕ) (old new : LinksReport) (wants kept : List Want) (buf : List ℕ) (answer asked : Turn)
    → kept ≡ inner_wants first wants → AddsCalls old new (next_entries kept buf answer)
    → HasNextCause old.faults new.faults answer.what → asked ≡ own_turn first answer
    → Asks first old new wants buf asked
asked_so first old new wants kept buf answer asked kept_is calls cause is =
    answered answer (subst (λ (ws : List Want). AddsCalls old new (next_entries ws buf answer)) kept_is calls) cause is

-- ---- open links

grown_log : (before run : List Entry) → unclosed (before ++ run) ≡ fold unclosed_after (unclosed before) run
grown_log before run = fold-append unclosed_after [] before run

-- the links that are open here are open there, by their numbers there
abbrev IsKnown : ℕ → List ℕ → List ℕ → Type 0
IsKnown first own there =
    (link number : ℕ) → inner_number first link ≡ Some number → IsTrue (list_any (λ other. other == link) own)
    → IsTrue (list_any (λ other. other == number) there)

-- from what is known of the log of the inner links before, where they report it, to after
knows_then : (first : ℕ) (own own' : List Entry) (inner inner' : Option (List Entry)) (made : List Entry)
    → inner' ≡ grown inner made
    → ((there : List ℕ) → IsKnown first (unclosed own) there → IsKnown first (unclosed own')
    (fold unclosed_after there made)) → Knows first own inner → Knows first own' inner'
knows_then first own own' None inner' made grew keeps known entries is = absurd (none-some entries (sym grew ∙ is))
knows_then first own own' (Some before) inner' made grew keeps known entries is =
    let same : before ++ made ≡ entries = cc in
    subst (λ (es : List Entry). IsKnown first (unclosed own') (unclosed es)) same
    (subst (IsKnown first (unclosed own')) (sym (grown_log before made)) (keeps (unclosed before) (known before refl)))

-- no call of the inner links, and none here that opens one
pub knows_quiet : (first : ℕ) (own own' : List Entry) (inner inner' : LinksReport) → unclosed own' ≡ unclosed own
    → inner' ≡ inner → Knows first own inner.log → Knows first own' inner'.log
knows_quiet first own own' inner inner' same unasked known =
    subst (λ (report : LinksReport). Knows first own' report.log) (sym unasked)
    (λ entries is link number there is_open. known entries is link number there
    (subst (λ (links : List ℕ). IsTrue (list_any (λ other. other == link) links)) same is_open))

either : (a b : Bool) → b ≡ true → (a || b) ≡ true
either true b is = refl
either false b is = is

-- a turn closes no link
turn_opens : (link : ℕ) (links : List ℕ) (what : What) → IsTrue (list_any (λ other. other == link) links)
    → IsTrue (list_any (λ other. other == link) (unclosed_after_turn links what))
turn_opens link links Idle is = is
turn_opens link links (Opened other) is = either (other == link) (list_any (λ o. o == link) links) is
turn_opens link links (Read other count) is = is
turn_opens link links (Ended other) is = is
turn_opens link links (Broken other) is = is
turn_opens link links (Room other) is = is
turn_opens link links Stopped is = is
turn_opens link links Failed is = is
turn_opens link links Memory is = is

-- a link that is open after a turn was open before it, or the turn opened it
opened_by : (link : ℕ) (links : List ℕ) (what : What)
    → IsTrue (list_any (λ other. other == link) (unclosed_after_turn links what))
    → IsTrue (list_any (λ other. other == link) links) ⊎ (what ≡ Opened link)
opened_by link links Idle is = inl is
opened_by link links (Opened other) is = by_test (other == link) refl is
  where
    by_test : (t : Bool) → (other == link) ≡ t → IsTrue (t || list_any (λ o. o == link) links)
        → IsTrue (list_any (λ o. o == link) links) ⊎ (Opened other ≡ Opened link)
    by_test true same any = inr (ap Opened (eqb-true other link same))
    by_test false same any = inl any
opened_by link links (Read other count) is = inl is
opened_by link links (Ended other) is = inl is
opened_by link links (Broken other) is = inl is
opened_by link links (Room other) is = inl is
opened_by link links Stopped is = inl is
opened_by link links Failed is = inl is
opened_by link links Memory is = inl is

-- the entry of a turn, if it has one
turn_links : (links : List ℕ) (wants : List Want) (buf : List ℕ) (turn : Turn) (what : What) → turn.what ≡ what
    → fold unclosed_after links (next_entries wants buf turn) ≡ unclosed_after_turn links what
turn_links links wants buf turn what is = by_what turn.what refl ∙ ap (unclosed_after_turn links) is
  where
    by_what : (what : What) → turn.what ≡ what
        → fold unclosed_after links (next_entries wants buf turn) ≡ unclosed_after_turn links turn.what
    by_what Idle is = rw is refl
    by_what (Opened other) is = rw is refl
    by_what (Read other count) is = rw is refl
    by_what (Ended other) is = rw is refl
    by_what (Broken other) is = rw is refl
    by_what (Room other) is = rw is refl
    by_what Stopped is = rw is refl
    by_what Failed is = rw is refl
    by_what Memory is = rw is refl

-- a link and its number there
pub number_is : (first link number : ℕ) → inner_number first link ≡ Some number → link ≡ first + number
number_is first link number is = by_test (nat_le first link) refl is
  where
    by_test : (t : Bool) → nat_le first link ≡ t → cond t (Some (link - first)) None ≡ Some number
        → link ≡ first + number
    by_test true above is =
        let same : link - first ≡ number = cc in let least = leb-true first link above in omega (arith, same, least)
    by_test false above is = absurd (cc is)

-- an inner turn that opens a link here opens it there
opens_there : (first link number : ℕ) (what : What) → inner_number first link ≡ Some number
    → own_what first what ≡ Opened link → what ≡ Opened number
opens_there first link number Idle there is = absurd (cc is)
opens_there first link number (Opened other) there is = by_test (nat_lt (first + other) (2 ^ 64)) refl is
  where
    by_test : (t : Bool) → nat_lt (first + other) (2 ^ 64) ≡ t
        → of_link (cond t (Some (first + other)) None) Opened ≡ Opened link → Opened other ≡ Opened number
    by_test true within is =
        let same : first + other ≡ link = cc in let at = number_is first link number there in
        ap Opened (omega (arith, same, at))
    by_test false within is = absurd (cc is)
opens_there first link number (Read other count) there is = by_number (own_number first other) is
  where
    by_number : (own_at : Option ℕ) → of_link own_at (λ own. Read own count) ≡ Opened link
        → Read other count ≡ Opened number
    by_number None is = absurd (cc is)
    by_number (Some own) is = absurd (cc is)
opens_there first link number (Ended other) there is = by_number (own_number first other) is
  where
    by_number : (own_at : Option ℕ) → of_link own_at Ended ≡ Opened link → Ended other ≡ Opened number
    by_number None is = absurd (cc is)
    by_number (Some own) is = absurd (cc is)
opens_there first link number (Broken other) there is = by_number (own_number first other) is
  where
    by_number : (own_at : Option ℕ) → of_link own_at Broken ≡ Opened link → Broken other ≡ Opened number
    by_number None is = absurd (cc is)
    by_number (Some own) is = absurd (cc is)
opens_there first link number (Room other) there is = by_number (own_number first other) is
  where
    by_number : (own_at : Option ℕ) → of_link own_at Room ≡ Opened link → Room other ≡ Opened number
    by_number None is = absurd (cc is)
    by_number (Some own) is = absurd (cc is)
opens_there first link number Stopped there is = absurd (cc is)
opens_there first link number Failed there is = absurd (cc is)
opens_there first link number Memory there is = absurd (cc is)

-- a turn that is handed out opens a link only where the one that was asked for does
hands_opened : (what : What) (asked turn : Turn) (link : ℕ) → asked.what ≡ what → HandsOut what asked turn
    → turn.what ≡ Opened link → asked.what ≡ Opened link
hands_opened what asked turn link is hands opened = by_what what is hands
  where
    by_way : (turn ≡ asked) ⊎ ((turn.what ≡ Failed) ⊎ (turn.what ≡ Memory)) → asked.what ≡ Opened link
    by_way (inl same) = sym (ap (λ (t : Turn). t.what) same) ∙ opened
    by_way (inr (inl failed)) = absurd (cc (failed, opened))
    by_way (inr (inr memory)) = absurd (cc (memory, opened))

    by_what : (what : What) → asked.what ≡ what → HandsOut what asked turn → asked.what ≡ Opened link
    by_what Idle is hands = by_way hands
    by_what (Opened other) is hands = by_way hands
    by_what (Read other count) is hands = by_way hands
    by_what (Ended other) is hands = by_way hands
    by_what (Broken other) is hands = by_way hands
    by_what (Room other) is hands = by_way hands
    by_what Stopped is hands =
        let stopped : turn.what ≡ Stopped = ap (λ (t : Turn). t.what) hands in absurd (cc (stopped, opened))
    by_what Failed is hands = by_way (inl hands)
    by_what Memory is hands = by_way (inl hands)

pub knows_next : (first : ℕ) (own own' : List Entry) (inner inner' : LinksReport) (wants : List Want) (buf : List ℕ)
    (asked turn : Turn) → Knows first own inner.log → Asks first inner inner' wants buf asked
    → HandsOut asked.what asked turn → own' ≡ own ++ next_entries wants buf turn → Knows first own' inner'.log
knows_next first own own' inner inner' wants buf asked turn known (not_asked what same) hands log_is =
    knows_quiet first own own' inner inner'
    (ap unclosed log_is ∙ (grown_log own (next_entries wants buf turn) ∙ turn_links (unclosed own) wants buf turn Memory
    (ap (λ (t : Turn). t.what) (memory what hands) ∙ what))) same known
  where
    memory : asked.what ≡ Memory → HandsOut asked.what asked turn → turn ≡ asked
    memory what hands = subst (λ (w : What). HandsOut w asked turn) what hands
knows_next first own own' inner inner' wants buf asked turn known (answered answer calls cause is) hands log_is =
    knows_then first own own' inner.log inner'.log (next_entries (inner_wants first wants) buf answer) calls.log keeps
    known
  where
    by_way : (there : List ℕ) → IsKnown first (unclosed own) there → (link number : ℕ)
        → inner_number first link ≡ Some number
        → IsTrue (list_any (λ o. o == link) (unclosed own)) ⊎ (turn.what ≡ Opened link)
        → IsTrue (list_any (λ o. o == number) (unclosed_after_turn there answer.what))
    by_way there held link number at (inl is_open) = turn_opens number there answer.what (held link number at is_open)
    by_way there held link number at (inr opened) =
        let here : own_what first answer.what ≡ Opened link =
        sym (ap (λ (t : Turn). t.what) is) ∙ hands_opened asked.what asked turn link refl hands opened in
        subst (λ (w : What). IsTrue (list_any (λ o. o == number) (unclosed_after_turn there w)))
        (sym (opens_there first link number answer.what at here))
        (subst (λ (b : Bool). IsTrue (b || list_any (λ o. o == number) there)) (sym (eq-eqb number number refl)) refl)

    keeps : (there : List ℕ) → IsKnown first (unclosed own) there
        → IsKnown first (unclosed own') (fold unclosed_after there (next_entries (inner_wants first wants) buf answer))
    keeps there held link number at is_open =
        let grown_own : unclosed own' ≡ unclosed_after_turn (unclosed own) turn.what =
        ap unclosed log_is ∙ (grown_log own (next_entries wants buf turn) ∙ turn_links
        (unclosed own) wants buf turn turn.what refl) in
        subst (λ (links : List ℕ). IsTrue (list_any (λ o. o == number) links))
        (sym (turn_links there (inner_wants first wants) buf answer answer.what refl))
        (by_way there held link number at
        (opened_by link (unclosed own) turn.what
        (subst (λ (links : List ℕ). IsTrue (list_any (λ o. o == link) links)) grown_own is_open)))

send_links : (links : List ℕ) (link : ℕ) (bytes : List ℕ) (answer : SendAnswer)
    → fold unclosed_after links (send_entries link bytes answer) ≡ links
send_links links link bytes (send.Took count) = refl
send_links links link bytes send.Later = refl
send_links links link bytes send.Failed = refl
send_links links link bytes send.Memory = refl

-- calls on both sides that open and close nothing
knows_same : (first : ℕ) (own own' : List Entry) (inner inner' : Option (List Entry)) (here made : List Entry)
    → own' ≡ own ++ here → inner' ≡ grown inner made
    → ((links : List ℕ) → fold unclosed_after links here ≡ links)
    → ((links : List ℕ) → fold unclosed_after links made ≡ links) → Knows first own inner → Knows first own' inner'
knows_same first own own' inner inner' here made log_is grew none_here none_made =
    knows_then first own own' inner inner' made grew (λ there held link number at is_open.
    subst (λ (links : List ℕ). IsTrue (list_any (λ o. o == number) links)) (sym (none_made there))
    (held link number at (subst (λ (links : List ℕ). IsTrue (list_any (λ o. o == link) links))
    (ap unclosed log_is ∙ (grown_log own here ∙ none_here (unclosed own))) is_open)))

-- what was asked by a send that was offered, if anything
pub record Offered (old new : LinksReport) (bytes : List ℕ) : Type 0 where
  pub number : ℕ
  pub answer : SendAnswer
  pub calls : AddsCalls old new (send_entries number bytes answer)

pub offered : (first link : ℕ) (bytes : List ℕ) (answer : SendAnswer) (sends : List Summary) (old new : LinksReport)
    → ForSome (inner_number first link) (λ number. may_note link (length bytes) sends ≡ true → AddsCalls old new
    (send_entries number bytes answer))
    → (inner_number first link ≡ None → (answer ≡ send.Later) × (new ≡ old))
    → (may_note link (length bytes) sends ≡ false → (answer ≡ send.Later) × (new ≡ old)) → Offered old new bytes
offered first link bytes answer sends old new passed own unnoted = by_number (inner_number first link) refl
  where
    nothing : new ≡ old → Offered old new bytes
    nothing same =
        record {
          number = 0;
          answer = send.Memory;
          calls = subst (λ (report : LinksReport). AddsCalls old report [])
              (sym same) (no_calls old);
        }

    by_note : (number : ℕ) → inner_number first link ≡ Some number → (t : Bool) → may_note link (length bytes) sends ≡ t
        → Offered old new bytes
    by_note number is true may = record { number = number; answer = answer; calls = passed number is may }
    by_note number is false may = nothing (unnoted may).1

    by_number : (found : Option ℕ) → inner_number first link ≡ found → Offered old new bytes
    by_number None is = nothing (own is).1
    by_number (Some number) is = by_note number is (may_note link (length bytes) sends) refl

pub knows_send : (first : ℕ) (own own' : List Entry) (inner inner' : LinksReport) (link other : ℕ) (bytes : List ℕ)
    (asked answer : SendAnswer) → Knows first own inner.log → AddsCalls inner inner' (send_entries other bytes asked)
    → own' ≡ own ++ send_entries link bytes answer → Knows first own' inner'.log
knows_send first own own' inner inner' link other bytes asked answer known calls log_is =
    knows_same first own own' inner.log inner'.log (send_entries link bytes answer)
    (send_entries other bytes asked) log_is calls.log
    (λ links. send_links links link bytes answer) (λ links. send_links links other bytes asked) known

-- a close here alone
close_fewer : (link number : ℕ) (links : List ℕ)
    → IsTrue (list_any (λ o. o == number) (filter (λ o. not (o == link)) links))
    → IsTrue (list_any (λ o. o == number) links) × (number ≢ link)
close_fewer link number links is = by_test (number == link) refl
  where
    same_test : (t : Bool) → (number == link) ≡ t → (k : ℕ) → (k == number) ≡ true → not (k == link) ≡ not t
    same_test t test k at = ap not (ap (λ (n : ℕ). n == link) (eqb-true k number at) ∙ test)

    by_test : (t : Bool) → (number == link) ≡ t → IsTrue (list_any (λ o. o == number) links) × (number ≢ link)
    by_test true test =
        absurd (cc (
          is,
          any-filter_same (λ (o : ℕ). o == number) (λ (o : ℕ). not (o == link)) false
              (same_test true test) links,
        ))
    by_test false test = (
      sym (any-filter_same (λ (o : ℕ). o == number) (λ (o : ℕ). not (o == link)) true (same_test false test) links)
          ∙ is,
      λ same. absurd (cc (test, eq-eqb number link same)),
    )

pub knows_closed : (first : ℕ) (own own' : List Entry) (inner : Option (List Entry)) (link : ℕ) → Knows first own inner
    → own' ≡ own ++ Close link ∷ [] → Knows first own' inner
knows_closed first own own' inner link known log_is entries is other number at is_open =
    known entries is other number at (close_fewer link other (unclosed own)
    (subst (λ (links : List ℕ). IsTrue (list_any (λ o. o == other) links))
    (ap unclosed log_is ∙ grown_log own (Close link ∷ [])) is_open)).0

-- a close here, and one of the inner link
pub knows_closed_both : (first : ℕ) (own own' : List Entry) (inner inner' : LinksReport) (link closed : ℕ)
    → inner_number first link ≡ Some closed → Knows first own inner.log → AddsCalls inner inner' (Close closed ∷ [])
    → own' ≡ own ++ Close link ∷ [] → Knows first own' inner'.log
knows_closed_both first own own' inner inner' link closed closed_is known calls log_is =
    knows_then first own own' inner.log inner'.log (Close closed ∷ []) calls.log keeps known
  where
    keeps : (there : List ℕ) → IsKnown first (unclosed own) there
        → IsKnown first (unclosed own') (filter (λ o. not (o == closed)) there)
    keeps there held other number at is_open =
        let was = close_fewer link other (unclosed own)
        (subst (λ (links : List ℕ). IsTrue (list_any (λ o. o == other) links))
        (ap unclosed log_is ∙ grown_log own (Close link ∷ [])) is_open) in
        let here = number_is first other number at in
        let gone = number_is first link closed closed_is in
        let apart : number ≢ closed = λ same. was.1 (omega (arith, same, here, gone)) in
        any-filter_same (λ (o : ℕ). o == number) (λ (o : ℕ). not (o == closed)) true
        (λ k test. ap not (ne_eqb k closed (λ same. apart (sym (eqb-true k number test) ∙ same)))) there
        ∙ held other number at was.0

-- a send that was out of memory made no call that counts
pub unsent_calls : (first link : ℕ) (bytes : List ℕ) (answer : SendAnswer) (sends : List Summary)
    (old new : LinksReport)
    → ForSome (inner_number first link) (λ number. may_note link (length bytes) sends ≡ true → AddsCalls old new
    (send_entries number bytes answer))
    → (inner_number first link ≡ None → (answer ≡ send.Later) × (new ≡ old))
    → (may_note link (length bytes) sends ≡ false → (answer ≡ send.Later) × (new ≡ old)) → answer ≡ send.Memory
    → AddsCalls old new []
unsent_calls first link bytes answer sends old new passed own unnoted memory = by_number (inner_number first link) refl
  where
    by_note : (number : ℕ) → inner_number first link ≡ Some number → (t : Bool) → may_note link (length bytes) sends ≡ t
        → AddsCalls old new []
    by_note number is true may =
        subst (λ (answer : SendAnswer). AddsCalls old new (send_entries number bytes answer)) memory
        (passed number is may)
    by_note number is false may = absurd (cc (memory, (unnoted may).0))

    by_number : (found : Option ℕ) → inner_number first link ≡ found → AddsCalls old new []
    by_number None is = absurd (cc (memory, (own is).0))
    by_number (Some number) is = by_note number is (may_note link (length bytes) sends) refl

-- no number makes a turn of a link fail
link_fails : (link : Option ℕ) (what : ℕ → What) → ((number : ℕ) → is_failed_turn (what number) ≡ false)
    → is_failed_turn (of_link link what) ≡ false
link_fails None what none = refl
link_fails (Some number) what none = none number

-- a turn that failed here failed there
fails_there : (first : ℕ) (what : What) → is_failed_turn (own_what first what) ≡ true → what ≡ Failed
fails_there first Idle is = absurd (cc is)
fails_there first (Opened link) is = absurd (cc (is, link_fails (own_number first link) Opened (λ number. refl)))
fails_there first (Read link count) is =
    absurd (cc (is, link_fails (own_number first link) (λ own. Read own count) (λ number. refl)))
fails_there first (Ended link) is = absurd (cc (is, link_fails (own_number first link) Ended (λ number. refl)))
fails_there first (Broken link) is = absurd (cc (is, link_fails (own_number first link) Broken (λ number. refl)))
fails_there first (Room link) is = absurd (cc (is, link_fails (own_number first link) Room (λ number. refl)))
fails_there first Stopped is = absurd (cc is)
fails_there first Failed is = refl
fails_there first Memory is = absurd (cc is)

-- an answer that is Failed, and was not lost, was Failed
lost_or_failed : (asked handed : What) → handed ≡ Failed → is_lost asked handed ≡ false → is_failed_turn asked ≡ true
lost_or_failed asked handed failed kept = by_test (is_failed_turn asked) refl
  where
    by_test : (t : Bool) → is_failed_turn asked ≡ t → is_failed_turn asked ≡ true
    by_test true is = is
    by_test false is =
        absurd (cc (kept, ap (λ (what : What). is_lost asked what) failed, ap (λ (flag : Bool). not flag && true) is))

-- where no answer was lost, a turn failed since the inner links failed
pub inner_failed : (first : ℕ) (old new : LinksReport) (wants : List Want) (buf : List ℕ) (asked handed : Turn)
    → Asks first old new wants buf asked → handed.what ≡ Failed → is_lost asked.what handed.what ≡ false
    → Rose old.faults new.faults
inner_failed first old new wants buf asked handed (not_asked memory same) failed kept =
    absurd (cc (ap is_failed_turn memory, lost_or_failed asked.what handed.what failed kept))
inner_failed first old new wants buf asked handed (answered answer calls cause is) failed kept =
    let there : answer.what ≡ Failed =
    fails_there first answer.what (ap (λ (turn : Turn). is_failed_turn turn.what) (sym is)
    ∙ lost_or_failed asked.what handed.what failed kept) in
    subst (HasNextCause old.faults new.faults) there cause

-- an answer that was lost by a disk that failed is Failed
pub lost_fails : (asked handed : What) → is_lost asked handed ≡ true → handed ≡ Failed
lost_fails asked handed lost = by_test (is_failed_turn asked) refl
  where
    failed_is : (what : What) → is_failed_turn what ≡ true → what ≡ Failed
    failed_is Idle is = absurd (cc is)
    failed_is (Opened link) is = absurd (cc is)
    failed_is (Read link count) is = absurd (cc is)
    failed_is (Ended link) is = absurd (cc is)
    failed_is (Broken link) is = absurd (cc is)
    failed_is (Room link) is = absurd (cc is)
    failed_is Stopped is = absurd (cc is)
    failed_is Failed is = refl
    failed_is Memory is = absurd (cc is)

    by_test : (t : Bool) → is_failed_turn asked ≡ t → handed ≡ Failed
    by_test true is = absurd (cc (lost, ap (λ (flag : Bool). not flag && is_failed_turn handed) is))
    by_test false is = failed_is handed (sym (ap (λ (flag : Bool). not flag && is_failed_turn handed) is) ∙ lost)
