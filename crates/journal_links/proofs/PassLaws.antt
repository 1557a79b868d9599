-- The inner links that are open here stay open for the links that record.
use Rattle.std.proofs.Common.{◌≡◌, ◌≢◌, ℕ, ◌==◌, Bool, true, false, not, ◌||◌, List, [], ◌∷◌, ◌++◌, filter, fold, refl}
use Rattle.std.proofs.Common.{ap, sym, ◌∙◌, subst, append-nil, arith, IsTrue}
use Rattle.std.specs.Prelude.{Option, Some, None, is_some}
use Rattle.std.specs.List.{list_all, list_any}
use Rattle.std.specs.Option.{option_map}
use Rattle.std.proofs.lemmas.Bool.{eqb-true, eq-eqb, ltb-true, ne_eqb}
use Rattle.std.proofs.lemmas.List.Sums.{fold-append}
use Rattle.std.proofs.lemmas.Map.Views.{any-filter_same}
use Rattle.std.proofs.lemmas.Option.{none-some, same_Some}
use Rattle.journal_format.specs.declared.turn_record.TurnRecord.{TurnRecord}
use Rattle.journal_links.specs.Steps.{opens_before}
use Rattle.ports.specs.Links.{MayClose, is_unclosed, listen_entries, next_entries, send_entries, unclosed}
use Rattle.ports.specs.Links.{unclosed_after, unclosed_after_turn}
use Rattle.ports.specs.declared.entry.Entry.{Entry}
use Rattle.ports.specs.declared.entry.Entry.TheVariants.{Close}
use Rattle.ports.specs.declared.links.ListenAnswer.{ListenAnswer}
use Rattle.ports.specs.declared.links.ListenAnswer.TheVariants as listen
use Rattle.ports.specs.declared.links.SendAnswer.{SendAnswer}
use Rattle.ports.specs.declared.links.SendAnswer.TheVariants as send
use Rattle.ports.specs.declared.links.Turn.{Turn}
use Rattle.ports.specs.declared.links.Want.{Want}
use Rattle.ports.specs.declared.links.What.{What}
use Rattle.ports.specs.declared.links.What.TheVariants.{Idle, Opened, Read, Ended, Broken, Room, Stopped, Failed}
use Rattle.ports.specs.declared.links.What.TheVariants.{Memory}
use Rattle.recorded_links.specs.Numbers.{first_after, inner_number}
use Rattle.recorded_links.proofs.StepLaws.{number_is}
use Rattle.journal_links.specs.Opened.{Passes, is_before}

-- each inner link of the one list is in the other
abbrev Covers : ℕ → List ℕ → List ℕ → Type 0
Covers first own there =
    (link number : ℕ) → inner_number first link ≡ Some number → IsTrue (list_any (λ other. other == link) own)
    → IsTrue (list_any (λ other. other == link) there)

grown_log : (before run : List Entry) → unclosed (before ++ run) ≡ fold unclosed_after (unclosed before) run
grown_log before run = fold-append unclosed_after [] before run

-- both logs grow
passes_then : (first : ℕ) (own there made made' : List Entry)
    → (Covers first (unclosed own) (unclosed there) → Covers first (fold unclosed_after (unclosed own) made)
    (fold unclosed_after (unclosed there) made'))
    → Passes first own there → Passes first (own ++ made) (there ++ made')
passes_then first own there made made' keeps held =
    subst (λ (links : List ℕ). Covers first links (unclosed (there ++ made'))) (sym (grown_log own made))
    (subst (Covers first (fold unclosed_after (unclosed own) made)) (sym (grown_log there made')) (keeps held))

-- the log here grows alone
passes_here : (first : ℕ) (own there made : List Entry)
    → (Covers first (unclosed own) (unclosed there) → Covers first (fold unclosed_after (unclosed own) made)
    (unclosed there))
    → Passes first own there → Passes first (own ++ made) there
passes_here first own there made keeps held =
    subst (λ (links : List ℕ). Covers first links (unclosed there)) (sym (grown_log own made)) (keeps held)

-- the log there grows alone
passes_there : (first : ℕ) (own there made : List Entry)
    → (Covers first (unclosed own) (unclosed there) → Covers first (unclosed own)
    (fold unclosed_after (unclosed there) made))
    → Passes first own there → Passes first own (there ++ made)
passes_there first own there made keeps held =
    subst (Covers first (unclosed own)) (sym (grown_log there made)) (keeps held)

-- ---- turns

-- the entry of a turn, if it has one
turn_links : (links : List ℕ) (wants : List Want) (buf : List ℕ) (turn : Turn)
    → fold unclosed_after links (next_entries wants buf turn) ≡ unclosed_after_turn links turn.what
turn_links links wants buf turn = by_what turn.what refl
  where
    by_what : (what : What) → turn.what ≡ what
        → fold unclosed_after links (next_entries wants buf turn) ≡ unclosed_after_turn links turn.what
    by_what Idle is = rw is refl
    by_what (Opened other) is = rw is refl
    by_what (Read other count) is = rw is refl
    by_what (Ended other) is = rw is refl
    by_what (Broken other) is = rw is refl
    by_what (Room other) is = rw is refl
    by_what Stopped is = rw is refl
    by_what Failed is = rw is refl
    by_what Memory is = rw is refl

covers_turn : (first : ℕ) (own there : List ℕ) (what : What) → Covers first own there
    → Covers first (unclosed_after_turn own what) (unclosed_after_turn there what)
covers_turn first own there Idle held = held
covers_turn first own there (Opened other) held = λ link number at is. by_test link number at (other == link) is
  where
    by_test : (link number : ℕ) → inner_number first link ≡ Some number → (t : Bool)
        → IsTrue (t || list_any (λ o. o == link) own) → IsTrue (t || list_any (λ o. o == link) there)
    by_test link number at true is = refl
    by_test link number at false is = held link number at is
covers_turn first own there (Read other count) held = held
covers_turn first own there (Ended other) held = held
covers_turn first own there (Broken other) held = held
covers_turn first own there (Room other) held = held
covers_turn first own there Stopped held = held
covers_turn first own there Failed held = held
covers_turn first own there Memory held = held

covers_more : (first : ℕ) (own there : List ℕ) (what : What) → Covers first own there
    → Covers first own (unclosed_after_turn there what)
covers_more first own there Idle held = held
covers_more first own there (Opened other) held =
    λ link number at is. by_test link (other == link) (held link number at is)
  where
    by_test : (link : ℕ) (t : Bool) → IsTrue (list_any (λ o. o == link) there)
        → IsTrue (t || list_any (λ o. o == link) there)
    by_test link true is = refl
    by_test link false is = is
covers_more first own there (Read other count) held = held
covers_more first own there (Ended other) held = held
covers_more first own there (Broken other) held = held
covers_more first own there (Room other) held = held
covers_more first own there Stopped held = held
covers_more first own there Failed held = held
covers_more first own there Memory held = held

covers_before : (first : ℕ) (own there : List ℕ) (what : What) → opens_before first what ≡ true → Covers first own there
    → Covers first (unclosed_after_turn own what) there
covers_before first own there Idle before held = held
covers_before first own there (Opened other) before held =
    λ link number at is. by_test link number at (other == link) refl is
  where
    by_test : (link number : ℕ) → inner_number first link ≡ Some number → (t : Bool) → (other == link) ≡ t
        → IsTrue (t || list_any (λ o. o == link) own) → IsTrue (list_any (λ o. o == link) there)
    by_test link number at true same is =
        let below = ltb-true other first before in
        let here = number_is first link number at in
        let alike = eqb-true other link same in
        absurd (omega (arith, below, here, alike))
    by_test link number at false same is = held link number at is
covers_before first own there (Read other count) before held = held
covers_before first own there (Ended other) before held = held
covers_before first own there (Broken other) before held = held
covers_before first own there (Room other) before held = held
covers_before first own there Stopped before held = held
covers_before first own there Failed before held = held
covers_before first own there Memory before held = held

-- the same turn is noted here and there
pub passes_turn : (first : ℕ) (own there there' : List Entry) (wants : List Want) (buf : List ℕ) (turn : Turn)
    → there' ≡ there ++ next_entries wants buf turn → Passes first own there
    → Passes first (own ++ next_entries wants buf turn) there'
passes_turn first own there there' wants buf turn is held =
    subst (Passes first (own ++ next_entries wants buf turn)) (sym is)
    (passes_then first own there (next_entries wants buf turn) (next_entries wants buf turn) both held)
  where
    both : Covers first (unclosed own) (unclosed there)
        → Covers first (fold unclosed_after (unclosed own) (next_entries wants buf turn))
        (fold unclosed_after (unclosed there) (next_entries wants buf turn))
    both covers =
        subst (λ (links : List ℕ). Covers first links
        (fold unclosed_after (unclosed there) (next_entries wants buf turn)))
        (sym (turn_links (unclosed own) wants buf turn))
        (subst (Covers first (unclosed_after_turn (unclosed own) turn.what))
        (sym (turn_links (unclosed there) wants buf turn))
        (covers_turn first (unclosed own) (unclosed there) turn.what covers))

-- a turn is noted there, and not here yet
pub passes_turn_there : (first : ℕ) (own there there' : List Entry) (wants : List Want) (buf : List ℕ) (turn : Turn)
    → there' ≡ there ++ next_entries wants buf turn → Passes first own there → Passes first own there'
passes_turn_there first own there there' wants buf turn is held =
    subst (Passes first own) (sym is) (passes_there first own there (next_entries wants buf turn)
    (λ covers. subst (Covers first (unclosed own)) (sym (turn_links (unclosed there) wants buf turn))
    (covers_more first (unclosed own) (unclosed there) turn.what covers)) held)

-- a turn that opens no inner link is noted here alone
pub passes_turn_here : (first : ℕ) (own there : List Entry) (wants : List Want) (buf : List ℕ) (turn : Turn)
    → opens_before first turn.what ≡ true → Passes first own there
    → Passes first (own ++ next_entries wants buf turn) there
passes_turn_here first own there wants buf turn before held =
    passes_here first own there (next_entries wants buf turn)
    (λ covers. subst (λ (links : List ℕ). Covers first links (unclosed there))
    (sym (turn_links (unclosed own) wants buf turn))
    (covers_before first (unclosed own) (unclosed there) turn.what before covers)) held

-- ---- `listen` and `send`

-- calls that open and close nothing, here and there
passes_none : (first : ℕ) (own there made made' : List Entry)
    → ((links : List ℕ) → fold unclosed_after links made ≡ links)
    → ((links : List ℕ) → fold unclosed_after links made' ≡ links)
    → Passes first own there → Passes first (own ++ made) (there ++ made')
passes_none first own there made made' none none' held = passes_then first own there made made'
    (λ covers. subst (λ (links : List ℕ). Covers first links (fold unclosed_after (unclosed there) made'))
    (sym (none (unclosed own))) (subst (Covers first (unclosed own)) (sym (none' (unclosed there))) covers)) held

nothing_there : (first : ℕ) (own there : List Entry) → Passes first own (there ++ []) → Passes first own there
nothing_there first own there held = subst (Passes first own) (append-nil there) held

nothing_here : (first : ℕ) (own there : List Entry) → Passes first (own ++ []) there → Passes first own there
nothing_here first own there held = subst (λ (log : List Entry). Passes first log there) (append-nil own) held

no_links : (links : List ℕ) → fold unclosed_after links [] ≡ links
no_links links = refl

listen_links : (address : List ℕ) (answer : ListenAnswer) (links : List ℕ)
    → fold unclosed_after links (listen_entries address answer) ≡ links
listen_links address (listen.Ready secs) links = refl
listen_links address listen.Failed links = refl
listen_links address listen.Memory links = refl

send_links : (link : ℕ) (bytes : List ℕ) (answer : SendAnswer) (links : List ℕ)
    → fold unclosed_after links (send_entries link bytes answer) ≡ links
send_links link bytes (send.Took count) links = refl
send_links link bytes send.Later links = refl
send_links link bytes send.Failed links = refl
send_links link bytes send.Memory links = refl

pub passes_listen : (first : ℕ) (own there there' : List Entry) (address : List ℕ) (answer : ListenAnswer)
    → there' ≡ there ++ listen_entries address answer → Passes first own there
    → Passes first (own ++ listen_entries address answer) there'
passes_listen first own there there' address answer is held =
    subst (Passes first (own ++ listen_entries address answer)) (sym is)
    (passes_none first own there (listen_entries address answer) (listen_entries address answer)
    (listen_links address answer) (listen_links address answer) held)

pub passes_listen_there : (first : ℕ) (own there there' : List Entry) (address : List ℕ) (answer : ListenAnswer)
    → there' ≡ there ++ listen_entries address answer → Passes first own there → Passes first own there'
passes_listen_there first own there there' address answer is held =
    subst (Passes first own) (sym is) (nothing_here first own (there ++ listen_entries address answer)
    (passes_none first own there [] (listen_entries address answer) no_links (listen_links address answer) held))

pub passes_listen_here : (first : ℕ) (own there : List Entry) (address : List ℕ) (answer : ListenAnswer)
    → Passes first own there → Passes first (own ++ listen_entries address answer) there
passes_listen_here first own there address answer held =
    nothing_there first (own ++ listen_entries address answer) there
    (passes_none first own there (listen_entries address answer) [] (listen_links address answer) no_links held)

pub passes_send : (first : ℕ) (own there there' : List Entry) (link : ℕ) (bytes : List ℕ) (answer : SendAnswer)
    → there' ≡ there ++ send_entries link bytes answer → Passes first own there
    → Passes first (own ++ send_entries link bytes answer) there'
passes_send first own there there' link bytes answer is held =
    subst (Passes first (own ++ send_entries link bytes answer)) (sym is)
    (passes_none first own there (send_entries link bytes answer) (send_entries link bytes answer)
    (send_links link bytes answer) (send_links link bytes answer) held)

pub passes_send_there : (first : ℕ) (own there there' : List Entry) (link : ℕ) (bytes : List ℕ) (answer : SendAnswer)
    → there' ≡ there ++ send_entries link bytes answer → Passes first own there → Passes first own there'
passes_send_there first own there there' link bytes answer is held =
    subst (Passes first own) (sym is) (nothing_here first own (there ++ send_entries link bytes answer)
    (passes_none first own there [] (send_entries link bytes answer) no_links (send_links link bytes answer) held))

pub passes_send_here : (first : ℕ) (own there : List Entry) (link : ℕ) (bytes : List ℕ) (answer : SendAnswer)
    → Passes first own there → Passes first (own ++ send_entries link bytes answer) there
passes_send_here first own there link bytes answer held =
    nothing_there first (own ++ send_entries link bytes answer) there
    (passes_none first own there (send_entries link bytes answer) [] (send_links link bytes answer) no_links held)

-- ---- `close`

close_fewer : (link number : ℕ) (links : List ℕ)
    → IsTrue (list_any (λ o. o == number) (filter (λ o. not (o == link)) links))
    → IsTrue (list_any (λ o. o == number) links) × (number ≢ link)
close_fewer link number links is = by_test (number == link) refl
  where
    same_test : (t : Bool) → (number == link) ≡ t → (k : ℕ) → (k == number) ≡ true → not (k == link) ≡ not t
    same_test t test k at = ap not (ap (λ (n : ℕ). n == link) (eqb-true k number at) ∙ test)

    by_test : (t : Bool) → (number == link) ≡ t → IsTrue (list_any (λ o. o == number) links) × (number ≢ link)
    by_test true test =
        absurd (cc (
          is,
          any-filter_same (λ (o : ℕ). o == number) (λ (o : ℕ). not (o == link)) false
              (same_test true test) links,
        ))
    by_test false test = (
      sym (any-filter_same (λ (o : ℕ). o == number) (λ (o : ℕ). not (o == link)) true (same_test false test) links)
          ∙ is,
      λ same. absurd (cc (test, eq-eqb number link same)),
    )

-- a close here alone
pub passes_close_here : (first : ℕ) (own own' there : List Entry) (link : ℕ) → own' ≡ own ++ Close link ∷ []
    → Passes first own there → Passes first own' there
passes_close_here first own own' there link is held =
    subst (λ (log : List Entry). Passes first log there) (sym is)
    (passes_here first own there (Close link ∷ []) fewer held)
  where
    fewer : Covers first (unclosed own) (unclosed there)
        → Covers first (filter (λ o. not (o == link)) (unclosed own)) (unclosed there)
    fewer covers other number at is_open = covers other number at (close_fewer link other (unclosed own) is_open).0

-- a close here and there
pub passes_close : (first : ℕ) (own own' there there' : List Entry) (link : ℕ) → own' ≡ own ++ Close link ∷ []
    → there' ≡ there ++ Close link ∷ [] → Passes first own there → Passes first own' there'
passes_close first own own' there there' link is is' held =
    subst (λ (log : List Entry). Passes first log there') (sym is)
    (subst (Passes first (own ++ Close link ∷ [])) (sym is')
    (passes_then first own there (Close link ∷ []) (Close link ∷ []) both held))
  where
    both : Covers first (unclosed own) (unclosed there)
        → Covers first (filter (λ o. not (o == link)) (unclosed own)) (filter (λ o. not (o == link)) (unclosed there))
    both covers other number at is_open =
        let was = close_fewer link other (unclosed own) is_open in
        any-filter_same (λ (o : ℕ). o == other) (λ (o : ℕ). not (o == link)) true
        (λ k test. ap not (ne_eqb k link (λ same. was.1 (sym (eqb-true k other test) ∙ same)))) (unclosed there)
        ∙ covers other number at was.0

-- the links that record may be told to close what may be closed here
pub may_close : (first link : ℕ) (own there : List Entry) (inner : Option (List Entry)) (number : ℕ)
    → inner_number first link ≡ Some number → Passes first own there
    → MayClose (option_map (λ _. own) inner) link → MayClose (option_map (λ _. there) inner) link
may_close first link own there None number at held may = λ entries is. absurd (none-some entries is)
may_close first link own there (Some calls) number at held may = λ entries is.
    subst (λ (log : List Entry). IsTrue (is_unclosed link log)) (same_Some there entries is)
    (held link number at (may own refl))

-- ---- the same number of inner link 0

pub same_last : (last last' : Option ℕ) (own there : List Entry) → last' ≡ last → Passes (first_after last) own there
    → Passes (first_after last') own there
same_last last last' own there is held = subst (λ (l : Option ℕ). Passes (first_after l) own there) (sym is) held

-- a turn that opens no inner link, while nothing is noted there
pub passes_quiet : (last last' : Option ℕ) (own there there' : List Entry) (wants : List Want) (buf : List ℕ)
    (turn : Turn) → last' ≡ last → there' ≡ there → opens_before (first_after last') turn.what ≡ true
    → Passes (first_after last) own there → Passes (first_after last') (own ++ next_entries wants buf turn) there'
passes_quiet last last' own there there' wants buf turn is same before held =
    subst (Passes (first_after last') (own ++ next_entries wants buf turn)) (sym same)
    (passes_turn_here (first_after last') own there wants buf turn before (same_last last last' own there is held))

-- ---- the number of a link there

pub has_number : (found : Option ℕ) → is_some found ≡ true → (number : ℕ) × (found ≡ Some number)
has_number None is = absurd (cc is)
has_number (Some number) is = (number, refl)

pub no_number : (found : Option ℕ) → is_some found ≡ false → found ≡ None
no_number None is = refl
no_number (Some number) is = absurd (cc is)

pub same_before : (last last' : Option ℕ) (records : List TurnRecord) → last' ≡ last
    → list_all (is_before (first_after last)) records ≡ true → list_all (is_before (first_after last')) records ≡ true
same_before last last' records is before =
    subst (λ (l : Option ℕ). list_all (is_before (first_after l)) records ≡ true) (sym is) before
