-- What the calls of a turn come to.
use Rattle.std.proofs.Common.{◌≡◌, ◌≢◌, ℕ, suc, ◌<◌, ◌≤◌, Bool, true, false, cond, ◌&&◌, ◌||◌, List, [], ◌∷◌, ◌++◌}
use Rattle.std.proofs.Common.{length, map, get_or, set, Result, Ok, Err, refl, ap, sym, ◌∙◌, subst, arith, append-nil}
use Rattle.std.specs.Prelude.{IsErr, OnOk, Some, nat_lt}
use Rattle.std.specs.List.{AllByRecursion, remove}
use Rattle.std.proofs.lemmas.Bool.{and_parts, eqb-true, le-ltb, lt-ltb, ltb-true}
use Rattle.std.proofs.lemmas.List.Folds.{list_all-append}
use Rattle.hub_link.specs.hub_meaning.Legal.{AreSettled, IsLegalFrom, IsSettled, IsSettledAs, MayClose}
use Rattle.hub_link.specs.hub_meaning.declared.stage.Stage.{Stage}
use Rattle.hub_link.specs.hub_meaning.declared.stage.Stage.TheVariants.{Open, ReadClosed, Closing, Closed}
use Rattle.hub_link.specs.hub_meaning.Links.{Link, broken, changed, closed, connected, connected_limit, ended}
use Rattle.hub_link.specs.hub_meaning.Links.{find_link, has_number, is_above, is_connected, is_open, is_open_stage}
use Rattle.hub_link.specs.hub_meaning.Links.{is_read_closed_stage, new_link, opened, sent, unblocked, want_of, wants_of}
use Rattle.hub_link.specs.hub_meaning.Links.{with_stage}
use Rattle.hub_link.specs.hub_meaning.Runs.{RunState, Step, plain, state_from, with_links}
use Rattle.hub_link.proofs.HubMeaningLinkLaws.{rising_changed, rising_opened}
use Rattle.hub_link.proofs.HubMeaningRunLaws.{legal_append, state_append}
use Rattle.hub_link.specs.declared.link.HubLink.{HubLink}
use Rattle.hub_link.specs.HubLink.{RepresentsChanged, RepresentsLink, number_of}
use Rattle.hub_link.specs.Sending.{IsOf, IsSent, Sends, after_sends}
use Rattle.conn_core.specs.Kept.{HasNoNumber, IsAbsent, IsAt, Kept, is_newer, number_at}
use Rattle.list_laws.specs.declared.memory.Memory.{Memory}
use Rattle.ports.specs.declared.entry.Entry.{Entry}
use Rattle.ports.specs.declared.entry.Entry.TheVariants.{Listen, Next, Send, Close}
use Rattle.ports.specs.declared.links.SendAnswer.{SendAnswer}
use Rattle.ports.specs.declared.links.SendAnswer.TheVariants.{Took, Later, Failed, Memory as SendMemory}
use Rattle.ports.specs.declared.links.Want.{Want}
use Rattle.conn_core.specs.Keeping.{AreBeside, Keeps}
use Rattle.conn_core.specs.Reaching.{AddsLink, Changes, Finishes, Focus, Settles}
use Rattle.conn_core.proofs.FocusLaws.{focus_changed, focus_find, focus_found, focus_kept, focus_removed}
use Rattle.conn_core.proofs.Splits.{AreOther, beside_append, beside_length, changed_at, connected_append, found_at}
use Rattle.conn_core.proofs.Splits.{settled_append, wants_append}

pub plain_append : (first second : List Entry) → plain (first ++ second) ≡ plain first ++ plain second
plain_append [] second = refl
plain_append (entry ∷ first) second =
    ap (λ (steps : List Step). record { entry = entry; verdicts = [] } ∷ steps) (plain_append first second)

pub none_ok : {T E : Type 0} (P : Type 0) (r : Result T E) → IsErr r → OnOk r P
none_ok P (Ok x) failed = absurd (cc failed)
none_ok P (Err e) failed = tt

-- ---- a link that was sent to

sent_number : (bytes : List ℕ) (answer : SendAnswer) (link : Link) → (sent bytes answer link).number ≡ link.number
sent_number bytes (Took count) link = refl
sent_number bytes Later link = refl
sent_number bytes Failed link = refl
sent_number bytes SendMemory link = refl

after_number : (run : List Entry) (link : Link) → (after_sends run link).number ≡ link.number
after_number [] link = refl
after_number (Listen address answer ∷ run) link = after_number run link
after_number (Next wants turn piece ∷ run) link = after_number run link
after_number (Send number bytes answer ∷ run) link =
    after_number run (sent bytes answer link) ∙ sent_number bytes answer link
after_number (Close number ∷ run) link = after_number run link

pub closing_unclosed : Closing ≢ Closed
closing_unclosed same = cc same

pub read_closed_unclosed : ReadClosed ≢ Closed
read_closed_unclosed same = cc same

sent_unclosed : (bytes : List ℕ) (answer : SendAnswer) (link : Link) → link.stage ≢ Closed
    → (sent bytes answer link).stage ≢ Closed
sent_unclosed bytes (Took count) link unclosed = unclosed
sent_unclosed bytes Later link unclosed = unclosed
sent_unclosed bytes Failed link unclosed = closing_unclosed
sent_unclosed bytes SendMemory link unclosed = unclosed

after_unclosed : (run : List Entry) (link : Link) → link.stage ≢ Closed → (after_sends run link).stage ≢ Closed
after_unclosed [] link unclosed = unclosed
after_unclosed (Listen address answer ∷ run) link unclosed = after_unclosed run link unclosed
after_unclosed (Next wants turn piece ∷ run) link unclosed = after_unclosed run link unclosed
after_unclosed (Send number bytes answer ∷ run) link unclosed =
    after_unclosed run (sent bytes answer link) (sent_unclosed bytes answer link unclosed)
after_unclosed (Close number ∷ run) link unclosed = after_unclosed run link unclosed

-- ---- the sends, and what follows them

module _ (table table'' : Kept HubLink) (number place : ℕ) (value value' : HubLink)
    (at : (other : HubLink) → get_or table.values place other ≡ value) where
  represented : (links : List Link) (meant : Link) → Focus table number place links meant → RepresentsLink value meant
  represented links meant focus = subst (λ (v : HubLink). RepresentsLink v meant) (at value) (focus.value value)

  is_of : (state : RunState) (meant : Link) → Focus table number place state.links meant → IsOf value state meant
  is_of state meant focus =
      let represents = represented state.links meant focus in
      record {
        found =
            subst (λ (n : ℕ). find_link n state.links ≡ Some meant) (sym (represents.number ∙ focus.number_is))
            (focus_find table number place state.links meant focus);
        represents = represents;
      }

  pub settles_sent : (first second : List Entry) → Sends value value' first → IsSent value'
      → Finishes (record table { values = set table.values place value' }) table'' number place (Ok tt) second
      → Settles table table'' number place (Ok tt) (first ++ second)
  settles_sent first second sends all_sent finishes config state meant focus =
      let of = is_of state meant focus in
      let same : number_of value ≡ number = of.represents.number ∙ focus.number_is in
      let after : RunState = with_links (changed number (after_sends first) state.links) state in
      let leads : state_from config (plain first) state ≡ after =
      sends.leads config state meant of
      ∙ ap (λ (n : ℕ). with_links (changed n (after_sends first) state.links) state) same in
      let there =
      focus_changed table number place state.links meant focus (after_sends first) value' (after_number first meant)
      (after_unclosed first meant focus.unclosed)
      (sends.represents meant of.represents) in
      let rest =
      finishes config after (after_sends first meant) there
      (λ stays. all_sent (after_sends first meant) (sends.represents meant of.represents) stays) in
      record {
        legal = subst (λ (steps : List Step). IsLegalFrom config steps state) (sym (plain_append first second))
            (legal_append config (plain first) (plain second) state (sends.legal config state meant of)
            (subst (λ (s : RunState). IsLegalFrom config (plain second) s) (sym leads) rest.legal));
        ends = record {
          links = rest.ends.links;
          leads = ap (λ (steps : List Step). state_from config steps state) (plain_append first second)
              ∙ state_append config (plain first) (plain second) state
              ∙ ap (state_from config (plain second)) leads
              ∙ rest.ends.leads;
          keeps = rest.ends.keeps;
          settled = rest.ends.settled;
        };
      }

  pub settles_failed : (table' : Kept HubLink) (result : Result (Unit {0}) Memory) (run : List Entry) → IsErr result
      → Sends value value' run
      → Settles table table' number place result run
  settles_failed table' result run failed sends config state meant focus =
      record { legal = sends.legal config state meant (is_of state meant focus); ends = none_ok _ result failed }

-- ---- a link that is closed, or stays

settled_connected : (link : Link) (stage : Stage) → stage ≢ Closed → IsSettledAs link stage
    → (is_open_stage stage || is_read_closed_stage stage) ≡ true
settled_connected link Open unclosed settled = refl
settled_connected link ReadClosed unclosed settled = refl
settled_connected link Closing unclosed settled = absurd settled
settled_connected link Closed unclosed settled = absurd (unclosed refl)

pub finishes_closed : (table table' : Kept HubLink) (number place : ℕ)
    → ((meant : Link) → ((other : HubLink) → RepresentsLink (get_or table.values place other) meant) → MayClose meant)
    → table'.wants ≡ remove table.wants place → table'.values ≡ remove table.values place → table'.newest ≡ table.newest
    → Finishes table table' number place (Ok tt) (Close number ∷ [])
finishes_closed table table' number place may wants values newest config state meant focus settled =
    let kept = focus_removed table number place state.links meant focus table' wants values newest in
    record {
      legal = ((refl, (meant, focus_find table number place state.links meant focus, may meant focus.value)), tt);
      ends = record { links = changed number closed state.links; leads = refl; keeps = kept.0; settled = kept.1 };
    }

pub finishes_kept : (table table' : Kept HubLink) (number place : ℕ) (want : Want)
    → ((meant : Link) → ((other : HubLink) → RepresentsLink (get_or table.values place other) meant)
    → (MayClose meant → ⊥) × (want ≡ want_of meant))
    → table'.wants
    ≡ set table.wants place (record { link = number_at table.wants place; read = want.read; room = want.room })
    → table'.values ≡ table.values → table'.newest ≡ table.newest → Finishes table table' number place (Ok tt) []
finishes_kept table table' number place want stays wants values newest config state meant focus settled =
    let facts = stays meant focus.value in
    let is_settled = settled facts.0 in
    let fresh : record { link = number_at table.wants place; read = want.read; room = want.room } ≡ want_of meant =
    ap (λ (n : ℕ). record { link = n; read = want.read; room = want.room }) (focus.has_number ∙ sym focus.number_is)
    ∙ ap (λ (w : Want). record { link = meant.number; read = w.read; room = w.room }) facts.1 in
    let kept =
    focus_kept table number place state.links meant focus table'
    (settled_connected meant meant.stage focus.unclosed is_settled) is_settled
    (wants ∙ ap (set table.wants place) fresh) values newest in
    record {
      legal = tt;
      ends = record { links = state.links; leads = refl; keeps = kept.0; settled = kept.1 };
    }

-- ---- the link of a number is changed

abbrev pub KeepsStanding : (Link → Link) → Type 0
KeepsStanding f = (link : Link) → link.stage ≢ Closed → (f link).stage ≢ Closed

choice : (P : Link → Type 0) (t : Bool) (a b : Link) → P a → P b → P (cond t a b)
choice P true a b first second = first
choice P false a b first second = second

pub ended_unclosed : KeepsStanding ended
ended_unclosed link unclosed =
    choice (λ l. l.stage ≢ Closed) (is_open link) (with_stage ReadClosed link) link read_closed_unclosed unclosed

pub broken_unclosed : KeepsStanding broken
broken_unclosed link unclosed =
    choice (λ l. l.stage ≢ Closed) (is_connected link) (with_stage Closing link) link closing_unclosed unclosed

pub unblocked_unclosed : KeepsStanding unblocked
unblocked_unclosed link unclosed =
    choice (λ l. l.stage ≢ Closed) (is_connected link) (record link { blocked = false }) link unclosed unclosed

pub changes_found : (f : Link → Link) (table table'' : Kept HubLink) (number place : ℕ) (value value' : HubLink)
    (result : Result (Unit {0}) Memory) (run : List Entry)
    → ((link : Link) → (f link).number ≡ link.number) → KeepsStanding f → IsAt number table place
    → ((other : HubLink) → get_or table.values place other ≡ value) → RepresentsChanged f value value'
    → Settles (record table { values = set table.values place value' }) table'' number place result run
    → Changes (changed number f) table table'' result run
changes_found f table table'' number place value value' result run numbers unclosed at is follows settles config state
    keeps settled =
    let found = focus_found table number place state.links keeps settled at in
    let represents : RepresentsLink value found.meant =
    subst (λ (v : HubLink). RepresentsLink v found.meant) (is value) (found.focus.value value) in
    settles config (with_links (changed number f state.links) state) (f found.meant)
    (focus_changed table number place state.links found.meant found.focus f value' (numbers found.meant)
    (unclosed found.meant found.focus.unclosed) (follows found.meant represents))

-- no connected link has the number
abbrev pub AreGone : ℕ → List Link → Type 0
AreGone number links = AllByRecursion (λ link. link.number ≡ number → is_connected link ≡ false) links

gone_wants : (number : ℕ) (links : List Link) → HasNoNumber number (wants_of links) → AreGone number links
gone_wants number [] none = tt
gone_wants number (link ∷ links) none =
    at_first (is_connected link) refl none (λ others. gone_wants number links others)
  where
    at_first : (t : Bool) → is_connected link ≡ t
        → HasNoNumber number (map want_of (cond t (link ∷ connected links) (connected links)))
        → (HasNoNumber number (wants_of links) → AreGone number links) → AreGone number (link ∷ links)
    at_first true test others rest = (
      λ same. absurd (others 0 (omega arith) same),
      rest (λ place within same. others (suc place) (omega (arith, within)) same),
    )
    at_first false test others rest = (λ same. test, rest others)

pub absent_gone : (table : Kept HubLink) (number : ℕ) (links : List Link) → Keeps table links → IsAbsent number table
    → AreGone number links
absent_gone table number links keeps absent = gone_wants number links (subst (HasNoNumber number) keeps.wants absent)

pub changed_gone : (number : ℕ) (f : Link → Link) → ((link : Link) → is_connected link ≡ false → f link ≡ link)
    → (links : List Link) → AreGone number links → changed number f links ≡ links
changed_gone number f fixed [] gone = refl
changed_gone number f fixed (link ∷ links) gone =
    ap (λ (l : Link). l ∷ changed number f links)
    (at_first (has_number number link) (λ is. fixed link (gone.0 (eqb-true link.number number is))))
    ∙ ap (λ (ls : List Link). link ∷ ls) (changed_gone number f fixed links gone.1)
  where
    at_first : (t : Bool) → (t ≡ true → f link ≡ link) → cond t (f link) link ≡ link
    at_first true same = same refl
    at_first false same = refl

not_open : (stage : Stage) → (is_open_stage stage || is_read_closed_stage stage) ≡ false → is_open_stage stage ≡ false
not_open Open is = absurd (cc is)
not_open ReadClosed is = refl
not_open Closing is = refl
not_open Closed is = refl

pub ended_fixed : (link : Link) → is_connected link ≡ false → ended link ≡ link
ended_fixed link is = ap (λ (t : Bool). cond t (with_stage ReadClosed link) link) (not_open link.stage is)

pub broken_fixed : (link : Link) → is_connected link ≡ false → broken link ≡ link
broken_fixed link is = ap (λ (t : Bool). cond t (with_stage Closing link) link) is

pub unblocked_fixed : (link : Link) → is_connected link ≡ false → unblocked link ≡ link
unblocked_fixed link is = ap (λ (t : Bool). cond t (record link { blocked = false }) link) is

-- the links stay as they are
pub changes_nothing : (change : List Link → List Link) (table : Kept HubLink)
    → ((links : List Link) → Keeps table links → change links ≡ links) → Changes change table table (Ok tt) []
changes_nothing change table same config state keeps settled = record {
  legal = tt;
  ends = record {
    links = change state.links;
    leads = refl;
    keeps = subst (Keeps table) (sym (same state.links keeps)) keeps;
    settled = subst AreSettled (sym (same state.links keeps)) settled;
  };
}

pub changes_absent : (f : Link → Link) (table : Kept HubLink) (number : ℕ)
    → ((link : Link) → is_connected link ≡ false → f link ≡ link) → IsAbsent number table
    → Changes (changed number f) table table (Ok tt) []
changes_absent f table number fixed absent =
    changes_nothing (changed number f) table
    (λ links keeps. changed_gone number f fixed links (absent_gone table number links keeps absent))

-- ---- a link is opened

opened_by_test : (number : ℕ) (links : List Link) (t : Bool) → is_above number links ≡ t
    → opened number links ≡ cond t (links ++ new_link number links ∷ []) links
opened_by_test number links t is = ap (λ (b : Bool). cond b (links ++ new_link number links ∷ []) links) is

above_others : (number : ℕ) (links : List Link) → is_above number links ≡ true → AreOther number links
above_others number [] above = tt
above_others number (link ∷ links) above =
    let both = and_parts (nat_lt link.number number) (is_above number links) above in
    let less : link.number < number = ltb-true link.number number both.0 in
    (λ same. omega arith, above_others number links both.1)

-- what is above a number that is above all is above all
above_more : (number other : ℕ) (links : List Link) → is_above number links ≡ true → number < other
    → is_above other links ≡ true
above_more number other [] above less = refl
above_more number other (link ∷ links) above less =
    let both = and_parts (nat_lt link.number number) (is_above number links) above in
    let lower : link.number < number = ltb-true link.number number both.0 in
    ap (λ (t : Bool). t && is_above other links) (lt-ltb link.number other (omega arith))
    ∙ above_more number other links both.1 less

newest_above : (number other : ℕ) (links : List Link) (last : Link) → last.number ≡ number
    → is_above number links ≡ true → is_above other (links ++ last ∷ []) ≡ nat_lt number other
newest_above number other links last same above =
    list_all-append (λ link. nat_lt link.number other) links (last ∷ [])
    ∙ ap (λ (n : ℕ). is_above other links && (nat_lt n other && true)) same
    ∙ by_test (nat_lt number other) refl
  where
    and_false : (t : Bool) → (t && false) ≡ false
    and_false true = refl
    and_false false = refl

    by_test : (t : Bool) → nat_lt number other ≡ t
        → (is_above other links && (nat_lt number other && true)) ≡ nat_lt number other
    by_test true is =
        ap (λ (t : Bool). is_above other links && (t && true)) is
        ∙ ap (λ (t : Bool). t && true) (above_more number other links above (ltb-true number other is)) ∙ sym is
    by_test false is =
        ap (λ (t : Bool). is_above other links && (t && true)) is ∙ and_false (is_above other links) ∙ sym is

abbrev link_with : ℕ → Stage → Link
link_with number stage = record { number = number; stage = stage; blocked = false; came = []; replies = []; taken = [] }

new_link_is : (number : ℕ) (links : List Link) (t : Bool) → nat_lt (length (connected links)) connected_limit ≡ t
    → new_link number links ≡ link_with number (cond t Open Closing)
new_link_is number links t is = ap (λ (b : Bool). link_with number (cond b Open Closing)) is

pub changes_added : (table table' : Kept HubLink) (number : ℕ) → is_newer number table.newest ≡ true
    → length table.values < connected_limit → AddsLink number table table'
    → Changes (opened number) table table' (Ok tt) []
changes_added table table' number newer room adds config state keeps settled =
    let links : List Link = state.links in
    let above : is_above number links ≡ true = keeps.free number ∙ newer in
    let few : length (connected links) < connected_limit =
    subst (λ (n : ℕ). n < connected_limit) (beside_length table.values (connected links) keeps.values) room in
    let new : Link = new_link number links in
    let is : new ≡ link_with number Open =
    new_link_is number links true (lt-ltb (length (connected links)) connected_limit few) in
    let all : opened number links ≡ links ++ new ∷ [] = opened_by_test number links true above in
    let one : connected (new ∷ []) ≡ new ∷ [] = subst (λ (l : Link). connected (l ∷ []) ≡ l ∷ []) (sym is) refl in
    record {
      legal = tt;
      ends = record {
        links = opened number links;
        leads = refl;
        keeps = record {
          wants = adds.wants
              ∙ ap (λ (ws : List Want). ws ++ want_of (new_link number []) ∷ []) keeps.wants
              ∙ ap (λ (l : Link). wants_of links ++ want_of l ∷ []) (sym is)
              ∙ ap (λ (ls : List Link). wants_of links ++ map want_of ls) (sym one)
              ∙ sym (wants_append links (new ∷ []))
              ∙ ap wants_of (sym all);
          values = subst (λ (vs : List HubLink). AreBeside vs (connected (opened number links))) (sym adds.values)
              (subst (AreBeside (table.values ++ adds.value ∷ []))
              (sym (ap connected all ∙ connected_append links (new ∷ [])
              ∙ ap (λ (ls : List Link). connected links ++ ls) one))
              (beside_append table.values (adds.value ∷ []) (connected links) (new ∷ []) keeps.values
              (adds.represents links few, tt)));
          free =
              λ other. ap (is_above other) all ∙ newest_above number other links new refl above
              ∙ sym (ap (is_newer other) adds.newest);
          rising = rising_opened number links keeps.rising;
        };
        settled =
            subst AreSettled (sym all)
            (settled_append links (new ∷ []) settled
            (subst IsSettled (sym is) (λ some. let none : 0 < 0 = some in absurd (omega (arith, none))), tt));
      };
    }

pub changes_full : (table table' : Kept HubLink) (number : ℕ) → is_newer number table.newest ≡ true
    → connected_limit ≤ length table.values
    → table'.wants ≡ table.wants → table'.values ≡ table.values → table'.newest ≡ Some number
    → Changes (opened number) table table' (Ok tt) (Close number ∷ [])
changes_full table table' number newer full wants values newest config state keeps settled =
    let links : List Link = state.links in
    let above : is_above number links ≡ true = keeps.free number ∙ newer in
    let many : connected_limit ≤ length (connected links) =
    subst (λ (n : ℕ). connected_limit ≤ n) (beside_length table.values (connected links) keeps.values) full in
    let new : Link = new_link number links in
    let is : new ≡ link_with number Closing =
    new_link_is number links false (le-ltb (length (connected links)) connected_limit many) in
    let all : opened number links ≡ links ++ new ∷ [] = opened_by_test number links true above in
    let others = above_others number links above in
    let after : changed number closed (opened number links) ≡ links ++ closed new ∷ [] =
    ap (changed number closed) all ∙ changed_at number closed links [] new refl others tt in
    let same : connected (changed number closed (opened number links)) ≡ connected links =
    ap connected after ∙ connected_append links (closed new ∷ []) ∙ append-nil (connected links) in
    record {
      legal = (
        (refl, (new, ap (find_link number) all ∙ found_at number links [] new refl others, subst MayClose (sym is) tt)),
        tt,
      );
      ends = record {
        links = changed number closed (opened number links);
        leads = refl;
        keeps = record {
          wants = wants ∙ keeps.wants ∙ ap (map want_of) (sym same);
          values =
              subst (λ (vs : List HubLink). AreBeside vs (connected (changed number closed (opened number links))))
              (sym values) (subst (AreBeside table.values) (sym same) keeps.values);
          free =
              λ other. ap (is_above other) after ∙ newest_above number other links (closed new) refl above
              ∙ sym (ap (is_newer other) newest);
          rising =
              rising_changed number closed (λ link _. refl) (opened number links)
              (rising_opened number links keeps.rising);
        };
        settled = subst AreSettled (sym after) (settled_append links (closed new ∷ []) settled (tt, tt));
      };
    }
