-- The entries of a test are read exactly as the grammar says, and refused exactly for their first fault.
use Rattle.std.proofs.Common.{◌≡◌, ℕ, true, false, codes, List, [], ◌∷◌, Option, Some, None, Ok, Err, refl, ap, sym}
use Rattle.std.proofs.Common.{subst, ◌∙◌, arith}
use Rattle.ev_types.specs.declared.item.Item.{Item}
use Rattle.sexp_read.specs.declared.piece.Atom.TheVariants as atom
use Rattle.sexp_read.specs.declared.piece.Bracket.TheVariants.{Round, Square, Curly}
use Rattle.sexp_read.specs.Tree.{FormTree, FormTrees, Single, Group, none, also}
use Rattle.sexp_read.specs.Written.{BareTree, BareTrees, and_trees, bare_tree, bare_trees, listed}
use Rattle.config_terms.specs.declared.fault.ConfigWhy.TheVariants as why
use Rattle.config_terms.specs.Code.{Look, Symbol, Call, Lookup, Other, look_of}
use Rattle.config_terms.specs.Steps.{Fault, ◌>>=◌, start_of, argument, at_most, each, onto}
use Rattle.config_terms.specs.Arguments.{text_at}
use Rattle.config_terms.specs.Grammar.{worded}
use Rattle.config_terms.proofs.BareForms.{also_of, none_of, call_of}
use Rattle.config_terms.proofs.GrammarRead.{one_of}
use Rattle.config_terms.proofs.Outcomes.{SomeGood, some_found}
use Rattle.config_terms.proofs.TermLaws.{texts_are_read}
use Rattle.config_tests.specs.declared.draft.Draft.{Draft}
use Rattle.config_tests.specs.declared.entry.Entry.TheVariants as entry
use Rattle.config_tests.specs.declared.entry.Expect.{Expect}
use Rattle.config_tests.specs.declared.map.Described.{Described}
use Rattle.config_tests.specs.declared.word.EntryWord.{EntryWord}
use Rattle.config_tests.specs.declared.word.EntryWord.TheVariants as word
use Rattle.config_tests.specs.Entries.{no_entries as no_draft, passed, posted, expected, count_at, with_tick}
use Rattle.config_tests.specs.Entries.{with_event, new_name, with_expect, entry_by, entry_looking, item_at}
use Rattle.config_tests.specs.Entries.{with_entry}
use Rattle.config_tests.specs.Events.{event_of}
use Rattle.config_tests.specs.Faults.{IsListOf, IsFirstFault, IsMisfit, HasCountFault, HasMapFault, HaveItemFault}
use Rattle.config_tests.specs.Faults.{HasEntryFault, no_entry, nothing_after, tick_count, tick_more, event_map}
use Rattle.config_tests.specs.Faults.{event_more, expect_name, expect_twice, expect_item, HaveEntryFault}
use Rattle.config_terms.specs.Terms.{AreEach}
use Rattle.config_tests.specs.Grammar.{then_one, IsText, IsCount, IsMap, IsItem, Told, nothing_told, passed_in}
use Rattle.config_tests.specs.Grammar.{with_entry_told, with_expect_told, has_expect, IsEntry, a_tick, an_event}
use Rattle.config_tests.specs.Grammar.{an_expect, AreEntries, no_entries, more_entries}
use Rattle.config_tests.specs.Maps.{described_at}
use Rattle.config_tests.specs.Words.{entry_text, entry_words, entry_word}
use Rattle.config_tests.proofs.ItemsRead.{Counted, count_both, count_read, count_refuses, items_both, items_read}
use Rattle.config_tests.proofs.ItemsRead.{items_refuse}
use Rattle.config_tests.proofs.MapsRead.{map_both, map_read, map_refuses}
use Rattle.config_tests.proofs.Refusals.{Refuses, Both, both_then, both_if, both_weaker, refuses_first, refuses_as}
use Rattle.config_tests.proofs.Refusals.{text_both, text_refuses}
use Rattle.config_terms.proofs.NameLaws.{named_has_text}
use Rattle.config_terms.proofs.RowLaws.{each_none}
use Rattle.config_tests.proofs.Rows.{each_both, each_last, row_refuses, last_of}
use Rattle.config_tests.proofs.ShortLaws.{seconds-append}

-- ---- forms by their heads

abbrev pub HeadIs : FormTree → Look → Type 0
HeadIs f (Call name forms) = IsListOf name forms f
HeadIs f look = (name : List ℕ) (forms : FormTrees) → IsListOf name forms f → ⊥

pub heads : (f : FormTree) → HeadIs f (look_of f)
unfolding look_of
heads (Single (atom.Symbol name) start last) = λ other forms call. let is = call.is in cc
heads (Single (atom.Text text) start last) = λ other forms call. let is = call.is in cc
heads (Single (atom.Pattern text) start last) = λ other forms call. let is = call.is in cc
heads (Single (atom.Number number) start last) = λ other forms call. let is = call.is in cc
heads (Single (atom.Keyword name) start last) = λ other forms call. let is = call.is in cc
heads (Group Round (also (Single (atom.Symbol name) begin end) forms) start last) =
    record { begin = begin; end = end; start = start; last = last; is = refl }
heads (Group Round (also (Single (atom.Keyword name) begin end) forms) start last) =
    λ other more call. let is = call.is in cc
heads (Group Round (also (Single (atom.Text text) begin end) forms) start last) =
    λ other more call. let is = call.is in cc
heads (Group Round (also (Single (atom.Pattern text) begin end) forms) start last) =
    λ other more call. let is = call.is in cc
heads (Group Round (also (Single (atom.Number number) begin end) forms) start last) =
    λ other more call. let is = call.is in cc
heads (Group Round (also (Group bracket inner begin end) forms) start last) = λ other more call. let is = call.is in cc
heads (Group Round none start last) = λ other more call. let is = call.is in cc
heads (Group Square forms start last) = λ other more call. let is = call.is in cc
heads (Group Curly forms start last) = λ other more call. let is = call.is in cc

call_look : (name : List ℕ) (forms : FormTrees) (begin end start last : ℕ)
    → look_of (Group Round (also (Single (atom.Symbol name) begin end) forms) start last) ≡ Call name forms
unfolding look_of
call_look name forms begin end start last = refl

pub looks : (name : List ℕ) (forms : FormTrees) (f : FormTree) → IsListOf name forms f → look_of f ≡ Call name forms
looks name forms f call = ap look_of call.is ∙ call_look name forms call.begin call.end call.start call.last

-- a list has one head
pub same_name : (name other : List ℕ) (forms more : FormTrees) (f : FormTree) → IsListOf name forms f
    → IsListOf other more f → name ≡ other
same_name name other forms more f first second =
    let both : Group Round (also (Single (atom.Symbol name) first.begin first.end) forms) first.start first.last
    ≡ Group Round (also (Single (atom.Symbol other) second.begin second.end) more) second.start second.last =
    sym first.is ∙ second.is in
    cc

pub named_so : (name other : List ℕ) (forms : FormTrees) (f : FormTree) → name ≡ other → IsListOf name forms f
    → IsListOf other forms f
named_so name other forms f same call = subst (λ (n : List ℕ). IsListOf n forms f) same call

pub bare_list : (name : List ℕ) (forms : FormTrees) (f : FormTree) → IsListOf name forms f
    → bare_tree f ≡ worded name (bare_trees forms)
bare_list name forms f call = ap bare_tree call.is

-- a form that is a list of the word apart from places
pub record ListOf (name : List ℕ) (row : BareTrees) (f : FormTree) : Type 0 where
  pub forms : FormTrees
  pub call : IsListOf name forms f
  pub forms_are : bare_trees forms ≡ row

pub list_of : (name : List ℕ) (row : BareTrees) (f : FormTree) → bare_tree f ≡ worded name row → ListOf name row f
list_of name row f h =
    let known = call_of f (atom.Symbol name) row h in
    record {
      forms = known.forms;
      call = record { begin = known.begin; end = known.end; start = known.start; last = known.last; is = known.is };
      forms_are = known.forms_are;
    }

-- ---- words

word_is : (w : EntryWord) → entry_word (entry_text w) ≡ Some w
unfolding entry_word
word_is word.Tick = refl
word_is w = refl

abbrev Names : List ℕ → EntryWord → Type 0
Names name w = name ≡ entry_text w

word_means : (name : List ℕ) → SomeGood (Names name) (entry_word name)
unfolding entry_word
word_means name = named_has_text entry_text entry_words name

entry_looks : (draft : Draft) (w : EntryWord) (forms : FormTrees) (f : FormTree) → IsListOf (entry_text w) forms f
    → with_entry draft f ≡ entry_by (Some w) (start_of f) forms draft
entry_looks draft w forms f call =
    ap (entry_looking (start_of f) draft) (looks (entry_text w) forms f call)
    ∙ ap (λ (found : Option EntryWord). entry_by found (start_of f) forms draft) (word_is w)

-- ---- what was told, as the code holds it

abbrev pub draft_of : Told → Draft
draft_of told = record { moment = passed_in told; entries = told.entries; expects = told.expects }

abbrev pub told_of : Draft → Told
told_of draft = record { entries = draft.entries; expects = draft.expects }

abbrev with_moment : ℕ → Told → Draft
with_moment moment told = record { moment = moment; entries = told.entries; expects = told.expects }

tick_told : (told : Told) (count : ℕ)
    → passed count (draft_of told) ≡ draft_of (with_entry_told told (entry.Tick count))
tick_told told count =
    ap (λ (moment : ℕ). with_moment moment (with_entry_told told (entry.Tick count)))
    (omega (arith, seconds-append told.entries (entry.Tick count ∷ [])))

event_told : (told : Told) (described : Described)
    → posted (event_of (passed_in told) described) (draft_of told)
    ≡ draft_of (with_entry_told told (entry.Event (event_of (passed_in told) described)))
event_told told described =
    ap (λ (moment : ℕ). with_moment moment (with_entry_told told (entry.Event (event_of (passed_in told) described))))
    (omega (arith, seconds-append told.entries (entry.Event (event_of (passed_in told) described) ∷ [])))

-- what one more entry makes of a draft
record Onto (told : Told) (form : BareTree) (draft : Draft) : Type 0 where
  more : Told
  is : draft ≡ draft_of more
  one : IsEntry told form more

-- ---- ticks

tick_form : (f n : FormTree) → IsListOf (entry_text word.Tick) (also n none) f
    → bare_tree f ≡ worded (codes "tick") (listed (bare_tree n ∷ []))
tick_form f n call = bare_list (codes "tick") (also n none) f call

tick_onto : (told : Told) (f n : FormTree) (count : ℕ) → IsListOf (entry_text word.Tick) (also n none) f
    → Counted (passed_in told) (bare_tree n) count → Onto told (bare_tree f) (passed count (draft_of told))
tick_onto told f n count call known =
    record {
      more = with_entry_told told (entry.Tick count);
      is = tick_told told count;
      one =
          subst (λ (t : BareTree). IsEntry told t (with_entry_told told (entry.Tick count))) (sym (tick_form f n call))
          (a_tick known.0 known.1);
    }

tick_both : (told : Told) (f : FormTree) (forms : FormTrees) → IsListOf (entry_text word.Tick) forms f
    → Both (Onto told (bare_tree f)) (HasEntryFault told f) (with_tick (start_of f) forms (draft_of told))
unfolding with_tick argument at_most
tick_both told f none call = nothing_after word.Tick call
tick_both told f (also n none) call =
    both_then (Counted (passed_in told) (bare_tree n)) (HasCountFault (passed_in told) n) (HasEntryFault told f)
    (Onto told (bare_tree f)) (count_at (passed_in told) n) (λ count. Ok (passed count (draft_of told)))
    (count_both (passed_in told) n) (λ fault has. tick_count call has)
    (λ count known. tick_onto told f n count call known)
tick_both told f (also n (also x forms)) call =
    both_then (Counted (passed_in told) (bare_tree n)) (HasCountFault (passed_in told) n) (HasEntryFault told f)
    (Onto told (bare_tree f)) (count_at (passed_in told) n) (λ count. Err (start_of x, why.Arguments))
    (count_both (passed_in told) n) (λ fault has. tick_count call has) (λ count known. tick_more call known.0 known.1)

tick_read : (start : ℕ) (n : FormTree) (draft : Draft) (count : ℕ) → count_at draft.moment n ≡ Ok count
    → with_tick start (also n none) draft ≡ Ok (passed count draft)
unfolding with_tick argument at_most
tick_read start n draft count is = rw is refl

tick_first : (start : ℕ) (n : FormTree) (forms : FormTrees) (draft : Draft) (fault : Fault)
    → Refuses (count_at draft.moment n) fault → Refuses (with_tick start (also n forms) draft) fault
unfolding with_tick argument
tick_first start n forms draft fault refused =
    refuses_first (count_at draft.moment n) (λ count. at_most 1 (also n forms) >>= λ over. Ok (passed count draft))
    fault refused

tick_over : (start : ℕ) (n x : FormTree) (forms : FormTrees) (draft : Draft) (count : ℕ)
    → count_at draft.moment n ≡ Ok count
    → Refuses (with_tick start (also n (also x forms)) draft) (start_of x, why.Arguments)
unfolding with_tick argument at_most
tick_over start n x forms draft count is = rw is refl

-- ---- events

event_form : (f m : FormTree) → IsListOf (entry_text word.Event) (also m none) f
    → bare_tree f ≡ worded (codes "event") (listed (bare_tree m ∷ []))
event_form f m call = bare_list (codes "event") (also m none) f call

event_onto : (told : Told) (f m : FormTree) (described : Described) → IsListOf (entry_text word.Event) (also m none) f
    → IsMap (bare_tree m) described
    → Onto told (bare_tree f) (posted (event_of (passed_in told) described) (draft_of told))
event_onto told f m described call known =
    let event = entry.Event (event_of (passed_in told) described) in
    record {
      more = with_entry_told told event;
      is = event_told told described;
      one =
          subst (λ (t : BareTree). IsEntry told t (with_entry_told told event)) (sym (event_form f m call))
          (an_event known);
    }

event_both : (told : Told) (f : FormTree) (forms : FormTrees) → IsListOf (entry_text word.Event) forms f
    → Both (Onto told (bare_tree f)) (HasEntryFault told f) (with_event (start_of f) forms (draft_of told))
unfolding with_event argument at_most
event_both told f none call = nothing_after word.Event call
event_both told f (also m none) call =
    both_then (IsMap (bare_tree m)) (HasMapFault m) (HasEntryFault told f) (Onto told (bare_tree f)) (described_at m)
    (λ described. Ok (posted (event_of (passed_in told) described) (draft_of told)))
    (map_both m) (λ fault has. event_map call has) (λ described known. event_onto told f m described call known)
event_both told f (also m (also x forms)) call =
    both_then (IsMap (bare_tree m)) (HasMapFault m) (HasEntryFault told f) (Onto told (bare_tree f)) (described_at m)
    (λ described. Err (start_of x, why.Arguments))
    (map_both m) (λ fault has. event_map call has) (λ described known. event_more call known)

event_read : (start : ℕ) (m : FormTree) (draft : Draft) (described : Described) → described_at m ≡ Ok described
    → with_event start (also m none) draft ≡ Ok (posted (event_of draft.moment described) draft)
unfolding with_event argument at_most
event_read start m draft described is = rw is refl

event_first : (start : ℕ) (m : FormTree) (forms : FormTrees) (draft : Draft) (fault : Fault)
    → Refuses (described_at m) fault → Refuses (with_event start (also m forms) draft) fault
unfolding with_event argument
event_first start m forms draft fault refused =
    refuses_first (described_at m)
    (λ described. at_most 1 (also m forms) >>= λ over. Ok (posted (event_of draft.moment described) draft)) fault
    refused

event_over : (start : ℕ) (m x : FormTree) (forms : FormTrees) (draft : Draft) (described : Described)
    → described_at m ≡ Ok described
    → Refuses (with_event start (also m (also x forms)) draft) (start_of x, why.Arguments)
unfolding with_event argument at_most
event_over start m x forms draft described is = rw is refl

-- ---- what is expected

expect_onto : (told : Told) (f x : FormTree) (forms : FormTrees) (name : List ℕ) (items : List Item)
    → IsListOf (entry_text word.Expect) (also x forms) f → IsText (bare_tree x) name
    → has_expect name told.expects ≡ false
    → AreEach IsItem (bare_trees forms) items → Onto told (bare_tree f) (expected name items (draft_of told))
expect_onto told f x forms name items call is new are =
    let expect : Expect = record { name = name; items = items } in
    record {
      more = with_expect_told told expect;
      is = refl;
      one =
          subst (λ (t : BareTree). IsEntry told t (with_expect_told told expect))
          (sym (bare_list (codes "expect") (also x forms) f call)) (an_expect is new are);
    }

abbrev IsNewName : Told → BareTree → List ℕ → Type 0
IsNewName told form name = IsText form name × (has_expect name told.expects ≡ false)

expect_both : (told : Told) (f : FormTree) (forms : FormTrees) → IsListOf (entry_text word.Expect) forms f
    → Both (Onto told (bare_tree f)) (HasEntryFault told f) (with_expect (start_of f) forms (draft_of told))
unfolding with_expect argument
expect_both told f none call = nothing_after word.Expect call
expect_both told f (also x forms) call =
    let P = Onto told (bare_tree f) in
    let E = HasEntryFault told f in
    both_then (IsText (bare_tree x)) (IsMisfit IsText x) E P (text_at [] x)
    (λ given. new_name (start_of f) told.expects given
    >>= λ name. each (onto item_at) [] forms >>= λ items. Ok (expected name items (draft_of told)))
    (text_both x) (λ fault misfit. expect_name call misfit)
    (λ given is. both_then (IsNewName told (bare_tree x)) E E P (new_name (start_of f) told.expects given)
    (λ name. each (onto item_at) [] forms >>= λ items. Ok (expected name items (draft_of told)))
    (both_if (IsNewName told (bare_tree x)) E (has_expect given told.expects) _ _ (λ had. expect_twice call is had)
    (λ new. (is, new)))
    (λ fault has. has)
    (λ name new. both_then (AreEach IsItem (bare_trees forms)) (HaveItemFault forms) E P (each (onto item_at) [] forms)
    (λ items. Ok (expected name items (draft_of told)))
    (items_both forms) (λ fault has. expect_item call new.0 new.1 has)
    (λ items are. expect_onto told f x forms name items call new.0 new.1 are)))

expect_read : (start : ℕ) (x : FormTree) (forms : FormTrees) (draft : Draft) (name : List ℕ) (items : List Item)
    → text_at [] x ≡ Ok name → has_expect name draft.expects ≡ false → each (onto item_at) [] forms ≡ Ok items
    → with_expect start (also x forms) draft ≡ Ok (expected name items draft)
unfolding with_expect argument
expect_read start x forms draft name items is new are = rw (is, new, are) refl

expect_first : (start : ℕ) (x : FormTree) (forms : FormTrees) (draft : Draft) (fault : Fault)
    → Refuses (text_at [] x) fault → Refuses (with_expect start (also x forms) draft) fault
unfolding with_expect argument
expect_first start x forms draft fault refused =
    refuses_first (text_at [] x)
    (λ given.
    new_name start draft.expects given >>= λ name. each (onto item_at) [] forms >>= λ items. Ok
    (expected name items draft))
    fault refused

expect_had : (start : ℕ) (x : FormTree) (forms : FormTrees) (draft : Draft) (name : List ℕ) → text_at [] x ≡ Ok name
    → has_expect name draft.expects ≡ true → Refuses (with_expect start (also x forms) draft) (start, why.Twice)
unfolding with_expect argument
expect_had start x forms draft name is had = rw (is, had) refl

expect_items : (start : ℕ) (x : FormTree) (forms : FormTrees) (draft : Draft) (name : List ℕ) (fault : Fault)
    → text_at [] x ≡ Ok name → has_expect name draft.expects ≡ false → Refuses (each (onto item_at) [] forms) fault
    → Refuses (with_expect start (also x forms) draft) fault
unfolding with_expect argument
expect_items start x forms draft name fault is new refused =
    rw (is, new) (refuses_first (each (onto item_at) [] forms) (λ items. Ok (expected name items draft)) fault refused)

-- ---- entries

by_word : (told : Told) (f : FormTree) (forms : FormTrees) (w : EntryWord) → IsListOf (entry_text w) forms f
    → Both (Onto told (bare_tree f)) (HasEntryFault told f) (entry_by (Some w) (start_of f) forms (draft_of told))
unfolding entry_by
by_word told f forms word.Tick call = tick_both told f forms call
by_word told f forms word.Event call = event_both told f forms call
by_word told f forms word.Expect call = expect_both told f forms call

no_word : (name : List ℕ) (w : EntryWord) → entry_word name ≡ None → name ≡ entry_text w → ⊥
no_word name w is same = let both : None ≡ Some w = sym is ∙ ap entry_word same ∙ word_is w in cc

by_none : (told : Told) (f : FormTree) (name : List ℕ) (forms : FormTrees) → IsListOf name forms f
    → entry_word name ≡ None
    → Both (Onto told (bare_tree f)) (HasEntryFault told f) (entry_by None (start_of f) forms (draft_of told))
unfolding entry_by
by_none told f name forms call is =
    no_entry (λ w more other. no_word name w is (same_name name (entry_text w) forms more f call other))

by_name : (told : Told) (f : FormTree) (name : List ℕ) (forms : FormTrees) → IsListOf name forms f
    → (found : Option EntryWord) → entry_word name ≡ found
    → Both (Onto told (bare_tree f)) (HasEntryFault told f) (entry_by found (start_of f) forms (draft_of told))
by_name told f name forms call (Some w) is =
    by_word told f forms w
    (named_so name (entry_text w) forms f (some_found (Names name) (entry_word name) w is (word_means name)) call)
by_name told f name forms call None is = by_none told f name forms call is

by_look : (told : Told) (f : FormTree) (look : Look) → HeadIs f look
    → Both (Onto told (bare_tree f)) (HasEntryFault told f) (entry_looking (start_of f) (draft_of told) look)
by_look told f (Call name forms) head = by_name told f name forms head (entry_word name) refl
by_look told f (Symbol name) head = no_entry (λ w forms call. head (entry_text w) forms call)
by_look told f (Lookup name forms) head = no_entry (λ w more call. head (entry_text w) more call)
by_look told f Other head = no_entry (λ w forms call. head (entry_text w) forms call)

entry_both : (told : Told) (f : FormTree)
    → Both (Onto told (bare_tree f)) (HasEntryFault told f) (with_entry (draft_of told) f)
entry_both told f = by_look told f (look_of f) (heads f)

tick_looks : (draft : Draft) (forms : FormTrees) (f : FormTree) → IsListOf (entry_text word.Tick) forms f
    → with_entry draft f ≡ with_tick (start_of f) forms draft
unfolding entry_by
tick_looks draft forms f call = entry_looks draft word.Tick forms f call

event_looks : (draft : Draft) (forms : FormTrees) (f : FormTree) → IsListOf (entry_text word.Event) forms f
    → with_entry draft f ≡ with_event (start_of f) forms draft
unfolding entry_by
event_looks draft forms f call = entry_looks draft word.Event forms f call

expect_looks : (draft : Draft) (forms : FormTrees) (f : FormTree) → IsListOf (entry_text word.Expect) forms f
    → with_entry draft f ≡ with_expect (start_of f) forms draft
unfolding entry_by
expect_looks draft forms f call = entry_looks draft word.Expect forms f call

entry_read : (told : Told) (form : BareTree) (more : Told) → IsEntry told form more → (f : FormTree)
    → bare_tree f ≡ form → with_entry (draft_of told) f ≡ Ok (draft_of more)
entry_read told _ _ (a_tick {n = n} {count = count} is few) f h =
    let known = list_of (codes "tick") (listed (n ∷ [])) f h in
    let one = one_of known.forms n known.forms_are in
    tick_looks (draft_of told) known.forms f known.call
    ∙ ap (λ (forms : FormTrees). with_tick (start_of f) forms (draft_of told)) one.are
    ∙ tick_read (start_of f) one.a (draft_of told) count
    (count_read (passed_in told) one.a count (subst (λ (t : BareTree). IsCount t count) (sym one.a_is) is) few)
    ∙ ap (λ (draft : Draft). Ok draft) (tick_told told count)
entry_read told _ _ (an_event {map = m} {described = described} is) f h =
    let known = list_of (codes "event") (listed (m ∷ [])) f h in
    let one = one_of known.forms m known.forms_are in
    event_looks (draft_of told) known.forms f known.call
    ∙ ap (λ (forms : FormTrees). with_event (start_of f) forms (draft_of told)) one.are
    ∙ event_read (start_of f) one.a (draft_of told) described
    (map_read one.a described (subst (λ (t : BareTree). IsMap t described) (sym one.a_is) is))
    ∙ ap (λ (draft : Draft). Ok draft) (event_told told described)
entry_read told _ _ (an_expect {x = x} {forms = row} {name = name} {items = items} is new are) f h =
    let known = list_of (codes "expect") (and_trees x row) f h in
    let parts = also_of known.forms x row known.forms_are in
    expect_looks (draft_of told) known.forms f known.call
    ∙ ap (λ (forms : FormTrees). with_expect (start_of f) forms (draft_of told)) parts.are
    ∙ expect_read (start_of f) parts.first parts.rest (draft_of told) name items
    ((texts_are_read [] parts.first name).0 (subst (λ (t : BareTree). IsText t name) (sym parts.first_is) is)) new
    (items_read parts.rest items (subst (λ (r : BareTrees). AreEach IsItem r items) (sym parts.rest_are) are))

none_refuses : (w : EntryWord) (start : ℕ) (draft : Draft)
    → Refuses (entry_by (Some w) start none draft) (start, why.Arguments)
unfolding entry_by with_tick with_event with_expect argument
none_refuses word.Tick start draft = refl
none_refuses word.Event start draft = refl
none_refuses word.Expect start draft = refl

no_word_refuses : (told : Told) (f : FormTree)
    → ((w : EntryWord) (forms : FormTrees) → IsListOf (entry_text w) forms f → ⊥) → (name : List ℕ) (forms : FormTrees)
    → IsListOf name forms f
    → (found : Option EntryWord) → entry_word name ≡ found
    → Refuses (entry_by found (start_of f) forms (draft_of told)) (start_of f, why.Form)
unfolding entry_by
no_word_refuses told f other name forms call None is = refl
no_word_refuses told f other name forms call (Some w) is =
    absurd (other w forms
    (named_so name (entry_text w) forms f (some_found (Names name) (entry_word name) w is (word_means name)) call))

no_entry_refuses : (told : Told) (f : FormTree)
    → ((w : EntryWord) (forms : FormTrees) → IsListOf (entry_text w) forms f → ⊥)
    → Refuses (with_entry (draft_of told) f) (start_of f, why.Form)
no_entry_refuses told f other = by (look_of f) (heads f)
  where
    by : (look : Look) → HeadIs f look
        → Refuses (entry_looking (start_of f) (draft_of told) look) (start_of f, why.Form)
    by (Call name forms) head = no_word_refuses told f other name forms head (entry_word name) refl
    by (Symbol name) head = refl
    by (Lookup name forms) head = refl
    by Other head = refl

entry_refuses : (told : Told) (f : FormTree) (fault : Fault) → HasEntryFault told f fault
    → Refuses (with_entry (draft_of told) f) fault
entry_refuses told _ _ (no_entry {f = f} other) = no_entry_refuses told f other
entry_refuses told _ _ (nothing_after {f = f} w call) =
    refuses_as (with_entry (draft_of told) f) (entry_by (Some w) (start_of f) none (draft_of told))
    (start_of f, why.Arguments) (entry_looks (draft_of told) w none f call)
    (none_refuses w (start_of f) (draft_of told))
entry_refuses told f fault (tick_count {n = n} {forms = forms} call has) =
    refuses_as (with_entry (draft_of told) f) (with_tick (start_of f) (also n forms) (draft_of told)) fault
    (tick_looks (draft_of told) (also n forms) f call)
    (tick_first (start_of f) n forms (draft_of told) fault (count_refuses (passed_in told) n fault has))
entry_refuses told f _ (tick_more {n = n} {x = x} {forms = forms} {count = count} call is few) =
    refuses_as (with_entry (draft_of told) f) (with_tick (start_of f) (also n (also x forms)) (draft_of told))
    (start_of x, why.Arguments) (tick_looks (draft_of told) (also n (also x forms)) f call)
    (tick_over (start_of f) n x forms (draft_of told) count (count_read (passed_in told) n count is few))
entry_refuses told f fault (event_map {m = m} {forms = forms} call has) =
    refuses_as (with_entry (draft_of told) f) (with_event (start_of f) (also m forms) (draft_of told)) fault
    (event_looks (draft_of told) (also m forms) f call)
    (event_first (start_of f) m forms (draft_of told) fault (map_refuses m fault has))
entry_refuses told f _ (event_more {m = m} {x = x} {forms = forms} {described = described} call is) =
    refuses_as (with_entry (draft_of told) f) (with_event (start_of f) (also m (also x forms)) (draft_of told))
    (start_of x, why.Arguments) (event_looks (draft_of told) (also m (also x forms)) f call)
    (event_over (start_of f) m x forms (draft_of told) described (map_read m described is))
entry_refuses told f fault (expect_name {x = x} {forms = forms} call misfit) =
    refuses_as (with_entry (draft_of told) f) (with_expect (start_of f) (also x forms) (draft_of told)) fault
    (expect_looks (draft_of told) (also x forms) f call)
    (expect_first (start_of f) x forms (draft_of told) fault (text_refuses x fault misfit))
entry_refuses told _ _ (expect_twice {f = f} {x = x} {forms = forms} {name = name} call is had) =
    refuses_as (with_entry (draft_of told) f) (with_expect (start_of f) (also x forms) (draft_of told))
    (start_of f, why.Twice) (expect_looks (draft_of told) (also x forms) f call)
    (expect_had (start_of f) x forms (draft_of told) name ((texts_are_read [] x name).0 is) had)
entry_refuses told f fault (expect_item {x = x} {forms = forms} {name = name} call is new has) =
    refuses_as (with_entry (draft_of told) f) (with_expect (start_of f) (also x forms) (draft_of told)) fault
    (expect_looks (draft_of told) (also x forms) f call)
    (expect_items (start_of f) x forms (draft_of told) name fault ((texts_are_read [] x name).0 is) new
    (items_refuse forms fault has))

-- ---- entries in a row

-- the draft holds what the forms tell
pub record Holds (row : BareTrees) (draft : Draft) : Type 0 where
  pub told : Told
  pub is : draft ≡ draft_of told
  pub are : AreEntries row told

abbrev HasDraftFault : Draft → FormTree → Fault → Type 0
HasDraftFault draft = HasEntryFault (told_of draft)

held_more : (row : BareTrees) (told : Told) (form : BareTree) (draft : Draft) → AreEntries row told
    → Onto told form draft → Holds (then_one row form) draft
held_more row told form draft are onto_ = record { told = onto_.more; is = onto_.is; are = more_entries are onto_.one }

held_both : (row : BareTrees) (draft : Draft) (f : FormTree) → Holds row draft
    → Both (Holds (then_one row (bare_tree f))) (HasDraftFault draft f) (with_entry draft f)
held_both row draft f held =
    subst (λ (d : Draft). Both (Holds (then_one row (bare_tree f))) (HasDraftFault d f) (with_entry d f)) (sym held.is)
    (both_weaker (Onto held.told (bare_tree f)) (Holds (then_one row (bare_tree f))) (HasEntryFault held.told f)
    (HasEntryFault held.told f) (with_entry (draft_of held.told) f) (entry_both held.told f)
    (λ after onto_. held_more row held.told (bare_tree f) after held.are onto_) (λ fault has. has))

told_fault : (forms : FormTrees) (fault : Fault) → IsFirstFault Holds HasDraftFault forms fault
    → HaveEntryFault forms fault
told_fault forms fault known =
    record {
      before = known.before;
      form = known.form;
      after = known.after;
      whole = known.whole;
      read = known.are.told;
      are = known.are.are;
      faulty = subst (λ (d : Draft). HasEntryFault (told_of d) known.form fault) known.are.is known.faulty;
    }

pub entries_both : (forms : FormTrees)
    → Both (Holds (bare_trees forms)) (HaveEntryFault forms) (each with_entry no_draft forms)
entries_both forms =
    both_weaker (Holds (bare_trees forms)) (Holds (bare_trees forms)) (IsFirstFault Holds HasDraftFault forms)
    (HaveEntryFault forms) (each with_entry no_draft forms)
    (each_both with_entry no_draft Holds HasDraftFault (record { told = nothing_told; is = refl; are = no_entries })
    held_both forms)
    (λ draft held. held) (told_fault forms)

entries_onto : (row : BareTrees) (told : Told) → AreEntries row told → (forms : FormTrees) → bare_trees forms ≡ row
    → each with_entry no_draft forms ≡ Ok (draft_of told)
entries_onto _ _ no_entries forms h = ap (each with_entry no_draft) (none_of forms h) ∙ each_none with_entry no_draft
entries_onto _ _ (more_entries {forms = row} {form = form} {told = told} {more = more} are is) forms h =
    let last = last_of forms row form h in
    ap (each with_entry no_draft) last.are
    ∙ each_last with_entry no_draft (draft_of told) (draft_of more) last.before last.form
    (entries_onto row told are last.before last.before_are) (entry_read told form more is last.form last.form_is)

pub entries_read : (forms : FormTrees) (told : Told) → AreEntries (bare_trees forms) told
    → each with_entry no_draft forms ≡ Ok (draft_of told)
entries_read forms told are = entries_onto (bare_trees forms) told are forms refl

pub entries_refuse : (forms : FormTrees) (fault : Fault) → HaveEntryFault forms fault
    → Refuses (each with_entry no_draft forms) fault
entries_refuse forms fault known =
    row_refuses with_entry no_draft draft_of AreEntries HasEntryFault entries_read entry_refuses forms fault known
