-- No more seconds pass in a test that was read than in any test.
use Rattle.std.proofs.Common.{◌≡◌, ℕ, ◌+◌, ◌≤◌, nat_le, List, [], ◌∷◌, ◌++◌, Option, Some, None, Result, Ok, Err, refl}
use Rattle.std.proofs.Common.{arith}
use Rattle.std.proofs.lemmas.Bool.{leb-true}
use Rattle.std.specs.List.{AllByRecursion}
use Rattle.sexp_read.specs.Tree.{FormTree, FormTrees, none, also}
use Rattle.config_terms.specs.Code.{Look, Symbol, Call, Lookup, Other, look_of, later}
use Rattle.config_terms.specs.Steps.{Fault, start_of, argument, at_most, each, onto}
use Rattle.config_terms.specs.Arguments.{ranged_at, text_at}
use Rattle.config_terms.proofs.Outcomes.{OkGood, Any_, any_good, bind_good, ok_if, ok_read}
use Rattle.ev_types.specs.declared.item.Item.{Item}
use Rattle.config_tests.specs.declared.draft.Draft.{Draft}
use Rattle.config_tests.specs.declared.draft.TheConstants.{MAX_SECONDS, MAX_TICK}
use Rattle.config_tests.specs.declared.entry.Entry.{Entry}
use Rattle.config_tests.specs.declared.entry.Entry.TheVariants as entry
use Rattle.config_tests.specs.declared.entry.Test.{Test}
use Rattle.config_tests.specs.declared.map.Described.{Described}
use Rattle.config_tests.specs.declared.word.EntryWord.{EntryWord}
use Rattle.config_tests.specs.declared.word.EntryWord.TheVariants as word
use Rattle.config_tests.specs.Events.{seconds_in, event_of, IsShort}
use Rattle.config_tests.specs.Maps.{described_at}
use Rattle.config_tests.specs.Entries.{no_entries, passed, posted, expected, within, count_at, with_tick, with_event}
use Rattle.config_tests.specs.Entries.{new_name, with_expect, entry_by, entry_looking, with_entry, item_at}
use Rattle.config_tests.specs.Tests.{test_in, test_looking, test_from, read_without_names, tests_of, test_at}
use Rattle.config_tests.specs.Words.{entry_word, test_text}
use Rattle.std.specs.Str.{bytes_eq}

pub seconds-append : (entries more : List Entry) → seconds_in (entries ++ more) ≡ seconds_in entries + seconds_in more
seconds-append [] more = omega arith
seconds-append (one ∷ entries) more = omega (arith, seconds-append entries more)

-- what every step keeps, all steps together keep
each_good : {A : Type 0} (P : A → Type 0) (step : A → FormTree → Result A Fault) →
    ((a : A) (f : FormTree) → P a → OkGood P (step a f)) →
    (forms : FormTrees) (a : A) → P a → OkGood P (each step a forms)
unfolding each
each_good P step keeps none a holds = holds
each_good P step keeps (also f forms) a holds =
    bind_good P P (step a f) (λ b. each step b forms) (keeps a f holds) (λ b good. each_good P step keeps forms b good)

-- the moment is the number of seconds that passed, and that is not more than the most
record IsCounted (draft : Draft) : Type 0 where
  seconds : seconds_in draft.entries ≡ draft.moment
  few : draft.moment ≤ MAX_SECONDS

count_good : (moment : ℕ) (f : FormTree) → OkGood (λ count. moment + count ≤ MAX_SECONDS) (count_at moment f)
unfolding count_at
count_good moment f =
    let P = λ (count : ℕ). moment + count ≤ MAX_SECONDS in
    bind_good Any_ P (ranged_at 1 MAX_TICK [] f) (within (start_of f) moment) (any_good (ranged_at 1 MAX_TICK [] f))
    (λ count _.
    ok_if P (nat_le (moment + count) MAX_SECONDS) _ _ (λ is. leb-true (moment + count) MAX_SECONDS is) (λ _. tt))

tick_counted : (draft : Draft) (count : ℕ) → IsCounted draft → draft.moment + count ≤ MAX_SECONDS
    → IsCounted (passed count draft)
tick_counted draft count counted few =
    record { seconds = omega (arith, seconds-append draft.entries (entry.Tick count ∷ []), counted.seconds); few = few }

tick_good : (start : ℕ) (forms : FormTrees) (draft : Draft) → IsCounted draft
    → OkGood IsCounted (with_tick start forms draft)
unfolding with_tick
tick_good start forms draft counted =
    bind_good Any_ IsCounted (argument start 0 forms) _ (any_good (argument start 0 forms)) (λ f _.
    bind_good (λ count. draft.moment + count ≤ MAX_SECONDS) IsCounted (count_at draft.moment f) _
    (count_good draft.moment f) (λ count few.
    bind_good Any_ IsCounted (at_most 1 forms) _ (any_good (at_most 1 forms))
    (λ over _. tick_counted draft count counted few)))

event_counted : (draft : Draft) (described : Described) → IsCounted draft
    → IsCounted (posted (event_of draft.moment described) draft)
event_counted draft described counted =
    record {
      seconds =
          omega
          (arith, seconds-append draft.entries (entry.Event (event_of draft.moment described) ∷ []), counted.seconds);
      few = counted.few;
    }

event_good : (start : ℕ) (forms : FormTrees) (draft : Draft) → IsCounted draft
    → OkGood IsCounted (with_event start forms draft)
unfolding with_event
event_good start forms draft counted =
    bind_good Any_ IsCounted (argument start 0 forms) _ (any_good (argument start 0 forms)) (λ f _.
    bind_good Any_ IsCounted (described_at f) _ (any_good (described_at f)) (λ described _.
    bind_good Any_ IsCounted (at_most 1 forms) _ (any_good (at_most 1 forms))
    (λ over _. event_counted draft described counted)))

expect_counted : (draft : Draft) (name : List ℕ) (items : List Item) → IsCounted draft
    → IsCounted (expected name items draft)
expect_counted draft name items counted = record { seconds = counted.seconds; few = counted.few }

expect_good : (start : ℕ) (forms : FormTrees) (draft : Draft) → IsCounted draft
    → OkGood IsCounted (with_expect start forms draft)
unfolding with_expect
expect_good start forms draft counted =
    bind_good Any_ IsCounted (argument start 0 forms) _ (any_good (argument start 0 forms)) (λ f _.
    bind_good Any_ IsCounted (text_at [] f) _ (any_good (text_at [] f)) (λ given _.
    bind_good Any_ IsCounted (new_name start draft.expects given) _ (any_good (new_name start draft.expects given))
    (λ name _.
    bind_good Any_ IsCounted (each (onto item_at) [] (later 1 forms)) _
    (any_good (each (onto item_at) [] (later 1 forms)))
    (λ items _. expect_counted draft name items counted))))

entry_good : (found : Option EntryWord) (start : ℕ) (forms : FormTrees) (draft : Draft) → IsCounted draft
    → OkGood IsCounted (entry_by found start forms draft)
unfolding entry_by
entry_good None start forms draft counted = tt
entry_good (Some word.Tick) start forms draft counted = tick_good start forms draft counted
entry_good (Some word.Event) start forms draft counted = event_good start forms draft counted
entry_good (Some word.Expect) start forms draft counted = expect_good start forms draft counted

look_good : (start : ℕ) (draft : Draft) (look : Look) → IsCounted draft
    → OkGood IsCounted (entry_looking start draft look)
look_good start draft (Call name forms) counted = entry_good (entry_word name) start forms draft counted
look_good start draft (Symbol name) counted = tt
look_good start draft (Lookup name forms) counted = tt
look_good start draft Other counted = tt

entries_good : (forms : FormTrees) → OkGood IsCounted (each with_entry no_entries forms)
entries_good forms =
    each_good IsCounted with_entry (λ draft f counted. look_good (start_of f) draft (look_of f) counted) forms
    no_entries (record { seconds = refl; few = omega arith })

test_good : (start : ℕ) (forms : FormTrees) → OkGood IsShort (test_in start forms)
unfolding test_in
test_good start forms =
    bind_good Any_ IsShort (argument start 0 forms) _ (any_good (argument start 0 forms)) (λ f _.
    bind_good Any_ IsShort (text_at [] f) _ (any_good (text_at [] f)) (λ name _.
    bind_good IsCounted IsShort (each with_entry no_entries (later 1 forms)) (λ draft. Ok (test_from name draft))
    (entries_good (later 1 forms)) (λ draft counted. omega (arith, counted.seconds, counted.few))))

test_look_good : (start : ℕ) (look : Look) → OkGood IsShort (test_looking start look)
test_look_good start (Call name forms) =
    ok_if IsShort (bytes_eq name test_text) _ _ (λ _. test_good start forms) (λ _. tt)
test_look_good start (Symbol name) = tt
test_look_good start (Lookup name forms) = tt
test_look_good start Other = tt

all_more : (tests : List Test) (test : Test) → AllByRecursion IsShort tests → IsShort test
    → AllByRecursion IsShort (tests ++ test ∷ [])
all_more [] test all short = (short, tt)
all_more (first ∷ tests) test all short = (all.0, all_more tests test all.1 short)

tests_good : (forms : FormTrees) → OkGood (AllByRecursion IsShort) (each (onto test_at) [] forms)
tests_good forms =
    each_good (AllByRecursion IsShort) (onto test_at) (λ tests f all.
    bind_good IsShort (AllByRecursion IsShort) (test_looking (start_of f) (look_of f)) (λ test. Ok (tests ++ test ∷ []))
    (test_look_good (start_of f) (look_of f)) (λ test short. all_more tests test all short))
    forms [] tt

without_names_good : (P : List Test → Type 0) (read : Result (List Test) Fault) → OkGood P read
    → OkGood P (read_without_names read)
without_names_good P (Ok tests) good = good
without_names_good P (Err fault) good = tt

pub tests_short : (forms : FormTrees) (tests : List Test) → tests_of forms ≡ Ok tests → AllByRecursion IsShort tests
unfolding tests_of
tests_short forms tests are =
    ok_read (AllByRecursion IsShort) (read_without_names (each (onto test_at) [] forms)) tests are
    (without_names_good (AllByRecursion IsShort) (each (onto test_at) [] forms) (tests_good forms))
