-- Where and for what forms are refused that are not tests: the first fault in reading order, as a relation. Each case
-- belongs to a row of the table of refusals in docs/SCRIPTS.md. What comes before a fault represents something by
-- the grammar.
use Rattle.std.specs.Prelude.{◌≡◌, ℕ, ℤ, ◌+◌, ◌<◌, ◌≤◌, ◌&&◌, true, false, if◌then◌else◌, List, []}
use Rattle.ev_types.specs.declared.field.Field.{Field}
use Rattle.ev_types.specs.declared.field.Field.TheVariants.{Time}
use Rattle.ev_types.specs.declared.value.Value.{Value}
use Rattle.ev_types.specs.Set.{fits}
use Rattle.sexp_read.specs.declared.piece.Atom.TheVariants as atom
use Rattle.sexp_read.specs.declared.piece.Bracket.TheVariants.{Round, Square, Curly}
use Rattle.sexp_read.specs.Tree.{FormTree, FormTrees, Single, Group, none, also}
use Rattle.sexp_read.specs.Written.{BareTree, BareTrees, bare_tree, bare_trees}
use Rattle.config_terms.specs.declared.binding.Bound.TheVariants as bound
use Rattle.config_terms.specs.declared.fault.ConfigWhy.{ConfigWhy}
use Rattle.config_terms.specs.declared.fault.ConfigWhy.TheVariants as why
use Rattle.config_terms.specs.Steps.{Fault, start_of}
use Rattle.config_terms.specs.Arguments.{has_field, is_number, is_ttl_field}
use Rattle.config_terms.specs.Grammar.{IsLiteral, IsValue}
use Rattle.config_terms.specs.Terms.{vector_of, map_of, AreTexts}
use Rattle.config_tests.specs.declared.draft.TheConstants.{MAX_SECONDS}
use Rattle.config_tests.specs.declared.map.Described.{Described}
use Rattle.config_tests.specs.declared.map.MapKey.{MapKey}
use Rattle.config_tests.specs.declared.map.MapKey.TheVariants as key
use Rattle.config_tests.specs.declared.word.EntryWord.{EntryWord}
use Rattle.config_tests.specs.declared.word.EntryWord.TheVariants as word
use Rattle.config_terms.specs.Terms.{AreEach}
use Rattle.config_tests.specs.Grammar.{IsText, IsCount, IsKey, has_key, AreParts, IsMap, IsTimed, IsItem, Told}
use Rattle.config_tests.specs.Grammar.{passed_in, has_expect, AreEntries, IsTest}
use Rattle.config_tests.specs.Words.{entry_text, test_text}

-- ---- forms

-- some, and others after them
abbrev pub and_forms : FormTrees → FormTrees → FormTrees
and_forms none others = others
and_forms (also form forms) others = also form (and_forms forms others)

-- a list that begins with the word, with these forms after it
pub record IsListOf (word : List ℕ) (forms : FormTrees) (f : FormTree) : Type 0 where
  pub begin : ℕ
  pub end : ℕ
  pub start : ℕ
  pub last : ℕ
  pub is : f ≡ Group Round (also (Single (atom.Symbol word) begin end) forms) start last

-- One of the forms in a row has the fault: those before it represent something together, and the fault is that of the
-- form after this.
pub record IsFirstFault {A : Type 0} (Are : BareTrees → A → Type 0) (Has : A → FormTree → Fault → Type 0)
    (forms : FormTrees) (fault : Fault) : Type 0 where
  pub before : FormTrees
  pub form : FormTree
  pub after : FormTrees
  pub whole : forms ≡ and_forms before (also form after)
  pub read : A
  pub are : Are (bare_trees before) read
  pub faulty : Has read form fault

-- ---- arguments

-- a list is a form that is not allowed where something else has to be; other forms are arguments that do not fit
abbrev pub misfit_why : FormTree → ConfigWhy
misfit_why (Group Round forms start last) = why.Form
misfit_why f = why.Arguments

-- the form does not fit where one of these has to be
pub data IsMisfit {A : Type 0} (Is : BareTree → A → Type 0) : FormTree → Fault → Type 0 where
  a_misfit : {f : FormTree} → ((a : A) → Is (bare_tree f) a → ⊥) → IsMisfit Is f (start_of f, misfit_why f)

abbrev pub IsNumber : BareTree → ℤ → Type 0
IsNumber form number = IsLiteral [] form (bound.Number number)

-- seconds after `tick`, where so many have passed
pub data HasCountFault (passed : ℕ) : FormTree → Fault → Type 0 where
  no_number : {f : FormTree} {fault : Fault} → IsMisfit IsNumber f fault → HasCountFault passed f fault
  no_count : {f : FormTree} {number : ℤ} → IsNumber (bare_tree f) number
      → ((count : ℕ) → IsCount (bare_tree f) count → ⊥) → HasCountFault passed f (start_of f, why.Range)
  too_many : {f : FormTree} {count : ℕ} → IsCount (bare_tree f) count → MAX_SECONDS < passed + count
      → HasCountFault passed f (start_of f, why.Range)

-- ---- maps

-- a number that fits no ttl is out of its range
abbrev pub unfit_why : Field → Value → ConfigWhy
unfit_why one held = if is_ttl_field one && is_number held then why.Range else why.Arguments

pub data HasValueFault (one : Field) : FormTree → Fault → Type 0 where
  no_value : {f : FormTree} {fault : Fault} → IsMisfit (IsValue []) f fault → HasValueFault one f fault
  unfit : {f : FormTree} {held : Value} → IsValue [] (bare_tree f) held → fits one held ≡ false
      → HasValueFault one f (start_of f, unfit_why one held)

abbrev pub IsVector : BareTree → BareTrees → Type 0
IsVector form forms = form ≡ vector_of forms

-- texts before one that is none
abbrev pub HaveTextFault : FormTrees → Fault → Type 0
HaveTextFault = IsFirstFault (AreTexts []) (λ texts. IsMisfit IsText)

pub data HasTagsFault : FormTree → Fault → Type 0 where
  no_vector : {f : FormTree} {fault : Fault} → IsMisfit IsVector f fault → HasTagsFault f fault
  no_tag : {forms : FormTrees} {start last : ℕ} {fault : Fault} → HaveTextFault forms fault
      → HasTagsFault (Group Square forms start last) fault

-- what comes after the key
abbrev pub HasPartFault : MapKey → FormTree → Fault → Type 0
HasPartFault (key.Field one) = HasValueFault one
HasPartFault key.Tags = HasTagsFault

-- what comes next in a map that starts at the place, where this was said before
pub data HasNextFault (place : ℕ) (before : Described) : FormTrees → Fault → Type 0 where
  no_key : {k : FormTree} {forms : FormTrees} {fault : Fault} → IsMisfit IsKey k fault
      → HasNextFault place before (also k forms) fault
  key_twice : {k : FormTree} {forms : FormTrees} {one : MapKey} → IsKey (bare_tree k) one → has_key one before ≡ true
      → HasNextFault place before (also k forms) (start_of k, why.Twice)
  key_alone : {k : FormTree} {one : MapKey} → IsKey (bare_tree k) one → has_key one before ≡ false
      → HasNextFault place before (also k none) (place, why.Arguments)
  no_part : {k f : FormTree} {forms : FormTrees} {one : MapKey} {fault : Fault} → IsKey (bare_tree k) one
      → has_key one before ≡ false → HasPartFault one f fault
      → HasNextFault place before (also k (also f forms)) fault

pub record HavePartFault (place : ℕ) (forms : FormTrees) (fault : Fault) : Type 0 where
  pub before : FormTrees
  pub after : FormTrees
  pub whole : forms ≡ and_forms before after
  pub said : Described
  pub are : AreParts (bare_trees before) said
  pub faulty : HasNextFault place said after fault

abbrev pub IsMapOf : BareTree → BareTrees → Type 0
IsMapOf form forms = form ≡ map_of forms

pub data HasMapFault : FormTree → Fault → Type 0 where
  no_map : {f : FormTree} {fault : Fault} → IsMisfit IsMapOf f fault → HasMapFault f fault
  in_map : {forms : FormTrees} {start last : ℕ} {fault : Fault} → HavePartFault start forms fault
      → HasMapFault (Group Curly forms start last) fault

-- ---- items

pub data HasTimedFault : FormTree → Fault → Type 0 where
  no_event : {f : FormTree} {fault : Fault} → HasMapFault f fault → HasTimedFault f fault
  no_time : {f : FormTree} {described : Described} → IsMap (bare_tree f) described
      → has_field Time described.sets ≡ false → HasTimedFault f (start_of f, why.Arguments)

abbrev pub HaveTimedFault : FormTrees → Fault → Type 0
HaveTimedFault = IsFirstFault (AreEach IsTimed) (λ events. HasTimedFault)

pub data HasItemFault : FormTree → Fault → Type 0 where
  no_item : {f : FormTree} {fault : Fault} → ((forms : BareTrees) → IsVector (bare_tree f) forms → ⊥)
      → HasTimedFault f fault → HasItemFault f fault
  in_vector : {forms : FormTrees} {start last : ℕ} {fault : Fault} → HaveTimedFault forms fault
      → HasItemFault (Group Square forms start last) fault
  no_events : {start last : ℕ} → HasItemFault (Group Square none start last) (start, why.Arguments)

abbrev pub HaveItemFault : FormTrees → Fault → Type 0
HaveItemFault = IsFirstFault (AreEach IsItem) (λ items. HasItemFault)

-- ---- entries

-- an entry, where this was told before
pub data HasEntryFault (told : Told) : FormTree → Fault → Type 0 where
  no_entry : {f : FormTree} → ((one : EntryWord) (forms : FormTrees) → IsListOf (entry_text one) forms f → ⊥)
      → HasEntryFault told f (start_of f, why.Form)
  nothing_after : {f : FormTree} (one : EntryWord) → IsListOf (entry_text one) none f
      → HasEntryFault told f (start_of f, why.Arguments)
  tick_count : {f n : FormTree} {forms : FormTrees} {fault : Fault} → IsListOf (entry_text word.Tick) (also n forms) f
      → HasCountFault (passed_in told) n fault → HasEntryFault told f fault
  tick_more : {f n x : FormTree} {forms : FormTrees} {count : ℕ}
      → IsListOf (entry_text word.Tick) (also n (also x forms)) f → IsCount (bare_tree n) count
      → passed_in told + count ≤ MAX_SECONDS
      → HasEntryFault told f (start_of x, why.Arguments)
  event_map : {f m : FormTree} {forms : FormTrees} {fault : Fault} → IsListOf (entry_text word.Event) (also m forms) f
      → HasMapFault m fault → HasEntryFault told f fault
  event_more : {f m x : FormTree} {forms : FormTrees} {described : Described}
      → IsListOf (entry_text word.Event) (also m (also x forms)) f → IsMap (bare_tree m) described
      → HasEntryFault told f (start_of x, why.Arguments)
  expect_name : {f x : FormTree} {forms : FormTrees} {fault : Fault}
      → IsListOf (entry_text word.Expect) (also x forms) f → IsMisfit IsText x fault → HasEntryFault told f fault
  expect_twice : {f x : FormTree} {forms : FormTrees} {name : List ℕ}
      → IsListOf (entry_text word.Expect) (also x forms) f → IsText (bare_tree x) name
      → has_expect name told.expects ≡ true
      → HasEntryFault told f (start_of f, why.Twice)
  expect_item : {f x : FormTree} {forms : FormTrees} {name : List ℕ} {fault : Fault}
      → IsListOf (entry_text word.Expect) (also x forms) f → IsText (bare_tree x) name
      → has_expect name told.expects ≡ false
      → HaveItemFault forms fault → HasEntryFault told f fault

abbrev pub HaveEntryFault : FormTrees → Fault → Type 0
HaveEntryFault = IsFirstFault AreEntries HasEntryFault

-- ---- tests

pub data HasTestFault : FormTree → Fault → Type 0 where
  no_test : {f : FormTree} → ((forms : FormTrees) → IsListOf test_text forms f → ⊥)
      → HasTestFault f (start_of f, why.Form)
  no_name : {f : FormTree} → IsListOf test_text none f → HasTestFault f (start_of f, why.Arguments)
  test_name : {f x : FormTree} {forms : FormTrees} {fault : Fault} → IsListOf test_text (also x forms) f
      → IsMisfit IsText x fault → HasTestFault f fault
  test_entry : {f x : FormTree} {forms : FormTrees} {name : List ℕ} {fault : Fault}
      → IsListOf test_text (also x forms) f → IsText (bare_tree x) name → HaveEntryFault forms fault
      → HasTestFault f fault

-- the first fault of forms that are not tests
abbrev pub HaveTestFault : FormTrees → Fault → Type 0
HaveTestFault = IsFirstFault (AreEach IsTest) (λ tests. HasTestFault)
