-- The grammar of tests, as a relation: which forms, apart from their places, represent which tests. Each case belongs
-- to a row of the table of forms in docs/SCRIPTS.md, or to what the page says of maps and items. No names are
-- bound in tests.
use Rattle.std.specs.Prelude.{◌≡◌, ℕ, ◌+◌, ◌≤◌, Bool, true, false, List, [], ◌∷◌, ◌++◌, codes, Some, None}
use Rattle.std.specs.List.{list_any}
use Rattle.std.specs.Option.{is_some}
use Rattle.std.specs.Str.{bytes_eq}
use Rattle.ev_types.specs.declared.event.Event.{Event}
use Rattle.ev_types.specs.declared.field.Field.{Field}
use Rattle.ev_types.specs.declared.field.Field.TheVariants.{Time}
use Rattle.ev_types.specs.declared.item.Item.{Item}
use Rattle.ev_types.specs.declared.item.Item.TheVariants.{One, Many}
use Rattle.ev_types.specs.declared.settings.Set.{Set}
use Rattle.sexp_read.specs.Written.{BareTree, BareTrees, no_trees, and_trees, listed}
use Rattle.config_terms.specs.declared.binding.Bound.TheVariants as bound
use Rattle.config_terms.specs.Arguments.{has_field}
use Rattle.config_terms.specs.Grammar.{worded, IsLiteral}
use Rattle.config_terms.specs.Terms.{vector_of, map_of, IsRanged, IsField, IsSet, AreEach, AreTexts}
use Rattle.config_tests.specs.declared.draft.TheConstants.{MAX_SECONDS, MAX_TICK}
use Rattle.config_tests.specs.declared.entry.Entry.{Entry}
use Rattle.config_tests.specs.declared.entry.Entry.TheVariants as entry
use Rattle.config_tests.specs.declared.entry.Expect.{Expect}
use Rattle.config_tests.specs.declared.entry.Test.{Test}
use Rattle.config_tests.specs.declared.map.Described.{Described}
use Rattle.config_tests.specs.declared.map.MapKey.{MapKey}
use Rattle.config_tests.specs.declared.map.MapKey.TheVariants as key
use Rattle.config_tests.specs.Events.{event_of, seconds_in}

-- ---- forms in a row

-- forms, and one more after them
abbrev pub then_one : BareTrees → BareTree → BareTrees
then_one no_trees form = and_trees form no_trees
then_one (and_trees first forms) form = and_trees first (then_one forms form)

-- ---- arguments

abbrev pub IsText : BareTree → List ℕ → Type 0
IsText form text = IsLiteral [] form (bound.Text text)

-- seconds that pass in one tick
abbrev pub IsCount : BareTree → ℕ → Type 0
IsCount = IsRanged 1 MAX_TICK []

-- ---- maps

abbrev pub nothing : Described
nothing = record { sets = []; tags = None }

-- a key: a field, or `:tags`
pub data IsKey : BareTree → MapKey → Type 0 where
  field_key : {form : BareTree} {one : Field} → IsField [] form one → IsKey form (key.Field one)
  tags_key : {form : BareTree} → IsLiteral [] form (bound.Keyword (codes "tags")) → IsKey form key.Tags

abbrev pub has_key : MapKey → Described → Bool
has_key (key.Field one) described = has_field one described.sets
has_key key.Tags described = is_some described.tags

-- what a key and the form after it say more: a field has a value that it takes, and the tags are a vector of texts
pub data IsPart : Described → MapKey → BareTree → Described → Type 0 where
  says_field : {before : Described} {one : Field} {v : BareTree} {set : Set} → IsSet [] one v set
      → IsPart before (key.Field one) v (record before { sets = before.sets ++ set ∷ [] })
  says_tags : {before : Described} {forms : BareTrees} {tags : List (List ℕ)} → AreTexts [] forms tags
      → IsPart before key.Tags (vector_of forms) (record before { tags = Some tags })

-- keys, each with what it says after it. None comes twice
pub data AreParts : BareTrees → Described → Type 0 where
  no_parts : AreParts no_trees nothing
  more_parts : {forms : BareTrees} {k v : BareTree} {one : MapKey} {before described : Described}
      → AreParts forms before → IsKey k one → has_key one before ≡ false → IsPart before one v described
      → AreParts (then_one (then_one forms k) v) described

pub data IsMap : BareTree → Described → Type 0 where
  a_map : {forms : BareTrees} {described : Described} → AreParts forms described → IsMap (map_of forms) described

-- ---- items

-- an event is expected with its time
pub data IsTimed : BareTree → Event → Type 0 where
  a_timed : {form : BareTree} {described : Described} → IsMap form described → has_field Time described.sets ≡ true
      → IsTimed form (event_of 0 described)

-- an event, or a vector of one event at least
pub data IsItem : BareTree → Item → Type 0 where
  event_item : {form : BareTree} {event : Event} → IsTimed form event → IsItem form (One event)
  vector_item : {forms : BareTrees} {event : Event} {events : List Event} → AreEach IsTimed forms (event ∷ events)
      → IsItem (vector_of forms) (Many (event ∷ events))

-- ---- entries

-- what comes in a test, and what is expected, in the order of the text
pub record Told : Type 0 where
  pub entries : List Entry
  pub expects : List Expect

abbrev pub nothing_told : Told
nothing_told = record { entries = []; expects = [] }

-- the seconds that passed
abbrev pub passed_in : Told → ℕ
passed_in told = seconds_in told.entries

abbrev pub with_entry_told : Told → Entry → Told
with_entry_told told one = record told { entries = told.entries ++ one ∷ [] }

abbrev pub with_expect_told : Told → Expect → Told
with_expect_told told one = record told { expects = told.expects ++ one ∷ [] }

abbrev pub has_expect : List ℕ → List Expect → Bool
has_expect name = list_any (λ expect. bytes_eq expect.name name)

-- what is told once one more entry is. The seconds of all ticks are not more than the most; an event of which no time
-- is said comes at the second that the test has come to; and under each name something is expected once at most
pub data IsEntry : Told → BareTree → Told → Type 0 where
  a_tick : {told : Told} {n : BareTree} {count : ℕ} → IsCount n count → passed_in told + count ≤ MAX_SECONDS
      → IsEntry told (worded (codes "tick") (listed (n ∷ []))) (with_entry_told told (entry.Tick count))
  an_event : {told : Told} {map : BareTree} {described : Described} → IsMap map described
      → IsEntry told (worded (codes "event") (listed (map ∷ [])))
      (with_entry_told told (entry.Event (event_of (passed_in told) described)))
  an_expect : {told : Told} {x : BareTree} {forms : BareTrees} {name : List ℕ} {items : List Item} → IsText x name
      → has_expect name told.expects ≡ false → AreEach IsItem forms items
      → IsEntry told (worded (codes "expect") (and_trees x forms))
      (with_expect_told told (record { name = name; items = items }))

pub data AreEntries : BareTrees → Told → Type 0 where
  no_entries : AreEntries no_trees nothing_told
  more_entries : {forms : BareTrees} {form : BareTree} {told more : Told} → AreEntries forms told
      → IsEntry told form more → AreEntries (then_one forms form) more

-- ---- tests

pub data IsTest : BareTree → Test → Type 0 where
  a_test : {x : BareTree} {forms : BareTrees} {name : List ℕ} {told : Told} → IsText x name → AreEntries forms told
      → IsTest (worded (codes "test") (and_trees x forms))
      (record { name = name; entries = told.entries; expects = told.expects })

-- the forms represent the tests
abbrev pub AreTests : BareTrees → List Test → Type 0
AreTests = AreEach IsTest
