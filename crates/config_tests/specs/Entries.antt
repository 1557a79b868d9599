-- How the entries of a test are read, step by step, and what each step refuses at which place. Which forms are entries
-- is said by the grammar (`Grammar.antt`), and which fault is the first by a relation (`Faults.antt`), apart from these
-- steps.
use Rattle.std.specs.Prelude.{ℕ, ◌+◌, nat_le, if◌then◌else◌, List, [], ◌∷◌, ◌++◌, Option, Some, None, Result, Ok, Err}
use Rattle.ev_types.specs.declared.event.Event.{Event}
use Rattle.ev_types.specs.declared.field.Field.TheVariants.{Time}
use Rattle.ev_types.specs.declared.item.Item.{Item}
use Rattle.ev_types.specs.declared.item.Item.TheVariants.{One, Many}
use Rattle.sexp_read.specs.declared.piece.Bracket.TheVariants.{Square}
use Rattle.sexp_read.specs.Tree.{FormTree, FormTrees}
use Rattle.config_terms.specs.declared.fault.ConfigWhy.TheVariants as why
use Rattle.config_terms.specs.Code.{Look, Call, look_of, later}
use Rattle.config_terms.specs.Steps.{Fault, ◌>>=◌, start_of, argument, at_most, each, onto}
use Rattle.config_terms.specs.Arguments.{Argument, Forms, argument_of, has_field, ranged_at, some_of, text_at}
use Rattle.config_tests.specs.declared.draft.Draft.{Draft}
use Rattle.config_tests.specs.declared.draft.TheConstants.{MAX_SECONDS, MAX_TICK}
use Rattle.config_tests.specs.declared.entry.Entry.TheVariants as entry
use Rattle.config_tests.specs.declared.entry.Expect.{Expect}
use Rattle.config_tests.specs.declared.map.Described.{Described}
use Rattle.config_tests.specs.declared.word.EntryWord.{EntryWord}
use Rattle.config_tests.specs.declared.word.EntryWord.TheVariants as word
use Rattle.config_tests.specs.Events.{event_of}
use Rattle.config_tests.specs.Grammar.{has_expect}
use Rattle.config_tests.specs.Maps.{described_at}
use Rattle.config_tests.specs.Words.{entry_word}

-- ---- what was read so far

abbrev pub no_entries : Draft
no_entries = record { moment = 0; entries = []; expects = [] }

-- with one more entry
abbrev pub passed : ℕ → Draft → Draft
passed count draft = record draft { moment = draft.moment + count; entries = draft.entries ++ entry.Tick count ∷ [] }

abbrev pub posted : Event → Draft → Draft
posted event draft = record draft { entries = draft.entries ++ entry.Event event ∷ [] }

abbrev pub expected : List ℕ → List Item → Draft → Draft
expected name items draft = record draft { expects = draft.expects ++ record { name = name; items = items } ∷ [] }

-- ---- seconds

-- the seconds of all ticks together are not more than the most
abbrev pub within : ℕ → ℕ → ℕ → Result ℕ Fault
within place moment count = if nat_le (moment + count) MAX_SECONDS then Ok count else Err (place, why.Range)

unfoldable pub count_at : ℕ → FormTree → Result ℕ Fault
count_at moment f = ranged_at 1 MAX_TICK [] f >>= within (start_of f) moment

unfoldable pub with_tick : ℕ → FormTrees → Draft → Result Draft Fault
with_tick start forms draft =
    argument start 0 forms >>= λ f.
    count_at draft.moment f >>= λ count.
    at_most 1 forms >>= λ over.
    Ok (passed count draft)

-- ---- events

unfoldable pub with_event : ℕ → FormTrees → Draft → Result Draft Fault
with_event start forms draft =
    argument start 0 forms >>= λ f.
    described_at f >>= λ described.
    at_most 1 forms >>= λ over.
    Ok (posted (event_of draft.moment described) draft)

-- ---- what is expected

-- an event whose time is said
abbrev pub timed : ℕ → Described → Result Event Fault
timed place described = if has_field Time described.sets then Ok (event_of 0 described) else Err (place, why.Arguments)

unfoldable pub timed_at : FormTree → Result Event Fault
timed_at f = described_at f >>= timed (start_of f)

-- events in a vector, of which there is one at least
abbrev pub some_timed : ℕ → FormTrees → Result (List Event) Fault
some_timed place forms = each (onto timed_at) [] forms >>= some_of place

abbrev pub item_by : FormTree → Argument → Result Item Fault
item_by f (Forms Square forms) = some_timed (start_of f) forms >>= λ events. Ok (Many events)
item_by f given = timed_at f >>= λ event. Ok (One event)

unfoldable pub item_at : FormTree → Result Item Fault
item_at f = item_by f (argument_of [] f)

-- something is expected under each name once at most
abbrev pub new_name : ℕ → List Expect → List ℕ → Result (List ℕ) Fault
new_name start expects name = if has_expect name expects then Err (start, why.Twice) else Ok name

unfoldable pub with_expect : ℕ → FormTrees → Draft → Result Draft Fault
with_expect start forms draft =
    argument start 0 forms >>= λ f.
    text_at [] f >>= λ given.
    new_name start draft.expects given >>= λ name.
    each (onto item_at) [] (later 1 forms) >>= λ items.
    Ok (expected name items draft)

-- ---- entries

-- a list of the word that starts at the place, with these forms after the word
unfoldable pub entry_by : Option EntryWord → ℕ → FormTrees → Draft → Result Draft Fault
entry_by None start forms draft = Err (start, why.Form)
entry_by (Some word.Tick) start forms draft = with_tick start forms draft
entry_by (Some word.Event) start forms draft = with_event start forms draft
entry_by (Some word.Expect) start forms draft = with_expect start forms draft

abbrev pub entry_looking : ℕ → Draft → Look → Result Draft Fault
entry_looking start draft (Call name forms) = entry_by (entry_word name) start forms draft
entry_looking start draft _ = Err (start, why.Form)

abbrev pub with_entry : Draft → FormTree → Result Draft Fault
with_entry draft f = entry_looking (start_of f) draft (look_of f)
