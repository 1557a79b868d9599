-- What comes to streams in a test, and what the verdict on it is.
use Rattle.std.specs.Prelude.{◌≡◌, ◌≢◌, ℕ, ◌<◌, List, [], ◌∷◌, ◌++◌, map, filter, replicate, slice_get}
use Rattle.std.specs.List.{AllByRecursion}
use Rattle.std.specs.Str.{bytes_eq}
use Rattle.ev_types.specs.declared.item.Item.{Item}
use Rattle.ev_types.specs.declared.item.Notice.{Notice}
use Rattle.stream_meaning.specs.Arrivals.{Arrival, Elapsed, Post}
use Rattle.event_core.specs.Core.{CoreConfig, notices_by}
use Rattle.config_tests.specs.declared.entry.Entry.{Entry}
use Rattle.config_tests.specs.declared.entry.Entry.TheVariants as entry
use Rattle.config_tests.specs.declared.entry.Expect.{Expect}
use Rattle.config_tests.specs.declared.entry.Test.{Test}
use Rattle.stream_tests.specs.declared.verdict.Verdict.{Verdict}
use Rattle.stream_tests.specs.declared.verdict.Verdict.TheVariants.{Pass, Differs}

-- an entry as what arrives: as many seconds as a tick has, or an event
abbrev pub arrivals_by : Entry → List Arrival
arrivals_by (entry.Tick count) = replicate count Elapsed
arrivals_by (entry.Event event) = Post event ∷ []

abbrev pub arrivals_in : List Entry → List Arrival
arrivals_in [] = []
arrivals_in (one ∷ entries) = arrivals_by one ++ arrivals_in entries

-- the items that were noticed under the name
abbrev pub seen : List ℕ → List Notice → List Item
seen name notices = map (λ notice. notice.item) (filter (λ notice. bytes_eq notice.name name) notices)

-- The number, from 0, is the least at which the lists differ. An absent item differs from every item.
pub record DifferFirst (number : ℕ) (items expected : List Item) : Type 0 where
  pub differ : slice_get items number ≢ slice_get expected number
  pub same : (earlier : ℕ) → earlier < number → slice_get items earlier ≡ slice_get expected earlier

-- just the items that are expected were noticed under the name
abbrev pub IsMet : List Notice → Expect → Type 0
IsMet notices expect = seen expect.name notices ≡ expect.items

-- the first expectation that is not met is of the name, and its items differ first at the number
pub record IsUnmet (notices : List Notice) (expects : List Expect) (name : List ℕ) (number : ℕ) : Type 0 where
  pub before : List Expect
  pub expect : Expect
  pub later : List Expect
  pub whole : expects ≡ before ++ expect ∷ later
  pub met : AllByRecursion (IsMet notices) before
  pub named : name ≡ expect.name
  pub first : DifferFirst number (seen expect.name notices) expect.items

abbrev pub IsVerdict : List Notice → List Expect → Verdict → Type 0
IsVerdict notices expects Pass = AllByRecursion (IsMet notices) expects
IsVerdict notices expects (Differs name number) = IsUnmet notices expects name number

-- the verdict on the test, of streams and an index to which its entries come
abbrev pub IsVerdictOn : CoreConfig → Test → Verdict → Type 0
IsVerdictOn config test = IsVerdict (notices_by config (arrivals_in test.entries)) test.expects

-- there is no other verdict
abbrev pub VerdictsAreOne : Type 0
VerdictsAreOne =
    (notices : List Notice) (expects : List Expect) (verdict other : Verdict) → IsVerdict notices expects verdict
    → IsVerdict notices expects other → verdict ≡ other
