-- The links that the turns of a journal open.
use Rattle.std.specs.Prelude.{◌≡◌, ℕ, ◌+◌, max, nat_lt, Bool, List, [], ◌∷◌, fold, Some, IsTrue}
use Rattle.std.specs.BTreeMap.{is_at}
use Rattle.std.specs.BTreeSet.{insert_key}
use Rattle.std.specs.Ordering.{nat_cmp}
use Rattle.std.specs.Set.{remove_key}
use Rattle.journal_format.specs.declared.turn_record.TurnEvent.{TurnEvent}
use Rattle.journal_format.specs.declared.turn_record.TurnEvent.TheVariants as event
use Rattle.journal_format.specs.declared.turn_record.TurnRecord.{TurnRecord}
use Rattle.ports.specs.Links.{is_unclosed}
use Rattle.ports.specs.declared.entry.Entry.{Entry}
use Rattle.ports.specs.declared.links.What.{What}
use Rattle.ports.specs.declared.links.What.TheVariants.{Opened}
use Rattle.recorded_links.specs.Numbers.{inner_number}

-- the number after that of a link that an event opens
abbrev pub number_after : TurnEvent → ℕ
number_after (event.Opened link) = link + 1
number_after _ = 0

-- the number after the greatest one that these records open
abbrev pub first_free : List TurnRecord → ℕ
first_free records = fold (λ first entry. max first (number_after entry.event)) 0 records

-- whether no event of these opens a link with that number or a greater one
abbrev pub is_before : ℕ → TurnRecord → Bool
is_before first entry = nat_lt (number_after entry.event) (first + 1)

-- the links that are open after a turn, by rising number
abbrev pub opened_after : What → List ℕ → List ℕ
opened_after (Opened link) opened = insert_key nat_cmp opened link
opened_after _ opened = opened

-- the links that are open after a close
abbrev pub closed_after : ℕ → List ℕ → List ℕ
closed_after link opened = remove_key (is_at (nat_cmp link)) opened

-- an inner link that is open by one log is open by the other
abbrev pub Passes : ℕ → List Entry → List Entry → Type 0
Passes first own there =
    (link number : ℕ) → inner_number first link ≡ Some number → IsTrue (is_unclosed link own)
    → IsTrue (is_unclosed link there)
