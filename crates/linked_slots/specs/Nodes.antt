-- How lists of ids are kept: nodes that are linked in rings, one ring for each list.
use Rattle.std.specs.Prelude.{◌≡◌, ℕ, ◌+◌, ◌<◌, ◌≤◌, Bool, true, false, eqb, List, [], ◌∷◌, length, slice_index_or}
use Rattle.std.specs.Prelude.{Option, None, Some, if◌then◌else◌, replicate}
use Rattle.slab.specs.Slab.{Slab, slab_len}
use Rattle.linked_slots.specs.Table.{value_at}
use Rattle.linked_slots.specs.IdLists.{list_at, IsListed, AreApart, without, append_to}
use Rattle.linked_slots.specs.declared.nodes.Node.{Node}
use Rattle.linked_slots.specs.declared.nodes.Change.{Change}
use Rattle.linked_slots.specs.declared.nodes.Change.TheVariants.{Append, Remove}

-- ---- the links of one slot; an empty slot counts as linked to itself
abbrev pub next_of : ℕ → Option Node → ℕ
next_of key None = key
next_of key (Some node) = node.next

abbrev pub previous_of : ℕ → Option Node → ℕ
previous_of key None = key
previous_of key (Some node) = node.previous

abbrev pub kind_of : Option Node → Option Bool
kind_of None = None
kind_of (Some node) = Some node.is_head

abbrev pub next_at : List (Option Node) → ℕ → ℕ
next_at slots key = next_of key (value_at slots key)

abbrev pub previous_at : List (Option Node) → ℕ → ℕ
previous_at slots key = previous_of key (value_at slots key)

-- whether the node is the head of a list; none where there is no node
abbrev pub kind_at : List (Option Node) → ℕ → Option Bool
kind_at slots key = kind_of (value_at slots key)

-- the slot number, where its node is not a head
abbrev pub id_of : Option Bool → ℕ → Option ℕ
id_of None key = None
id_of (Some true) key = None
id_of (Some false) key = Some key

-- ---- rings
-- each number is the previous one of its next one, and the next one of its previous one
pub record AreMutual (next previous : ℕ → ℕ) : Type 0 where
  pub back : (key : ℕ) → previous (next key) ≡ key
  pub forth : (key : ℕ) → next (previous key) ≡ key

-- from the number on, the links lead through the ids to the end
abbrev pub Leads : (ℕ → ℕ) → ℕ → List ℕ → ℕ → Type 0
Leads next key [] end = next key ≡ end
Leads next key (id ∷ ids) end = (next key ≡ id) × Leads next id ids end

abbrev pub head_at : List ℕ → ℕ → ℕ
head_at heads number = slice_index_or heads number 0

-- each list is the ring of its head
pub record AreRings (lists : List (List ℕ)) (next previous : ℕ → ℕ) (kind : ℕ → Option Bool)
    (heads : List ℕ) : Type 0 where
  pub mutual_links : AreMutual next previous
  pub count : length heads ≡ length lists
  pub rings : (number : ℕ) → number < length lists
      → Leads next (head_at heads number) (list_at lists number) (head_at heads number)
  pub are_heads : (number : ℕ) → number < length lists → kind (head_at heads number) ≡ Some true
  pub heads_differ : (number other : ℕ) → number < length lists → other < length lists
      → head_at heads number ≡ head_at heads other → number ≡ other
  pub are_ids : (id : ℕ) → IsListed id lists → kind id ≡ Some false
  pub apart : AreApart lists

abbrev pub IsLinked : List (List ℕ) → List (Option Node) → List ℕ → Type 0
IsLinked lists slots heads = AreRings lists (next_at slots) (previous_at slots) (kind_at slots) heads

-- the same, and the nodes fit into the room
pub record AreKept (lists : List (List ℕ)) (nodes : Slab Node) (heads : List ℕ) (room : ℕ) : Type 0 where
  pub linked : IsLinked lists nodes.slots heads
  pub count : slab_len nodes ≤ room
  pub fits : room ≤ nodes.capacity

-- ---- the lists after the changes
abbrev pub changed : List (List ℕ) → List (Change × Unit {0}) → List (List ℕ)
changed lists [] = lists
changed lists ((Append number id, _) ∷ changes) = changed (append_to number id lists) changes
changed lists ((Remove id, _) ∷ changes) = changed (without id lists) changes

abbrev pub lists_after : List ℕ → List (Change × Unit {0}) → List (List ℕ)
lists_after heads changes = changed (replicate (length heads) []) changes

-- ---- what changes of the nodes do
pub record KeepsNodes (old new : Slab Node) : Type 0 where
  pub kind : (key : ℕ) → kind_at new.slots key ≡ kind_at old.slots key
  pub len : slab_len new ≡ slab_len old
  pub capacity : new.capacity ≡ old.capacity

-- the node at the slot number has this next one now
pub record SetsNext (old new : Slab Node) (at next : ℕ) : Type 0 where
  pub next_is : (key : ℕ) → next_at new.slots key ≡ (if eqb key at then next else next_at old.slots key)
  pub previous_kept : (key : ℕ) → previous_at new.slots key ≡ previous_at old.slots key
  pub rest : KeepsNodes old new

-- the node at the slot number has this previous one now
pub record SetsPrevious (old new : Slab Node) (at previous : ℕ) : Type 0 where
  pub previous_is : (key : ℕ) → previous_at new.slots key ≡ (if eqb key at then previous else previous_at old.slots key)
  pub next_kept : (key : ℕ) → next_at new.slots key ≡ next_at old.slots key
  pub rest : KeepsNodes old new

-- the id's neighbours are linked to each other now, and the id to itself
pub record Cuts (old new : Slab Node) (id : ℕ) : Type 0 where
  pub next_is : (key : ℕ) → next_at new.slots key
      ≡ (if eqb key id then id else if eqb key (previous_at old.slots id) then next_at old.slots id
      else next_at old.slots key)
  pub previous_is : (key : ℕ) → previous_at new.slots key
      ≡ (if eqb key id then id else if eqb key (next_at old.slots id) then previous_at old.slots id
      else previous_at old.slots key)
  pub rest : KeepsNodes old new

-- the id is between the slot number `after` and the one that was previous to it
pub record Ties (old new : Slab Node) (id after : ℕ) : Type 0 where
  pub next_is : (key : ℕ) → next_at new.slots key
      ≡ (if eqb key id then after else if eqb key (previous_at old.slots after) then id else next_at old.slots key)
  pub previous_is : (key : ℕ) → previous_at new.slots key
      ≡ (if eqb key id then previous_at old.slots after else if eqb key after then id else previous_at old.slots key)
  pub rest : KeepsNodes old new

-- there is one node more, which is linked to itself
pub record Adds (old new : Slab Node) (added : ℕ) (is_head : Bool) : Type 0 where
  pub vacant : kind_at old.slots added ≡ None
  pub next_kept : (key : ℕ) → next_at new.slots key ≡ next_at old.slots key
  pub previous_kept : (key : ℕ) → previous_at new.slots key ≡ previous_at old.slots key
  pub kind_is : (key : ℕ) → kind_at new.slots key ≡ (if eqb key added then Some is_head else kind_at old.slots key)
  pub len : slab_len new ≡ slab_len old + 1
  pub capacity : new.capacity ≡ old.capacity
