-- Beginning a journal in a disk's file, and what a crash leaves meanwhile.
use Rattle.std.specs.Prelude.{◌≡◌, ◌⊎◌, ℕ, ◌+◌, ◌<◌, Bool, true, false, nat_lt, List, [], ◌∷◌, ◌++◌, length, Option}
use Rattle.std.specs.Prelude.{Some}
use Rattle.std.specs.Option.{ForSome}
use Rattle.disk_port.specs.Past.{LeavesOnly, Past, Rests, synced, text_of, written}
use Rattle.journal_format.specs.Journals.{Holds, blank, head_bytes}
use Rattle.journal_format.specs.declared.finder.Found.{Found}
use Rattle.turn_journal.specs.Standing.{Stands, Told}
use Rattle.turn_journal.specs.declared.begin.First.{First}
use Rattle.turn_journal.specs.declared.begin.First.TheVariants.{Short, Closed, Taken}
use Rattle.turn_journal.specs.declared.fault.JournalFault.{JournalFault}
use Rattle.turn_journal.specs.declared.fault.JournalFault.TheVariants.{Refused, DiskFault, Memory}

-- whether the file has two bytes or more, the first of them an open gate. No journal is begun in such a file.
abbrev pub is_taken : List ℕ → Bool
is_taken [] = false
is_taken (gate ∷ []) = false
is_taken (gate ∷ next ∷ rest) = nat_lt 0 gate

-- a journal may be begun in the file
abbrev pub IsFree : List ℕ → Type 0
IsFree file = is_taken file ≡ false

-- the file has a first byte, and it is a closed gate
abbrev pub IsClosed : List ℕ → Type 0
IsClosed file = (rest : List ℕ) × (file ≡ 0 ∷ rest)

-- the file has one byte at most
abbrev pub IsShort : List ℕ → Type 0
IsShort file = length file < 2

-- what is known of the first bytes of a file
abbrev pub IsFirst : List ℕ → First → Type 0
IsFirst file Short = IsShort file
IsFirst file Closed = IsClosed file
IsFirst file Taken = is_taken file ≡ true

-- the file holds a journal of that configuration without a record, or one may be begun in it
abbrev pub HoldsBlankOrFree : List ℕ → List ℕ → Type 0
HoldsBlankOrFree config file = Holds (blank config) file ⊎ IsFree file

-- Nothing was done yet, or a sync: since then a crash leaves bytes that have P.
abbrev pub LeavesAfterSync : Past → Option Past → (List ℕ → Type 0) → Type 0
LeavesAfterSync past new P = (new ≡ Some past) ⊎ Told new (λ now. LeavesOnly (synced past) now P)

-- a journal of that configuration without a record ends so on the disk
abbrev pub StandsBlank : List ℕ → Found → Option Past → Type 0
StandsBlank config found new = Told new (λ now. Stands now found.gate found.has_record (blank config))

-- a file is refused at its first gate, and only where a journal may be in it
abbrev pub IsWhyTaken : List ℕ → JournalFault → Type 0
IsWhyTaken file (Refused place) = (place ≡ 0) × (is_taken file ≡ true)
IsWhyTaken file DiskFault = Unit {0}
IsWhyTaken file Memory = Unit {0}

-- what follows the first gate of a journal without a record: its head and a closed gate
abbrev pub blank_bytes : List ℕ → List ℕ
blank_bytes config = head_bytes config ++ 0 ∷ []

-- the past after the first gate was closed on the disk
abbrev pub closed_past : Past → Past
closed_past past = synced (written 0 (0 ∷ []) past)

-- the past after the head was put on the disk
abbrev pub headed_past : List ℕ → Past → Past
headed_past config past = synced (written 1 (blank_bytes config) past)

-- the past after the first gate was opened on the disk
abbrev pub begun_past : Past → Past
begun_past past = synced (written 0 (1 ∷ []) past)

-- the past after both
abbrev pub blank_past : List ℕ → Past → Past
blank_past config past = begun_past (headed_past config past)

-- the end of a journal without a record
abbrev pub blank_end : List ℕ → Found
blank_end config = record { gate = length config + 5; has_record = false }

-- Of a file that rests and has P, a crash since then leaves what may come of beginning a journal in it.
abbrev pub BeginsOnly : (List ℕ → Type 0) → List ℕ → Option Past → Option Past → Type 0
BeginsOnly P config old new =
    ForSome old
    (λ past. Rests past → P (text_of past) → Told new (λ now. LeavesOnly past now (HoldsBlankOrFree config)))

-- the fault is not that the file is refused
abbrev pub IsOfDisk : JournalFault → Type 0
IsOfDisk (Refused place) = ⊥
IsOfDisk DiskFault = Unit {0}
IsOfDisk Memory = Unit {0}
