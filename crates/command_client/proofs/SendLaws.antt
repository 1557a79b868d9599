-- How the sending of a file ends.
use Rattle.std.proofs.Common.{◌≡◌, ◌≢◌, ℕ, ◌≤◌, List, [], ◌∷◌, length, Option, Err, inl, inr, refl, sym, subst, arith}
use Rattle.std.specs.Borrow.{Bor}
use Rattle.command_io.proofs.EndingLaws.{not_over, reported_of}
use Rattle.command_io.specs.Endings.{IsRefusal}
use Rattle.command_io.specs.Fetches.{ending_of_file}
use Rattle.command_io.specs.Files.{IsFileFault, ReadMore, good_read, reads_of}
use Rattle.command_io.specs.declared.ending.Ending.TheVariants.{Unread, OverLimit, BytesLeft, LinksFailed, WriteFailed}
use Rattle.command_io.specs.declared.ending.Ending.TheVariants.{OutOfMemory}
use Rattle.command_io.specs.declared.limits.TheConstants.{FILE_LIMIT}
use Rattle.command_io.specs.declared.read.FileFault.{FileFault}
use Rattle.command_io.specs.declared.read.FileFault.TheVariants as file
use Rattle.command_io.specs.declared.status.Status.{Status}
use Rattle.command_io.specs.declared.status.Status.TheVariants.{Done, Memory, Unanswered, BadReply}
use Rattle.framing.specs.Frames.{partial}
use Rattle.ports.specs.Calls.{LinksReport}
use Rattle.ports.specs.Counts.{IsStill, Rose}
use Rattle.ports.specs.Reading.{IsHeld, StoreReport}
use Rattle.ports.specs.Writing.{SinkReport}
use Rattle.ports.specs.declared.store.StoreRead.{StoreRead}
use Rattle.command_client.specs.Asks.{HasAsked}
use Rattle.command_client.specs.Endings.{HasRead, status_of}
use Rattle.command_client.specs.Sends.{FileEnds, HasSent, IsUnread, ReadsOnce}
use Rattle.command_client.specs.declared.ending.ClientEnding.{ClientEnding}
use Rattle.command_client.specs.declared.ending.ClientEnding.TheVariants.{Shared}
use Rattle.command_client.proofs.ExchangeLaws.{exchange_put_rose, exchange_shown}

-- ---- a file that was not read

module _ (name : List ℕ) (shown : Bor (List ℕ)) where
  pub unread_as : (store store' : StoreReport) (fault : FileFault) → shown.now ≡ name
      → IsFileFault name FILE_LIMIT store store' fault
      → IsUnread name store store' (Shared (ending_of_file shown FILE_LIMIT fault))
  unread_as store store' file.Unread is cause = (cause.0, is, cause.1)
  unread_as store store' file.TooLong is cause = (cause.0, cause.1, is, refl, cause.2)
  unread_as store store' file.Memory is cause = cause

  pub fault_reads : (reads reads' : Option (List StoreRead)) (fault : FileFault)
      → ReadMore (reads_of name (Err fault)) reads reads'
      → ReadsOnce name reads reads' (Shared (ending_of_file shown FILE_LIMIT fault))
  fault_reads reads reads' file.Memory grew = inl grew
  fault_reads reads reads' _ grew = grew

pub fault_not_read : (shown : Bor (List ℕ)) (fault : FileFault)
    → HasRead (Shared (ending_of_file shown FILE_LIMIT fault)) → ⊥
fault_not_read shown file.Unread read = read
fault_not_read shown _ read = read

pub fault_not_linked : (shown : Bor (List ℕ)) (fault : FileFault)
    → Shared (ending_of_file shown FILE_LIMIT fault) ≢ Shared LinksFailed
fault_not_linked shown file.Unread is = cc
fault_not_linked shown _ is = cc

-- ---- a file that was read

pub sent_reads : (name : List ℕ) (reads reads' : Option (List StoreRead)) (ending : ClientEnding)
    → (IsRefusal (status_of ending) → ⊥) → ReadMore (good_read name ∷ []) reads reads'
    → ReadsOnce name reads reads' ending
sent_reads name reads reads' (Shared (Unread shown)) accepted grew = absurd (accepted tt)
sent_reads name reads reads' (Shared OutOfMemory) accepted grew = inr grew
sent_reads name reads reads' _ accepted grew = grew

-- ---- what a status says

asked_sent : (frames : List ℕ) (status : Status) → partial frames ≡ [] → HasAsked status → HasSent frames status
asked_sent frames Done none asked = none
asked_sent frames Unanswered none asked = none
asked_sent frames BadReply none asked = none
asked_sent frames Memory none asked = tt
asked_sent frames _ none asked = absurd asked

unread_sent : (name frames : List ℕ) (store store' : StoreReport) (ending : ClientEnding)
    → IsUnread name store store' ending → IsHeld (store.held name) frames → length frames ≤ FILE_LIMIT
    → IsStill store.faults store'.faults → HasSent frames (status_of ending)
unread_sent name frames store store' (Shared (Unread shown)) cause holds fits still =
    absurd (omega (arith, cause.0, still.0, still.1))
unread_sent name frames store store' (Shared (OverLimit shown limit)) cause holds fits still =
    absurd (not_over (store.held name) frames FILE_LIMIT holds fits cause.0)
unread_sent name frames store store' (Shared OutOfMemory) cause holds fits still = tt
unread_sent name frames store store' _ cause holds fits still = absurd cause

left_sent : (frames : List ℕ) (ending : ClientEnding) (count : ℕ) → ending ≡ Shared (BytesLeft count)
    → partial frames ≢ [] → HasSent frames (status_of ending)
left_sent frames ending count is left = subst (λ (e : ClientEnding). HasSent frames (status_of e)) (sym is) left

module _ (address name : List ℕ) (limit : ℕ) (store store' : StoreReport) (links links' : LinksReport)
    (out out' : SinkReport) (ending : ClientEnding)
    (ends : FileEnds address name limit store store' links links' out out' ending) where
  pub file_shown : (ending ≡ Shared LinksFailed → Rose links.faults links'.faults) → (frames : List ℕ)
      → IsHeld (store.held name) frames → length frames ≤ FILE_LIMIT
      → IsStill store.faults store'.faults → IsStill links.faults links'.faults → IsStill out.faults out'.faults
      → HasSent frames (status_of ending)
  file_shown linked frames holds fits read_still links_still out_still = elim ends [
    | inl refused ↦ unread_sent name frames store store' ending refused.unread holds fits read_still
    | inr sent ↦
        (let is : frames ≡ sent.frames =
        reported_of name store store' frames (λ bytes. bytes ≡ sent.frames) holds (sent.frames, sent.gives, refl) in
        subst (λ (bytes : List ℕ). HasSent bytes (status_of ending)) (sym is)
        (elim sent.ends [
          | inl left ↦ left_sent sent.frames ending (length (partial sent.frames)) left.ended left.left
          | inr all ↦
              asked_sent sent.frames (status_of ending) all.none_left
              (exchange_shown address sent.frames limit links links' out out' ending all.ends linked links_still
              out_still)
        ]))
  ]

  pub file_put_rose : ending ≡ Shared WriteFailed → Rose out.faults out'.faults
  file_put_rose is = elim ends [
    | inl refused ↦ absurd (subst (IsUnread name store store') is refused.unread)
    | inr sent ↦ elim sent.ends [
      | inl left ↦ absurd (cc (is, left.ended))
      | inr all ↦ exchange_put_rose address sent.frames limit links links' out out' ending all.ends is
    ]
  ]
