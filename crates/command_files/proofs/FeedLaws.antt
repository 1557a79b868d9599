-- What `feed` promises, from what its parts say.
use Rattle.std.proofs.Common.{◌≡◌, ℕ, ◌≤◌, ◌⊎◌, List, length, refl, sym, inl, inr, subst, arith}
use Rattle.command_setup.proofs.CommandIoEndingLaws.{held_since, reported_of, rose_since, still_since}
use Rattle.command_setup.specs.command_io.Endings.{Says, status_of}
use Rattle.ports.specs.Calls.{LinksReport}
use Rattle.ports.specs.Writing.{SinkReport}
use Rattle.command_setup.specs.command_io.Reports.{Reports, reports}
use Rattle.command_setup.specs.command_io.declared.ending.Ending.{Ending}
use Rattle.command_setup.specs.command_io.declared.ending.Ending.TheVariants.{Finished, ConfigRefused, Unread, OverLimit}
use Rattle.command_setup.specs.command_io.declared.ending.Ending.TheVariants.{BytesLeft, WriteFailed, LinksFailed}
use Rattle.command_setup.specs.command_io.declared.ending.Ending.TheVariants.{ScriptRefused, OutOfMemory}
use Rattle.command_setup.specs.command_io.declared.limits.TheConstants.{CONFIG_LIMIT, FILE_LIMIT}
use Rattle.command_setup.specs.command_io.declared.status.Status.TheVariants.{ReadFault, SinkFault, LinkFault}
use Rattle.command_setup.proofs.SetupLaws.{refused_for_memory, refused_not_linked, refused_not_written, refused_rose}
use Rattle.command_setup.specs.Setups.{SetsUp}
use Rattle.command_files.proofs.OtherLaws.{file_refused_for_memory, file_rose}
use Rattle.command_files.specs.Files.{ReadsBoth, RefusesFile}
use Rattle.framing.specs.Frames.{partial}
use Rattle.command_setup.specs.hub_meaning.Verdicts.{PatternsReport}
use Rattle.command_setup.specs.hub_run.declared.setup.Setup.{Setup}
use Rattle.ports.specs.Counts.{IsStill, Rose}
use Rattle.ports.specs.Reading.{IsHeld, StoreReport}
use Rattle.command_setup.specs.sexp_config.declared.config.Config.{Config}
use Rattle.command_setup.specs.sexp_config.Config.{IsConfigOf}
use Rattle.command_files.specs.Feeds.{BytesEnd, FeedEnds, FileEnds, HasFed}

-- the configuration was accepted, and then the file was refused or fed
pub feed_ended : (config file : List ℕ) (setup : Setup) (store mid store' : StoreReport) (links : LinksReport)
    (out out' err err' : SinkReport)
    (patterns between patterns' : PatternsReport) (forks forks' : ℕ) (Unasked : Type 0) (ending : Ending)
    → SetsUp config store mid setup → between ≡ patterns
    → ReadsBoth config file store.reads store'.reads ending
    → FileEnds setup file (reports mid links out err between forks) (reports store' links out' err' patterns' forks')
    ending
    → FeedEnds config file (reports store links out err patterns forks)
    (reports store' links out' err' patterns' forks') Unasked ending
feed_ended config file setup store mid store' links out out' err err' patterns between patterns' forks forks' Unasked
    ending sets same reads ends =
    inr (
      setup,
      mid,
      sets,
      reads,
      subst
          (λ state. FileEnds setup file (reports mid links out err state forks)
          (reports store' links out' err' patterns' forks') ending)
          same ends,
    )

-- ---- how a run does not end

bytes_not_read : (setup : Setup) (bytes : List ℕ) (old new : Reports) (ending : Ending)
    → BytesEnd setup bytes old new ending → status_of ending ≡ ReadFault → ⊥
bytes_not_read setup bytes old new Finished ends e = cc
bytes_not_read setup bytes old new (BytesLeft count) ends e = cc
bytes_not_read setup bytes old new WriteFailed ends e = cc
bytes_not_read setup bytes old new OutOfMemory ends e = cc
bytes_not_read setup bytes old new _ ends e = ends

bytes_not_linked : (setup : Setup) (bytes : List ℕ) (old new : Reports) (ending : Ending)
    → BytesEnd setup bytes old new ending → status_of ending ≡ LinkFault → ⊥
bytes_not_linked setup bytes old new Finished ends e = cc
bytes_not_linked setup bytes old new (BytesLeft count) ends e = cc
bytes_not_linked setup bytes old new WriteFailed ends e = cc
bytes_not_linked setup bytes old new OutOfMemory ends e = cc
bytes_not_linked setup bytes old new _ ends e = ends

file_not_linked : (name : List ℕ) (old new : StoreReport) (ending : Ending) → RefusesFile name old new ending
    → status_of ending ≡ LinkFault → ⊥
file_not_linked name old new LinksFailed refuses e = refuses
file_not_linked name old new _ refuses e = cc

file_not_written : (name : List ℕ) (old new : StoreReport) (ending : Ending) → RefusesFile name old new ending
    → status_of ending ≡ SinkFault → ⊥
file_not_written name old new WriteFailed refuses e = refuses
file_not_written name old new _ refuses e = cc

-- ---- the causes of faults

bytes_wrote : (setup : Setup) (bytes : List ℕ) (old new : Reports) (ending : Ending)
    → BytesEnd setup bytes old new ending → status_of ending ≡ SinkFault
    → Rose old.out.faults new.out.faults ⊎ Rose old.err.faults new.err.faults
bytes_wrote setup bytes old new WriteFailed ends e = elim ends [
  | inl some ↦ inr some.1
  | inr all ↦ inl all.1
]
bytes_wrote setup bytes old new Finished ends e = cc
bytes_wrote setup bytes old new (BytesLeft count) ends e = cc
bytes_wrote setup bytes old new OutOfMemory ends e = cc
bytes_wrote setup bytes old new _ ends e = absurd ends

pub feed_read_rose : (config file : List ℕ) (old new : Reports) (Unasked : Type 0) (ending : Ending)
    → FeedEnds config file old new Unasked ending
    → status_of ending ≡ ReadFault → Rose old.store.faults new.store.faults
feed_read_rose config file old new Unasked ending ends e = elim ends [
  | inl refused ↦ refused_rose config old.store new.store old.patterns new.patterns ending refused.0 e
  | inr accepted ↦ elim accepted.4 [
    | inl refused ↦
        rose_since config accepted.2.0 old.store accepted.1 new.store.faults accepted.2.1
        (file_rose file accepted.1 new.store ending refused.0 e)
    | inr fed ↦ absurd (bytes_not_read accepted.0 fed.0 (record old { store = accepted.1 }) new ending fed.2 e)
  ]
]

feed_sink_rose : (config file : List ℕ) (old new : Reports) (Unasked : Type 0) (ending : Ending)
    → FeedEnds config file old new Unasked ending
    → status_of ending ≡ SinkFault → Rose old.out.faults new.out.faults ⊎ Rose old.err.faults new.err.faults
feed_sink_rose config file old new Unasked ending ends e = elim ends [
  | inl refused ↦ absurd (refused_not_written config old.store new.store old.patterns new.patterns ending refused.0 e)
  | inr accepted ↦ elim accepted.4 [
    | inl refused ↦ absurd (file_not_written file accepted.1 new.store ending refused.0 e)
    | inr fed ↦ bytes_wrote accepted.0 fed.0 (record old { store = accepted.1 }) new ending fed.2 e
  ]
]

pub feed_not_linked : (config file : List ℕ) (old new : Reports) (Unasked : Type 0) (ending : Ending)
    → FeedEnds config file old new Unasked ending
    → status_of ending ≡ LinkFault → ⊥
feed_not_linked config file old new Unasked ending ends e = elim ends [
  | inl refused ↦ refused_not_linked config old.store new.store old.patterns new.patterns ending refused.0 e
  | inr accepted ↦ elim accepted.4 [
    | inl refused ↦ file_not_linked file accepted.1 new.store ending refused.0 e
    | inr fed ↦ bytes_not_linked accepted.0 fed.0 (record old { store = accepted.1 }) new ending fed.2 e
  ]
]

-- after a write that failed nothing more is written
said_nothing : (ending : Ending) (old new : SinkReport) → Says ending old new → status_of ending ≡ SinkFault → new ≡ old
said_nothing WriteFailed old new says e = says
said_nothing _ old new says e = cc

-- so what is known of the error stream before the line of the ending is known of it after that
pub feed_write_rose : (config file : List ℕ) (old new : Reports) (Unasked : Type 0) (after : SinkReport)
    (ending : Ending)
    → FeedEnds config file old new Unasked ending → Says ending new.err after → status_of ending ≡ SinkFault
    → Rose old.out.faults new.out.faults ⊎ Rose old.err.faults after.faults
feed_write_rose config file old new Unasked after ending ends says e =
    elim (feed_sink_rose config file old new Unasked ending ends e) [
      | inl rose ↦ inl rose
      | inr rose ↦
          inr (subst (λ (sink : SinkReport). Rose old.err.faults sink.faults)
          (sym (said_nothing ending new.err after says e)) rose)
    ]

still_before : (old before after : SinkReport) (ending : Ending) → Says ending before after
    → IsStill old.faults after.faults → status_of ending ≡ SinkFault → IsStill old.faults before.faults
still_before old before after ending says still e =
    subst (λ (sink : SinkReport). IsStill old.faults sink.faults) (said_nothing ending before after says e) still

-- ---- completeness

for_memory : (rest : List ℕ) (ending : Ending) → ending ≡ OutOfMemory → HasFed rest (status_of ending)
for_memory rest ending e = rw e tt

bytes_complete : (setup : Setup) (bytes : List ℕ) (old new : Reports) (ending : Ending)
    → BytesEnd setup bytes old new ending
    → IsStill old.out.faults new.out.faults → (status_of ending ≡ SinkFault → IsStill old.err.faults new.err.faults)
    → HasFed (partial bytes) (status_of ending)
bytes_complete setup bytes old new Finished ends out_still err_still = ends.1
bytes_complete setup bytes old new (BytesLeft count) ends out_still err_still = ends.1
bytes_complete setup bytes old new OutOfMemory ends out_still err_still = tt
bytes_complete setup bytes old new WriteFailed ends out_still err_still = elim ends [
  | inl some ↦ absurd (let still = err_still refl in omega (arith, some.1, still.0, still.1))
  | inr all ↦ absurd (omega (arith, all.1, out_still.0, out_still.1))
]
bytes_complete setup bytes old new _ ends out_still err_still = absurd ends

feed_complete : (config file : List ℕ) (old new : Reports) (Unasked : Type 0) (text bytes : List ℕ) (read : Config)
    (ending : Ending)
    → FeedEnds config file old new Unasked ending → IsHeld (old.store.held config) text → IsConfigOf text read
    → length text ≤ CONFIG_LIMIT
    → IsHeld (old.store.held file) bytes → length bytes ≤ FILE_LIMIT
    → IsStill old.store.faults new.store.faults → IsStill old.out.faults new.out.faults
    → (status_of ending ≡ SinkFault → IsStill old.err.faults new.err.faults)
    → IsStill old.patterns.refusals new.patterns.refusals → HasFed (partial bytes) (status_of ending)
feed_complete config file old new Unasked text bytes read ending ends holds is fits holds_bytes bytes_fit reads_still
    out_still err_still still =
    elim ends [
      | inl refused ↦
          for_memory _ ending (refused_for_memory config text read old.store new.store old.patterns new.patterns ending
          holds is fits reads_still still refused.0)
      | inr accepted ↦ elim accepted.4 [
        | inl refused ↦
            for_memory _ ending
            (file_refused_for_memory file bytes accepted.1 new.store ending
            (held_since config accepted.2.0 file bytes old.store accepted.1 accepted.2.1 holds_bytes) bytes_fit
            (still_since config accepted.2.0 old.store accepted.1 new.store.faults accepted.2.1 reads_still)
            refused.0)
        | inr fed ↦
            let same : bytes ≡ fed.0 =
            reported_of file accepted.1 new.store bytes (λ text. text ≡ fed.0)
            (held_since config accepted.2.0 file bytes old.store accepted.1 accepted.2.1 holds_bytes)
            (fed.0, fed.1.0, refl) in
            subst (λ (list : List ℕ). HasFed (partial list) (status_of ending)) (sym same)
            (bytes_complete accepted.0 fed.0 (record old { store = accepted.1 }) new ending fed.2 out_still err_still)
      ]
    ]

pub feed_completes : (config file : List ℕ) (old new : Reports) (Unasked : Type 0) (after : SinkReport)
    (text bytes : List ℕ) (read : Config)
    (ending : Ending) → FeedEnds config file old new Unasked ending → Says ending new.err after
    → IsHeld (old.store.held config) text
    → IsConfigOf text read → length text ≤ CONFIG_LIMIT → IsHeld (old.store.held file) bytes → length bytes ≤ FILE_LIMIT
    → IsStill old.store.faults new.store.faults → IsStill old.out.faults new.out.faults
    → IsStill old.err.faults after.faults
    → IsStill old.patterns.refusals new.patterns.refusals → HasFed (partial bytes) (status_of ending)
feed_completes config file old new Unasked after text bytes read ending ends says holds is fits holds_bytes bytes_fit
    reads_still out_still err_still still =
    feed_complete config file old new Unasked text bytes read ending ends holds is fits holds_bytes bytes_fit
    reads_still out_still
    (still_before old.err new.err after ending says err_still) still
