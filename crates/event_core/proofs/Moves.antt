-- What is reported and counted on the way of streams with an index from one state to another.
use Rattle.std.proofs.Common.{◌≡◌, ℕ, ◌+◌, Bool, true, false, List, [], ◌∷◌, ◌++◌, refl, sym, ap, subst, ◌∙◌}
use Rattle.std.proofs.Common.{append_assoc, arith}
use Rattle.std.proofs.lemmas.List.{append-nil}
use Rattle.ev_types.specs.declared.event.Event.{Event}
use Rattle.ev_types.specs.declared.item.Item.TheVariants.{One}
use Rattle.ev_types.specs.declared.item.Notice.{Notice}
use Rattle.ev_types.specs.declared.item.Output.{Output}
use Rattle.ev_types.specs.declared.item.Output.TheVariants.{Notice as notice, Write as write}
use Rattle.index_log.specs.Live.{IndexLog, Write}
use Rattle.live_index.specs.Index.{Index, Represents}
use Rattle.stream_plan.specs.Tree.{StreamTrees}
use Rattle.stream_tree.specs.Tree as tree
use Rattle.step_count.specs.Count.{StepCount}
use Rattle.stream_meaning.specs.History.{◌▸◌}
use Rattle.stream_meaning.specs.declared.entry.Entry.{Entry}
use Rattle.stream_meaning.specs.declared.entry.Entry.TheVariants.{Item as In}
use Rattle.stream_meaning.specs.Outputs.{Put, plan_effects, outputs_among, outputs_at, outputs_of, due_among}
use Rattle.stream_meaning.specs.Outputs.{given_among}
use Rattle.stream_meaning.specs.Arrivals.{CoreState, writes_among, notices_among, entered}
use Rattle.event_core.specs.declared.streams.IndexedStreams.{IndexedStreams}
use Rattle.event_core.specs.Streams.{Holds, Moved}

pub writes-append : (xs ys : List Output) → writes_among (xs ++ ys) ≡ writes_among xs ++ writes_among ys
writes-append [] ys = refl
writes-append (write event ∷ xs) ys = ap (λ rest. Write event ∷ rest) (writes-append xs ys)
writes-append (notice given ∷ xs) ys = writes-append xs ys

pub notices-append : (xs ys : List Output) → notices_among (xs ++ ys) ≡ notices_among xs ++ notices_among ys
notices-append [] ys = refl
notices-append (write event ∷ xs) ys = notices-append xs ys
notices-append (notice given ∷ xs) ys = ap (λ rest. given ∷ rest) (notices-append xs ys)

-- the index holds the writes of some outputs, and then those of one more
pub handled-index : (before between after : Index) (done : List Output) (output : Output) →
    ((log : IndexLog) → Represents before log → Represents between (log ++ writes_among done)) →
    ((log : IndexLog) → Represents between log → Represents after (log ++ writes_among (output ∷ []))) →
    (log : IndexLog) → Represents before log → Represents after (log ++ writes_among (done ++ output ∷ []))
handled-index before between after done output first second log holds =
    subst (λ (all : IndexLog). Represents after all)
    (append_assoc log (writes_among done) (writes_among (output ∷ []))
    ∙ ap (λ (all : IndexLog). log ++ all) (sym (writes-append done (output ∷ []))))
    (second (log ++ writes_among done) (first log holds))

-- the same of the notices
pub handled-notices : (out_a out_b out_c : List Notice) (done : List Output) (output : Output) →
    out_b ≡ out_a ++ notices_among done → out_c ≡ out_b ++ notices_among (output ∷ []) →
    out_c ≡ out_a ++ notices_among (done ++ output ∷ [])
handled-notices out_a out_b out_c done output first second =
    second ∙ ap (λ out. out ++ notices_among (output ∷ [])) first
    ∙ append_assoc out_a (notices_among done) (notices_among (output ∷ []))
    ∙ ap (λ all. out_a ++ all) (sym (notices-append done (output ∷ [])))

-- what two ways report is what they report together
pub both-fronts : (a b c : List Notice) → (first : List Notice) × (b ≡ a ++ first)
    → (second : List Notice) × (c ≡ b ++ second) → (more : List Notice) × (c ≡ a ++ more)
both-fronts a b c first second =
    (first.0 ++ second.0, second.1 ∙ ap (λ out. out ++ second.0) first.1 ∙ append_assoc a first.0 second.0)

-- one entry is a way
pub moved-entry : (plan : StreamTrees) (x : Entry) (streams : IndexedStreams) (state : CoreState) (old : List Notice)
    (forks_before : ℕ) (new : List Notice) (forks_after : ℕ) →
    Holds streams (entered plan x state) → new ≡ old ++ notices_among (outputs_at plan (state.history ▸ x)) →
    forks_after
    ≡ forks_before
    + (due_among (plan_effects plan (state.history ▸ x)) + given_among (plan_effects plan (state.history ▸ x))) →
    Moved plan streams state (entered plan x state) old forks_before new forks_after
moved-entry plan x streams state old forks_before new forks_after holds reported forks = record {
  holds = holds;
  made = notices_among (outputs_at plan (state.history ▸ x));
  reported = reported;
  grew = notices-append (outputs_of plan state.history) (outputs_at plan (state.history ▸ x));
  forks = omega arith;
}

-- an entry came to the tree, and its outputs were handled
pub entry-handled : {G : Type 0} (plan : StreamTrees) (x : Entry) (streams : IndexedStreams) (held : Index)
    (state : CoreState) (none outputs : List Output) (before after : StepCount G) (old new : List Notice) →
    none ≡ [] → tree.Represents streams.tree (state.history ▸ x) → Represents held state.log →
    tree.Performs none before outputs after (plan_effects plan (state.history ▸ x)) →
    ((log : IndexLog) → Represents held log → Represents streams.index (log ++ writes_among outputs)) →
    new ≡ old ++ notices_among outputs → streams.outputs ≡ [] →
    Moved plan streams state (entered plan x state) old before.forks new after.forks
entry-handled plan x streams held state none outputs before after old new is_none history index grew handled reported
    left =
    let hs = plan_effects plan (state.history ▸ x) in
    let made : outputs ≡ outputs_among hs =
    grew.outputs ∙ ap (λ (front : List Output). front ++ outputs_among hs) is_none in
    let holds : Holds streams (entered plan x state) = record {
      history = history;
      log =
          subst (λ (all : List Output). Represents streams.index (state.log ++ writes_among all)) made
          (handled state.log index);
      outputs = left;
    } in
    moved-entry plan x streams state old before.forks new after.forks holds
    (reported ∙ ap (λ (all : List Output). old ++ notices_among all) made) grew.forks

-- an event came to the tree: its write is answered and comes after the outputs, or it is not
module _ {G : Type 0} (plan : StreamTrees) (event : Event) (streams : IndexedStreams) (held : Index) (state : CoreState)
    (none outputs : List Output) (before after : StepCount G) (old new : List Notice) (is_write_due : Bool)
    (is_none : none ≡ []) (history : tree.Represents streams.tree (state.history ▸ In (One event)))
    (index : Represents held state.log)
    (grew : tree.Performs none before (tree.with_write is_write_due event outputs) after
    (plan_effects plan (state.history ▸ In (One event))))
    (left : streams.outputs ≡ []) where
  outputs-by : (b : Bool) → is_write_due ≡ b
      → tree.Performs none before (tree.with_write b event outputs) after
      (plan_effects plan (state.history ▸ In (One event)))
  outputs-by b is =
      subst
      (λ (c : Bool). tree.Performs none before (tree.with_write c event outputs) after
      (plan_effects plan (state.history ▸ In (One event))))
      is grew

  pub event-handled : is_write_due ≡ false →
      ((log : IndexLog) → Represents held log → Represents streams.index (log ++ writes_among outputs)) →
      new ≡ old ++ notices_among outputs →
      Moved plan streams state (entered plan (In (One event)) state) old before.forks new after.forks
  event-handled is handled reported =
      entry-handled plan (In (One event)) streams held state none outputs before after old new is_none history index
      (outputs-by false is) handled reported left

  pub event-written : (between : Index) (given : Event) → is_write_due ≡ true → given ≡ event →
      ((log : IndexLog) → Represents held log → Represents between (log ++ writes_among outputs)) →
      ((log : IndexLog) → Represents between log → Represents streams.index (log ++ Write given ∷ [])) →
      new ≡ old ++ notices_among outputs →
      Moved plan streams state (entered plan (In (One event)) state) old before.forks new after.forks
  event-written between given is same handled written reported =
      let written' =
      subst (λ (e : Event). (log : IndexLog) → Represents between log → Represents streams.index (log ++ Write e ∷ []))
      same written in
      entry-handled plan (In (One event)) streams held state none (outputs ++ write event ∷ []) before after old new
      is_none history index (outputs-by true is)
      (handled-index held between streams.index outputs (write event) handled written')
      (handled-notices old new new outputs (write event) reported (sym (append-nil new))) left

-- an event came to a tree that leaves its write and does nothing else
pub event-unseen : {G : Type 0} (plan : StreamTrees) (event : Event) (streams : IndexedStreams) (held : Index)
    (state : CoreState) (steps : StepCount G) (out : List Notice) →
    plan_effects plan (state.history ▸ In (One event)) ≡ Put (write event) ∷ [] →
    tree.Represents streams.tree (state.history ▸ In (One event)) → Represents held state.log →
    ((log : IndexLog) → Represents held log → Represents streams.index (log ++ Write event ∷ [])) →
    streams.outputs ≡ [] →
    Moved plan streams state (entered plan (In (One event)) state) out steps.forks out steps.forks
event-unseen plan event streams held state steps out is history index written left =
    let grew : tree.Performs [] steps (write event ∷ []) steps (plan_effects plan (state.history ▸ In (One event))) =
    rw is (record { outputs = refl; forks = omega arith; entries = omega arith; began = refl }) in
    entry-handled plan (In (One event)) streams held state [] (write event ∷ []) steps steps out out refl history index
    grew written (sym (append-nil out)) left

-- the event that came is equal to another one
pub moved-equal : (plan : StreamTrees) (shown event : Event) (streams : IndexedStreams) (state : CoreState)
    (old : List Notice) (forks_before : ℕ) (new : List Notice) (forks_after : ℕ) → shown ≡ event →
    Moved plan streams state (entered plan (In (One shown)) state) old forks_before new forks_after →
    Moved plan streams state (entered plan (In (One event)) state) old forks_before new forks_after
moved-equal plan shown event streams state old forks_before new forks_after same moved =
    subst
    (λ (e : Event). Moved plan streams state (entered plan (In (One e)) state) old forks_before new forks_after)
    same moved

-- two ways, one after the other
pub moved-then : (plan : StreamTrees) (between streams : IndexedStreams) (a b c : CoreState) (out_a : List Notice)
    (forks_a : ℕ) (out_b : List Notice) (forks_b : ℕ) (out_c : List Notice) (forks_c : ℕ) →
    Moved plan between a b out_a forks_a out_b forks_b → Moved plan streams b c out_b forks_b out_c forks_c →
    Moved plan streams a c out_a forks_a out_c forks_c
moved-then plan between streams a b c out_a forks_a out_b forks_b out_c forks_c first second = record {
  holds = second.holds;
  made = first.made ++ second.made;
  reported =
      second.reported ∙ ap (λ out. out ++ second.made) first.reported ∙ append_assoc out_a first.made second.made;
  grew = second.grew ∙ ap (λ out. out ++ second.made) first.grew ∙ append_assoc _ first.made second.made;
  forks = let f = first.forks in let s = second.forks in omega arith;
}
