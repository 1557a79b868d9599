-- Where a stream's regular expressions are, and what streams that keep nothing do.
use Rattle.std.proofs.Common.{◌≡◌, ℕ, ◌+◌, ◌≤◌, Bool, true, false, cond, List, [], ◌++◌, length, take, drop, refl, sym}
use Rattle.std.proofs.Common.{ap, ◌∙◌, subst, arith, length-append}
use Rattle.std.specs.Prelude.{Option, None}
use Rattle.std.proofs.lemmas.List.{append-nil}
use Rattle.ev_types.specs.declared.event.Event.{Event}
use Rattle.ev_types.specs.declared.field.Field.{Field}
use Rattle.ev_types.specs.declared.item.Item.TheVariants.{One}
use Rattle.ev_types.specs.declared.item.Output.{Output}
use Rattle.ev_types.specs.declared.value.Value.{Value}
use Rattle.ev_types.specs.Key.{event_key}
use Rattle.list_laws.specs.Prefix.{IsPrefix}
use Rattle.pred_eval.specs.Search.{AreReadFrom}
use Rattle.pred_eval.specs.Truth.{searches}
use Rattle.pred_eval.specs.Tree.{Tree}
use Rattle.pred_eval.proofs.SearchLaws.{read_front, read_back, read_length}
use Rattle.regex.specs.declared.string.regex.Regex.{Regex}
use Rattle.stream_plan.specs.Tree.{KindTree, Where, By, Rollup, Batch, Stable, Coalesce}
use Rattle.stream_meaning.specs.Deadlines.{next_deadline}
use Rattle.stream_states.specs.Kept.{keeps, KeptRepresents}
use Rattle.stream_states.specs.declared.kept.KeptState.{KeptState}
use Rattle.stream_meaning.specs.Ends.{fork_at}
use Rattle.stream_meaning.specs.Emission.{Children, Otherwise, Fork, to, emissions}
use Rattle.stream_meaning.specs.declared.entry.Entry.TheVariants.{Tick, Item as In}
use Rattle.stream_meaning.specs.History.{History, ◌▸◌}
use Rattle.stream_step.specs.declared.passed.Passed.TheVariants.{Keyed}
use Rattle.stream_step.specs.Step.{AreAt, ended_by, emissions_meant, HasNumbers, is_kept, Keeps, StateRepresents}
use Rattle.stream_step.specs.Step.{QuietTicksKeepStates}
use Rattle.stream_step.specs.declared.state.State.{State}
use Rattle.stream_step.specs.declared.state.State.TheVariants.{Empty, Rule, Kept, Forks}
use Rattle.stream_step.proofs.KeptLaws.{kept_still}

module _ (own : List (List ℕ)) (first count : ℕ) (texts : List (List ℕ)) (regexes : List Regex)
    (at : AreAt own first count texts) (from : AreReadFrom texts regexes) where
  parts : AreReadFrom (at.before ++ (own ++ at.after)) regexes
  parts = subst (λ (ts : List (List ℕ)). AreReadFrom ts regexes) at.among from

  -- the regular expressions reach so far
  pub own_within : first + count ≤ length regexes
  own_within =
      omega (
        arith,
        read_length (at.before ++ (own ++ at.after)) regexes parts,
        length-append at.before (own ++ at.after),
        length-append own at.after,
        at.begins,
        at.counted,
      )

  -- those from the first number on are the own ones
  pub own_read : (part : List Regex) → part ≡ take count (drop first regexes) → AreReadFrom own part
  own_read part is =
      let back : AreReadFrom (own ++ at.after) (drop (length at.before) regexes) =
      read_back at.before (own ++ at.after) regexes parts in
      let front : AreReadFrom own (take (length own) (drop (length at.before) regexes)) =
      read_front own at.after (drop (length at.before) regexes) back in
      subst (λ (regexes : List Regex). AreReadFrom own regexes) (sym is)
      (subst (λ (n : ℕ). AreReadFrom own (take n (drop first regexes))) at.counted
      (subst (λ (n : ℕ). AreReadFrom own (take (length own) (drop n regexes))) at.begins front))

-- what the state of a rule says of the regular expressions
pub rule_read : (texts : List (List ℕ)) (rule : Tree) (state : State) (first count : ℕ) (regexes part : List Regex) →
    state ≡ Rule first count →
    AreReadFrom texts regexes → HasNumbers texts (Where rule) state →
    (first + count ≤ length regexes → part ≡ take count (drop first regexes)) → AreReadFrom (searches rule) part
rule_read texts rule state first count regexes part is from keeps cut =
    let at : AreAt (searches rule) first count texts =
    subst (λ (s : State). HasNumbers texts (Where rule) s) is keeps in
    own_read (searches rule) first count texts regexes at from part
    (cut (own_within (searches rule) first count texts regexes at from))

pub to_children_if : (met test : Bool) → met ≡ test → met ≡ true → Children ≡ cond test Children Otherwise
to_children_if met test is holds = ap (λ (b : Bool). cond b Children Otherwise) (sym holds ∙ is)

pub to_otherwise_if : (met test : Bool) → met ≡ test → met ≡ false → Otherwise ≡ cond test Children Otherwise
to_otherwise_if met test is fails = ap (λ (b : Bool). cond b Children Otherwise) (sym fails ∙ is)

-- ---- states that hold nothing of what came

pub numbers_of : (texts : List (List ℕ)) (kind : KindTree) (state : State) (h : History) → is_kept state ≡ false
    → Keeps texts kind state h → HasNumbers texts kind state
numbers_of texts kind Empty h bare keeps = keeps
numbers_of texts kind (Rule first count) h bare keeps = keeps
numbers_of texts kind (Kept kept) h bare keeps = cc
numbers_of texts kind (Forks first) h bare keeps = keeps

-- the next state of a kind that keeps something
pub kept_holds : (texts : List (List ℕ)) (kind : KindTree) (state : State) (kept next : KeptState) (h after : History) →
    state ≡ Kept kept →
    (KeptRepresents kind kept h → KeptRepresents kind next after) → StateRepresents texts kind state h →
    StateRepresents texts kind (Kept next) after
kept_holds texts kind state kept next h after is goes represents =
    record {
      in_range = represents.in_range;
      keeps = goes (subst (λ (s : State). Keeps texts kind s h) is represents.keeps);
    }

keeps_on : (texts : List (List ℕ)) (kind : KindTree) (state : State) (h : History) → emissions kind (h ▸ Tick) ≡ []
    → Keeps texts kind state h → Keeps texts kind state (h ▸ Tick)
keeps_on texts kind Empty h quiet keeps = keeps
keeps_on texts kind (Rule first count) h quiet keeps = keeps
keeps_on texts kind (Kept kept) h quiet keeps = kept_still kind kept h keeps quiet
keeps_on texts kind (Forks first) h quiet keeps = keeps

pub states_stay : QuietTicksKeepStates
states_stay texts kind state h represents quiet =
    record { in_range = represents.in_range; keeps = keeps_on texts kind state h quiet represents.keeps }

numbers_never_due : (texts : List (List ℕ)) (kind : KindTree) (state : State) (h : History)
    → HasNumbers texts kind state → None ≡ next_deadline kind h
numbers_never_due texts (Rollup count secs) state h numbers = cc
numbers_never_due texts (Batch count secs) state h numbers = cc
numbers_never_due texts (Stable secs field) state h numbers = cc
numbers_never_due texts (Coalesce secs) state h numbers = cc
numbers_never_due texts kind state h numbers = refl

-- a stream that keeps nothing of what came is never due
pub never_due : (texts : List (List ℕ)) (kind : KindTree) (state : State) (h : History) → is_kept state ≡ false
    → StateRepresents texts kind state h → None ≡ next_deadline kind h
never_due texts kind state h bare represents =
    numbers_never_due texts kind state h (numbers_of texts kind state h bare represents.keeps)

-- ---- what was put where the call ran out of memory

pub none_put : (old new own : List Output) → new ≡ old → IsPrefix new (old ++ own)
none_put old new own same = (own, ap (λ (l : List Output). l ++ own) (sym same))

pub all_put : (old new own : List Output) → new ≡ old ++ own → IsPrefix new (old ++ own)
all_put old new own said = ([], sym said ∙ sym (append-nil new))

-- ---- what goes to forks

-- an event goes to the fork of its key that began after the last end of the key
pub keyed : (fields : List Field) (idle : Option ℕ) (key : List Value) (event : Event) (h : History) →
    key ≡ event_key event fields →
    emissions_meant (ended_by (By fields idle) h) (Keyed key) (In (One event))
    ≡ emissions (By fields idle) (h ▸ In (One event))
keyed fields idle key event h is = ap (λ (k : List Value). to (Fork (fork_at idle fields k h)) (One event)) is
