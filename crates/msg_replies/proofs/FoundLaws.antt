-- A reply with found events is written whole, or refused where it would be too long.
use Rattle.std.proofs.Common.{◌≡◌, ℕ, ◌<◌, ◌≤◌, true, false, List, ◌++◌, length, sym}
use Rattle.std.proofs.Common.{ap, ◌∙◌, subst, arith}
use Rattle.std.specs.Prelude.{nat_le, Result, OnOk}
use Rattle.std.proofs.lemmas.Bool.Decides.{nat_tests}
use Rattle.event_core.specs.declared.arrivals.Core.{Core}
use Rattle.event_core.specs.Core.{Represents, config_of, state_by}
use Rattle.framing.specs.declared.TheConstants.{BODY_LIMIT}
use Rattle.list_laws.specs.declared.memory.Memory.{Memory}
use Rattle.pred_eval.specs.Tree.{Tree}
use Rattle.riemann_msg.specs.declared.msg.Msg.{Msg}
use Rattle.riemann_msg.specs.Spelling.{spelling}
use Rattle.stream_meaning.specs.Arrivals.{Arrival, matching_events}
use Rattle.hub_meaning.specs.Replies.{found, framed, limited, over_limit, refused}
use Rattle.msg_replies.proofs.AnswerLaws.{on_ok}
use Rattle.msg_replies.proofs.Lengths.{limited_over, limited_within}

abbrev pub found_by : Tree → Core → List Arrival → Msg
found_by rule core arrivals = found (matching_events rule (state_by (config_of core) arrivals).log)

-- the reply has this many bytes
abbrev pub Measures : ℕ → Core → Tree → Type 0
Measures size core rule = (arrivals : List Arrival) → Represents core arrivals
    → size ≡ length (spelling (found_by rule core arrivals))

-- the reply is appended, if it has this many bytes
abbrev pub Writes : ℕ → List ℕ → List ℕ → Core → Tree → Type 0
Writes size replies replies' core rule = (arrivals : List Arrival) → Represents core arrivals
    → size ≡ length (spelling (found_by rule core arrivals))
    → replies' ≡ replies ++ framed (found_by rule core arrivals)

-- the reply is appended, or that it is too long
abbrev pub Limits : List ℕ → List ℕ → Core → Tree → Type 0
Limits replies replies' core rule = (arrivals : List Arrival) → Represents core arrivals
    → replies' ≡ replies ++ framed (limited (found_by rule core arrivals))

within : (size : ℕ) → nat_le size BODY_LIMIT ≡ true → size ≤ BODY_LIMIT
within size small = grind (arith, nat_tests)

above : (size : ℕ) → nat_le size BODY_LIMIT ≡ false → BODY_LIMIT < size
above size large = grind (arith, nat_tests)

pub whole : (core core' : Core) (rule rule' : Tree) (size : ℕ) (replies replies' : List ℕ)
    (result : Result (Unit {0}) Memory)
    → core' ≡ core → rule' ≡ rule → nat_le size BODY_LIMIT ≡ true → Measures size core rule
    → OnOk result (Writes size replies replies' core' rule') → OnOk result (Limits replies replies' core rule)
whole core core' rule rule' size replies replies' result same_core same_rule small measures wrote =
    on_ok result (λ wrote arrivals holds.
    let is = measures arrivals holds in
    let here : Writes size replies replies' core rule =
    subst (λ core. Writes size replies replies' core rule) same_core
    (subst (λ rule. Writes size replies replies' core' rule) same_rule wrote) in
    here arrivals holds is
    ∙ ap (λ msg. replies ++ framed msg)
    (sym (limited_within (found_by rule core arrivals) (subst (λ n. n ≤ BODY_LIMIT) is (within size small))))) wrote

pub over : (core : Core) (rule : Tree) (size : ℕ) (replies replies' : List ℕ) (result : Result (Unit {0}) Memory)
    → nat_le size BODY_LIMIT ≡ false → Measures size core rule
    → OnOk result (replies' ≡ replies ++ framed (refused (over_limit size)))
    → OnOk result (Limits replies replies' core rule)
over core rule size replies replies' result large measures wrote =
    on_ok result (λ wrote arrivals holds.
    let is = measures arrivals holds in
    wrote ∙ ap (λ size. replies ++ framed (refused (over_limit size))) is
    ∙ ap (λ msg. replies ++ framed msg)
    (sym (limited_over (found_by rule core arrivals) (subst (λ n. BODY_LIMIT < n) is (above size large))))) wrote
