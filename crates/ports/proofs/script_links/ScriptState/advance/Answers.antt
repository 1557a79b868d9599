use Rattle.std.proofs.Common.{◌≡◌, List, ap, drop, ◌∙◌}
use Rattle.ports.specs.Playing.{Played, first_turn, from_turn, rules_at_turn}
use Rattle.ports.specs.Tables.{rules_in}
use Rattle.ports.specs.declared.script.Step.{Step}
use Rattle.ports.proofs.RuleLemmas.{after_turn, first_turn_later}
use Rattle.ports.proofs.script_links.ScriptState.advance.Goals as goal

pub returns-clause-turn : goal.returns-clause-turn
returns-clause-turn c =
    let now = c.args.self.now in
    let to_come = drop now.next now.script.steps in
    let steps_are : c.split_at.result.1.now ≡ to_come = c.split_at.ensures.back ∙ ap (drop now.next) c.as_slice.ensures in
    let rest_is : c.split_at-2.result.1.now ≡ from_turn to_come =
    c.split_at-2.ensures.back ∙ c.in_ok-count.ensures.turn ∙ ap from_turn steps_are in
    c.first_turn-turn.ensures.turn
    ∙ ap (λ (steps : List Step). (first_turn steps now.secs).turn) rest_is
    ∙ ap (λ (played : Played). played.turn) (first_turn_later to_come now.secs)

pub returns-clause-piece : goal.returns-clause-piece
returns-clause-piece c =
    let now = c.args.self.now in
    let to_come = drop now.next now.script.steps in
    let steps_are : c.split_at.result.1.now ≡ to_come = c.split_at.ensures.back ∙ ap (drop now.next) c.as_slice.ensures in
    let rest_is : c.split_at-2.result.1.now ≡ from_turn to_come =
    c.split_at-2.ensures.back ∙ c.in_ok-count.ensures.turn ∙ ap from_turn steps_are in
    c.first_turn-turn.ensures.piece
    ∙ ap (λ (steps : List Step). (first_turn steps now.secs).piece) rest_is
    ∙ ap (λ (played : Played). played.piece) (first_turn_later to_come now.secs)

pub returns-clause-rest : goal.returns-clause-rest
returns-clause-rest c =
    let now = c.args.self.now in
    let to_come = drop now.next now.script.steps in
    let steps_are : c.split_at.result.1.now ≡ to_come = c.split_at.ensures.back ∙ ap (drop now.next) c.as_slice.ensures in
    rw c.min.ensures (
    after_turn now.script.steps c.split_at.result.1.now c.split_at-2.result.1.now now.next c.in_ok-count.count now.secs
    steps_are c.split_at-2.ensures.back c.in_ok-count.ensures.turn
    ∙ ap (λ (steps : List Step). (first_turn steps now.secs).rest) steps_are
    )

pub returns-clause-rules : goal.returns-clause-rules
returns-clause-rules c =
    let now = c.args.self.now in
    let steps_are : c.split_at.result.1.now ≡ drop now.next now.script.steps =
    c.split_at.ensures.back ∙ ap (drop now.next) c.as_slice.ensures in
    c.in_ok-count.ensures.rules
    ∙ ap (λ (steps : List Step). rules_at_turn steps (rules_in now.rules)) steps_are
