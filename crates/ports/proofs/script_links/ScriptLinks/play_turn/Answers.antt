use Rattle.std.proofs.Common.{◌≤◌, ◌∙◌, length, take}
use Rattle.ports.specs.Tables.{rules_in}
use Rattle.ports.proofs.ScriptLemmas.{playing_turned, plays_some, turn_adds}
use Rattle.ports.proofs.script_links.ScriptLinks.play_turn.Goals as goal

pub invariant_of-self-2 : goal.invariant_of-self-2
invariant_of-self-2 c =
    let within : c.advance.new.self.next ≤ length c.self.inside.state.script.steps =
    rw (← c.in_ok-turn.ensures.script) c.advance.new.self.within in
    rw (c.turned.ensures, c.in_ok-turn.ensures.script)
    (playing_turned _ _ _ _ _ _ _ _ c.self.invariant c.if-self.false c.args.wants.now c.in_ok-turn.turn
    (take c.count_read-count.result c.advance.new.buf) c.advance.new.self.next c.advance.new.self.secs
    (rules_in c.advance.new.self.rules) c.in_ok-turn.ensures.succeeded c.in_ok-turn.ensures.turn
    (c.count_read-count.ensures.piece c.advance.new.buf ∙ c.in_ok-turn.ensures.piece) within c.in_ok-turn.ensures.rest
    c.in_ok-turn.ensures.secs c.in_ok-turn.ensures.rules)

pub returns-clause-some : goal.returns-clause-some
returns-clause-some c = turn_adds _ _ _ _ c.in_ok-turn.ensures.succeeded

pub returns-clause-plays : goal.returns-clause-plays
returns-clause-plays c = plays_some _ _ (invariant_of-self-2 c).run
