use Rattle.window_streams.proofs.CoalesceLaws.{coalesce-waits, coalesce-quiet}
use Rattle.window_streams.proofs.coalesce.CoalesceState.due.Goals as goal

pub returns-then-is_empty-clause-still : goal.returns-then-is_empty-clause-still
returns-then-is_empty-clause-still c = λ h represents quiet.
    let state = c.args.self.now in
    (coalesce-waits state h represents state.positive (coalesce-quiet state h represents state.positive quiet)).1

pub returns-clause-still : goal.returns-clause-still
returns-clause-still c = λ h represents quiet.
    let state = c.args.self.now in
    (coalesce-waits state h represents state.positive (coalesce-quiet state h represents state.positive quiet)).1
