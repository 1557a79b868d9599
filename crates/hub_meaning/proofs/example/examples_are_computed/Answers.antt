use Rattle.std.proofs.Common.{refl}
use Rattle.hub_meaning.proofs.ExampleLaws.{late_room_example, closed_early_example}
use Rattle.hub_meaning.proofs.example.examples_are_computed.Goals as goal

pub returns-clause-clock : goal.returns-clause-clock
returns-clause-clock c = refl

pub returns-clause-late_room : goal.returns-clause-late_room
returns-clause-late_room c = late_room_example

pub returns-clause-all_taken : goal.returns-clause-all_taken
returns-clause-all_taken c = refl

pub returns-clause-closed_early : goal.returns-clause-closed_early
returns-clause-closed_early c = closed_early_example

pub returns-clause-connected : goal.returns-clause-connected
returns-clause-connected c = refl
