use Rattle.framing.proofs.FrameLaws.{frames_are_found_lem, frames_are_one_lem}
use Rattle.framing.proofs.frames_are_one.Goals as goal

pub returns-clause-found : goal.returns-clause-found
returns-clause-found c = frames_are_found_lem

pub returns-clause-one : goal.returns-clause-one
returns-clause-one c = frames_are_one_lem
