use Rattle.hub_meaning.proofs.RunLaws.{frames_whole, new_frames_rest}
use Rattle.hub_meaning.proofs.law.messages_come_whole.Goals as goal

pub returns-clause-whole : goal.returns-clause-whole
returns-clause-whole c = frames_whole

pub returns-clause-rest : goal.returns-clause-rest
returns-clause-rest c = new_frames_rest
