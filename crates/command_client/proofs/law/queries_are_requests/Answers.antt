use Rattle.command_client.proofs.QueryLaws.{queries_lem}
use Rattle.command_client.proofs.law.queries_are_requests.Goals as goal

pub returns : goal.returns
returns c = queries_lem
