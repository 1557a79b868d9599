use Rattle.script_text.proofs.GrammarLaws.{scripts_found, scripts_are_one}
use Rattle.script_text.proofs.FaultLaws.{faults_are_first}
use Rattle.script_text.proofs.law.scripts_are_their_lines.Goals as goal

pub returns : goal.returns
returns c = record { found = scripts_found; one = scripts_are_one; first = faults_are_first }
