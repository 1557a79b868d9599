use Rattle.script_text.proofs.NumberLaws.{numbers_are_those_opened, numbers_rise}
use Rattle.script_text.proofs.link_law.lines_are_of_opened_links.Goals as goal

pub returns-clause-opened : goal.returns-clause-opened
returns-clause-opened c = numbers_are_those_opened

pub returns-clause-order : goal.returns-clause-order
returns-clause-order c = numbers_rise
