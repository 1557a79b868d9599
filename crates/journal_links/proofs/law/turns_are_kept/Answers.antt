use Rattle.journal_links.proofs.TurnLaws.{next_keeps}
use Rattle.journal_links.proofs.KeepLaws.{close_keeps, listen_keeps, send_keeps}
use Rattle.journal_links.proofs.law.turns_are_kept.Goals as goal

pub returns-clause-listen : goal.returns-clause-listen
returns-clause-listen c = listen_keeps

pub returns-clause-next : goal.returns-clause-next
returns-clause-next c = next_keeps

pub returns-clause-send : goal.returns-clause-send
returns-clause-send c = send_keeps

pub returns-clause-close : goal.returns-clause-close
returns-clause-close c = close_keeps
