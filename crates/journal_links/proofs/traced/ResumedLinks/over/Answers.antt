use Rattle.std.proofs.Common.{rules}
use Rattle.std.proofs.lemmas.Grind.{merely}
use Rattle.recorded_links.proofs.TraceLaws.{seen_uncalled}
use Rattle.journal_links.proofs.MadeLaws.{given_none, made_begun}
use Rattle.journal_links.proofs.traced.ResumedLinks.over.Goals as goal

pub invariant_of-result-clause-made : goal.invariant_of-result-clause-made
invariant_of-result-clause-made g c =
    merely (made_begun g.K.JournalLoan.lent.lent.found g.K.JournalLoan.lent.records g.K.JournalLoan.lent.lent.links
    g.K.JournalLoan.lent.lent.disk _ _ _ (search rules)
    (seen_uncalled _ _ _ _ _ _ _ _ _ _ _ c.requires.first c.requires.links_report c.requires.disk_report c.requires.end
    c.requires.unsent c.requires.unspent)
    (given_none _ _ _ _ _ c.requires.records c.requires.given c.requires.left c.requires.unopened))
