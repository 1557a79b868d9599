-- A form is read as a rule exactly where it is a predicate of the grammar that represents this rule.
use Rattle.std.proofs.Common.{refl}
use Rattle.sexp_read.specs.Written.{bare_tree}
use Rattle.config_terms.specs.Rules.{rule_at}
use Rattle.config_terms.specs.Grammar.{IsPredicate, PredicatesAreRead}
use Rattle.config_terms.proofs.Outcomes.{ok_read}
use Rattle.config_terms.proofs.GrammarRead.{predicate_read}
use Rattle.config_terms.proofs.GrammarOnly.{predicate_means}

pub predicates_are_those : PredicatesAreRead
predicates_are_those env f tree = (
  (λ is. predicate_read env (bare_tree f) tree is f refl),
  (λ is. ok_read (IsPredicate env (bare_tree f)) (rule_at env f) tree is (predicate_means env f)),
)
