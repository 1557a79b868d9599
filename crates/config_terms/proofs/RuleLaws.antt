-- Predicates, by what their forms look like, and predicates that others are made of.
use Rattle.std.proofs.Common.{◌≡◌, ◌≢◌, ℕ, List, [], ◌∷◌, ◌++◌, length, Vec, Global, Option, Some, None, Result, Ok}
use Rattle.std.proofs.Common.{Err, refl, ap, sym, ◌∙◌}
use Rattle.ev_types.specs.declared.field.Field.{Field}
use Rattle.pred_eval.specs.declared.rule.Rule.{Rule}
use Rattle.pred_eval.specs.declared.rule.Rule as code
use Rattle.pred_eval.specs.Tree.{Tree, Trees, All, Any, tree_of, trees_in}
use Rattle.pred_eval.specs.Tree as pred
use Rattle.pred_eval.proofs.TreeLaws.{tree_of_all, tree_of_any}
use Rattle.sexp_read.specs.declared.piece.Atom.TheVariants as atom
use Rattle.sexp_read.specs.declared.piece.Bracket.TheVariants.{Round, Square, Curly}
use Rattle.sexp_read.specs.Tree.{FormTree, FormTrees, Single, Group, none, also}
use Rattle.config_terms.specs.declared.fault.ConfigWhy.TheVariants as why
use Rattle.config_terms.specs.Steps.{Fault, start_of, name_in}
use Rattle.ev_types.specs.Names.{named_field, protocol_field}
use Rattle.config_terms.specs.Words.{rule_word}
use Rattle.config_terms.specs.Arguments.{Env, field_at}
use Rattle.config_terms.specs.Rules.{known_field, rule_field_at, symbol_rule, field_head, symbol_head, rule_head}
use Rattle.config_terms.specs.Rules.{headed_rule, rule_at, rules_in, with_rule, all_read, joined}
use Rattle.config_terms.specs.Code.{Look, Symbol, Call, Lookup, Other, look_of}

-- ---- by what a form looks like

pub symbol_field : (form : FormTree) (name : List ℕ) → Some name ≡ name_in form
    → rule_field_at form ≡ known_field (start_of form) (protocol_field name)
unfolding rule_field_at
symbol_field (Single (atom.Symbol known) start last) name e =
    ap (λ (found : Option (List ℕ)). found_field found) (sym e)
  where
    found_field : Option (List ℕ) → Result Field Fault
    found_field None = Err (start, why.Name)
    found_field (Some held) = known_field start (protocol_field held)
symbol_field (Single (atom.Text known) start last) name e = cc
symbol_field (Single (atom.Pattern known) start last) name e = cc
symbol_field (Single (atom.Number known) start last) name e = cc
symbol_field (Single (atom.Keyword known) start last) name e = cc
symbol_field (Group bracket forms start last) name e = cc

pub other_field : (form : FormTree) → None ≡ name_in form → rule_field_at form ≡ field_at [] form
unfolding rule_field_at
other_field (Single (atom.Symbol known) start last) e = cc
other_field (Single (atom.Text known) start last) e = refl
other_field (Single (atom.Pattern known) start last) e = refl
other_field (Single (atom.Number known) start last) e = refl
other_field (Single (atom.Keyword known) start last) e = refl
other_field (Group bracket forms start last) e = refl

abbrev pub rule_by : Env → ℕ → Look → Result Tree Fault
rule_by env start (Symbol name) = symbol_rule env name start
rule_by env start (Call name forms) =
    headed_rule env (symbol_head (rule_word name) (protocol_field name)) start forms (rules_in env forms)
rule_by env start (Lookup name forms) = headed_rule env (field_head (named_field name)) start forms (rules_in env forms)
rule_by env start Other = Err (start, why.Form)

rule_looks : (env : Env) (form : FormTree) → rule_at env form ≡ rule_by env (start_of form) (look_of form)
unfolding rule_at rule_head look_of
rule_looks env (Single (atom.Symbol name) start last) = refl
rule_looks env (Single (atom.Text name) start last) = refl
rule_looks env (Single (atom.Pattern name) start last) = refl
rule_looks env (Single (atom.Number name) start last) = refl
rule_looks env (Single (atom.Keyword name) start last) = refl
rule_looks env (Group Round (also (Single (atom.Symbol name) begin end) forms) start last) = refl
rule_looks env (Group Round (also (Single (atom.Keyword name) begin end) forms) start last) = refl
rule_looks env (Group Round (also (Single (atom.Text name) begin end) forms) start last) = refl
rule_looks env (Group Round (also (Single (atom.Pattern name) begin end) forms) start last) = refl
rule_looks env (Group Round (also (Single (atom.Number name) begin end) forms) start last) = refl
rule_looks env (Group Round (also (Group bracket more begin end) forms) start last) = refl
rule_looks env (Group Round none start last) = refl
rule_looks env (Group Square forms start last) = refl
rule_looks env (Group Curly forms start last) = refl

pub rule_by_look : (env : Env) (form : FormTree) (look : Look) → look ≡ look_of form
    → rule_at env form ≡ rule_by env (start_of form) look
rule_by_look env form look e = rule_looks env form ∙ ap (rule_by env (start_of form)) (sym e)

-- ---- predicates of predicates

pub rule_pushed : (rules : List Rule) (rule : Rule)
    → trees_in (rules ++ rule ∷ []) ≡ with_rule (trees_in rules) (tree_of rule)
rule_pushed [] rule = refl
rule_pushed (first ∷ rules) rule = ap (λ more. pred.also (tree_of first) more) (rule_pushed rules rule)

pub none_joined : (join : Trees → Tree) (start : ℕ) (parts : List Rule) → parts ≡ []
    → joined join start (trees_in parts) ≡ Err (start, why.Arguments)
none_joined join start parts e = rw e refl

pub one_joined : (join : Trees → Tree) (start : ℕ) (parts : List Rule) (part : Rule) → parts ≡ part ∷ []
    → joined join start (trees_in parts) ≡ Ok (tree_of part)
one_joined join start parts part e = rw e refl

many_joined : (join : Trees → Tree) (start : ℕ) (parts : List Rule) → length parts ≢ 0 → length parts ≢ 1
    → joined join start (trees_in parts) ≡ Ok (join (trees_in parts))
many_joined join start [] some more = absurd (some refl)
many_joined join start (part ∷ []) some more = absurd (more refl)
many_joined join start (part ∷ second ∷ parts) some more = refl

abbrev ok_all : List Rule → Result Tree Fault
ok_all rules = Ok (All (trees_in rules))

abbrev ok_any : List Rule → Result Tree Fault
ok_any rules = Ok (Any (trees_in rules))

pub all_joined : (start : ℕ) (parts : List Rule) (held : Vec Rule Global) → length parts ≢ 0 → length parts ≢ 1 →
    held.items ≡ parts →
    joined All start (trees_in parts) ≡ Ok (tree_of (code.All held))
all_joined start parts held some more e =
    many_joined All start parts some more ∙ ap (λ (rules : List Rule). ok_all rules) (sym e)
    ∙ ap Ok (sym (tree_of_all held))

pub any_joined : (start : ℕ) (parts : List Rule) (held : Vec Rule Global) → length parts ≢ 0 → length parts ≢ 1 →
    held.items ≡ parts →
    joined Any start (trees_in parts) ≡ Ok (tree_of (code.Any held))
any_joined start parts held some more e =
    many_joined Any start parts some more ∙ ap (λ (rules : List Rule). ok_any rules) (sym e)
    ∙ ap Ok (sym (tree_of_any held))

-- one more predicate is read
pub rules_more : (env : Env) (rules pushed : List Rule) (rule : Rule) (left forms : FormTrees) (form : FormTree) →
    left ≡ also form forms → rule_at env form ≡ Ok (tree_of rule) → pushed ≡ rules ++ rule ∷ [] →
    all_read (trees_in rules) (rules_in env left) ≡ all_read (trees_in pushed) (rules_in env forms)
unfolding all_read rules_in
rules_more env rules pushed rule left forms form at read grown = rw (at, read, grown, rule_pushed rules rule) refl
