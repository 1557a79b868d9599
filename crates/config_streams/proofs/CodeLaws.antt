-- Tags, as the code makes rules of them.
use Rattle.std.proofs.Common.{◌≡◌, ◌≢◌, ◌<◌, ◌+◌, take, get_or, ℕ, List, [], ◌∷◌, ◌++◌, length, Vec, Global}
use Rattle.std.proofs.Common.{refl, ap, sym, ◌∙◌, arith}
use Rattle.std.proofs.lemmas.List.{take_more}
use Rattle.pred_eval.specs.declared.rule.Rule.{Rule}
use Rattle.pred_eval.specs.declared.rule.Rule as code
use Rattle.pred_eval.specs.Tree.{Tree, Trees, All, tree_of, trees_in}
use Rattle.pred_eval.specs.Tree as pred
use Rattle.pred_eval.proofs.TreeLaws.{tree_of_all}
use Rattle.config_terms.specs.Rules.{with_rule}
use Rattle.config_terms.proofs.RuleLaws.{rule_pushed}
use Rattle.config_streams.specs.Table.{tag_rules, all_tagged}

abbrev with_tag : Trees → List ℕ → Trees
with_tag rules tag = with_rule rules (pred.Tagged tag)

tag_rules-append : (tags : List (List ℕ)) (tag : List ℕ) → tag_rules (tags ++ tag ∷ []) ≡ with_tag (tag_rules tags) tag
tag_rules-append [] tag = refl
tag_rules-append (first ∷ tags) tag = ap (λ more. pred.also (pred.Tagged first) more) (tag_rules-append tags tag)

pub tag_more : (tags : List (List ℕ)) (rules pushed : List Rule) (tag copied : List ℕ) (i : ℕ) → i < length tags →
    tag ≡ get_or tags i tag → copied ≡ tag →
    pushed ≡ rules ++ code.Tagged copied ∷ [] → trees_in rules ≡ tag_rules (take i tags) →
    trees_in pushed ≡ tag_rules (take (i + 1) tags)
tag_more tags rules pushed tag copied i within is same grown so_far =
    ap trees_in grown
    ∙ rule_pushed rules (code.Tagged copied)
    ∙ ap (λ (r : Trees). with_tag r copied) so_far
    ∙ ap (with_tag (tag_rules (take i tags))) (same ∙ is)
    ∙ sym (tag_rules-append (take i tags) (get_or tags i tag))
    ∙ ap tag_rules (sym (take_more tags i tag within))

pub one_tag : (tags : List (List ℕ)) (tag : List ℕ) → length tags ≡ 1 → tag ≡ get_or tags 0 tag
    → all_tagged tags ≡ pred.Tagged tag
one_tag [] tag one is = absurd (omega arith)
one_tag (first ∷ []) tag one is = ap pred.Tagged (sym is)
one_tag (first ∷ second ∷ tags) tag one is = absurd (omega arith)

pub many_tags : (tags : List (List ℕ)) (held : Vec Rule Global) → length tags ≢ 1 → trees_in held.items ≡ tag_rules tags
    → all_tagged tags ≡ tree_of (code.All held)
many_tags [] held more is = ap All (sym is) ∙ sym (tree_of_all held)
many_tags (first ∷ []) held more is = absurd (more refl)
many_tags (first ∷ second ∷ tags) held more is = ap All (sym is) ∙ sym (tree_of_all held)
