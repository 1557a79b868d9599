-- Writing a rule piece by piece.
use Rattle.std.proofs.Common.{◌≡◌, ℕ, ◌+◌, ◌<◌, List, [], ◌∷◌, ◌++◌, cond, Bool, true, false, codes, length, get_or}
use Rattle.std.proofs.Common.{take, map, Vec, Global, refl, ap, sym, ◌∙◌, append_assoc}
use Rattle.std.proofs.Math.Seq.{take-length}
use Rattle.std.proofs.lemmas.List.{take_more}
use Rattle.list_laws.specs.Prefix.{IsPrefix}
use Rattle.pred_eval.specs.declared.rule.Rule.{Rule}
use Rattle.pred_eval.specs.declared.rule.Rule as code
use Rattle.pred_eval.specs.Tree.{tree_of}
use Rattle.query_lang.specs.declared.write.Under.{Under}
use Rattle.query_lang.specs.declared.write.Under.TheVariants as under
use Rattle.query_lang.specs.Grammar.{listed}
use Rattle.query_lang.specs.Spelling.{grouped, groups_any, groups_all, spelling_under, joined_spelling, more_spelling}
use Rattle.query_lang.proofs.Rules.{any_listed, all_listed}
use Rattle.query_lang.proofs.ParserLaws.{append_nil}

pub grouped_parts : (group : Bool) (old text : List ℕ)
    → ((old ++ cond group (codes "( ") []) ++ text) ++ cond group (codes " )") [] ≡ old ++ grouped group text
grouped_parts true old text =
    append_assoc (old ++ codes "( ") text (codes " )") ∙ append_assoc old (codes "( ") (text ++ codes " )")
    ∙ ap (λ (all : List ℕ). old ++ all) (sym (append_assoc (codes "( ") text (codes " )")))
grouped_parts false old text = append_nil ((old ++ []) ++ text) ∙ ap (λ (all : List ℕ). all ++ text) (append_nil old)

-- the parts after the first one
more_append : (word : List ℕ) (place : Under) (parts others : List Rule)
    → more_spelling word place (listed (map tree_of (parts ++ others)))
    ≡ more_spelling word place (listed (map tree_of parts)) ++ more_spelling word place (listed (map tree_of others))
more_append word place [] others = refl
more_append word place (part ∷ parts) others =
    ap (λ (rest : List ℕ). (word ++ spelling_under place (tree_of part)) ++ rest) (more_append word place parts others)
    ∙ sym (append_assoc (word ++ spelling_under place (tree_of part))
    (more_spelling word place (listed (map tree_of parts))) (more_spelling word place (listed (map tree_of others))))

pub more_parts : (word : List ℕ) (place : Under) (parts : List Rule) (i : ℕ) (part : Rule) → i < length parts
    → part ≡ get_or parts i part
    → more_spelling word place (listed (map tree_of (take (i + 1) parts)))
    ≡ (more_spelling word place (listed (map tree_of (take i parts))) ++ word) ++ spelling_under place (tree_of part)
more_parts word place parts i part inside is =
    let front : take (i + 1) parts ≡ take i parts ++ part ∷ [] =
    take_more parts i part inside ∙ ap (λ (last : Rule). take i parts ++ last ∷ []) (sym is) in
    let before = more_spelling word place (listed (map tree_of (take i parts))) in
    ap (λ (all : List Rule). more_spelling word place (listed (map tree_of all))) front
    ∙ more_append word place (take i parts) (part ∷ [])
    ∙ ap (λ (last : List ℕ). before ++ last) (append_nil (word ++ spelling_under place (tree_of part)))
    ∙ sym (append_assoc before word (spelling_under place (tree_of part)))

pub more_all : (word : List ℕ) (place : Under) (parts : List Rule)
    → more_spelling word place (listed (map tree_of (take (length parts) parts)))
    ≡ more_spelling word place (listed (map tree_of parts))
more_all word place parts =
    ap (λ (all : List Rule). more_spelling word place (listed (map tree_of all))) (take-length parts)

pub all_spelled : (rule : Rule) (parts : Vec Rule Global) (items : List Rule) (place : Under) → rule ≡ code.All parts
    → items ≡ parts.items
    → grouped (groups_all place) (joined_spelling (codes " and ") under.All (listed (map tree_of items)))
    ≡ spelling_under place (tree_of rule)
all_spelled rule parts items place is same =
    ap
    (λ (all : List Rule).
    grouped (groups_all place) (joined_spelling (codes " and ") under.All (listed (map tree_of all))))
    same
    ∙ sym (ap (λ (rule : Rule). spelling_under place (tree_of rule)) is ∙ ap (spelling_under place) (all_listed parts))

pub any_spelled : (rule : Rule) (parts : Vec Rule Global) (items : List Rule) (place : Under) → rule ≡ code.Any parts
    → items ≡ parts.items
    → grouped (groups_any place) (joined_spelling (codes " or ") under.Any (listed (map tree_of items)))
    ≡ spelling_under place (tree_of rule)
any_spelled rule parts items place is same =
    ap
    (λ (all : List Rule).
    grouped (groups_any place) (joined_spelling (codes " or ") under.Any (listed (map tree_of all))))
    same
    ∙ sym (ap (λ (rule : Rule). spelling_under place (tree_of rule)) is ∙ ap (spelling_under place) (any_listed parts))

-- one part more, after the word
pub parts_step : (first initial out appended final word : List ℕ) (place : Under) (parts : List Rule) (i : ℕ)
    (part : Rule)
    → IsPrefix first out × (out ≡ initial ++ more_spelling word place (listed (map tree_of (take i parts))))
    → appended ≡ out ++ word → final ≡ appended ++ spelling_under place (tree_of part)
    → i < length parts → part ≡ get_or parts i part
    → IsPrefix first final × (final ≡ initial ++ more_spelling word place (listed (map tree_of (take (i + 1) parts))))
parts_step first initial out appended final word place parts i part before append put inside is =
    let spelled = spelling_under place (tree_of part) in
    let all : final ≡ (out ++ word) ++ spelled = put ∙ ap (λ (text : List ℕ). text ++ spelled) append in
    let grown : final ≡ first ++ ((before.0.0 ++ word) ++ spelled) =
    all ∙ ap (λ (text : List ℕ). (text ++ word) ++ spelled) before.0.1
    ∙ ap (λ (text : List ℕ). text ++ spelled) (append_assoc first before.0.0 word)
    ∙ append_assoc first (before.0.0 ++ word) spelled in
    let so_far = more_spelling word place (listed (map tree_of (take i parts))) in
    let same : final ≡ initial ++ ((so_far ++ word) ++ spelled) =
    all ∙ ap (λ (text : List ℕ). (text ++ word) ++ spelled) before.1
    ∙ ap (λ (text : List ℕ). text ++ spelled) (append_assoc initial so_far word)
    ∙ append_assoc initial (so_far ++ word) spelled in (
      ((before.0.0 ++ word) ++ spelled, grown),
      same ∙ ap (λ (text : List ℕ). initial ++ text) (sym (more_parts word place parts i part inside is)),
    )
