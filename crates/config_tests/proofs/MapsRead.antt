-- Maps are read exactly as the grammar says, and refused exactly for their first fault.
use Rattle.std.proofs.Common.{◌≡◌, ◌↔◌, ℕ, Bool, true, false, ◌&&◌, codes, cond, List, [], ◌∷◌, ◌++◌, Option, Some}
use Rattle.std.proofs.Common.{None, Result, Ok, Err, refl, ap, sym, subst, ◌∙◌}
use Rattle.std.proofs.lemmas.Slice.Eq.{bytes_eq-Decides}
use Rattle.std.specs.Str.{bytes_eq}
use Rattle.ev_types.specs.declared.field.Field.{Field}
use Rattle.ev_types.specs.declared.settings.Set.{Set}
use Rattle.ev_types.specs.declared.value.Value.{Value}
use Rattle.ev_types.specs.Names.{named_field, protocol_field}
use Rattle.ev_types.specs.Set.{fits}
use Rattle.sexp_read.specs.declared.piece.Atom.TheVariants as atom
use Rattle.sexp_read.specs.declared.piece.Bracket.TheVariants.{Round, Square, Curly}
use Rattle.sexp_read.specs.Tree.{FormTree, FormTrees, Single, Group, none, also}
use Rattle.sexp_read.specs.Written.{BareTree, BareTrees, bare_tree, bare_trees}
use Rattle.config_terms.specs.declared.binding.Bound.TheVariants as bound
use Rattle.config_terms.specs.declared.fault.ConfigWhy.TheVariants as why
use Rattle.config_terms.specs.Steps.{Fault, ◌>>=◌, start_of, each, onto}
use Rattle.config_terms.specs.Words.{tags_text}
use Rattle.config_terms.specs.Arguments.{Argument, Text, Pattern, Number, Keyword, Index, Unbound, Forms}
use Rattle.config_terms.specs.Arguments.{argument_of, is_number, is_ttl_field, fitted, text_at, value_at, set_at}
use Rattle.config_terms.specs.Arguments.{texts_at, vector_at, map_at}
use Rattle.config_terms.specs.Grammar.{IsLiteral, IsValue}
use Rattle.config_terms.specs.Terms.{vector_of, a_field, IsSet, a_set, AreTexts}
use Rattle.config_terms.proofs.BareForms.{group_of, none_of}
use Rattle.config_terms.proofs.GrammarOnly.{Meaning, taken_means}
use Rattle.config_terms.proofs.GrammarRead.{literal_read}
use Rattle.config_terms.proofs.Outcomes.{SomeGood, OkGood, some_if, ok_read}
use Rattle.config_terms.proofs.SetLaws.{sets_are_read, KeyIs}
use Rattle.config_terms.proofs.TermLaws.{texts_are_read, values_are_read}
use Rattle.config_terms.proofs.RowLaws.{all_read}
use Rattle.config_tests.specs.declared.map.Described.{Described}
use Rattle.config_tests.specs.declared.map.MapKey.{MapKey}
use Rattle.config_tests.specs.declared.map.MapKey.TheVariants as key
use Rattle.config_tests.specs.Faults.{and_forms, misfit_why, IsMisfit, a_misfit, unfit_why, HasValueFault, no_value}
use Rattle.config_tests.specs.Faults.{unfit, IsVector, HaveTextFault, HasTagsFault, no_vector, no_tag, HasPartFault}
use Rattle.config_tests.specs.Faults.{HasNextFault, no_key, key_twice, key_alone, no_part, HavePartFault, IsMapOf}
use Rattle.config_tests.specs.Faults.{HasMapFault, no_map, in_map}
use Rattle.config_tests.specs.Grammar.{then_one, IsText, nothing, IsKey, field_key, tags_key, has_key, IsPart}
use Rattle.config_tests.specs.Grammar.{says_field, says_tags, AreParts, no_parts, more_parts, IsMap, a_map}
use Rattle.config_tests.specs.Maps.{key_of_field, key_in, key_at, new_key, new_key_at, tags_at, with_part}
use Rattle.config_tests.specs.Maps.{described_from, described_at}
use Rattle.config_tests.proofs.Refusals.{Refuses, Both, both_then, both_if, both_weaker, refuses_first, refuses_next}
use Rattle.config_tests.proofs.Refusals.{refuses_as, taken_both, taken_refuses, text_both, text_refuses, value_both}
use Rattle.config_tests.proofs.Refusals.{value_refuses}
use Rattle.config_tests.proofs.Rows.{none_after, forms_after, and_form, bare_after, last_of, same_next, same_ok}
use Rattle.config_tests.proofs.Rows.{all_both, all_refuses}

-- ---- keys

no_tags_at : (name : List ℕ) (one : Field) (same : Bool) → bytes_eq name tags_text ≡ same → named_field name ≡ Some one
    → same ≡ false
unfolding named_field protocol_field
no_tags_at name one false is means = refl
no_tags_at name one true is means =
    let tags : named_field tags_text ≡ Some one =
    ap named_field (sym ((bytes_eq-Decides name tags_text).0 is)) ∙ means in
    cc

no_tags : (name : List ℕ) (one : Field) → named_field name ≡ Some one → bytes_eq name tags_text ≡ false
no_tags name one means = no_tags_at name one (bytes_eq name tags_text) refl means

field_key_read : (f : FormTree) (name : List ℕ) (one : Field) → argument_of [] f ≡ Keyword name
    → named_field name ≡ Some one → key_at f ≡ Ok (key.Field one)
unfolding key_at
field_key_read f name one is means = rw (is, no_tags name one means, means) refl

tags_key_read : (f : FormTree) → argument_of [] f ≡ Keyword (codes "tags") → key_at f ≡ Ok key.Tags
unfolding key_at
tags_key_read f is = rw is refl

key_read : (form : BareTree) (one : MapKey) → IsKey form one → (f : FormTree) → bare_tree f ≡ form → key_at f ≡ Ok one
key_read form _ (field_key {one = one} (a_field {name = name} literal means)) f h =
    field_key_read f name one (literal_read [] form (bound.Keyword name) literal f h) means
key_read form _ (tags_key is) f h = tags_key_read f (literal_read [] form (bound.Keyword (codes "tags")) is f h)

named_key : (form : BareTree) (name : List ℕ) (found : Option Field) → IsLiteral [] form (bound.Keyword name)
    → named_field name ≡ found → SomeGood (IsKey form) (key_of_field found)
named_key form name None is means = tt
named_key form name (Some one) is means = field_key (a_field is means)

key_in_means : (form : BareTree) (given : Argument) → Meaning [] form given → SomeGood (IsKey form) (key_in given)
key_in_means form (Keyword name) means =
    some_if (IsKey form) (bytes_eq name tags_text) (Some key.Tags) (key_of_field (named_field name))
    (λ is. tags_key (subst (KeyIs [] form) ((bytes_eq-Decides name tags_text).0 is) means))
    (λ _. named_key form name (named_field name) means refl)
key_in_means form (Text text) means = tt
key_in_means form (Pattern text) means = tt
key_in_means form (Number number) means = tt
key_in_means form Index means = tt
key_in_means form (Unbound name) means = tt
key_in_means form (Forms bracket forms) means = tt

key_means : (f : FormTree) → OkGood (IsKey (bare_tree f)) (key_at f)
unfolding key_at
key_means f = taken_means (IsKey (bare_tree f)) key_in [] f (key_in_means (bare_tree f))

keys_are_read : (f : FormTree) (one : MapKey) → IsKey (bare_tree f) one ↔ (key_at f ≡ Ok one)
keys_are_read f one = (
  (λ is. key_read (bare_tree f) one is f refl),
  (λ is. ok_read (IsKey (bare_tree f)) (key_at f) one is (key_means f)),
)

key_both : (f : FormTree) → Both (IsKey (bare_tree f)) (IsMisfit IsKey f) (key_at f)
unfolding key_at
key_both f = taken_both IsKey key_in keys_are_read f

key_refuses : (f : FormTree) (fault : Fault) → IsMisfit IsKey f fault → Refuses (key_at f) fault
unfolding key_at
key_refuses f fault misfit = taken_refuses IsKey key_in keys_are_read f fault misfit

-- ---- values

number_or_not : (E : Fault → Type 0) (P : Set → Type 0) (place : ℕ) (number : Bool)
    → E (place, cond number why.Range why.Arguments)
    → Both P E (cond number (Err (place, why.Range)) (Err (place, why.Arguments)))
number_or_not E P place true has = has
number_or_not E P place false has = has

set_both : (one : Field) (f : FormTree) → Both (IsSet [] one (bare_tree f)) (HasValueFault one f) (set_at [] one f)
unfolding set_at
set_both one f =
    let P = IsSet [] one (bare_tree f) in
    let E = HasValueFault one f in
    both_then (IsValue [] (bare_tree f)) (IsMisfit (IsValue []) f) E P (value_at [] f) (fitted (start_of f) one)
    (value_both f) (λ fault misfit. no_value misfit)
    (λ held is. both_if P E (fits one held) _ _ (λ fit. a_set is fit)
    (λ not. number_or_not E P (start_of f) (is_ttl_field one && is_number held) (unfit is not)))

unfit_refuses : (place : ℕ) (number : Bool)
    → Refuses {A = Set} (cond number (Err (place, why.Range)) (Err (place, why.Arguments)))
    (place, cond number why.Range why.Arguments)
unfit_refuses place true = refl
unfit_refuses place false = refl

fitted_refuses : (place : ℕ) (one : Field) (held : Value) → fits one held ≡ false
    → Refuses (fitted place one held) (place, unfit_why one held)
fitted_refuses place one held not = rw not (unfit_refuses place (is_ttl_field one && is_number held))

set_refuses : (one : Field) (f : FormTree) (fault : Fault) → HasValueFault one f fault → Refuses (set_at [] one f) fault
unfolding set_at
set_refuses one f fault (no_value misfit) =
    refuses_first (value_at [] f) (fitted (start_of f) one) fault (value_refuses f fault misfit)
set_refuses one _ _ (unfit {f = f} {held = held} is not) =
    refuses_next (value_at [] f) held (fitted (start_of f) one) (start_of f, unfit_why one held)
    ((values_are_read [] f held).0 is) (fitted_refuses (start_of f) one held not)

-- ---- tags

texts_both : (forms : FormTrees)
    → Both (AreTexts [] (bare_trees forms)) (HaveTextFault forms) (each (onto (text_at [])) [] forms)
texts_both forms = all_both IsText (IsMisfit IsText) (text_at []) text_both forms

text_is : (f : FormTree) (text : List ℕ) → IsText (bare_tree f) text → text_at [] f ≡ Ok text
text_is f text is = (texts_are_read [] f text).0 is

texts_refuse : (forms : FormTrees) (fault : Fault) → HaveTextFault forms fault
    → Refuses (each (onto (text_at [])) [] forms) fault
texts_refuse forms fault known = all_refuses IsText (IsMisfit IsText)
    (text_at []) text_is text_refuses forms fault known

tags_group : (forms : FormTrees) (start last : ℕ)
    → tags_at (Group Square forms start last) ≡ each (onto (text_at [])) [] forms
unfolding tags_at vector_at texts_at argument_of
tags_group forms start last = refl

abbrev Tagged : Described → BareTree → List (List ℕ) → Type 0
Tagged before form tags = IsPart before key.Tags form (record before { tags = Some tags })

tags_both : (before : Described) (f : FormTree) → Both (Tagged before (bare_tree f)) (HasTagsFault f) (tags_at f)
unfolding tags_at vector_at texts_at argument_of
tags_both before (Group Square forms start last) =
    let f = Group Square forms start last in
    both_weaker (AreTexts [] (bare_trees forms)) (Tagged before (bare_tree f)) (HaveTextFault forms) (HasTagsFault f)
    (each (onto (text_at [])) [] forms) (texts_both forms) (λ tags are. says_tags are) (λ fault has. no_tag has)
tags_both before (Group Round forms start last) = no_vector (a_misfit (λ row is. cc))
tags_both before (Group Curly forms start last) = no_vector (a_misfit (λ row is. cc))
tags_both before (Single (atom.Text text) start last) = no_vector (a_misfit (λ row is. cc))
tags_both before (Single (atom.Pattern text) start last) = no_vector (a_misfit (λ row is. cc))
tags_both before (Single (atom.Number number) start last) = no_vector (a_misfit (λ row is. cc))
tags_both before (Single (atom.Keyword name) start last) = no_vector (a_misfit (λ row is. cc))
tags_both before (Single (atom.Symbol name) start last) = no_vector (a_misfit (λ row is. cc))

other_tags : (f : FormTree) → ((row : BareTrees) → IsVector (bare_tree f) row → ⊥)
    → Refuses (tags_at f) (start_of f, misfit_why f)
unfolding tags_at vector_at texts_at argument_of
other_tags (Group Square forms start last) misfit = absurd (misfit (bare_trees forms) refl)
other_tags (Group Round forms start last) misfit = refl
other_tags (Group Curly forms start last) misfit = refl
other_tags (Single (atom.Text text) start last) misfit = refl
other_tags (Single (atom.Pattern text) start last) misfit = refl
other_tags (Single (atom.Number number) start last) misfit = refl
other_tags (Single (atom.Keyword name) start last) misfit = refl
other_tags (Single (atom.Symbol name) start last) misfit = refl

no_vector_refuses : (f : FormTree) (fault : Fault) → IsMisfit IsVector f fault → Refuses (tags_at f) fault
no_vector_refuses _ _ (a_misfit {f = f} misfit) = other_tags f misfit

tags_refuse : (f : FormTree) (fault : Fault) → HasTagsFault f fault → Refuses (tags_at f) fault
tags_refuse f fault (no_vector misfit) = no_vector_refuses f fault misfit
tags_refuse _ fault (no_tag {forms = forms} {start = start} {last = last} has) =
    refuses_as (tags_at (Group Square forms start last)) (each (onto (text_at [])) [] forms) fault
    (tags_group forms start last) (texts_refuse forms fault has)

tags_read : (f : FormTree) (row : BareTrees) (tags : List (List ℕ)) → bare_tree f ≡ vector_of row → AreTexts [] row tags
    → tags_at f ≡ Ok tags
tags_read f row tags h are =
    let group = group_of f Square row h in
    ap tags_at group.is ∙ tags_group group.forms group.start group.last
    ∙ all_read IsText (text_at []) text_is group.forms tags
    (subst (λ (r : BareTrees). AreTexts [] r tags) (sym group.forms_are) are)

-- ---- what comes after a key

part_both : (before : Described) (one : MapKey) (f : FormTree)
    → Both (IsPart before one (bare_tree f)) (HasPartFault one f) (with_part before one f)
unfolding with_part
part_both before (key.Field one) f =
    both_then (IsSet [] one (bare_tree f)) (HasValueFault one f) (HasValueFault one f)
    (IsPart before (key.Field one) (bare_tree f)) (set_at [] one f)
    (λ set. Ok (record before { sets = before.sets ++ set ∷ [] })) (set_both one f)
    (λ fault has. has) (λ set is. says_field is)
part_both before key.Tags f =
    both_then (Tagged before (bare_tree f)) (HasTagsFault f) (HasTagsFault f) (IsPart before key.Tags (bare_tree f))
    (tags_at f) (λ tags. Ok (record before { tags = Some tags })) (tags_both before f)
    (λ fault has. has) (λ tags is. is)

part_read : (before : Described) (one : MapKey) (form : BareTree) (after : Described) → IsPart before one form after
    → (f : FormTree) → bare_tree f ≡ form → with_part before one f ≡ Ok after
unfolding with_part
part_read before _ form _ (says_field {one = one} {set = set} is) f h =
    rw ((sets_are_read [] one f set).0 (subst (λ (t : BareTree). IsSet [] one t set) (sym h) is)) refl
part_read before _ _ _ (says_tags {forms = row} {tags = tags} are) f h = rw (tags_read f row tags h are) refl

part_refuses : (before : Described) (one : MapKey) (f : FormTree) (fault : Fault) → HasPartFault one f fault
    → Refuses (with_part before one f) fault
unfolding with_part
part_refuses before (key.Field one) f fault has =
    refuses_first (set_at [] one f) (λ set. Ok (record before { sets = before.sets ++ set ∷ [] })) fault
    (set_refuses one f fault has)
part_refuses before key.Tags f fault has =
    refuses_first (tags_at f) (λ tags. Ok (record before { tags = Some tags })) fault (tags_refuse f fault has)

-- ---- keys that are new

-- the fault of a key is that of the forms that begin with it
abbrev HasKeyFault : Described → FormTree → Fault → Type 0
HasKeyFault before k fault = (place : ℕ) (forms : FormTrees) → HasNextFault place before (also k forms) fault

abbrev IsNew : Described → BareTree → MapKey → Type 0
IsNew before form one = IsKey form one × (has_key one before ≡ false)

new_both : (before : Described) (k : FormTree)
    → Both (IsNew before (bare_tree k)) (HasKeyFault before k) (new_key_at before k)
unfolding new_key_at
new_both before k =
    let P = IsNew before (bare_tree k) in
    let E = HasKeyFault before k in
    both_then (IsKey (bare_tree k)) (IsMisfit IsKey k) E P (key_at k) (new_key (start_of k) before) (key_both k)
    (λ fault misfit place forms. no_key misfit)
    (λ one is. both_if P E (has_key one before) _ _ (λ had place forms. key_twice is had) (λ new. (is, new)))

new_read : (before : Described) (k : FormTree) (one : MapKey) → IsKey (bare_tree k) one → has_key one before ≡ false
    → new_key_at before k ≡ Ok one
unfolding new_key_at
new_read before k one is new = rw ((keys_are_read k one).0 is, new) refl

twice_refuses : (before : Described) (k : FormTree) (one : MapKey) → IsKey (bare_tree k) one → has_key one before ≡ true
    → Refuses (new_key_at before k) (start_of k, why.Twice)
unfolding new_key_at
twice_refuses before k one is had = rw ((keys_are_read k one).0 is, had) refl

misfit_refuses : (before : Described) (k : FormTree) (fault : Fault) → IsMisfit IsKey k fault
    → Refuses (new_key_at before k) fault
unfolding new_key_at
misfit_refuses before k fault misfit =
    refuses_first (key_at k) (new_key (start_of k) before) fault (key_refuses k fault misfit)

-- ---- keys and what comes after them

parts_from : (place : ℕ) (before : FormTrees) (said : Described) → AreParts (bare_trees before) said
    → (forms : FormTrees)
    → Both (AreParts (bare_trees (and_forms before forms))) (HavePartFault place (and_forms before forms))
    (described_from place said forms)
unfolding described_from
parts_from place before said are none =
    subst (λ (fs : FormTrees). AreParts (bare_trees fs) said) (sym (none_after before)) are
parts_from place before said are (also k none) =
    let F = HavePartFault place (and_forms before (also k none)) in
    let Q = AreParts (bare_trees (and_forms before (also k none))) in
    both_then (IsNew said (bare_tree k)) (HasKeyFault said k) F Q (new_key_at said k)
    (λ known. Err (place, why.Arguments)) (new_both said k)
    (λ fault has.
    record { before = before; after = also k none; whole = refl; said = said; are = are; faulty = has place none })
    (λ one new. record {
      before = before;
      after = also k none;
      whole = refl;
      said = said;
      are = are;
      faulty = key_alone new.0 new.1;
    })
parts_from place before said are (also k (also f forms)) =
    let all = also k (also f forms) in
    let F = HavePartFault place (and_forms before all) in
    let Q = AreParts (bare_trees (and_forms before all)) in
    let longer = and_form (and_form before k) f in
    both_then (IsNew said (bare_tree k)) (HasKeyFault said k) F Q (new_key_at said k)
    (λ known. with_part said known f >>= λ more. described_from place more forms) (new_both said k)
    (λ fault has.
    record { before = before; after = all; whole = refl; said = said; are = are; faulty = has place (also f forms) })
    (λ one new. both_then (IsPart said one (bare_tree f)) (HasPartFault one f) F Q (with_part said one f)
    (λ more. described_from place more forms) (part_both said one f)
    (λ fault has.
    record { before = before; after = all; whole = refl; said = said; are = are; faulty = no_part new.0 new.1 has })
    (λ more part. subst
    (λ (fs : FormTrees). Both (AreParts (bare_trees fs)) (HavePartFault place fs) (described_from place more forms))
    (forms_after (and_form before k) (also f none) forms ∙ forms_after before (also k none) (also f forms))
    (parts_from place longer more
    (subst (λ (row : BareTrees). AreParts row more)
    (sym
    (bare_after (and_form before k) f ∙ ap (λ (row : BareTrees). then_one row (bare_tree f)) (bare_after before k)))
    (more_parts are new.0 new.1 part))
    forms)))

parts_both : (place : ℕ) (forms : FormTrees)
    → Both (AreParts (bare_trees forms)) (HavePartFault place forms) (described_from place nothing forms)
parts_both place forms = parts_from place none nothing no_parts forms

never_ok : {A B : Type 0} (read : Result A Fault) (fault : Fault) (b : B) → (read >>= λ a. Err fault) ≡ Ok b → ⊥
never_ok (Ok a) fault b is = cc
never_ok (Err raw) fault b is = cc

parts_split : (place : ℕ) (said more : Described) (before after : FormTrees)
    → described_from place said before ≡ Ok more
    → described_from place said (and_forms before after) ≡ described_from place more after
unfolding described_from
parts_split place said more none after is = ap (λ (d : Described). described_from place d after) (same_ok said more is)
parts_split place said more (also k none) after is =
    absurd (never_ok (new_key_at said k) (place, why.Arguments) more is)
parts_split place said more (also k (also f before)) after is =
    same_next (new_key_at said k) more (λ known. with_part said known f >>= λ next. described_from place next before)
    (λ known. with_part said known f >>= λ next. described_from place next (and_forms before after))
    (described_from place more after) is
    (λ known part. same_next (with_part said known f) more (λ next. described_from place next before)
    (λ next. described_from place next (and_forms before after)) (described_from place more after) part
    (λ next others. parts_split place next more before after others))

parts_done : (place : ℕ) (said : Described) → described_from place said none ≡ Ok said
unfolding described_from
parts_done place said = refl

part_next : (place : ℕ) (said more : Described) (one : MapKey) (k f : FormTree) → new_key_at said k ≡ Ok one
    → with_part said one f ≡ Ok more → described_from place said (also k (also f none)) ≡ Ok more
unfolding described_from
part_next place said more one k f new part = rw (new, part) refl

parts_read : (row : BareTrees) (said : Described) → AreParts row said → (place : ℕ) (forms : FormTrees)
    → bare_trees forms ≡ row → described_from place nothing forms ≡ Ok said
parts_read _ _ no_parts place forms h = ap (described_from place nothing) (none_of forms h) ∙ parts_done place nothing
parts_read _ _
    (more_parts {forms = row} {k = k} {v = v} {one = one} {before = before} {described = said} are is new part) place
    forms h =
    let last = last_of forms (then_one row k) v h in
    let first = last_of last.before row k last.before_are in
    ap (described_from place nothing)
    (last.are ∙ ap (λ (fs : FormTrees). and_form fs last.form) first.are
    ∙ forms_after first.before (also first.form none) (also last.form none))
    ∙ parts_split place nothing before first.before (also first.form (also last.form none))
    (parts_read row before are place first.before first.before_are)
    ∙ part_next place before said one first.form last.form
    (new_read before first.form one (subst (λ (t : BareTree). IsKey t one) (sym first.form_is) is) new)
    (part_read before one v said part last.form last.form_is)

key_first : (place : ℕ) (said : Described) (k : FormTree) (forms : FormTrees) (fault : Fault)
    → Refuses (new_key_at said k) fault → Refuses (described_from place said (also k forms)) fault
unfolding described_from
key_first place said k none fault refused =
    refuses_first (new_key_at said k) (λ known. Err (place, why.Arguments)) fault refused
key_first place said k (also f forms) fault refused =
    refuses_first (new_key_at said k) (λ known. with_part said known f >>= λ more. described_from place more forms)
    fault refused

next_refuses : (place : ℕ) (said : Described) (forms : FormTrees) (fault : Fault) → HasNextFault place said forms fault
    → Refuses (described_from place said forms) fault
unfolding described_from
next_refuses place said _ fault (no_key {k = k} {forms = forms} misfit) =
    key_first place said k forms fault (misfit_refuses said k fault misfit)
next_refuses place said _ _ (key_twice {k = k} {forms = forms} {one = one} is had) =
    key_first place said k forms (start_of k, why.Twice) (twice_refuses said k one is had)
next_refuses place said _ _ (key_alone {k = k} {one = one} is new) =
    refuses_next (new_key_at said k) one (λ known. Err (place, why.Arguments)) (place, why.Arguments)
    (new_read said k one is new) refl
next_refuses place said _ fault (no_part {k = k} {f = f} {forms = forms} {one = one} is new has) =
    refuses_next (new_key_at said k) one (λ known. with_part said known f >>= λ more. described_from place more forms)
    fault (new_read said k one is new)
    (refuses_first (with_part said one f) (λ more. described_from place more forms) fault
    (part_refuses said one f fault has))

parts_refuse : (place : ℕ) (forms : FormTrees) (fault : Fault) → HavePartFault place forms fault
    → Refuses (described_from place nothing forms) fault
parts_refuse place forms fault known =
    refuses_as (described_from place nothing forms) (described_from place known.said known.after) fault
    (ap (described_from place nothing) known.whole
    ∙ parts_split place nothing known.said known.before known.after
    (parts_read (bare_trees known.before) known.said known.are place known.before refl))
    (next_refuses place known.said known.after fault known.faulty)

-- ---- maps

map_group : (forms : FormTrees) (start last : ℕ)
    → described_at (Group Curly forms start last) ≡ described_from start nothing forms
unfolding described_at map_at argument_of
map_group forms start last = refl

pub map_both : (f : FormTree) → Both (IsMap (bare_tree f)) (HasMapFault f) (described_at f)
unfolding described_at map_at argument_of
map_both (Group Curly forms start last) =
    let f = Group Curly forms start last in
    both_weaker (AreParts (bare_trees forms)) (IsMap (bare_tree f)) (HavePartFault start forms) (HasMapFault f)
    (described_from start nothing forms) (parts_both start forms) (λ said are. a_map are) (λ fault has. in_map has)
map_both (Group Round forms start last) = no_map (a_misfit (λ row is. cc))
map_both (Group Square forms start last) = no_map (a_misfit (λ row is. cc))
map_both (Single (atom.Text text) start last) = no_map (a_misfit (λ row is. cc))
map_both (Single (atom.Pattern text) start last) = no_map (a_misfit (λ row is. cc))
map_both (Single (atom.Number number) start last) = no_map (a_misfit (λ row is. cc))
map_both (Single (atom.Keyword name) start last) = no_map (a_misfit (λ row is. cc))
map_both (Single (atom.Symbol name) start last) = no_map (a_misfit (λ row is. cc))

map_given : (form : BareTree) (said : Described) → IsMap form said → (f : FormTree) → bare_tree f ≡ form
    → described_at f ≡ Ok said
map_given _ said (a_map {forms = row} are) f h =
    let group = group_of f Curly row h in
    ap described_at group.is ∙ map_group group.forms group.start group.last
    ∙ parts_read row said are group.start group.forms group.forms_are

pub map_read : (f : FormTree) (said : Described) → IsMap (bare_tree f) said → described_at f ≡ Ok said
map_read f said is = map_given (bare_tree f) said is f refl

other_map : (f : FormTree) → ((row : BareTrees) → IsMapOf (bare_tree f) row → ⊥)
    → Refuses (described_at f) (start_of f, misfit_why f)
unfolding described_at map_at argument_of
other_map (Group Curly forms start last) misfit = absurd (misfit (bare_trees forms) refl)
other_map (Group Round forms start last) misfit = refl
other_map (Group Square forms start last) misfit = refl
other_map (Single (atom.Text text) start last) misfit = refl
other_map (Single (atom.Pattern text) start last) misfit = refl
other_map (Single (atom.Number number) start last) misfit = refl
other_map (Single (atom.Keyword name) start last) misfit = refl
other_map (Single (atom.Symbol name) start last) misfit = refl

no_map_refuses : (f : FormTree) (fault : Fault) → IsMisfit IsMapOf f fault → Refuses (described_at f) fault
no_map_refuses _ _ (a_misfit {f = f} misfit) = other_map f misfit

pub map_refuses : (f : FormTree) (fault : Fault) → HasMapFault f fault → Refuses (described_at f) fault
map_refuses f fault (no_map misfit) = no_map_refuses f fault misfit
map_refuses _ fault (in_map {forms = forms} {start = start} {last = last} has) =
    refuses_as (described_at (Group Curly forms start last)) (described_from start nothing forms) fault
    (map_group forms start last) (parts_refuse start forms fault has)

-- a form that is a map is no vector
pub record IsCurly (form : BareTree) : Type 0 where
  pub row : BareTrees
  pub is : IsMapOf form row

pub map_is_curly : (form : BareTree) (said : Described) → IsMap form said → IsCurly form
map_is_curly _ said (a_map {forms = row} are) = record { row = row; is = refl }
