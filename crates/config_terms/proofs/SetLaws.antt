-- Forms are read as a set, as the sets of a map or as the one value of a map exactly where they represent these.
use Rattle.std.proofs.Common.{◌≡◌, ◌≢◌, ◌↔◌, ℕ, codes, Bool, true, false, ◌&&◌, List, [], ◌∷◌, ◌++◌, Option, Some, None, Result, Ok}
use Rattle.std.proofs.Common.{refl, ap, sym, subst, ◌∙◌, append_assoc, cond}
use Rattle.std.proofs.lemmas.Bool.{or_parts, or_from, false_from_ne_true}
use Rattle.std.proofs.lemmas.List.{append-nil}
use Rattle.std.proofs.lemmas.Slice.Eq.{bytes_eq-Decides}
use Rattle.std.specs.Option.{option_or}
use Rattle.std.specs.Str.{bytes_eq}
use Rattle.ev_types.specs.declared.field.Field.{Field}
use Rattle.ev_types.specs.declared.field.Field.TheVariants as field
use Rattle.ev_types.specs.declared.settings.Set.{Set}
use Rattle.ev_types.specs.Names.{field_name, named_field, protocol_field, is_hidden}
use Rattle.ev_types.specs.Set.{fits}
use Rattle.sexp_read.specs.Tree.{FormTree, FormTrees, none, also}
use Rattle.sexp_read.specs.Written.{BareTree, BareTrees, and_trees, bare_tree, bare_trees}
use Rattle.config_terms.specs.declared.binding.Bound.TheVariants as bound
use Rattle.config_terms.specs.Steps.{Fault, start_of}
use Rattle.config_terms.specs.Words.{same_field, init_text}
use Rattle.config_terms.specs.Arguments.{Env, Argument, Keyword, argument_of, keyword_in, keyword_at, field_at}
use Rattle.config_terms.specs.Arguments.{value_at, is_ttl_field, is_number, fitted, set_at, has_field, new_field}
use Rattle.config_terms.specs.Arguments.{new_field_at, sets_from, only_key, only_key_at, one_entry}
use Rattle.config_terms.specs.Grammar.{IsLiteral, IsValue}
use Rattle.config_terms.specs.Terms.{IsField, a_field, IsSet, a_set, IsUnset, AreSets, no_sets, more_sets, IsOnly}
use Rattle.config_terms.specs.Terms.{only, SetsAreRead, SetMapsAreRead, InitsAreRead}
use Rattle.config_terms.proofs.BareForms.{also_of, none_of}
use Rattle.config_terms.proofs.Outcomes.{OkGood, SomeGood, Any_, bind_good, any_good, weaker, ok_if, ok_read, ok_from}
use Rattle.config_terms.proofs.GrammarRead.{literal_read, value_read, two_of}
use Rattle.config_terms.proofs.GrammarOnly.{Meaning, taken_means, value_means}
use Rattle.config_terms.proofs.TermLaws.{values_are_read, field_read, field_means}

-- ---- one set

set_read : (env : Env) (one : Field) (form : BareTree) (set : Set) → IsSet env one form set → (f : FormTree)
    → bare_tree f ≡ form → set_at env one f ≡ Ok set
unfolding set_at
set_read env one form _ (a_set {held = held} is fit) f h = rw (value_read env form held is f h, fit) refl

set_means : (env : Env) (one : Field) (f : FormTree) → OkGood (IsSet env one (bare_tree f)) (set_at env one f)
unfolding set_at
set_means env one f =
    let Q = IsSet env one (bare_tree f) in
    bind_good (IsValue env (bare_tree f)) Q (value_at env f) (fitted (start_of f) one) (value_means env f)
    (λ held is. ok_if Q (fits one held) _ _ (λ fit. a_set is fit)
    (λ _. ok_if Q (is_ttl_field one && is_number held) _ _ (λ _. tt) (λ _. tt)))

pub sets_are_read : SetsAreRead
sets_are_read env one f set = (
  (λ is. set_read env one (bare_tree f) set is f refl),
  (λ is. ok_read (IsSet env one (bare_tree f)) (set_at env one f) set is (set_means env one f)),
)

-- ---- fields of one name

-- the field is what its name means
abbrev Named : Field → Type 0
Named one = named_field (field_name one) ≡ Some one

-- an attribute has the name that means it
abbrev Means : List ℕ → Option Field → Type 0
Means name None = Unit {0}
Means name (Some (field.Attribute key)) = key ≡ name
Means name (Some f) = Unit {0}

means_if : (name : List ℕ) (test : Bool) (x y : Option Field) → Means name x → Means name y → Means name (cond test x y)
means_if name true x y first second = first
means_if name false x y first second = second

means_or : (name : List ℕ) (x y : Option Field) → Means name x → Means name y → Means name (option_or x y)
means_or name (Some a) y first second = first
means_or name None y first second = second

bare_means : (name : List ℕ) → Means name (protocol_field name)
unfolding protocol_field
bare_means name =
    means_if name (bytes_eq name (codes "host")) _ _ tt (means_if name (bytes_eq name (codes "service")) _ _ tt
    (means_if name (bytes_eq name (codes "state")) _ _ tt (means_if name (bytes_eq name (codes "description")) _ _ tt
    (means_if name (bytes_eq name (codes "time")) _ _ tt (means_if name (bytes_eq name (codes "ttl")) _ _ tt
    (means_if name (bytes_eq name (codes "metric")) _ _ tt tt))))))

name_means : (name : List ℕ) → Means name (named_field name)
unfolding named_field
name_means name =
    means_or name (protocol_field name) _ (bare_means name)
    (means_if name (bytes_eq name (codes "metric_sint64")) _ _ tt (means_if name (is_hidden name) _ _ tt refl))

named : (name : List ℕ) (one : Field) → named_field name ≡ Some one → Named one
unfolding named_field protocol_field
named name (field.Attribute key) is =
    let same : key ≡ name = subst (λ (found : Option Field). Means name found) is (name_means name) in
    ap named_field same ∙ is
named name field.Host is = refl
named name field.Service is = refl
named name field.State is = refl
named name field.Description is = refl
named name field.Time is = refl
named name field.Ttl is = refl
named name field.Metric is = refl

field_named : (env : Env) (form : BareTree) (one : Field) → IsField env form one → Named one
field_named env form one (a_field {name = name} literal is) = named name one is

some_same : (a b : Field) → Some a ≡ Some b → a ≡ b
some_same a b e = cc

same_named : (a b : Field) → Named a → Named b → same_field a b ≡ true → a ≡ b
same_named a b first second same =
    some_same a b (sym first ∙ ap named_field ((bytes_eq-Decides (field_name a) (field_name b)).0 same) ∙ second)

field_same : (a b : Field) → a ≡ b → same_field a b ≡ true
field_same a b e = (bytes_eq-Decides (field_name a) (field_name b)).1 (ap field_name e)

-- ---- fields that are set once

abbrev AllNamed : List Set → Type 0
AllNamed [] = Unit {0}
AllNamed (set ∷ sets) = Named set.field × AllNamed sets

all_named : (before : List Set) (set : Set) → AllNamed before → Named set.field → AllNamed (before ++ set ∷ [])
all_named [] set all one = (one, tt)
all_named (first ∷ before) set all one = (all.0, all_named before set all.1 one)

unset_more : (one : Field) (before : List Set) (set : Set) → IsUnset one before → set.field ≢ one
    → IsUnset one (before ++ set ∷ [])
unset_more one [] set all new = (new, tt)
unset_more one (first ∷ before) set all new = (all.0, unset_more one before set all.1 new)

unset_front : (one : Field) (before : List Set) (set : Set) → IsUnset one (before ++ set ∷ [])
    → IsUnset one before × (set.field ≢ one)
unset_front one [] set all = (tt, all.0)
unset_front one (first ∷ before) set all = let rest = unset_front one before set all.1 in ((all.0, rest.0), rest.1)

unset_none : (one : Field) (before : List Set) → Named one → AllNamed before → IsUnset one before
    → has_field one before ≡ false
unset_none one [] good all new = refl
unset_none one (set ∷ before) good all new =
    or_from (same_field set.field one) (has_field one before)
    (false_from_ne_true (same_field set.field one) (λ same. new.0 (same_named set.field one all.0 good same)))
    (unset_none one before good all.1 new.1)

none_unset : (one : Field) (before : List Set) → has_field one before ≡ false → IsUnset one before
none_unset one [] is = tt
none_unset one (set ∷ before) is =
    let parts = or_parts (same_field set.field one) (has_field one before) is in
    ((λ same. true_false (sym (field_same set.field one same) ∙ parts.0)), none_unset one before parts.1)
  where
    true_false : true ≡ false → ⊥
    true_false e = cc

-- none of the later sets is of a field of the earlier ones
abbrev Apart : List Set → List Set → Type 0
Apart before [] = Unit {0}
Apart before (set ∷ sets) = IsUnset set.field before × Apart before sets

apart_more : (before : List Set) (set : Set) (sets : List Set) → Apart before sets → IsUnset set.field sets
    → Apart (before ++ set ∷ []) sets
apart_more before set [] apart new = tt
apart_more before set (first ∷ sets) apart new =
    (unset_more first.field before set apart.0 (λ same. new.0 (sym same)), apart_more before set sets apart.1 new.1)

apart_front : (before : List Set) (set : Set) (sets : List Set) → Apart (before ++ set ∷ []) sets
    → Apart before sets × IsUnset set.field sets
apart_front before set [] apart = (tt, tt)
apart_front before set (first ∷ sets) apart =
    let one = unset_front first.field before set apart.0 in
    let rest = apart_front before set sets apart.1 in
    ((one.0, rest.0), ((λ same. one.1 (sym same)), rest.1))

apart_none : (sets : List Set) → Apart [] sets
apart_none [] = tt
apart_none (set ∷ sets) = (tt, apart_none sets)

-- ---- the sets of a map

new_read : (env : Env) (before : List Set) (f : FormTree) (one : Field) → field_at env f ≡ Ok one
    → has_field one before ≡ false → new_field_at env before f ≡ Ok one
unfolding new_field_at
new_read env before f one is new = rw (is, new) refl

sets_done : (place : ℕ) (env : Env) (before : List Set) → sets_from place env before none ≡ Ok before
unfolding sets_from
sets_done place env before = refl

sets_next : (place : ℕ) (env : Env) (before : List Set) (one : Field) (set : Set) (key f : FormTree) (forms : FormTrees)
    → new_field_at env before key ≡ Ok one → set_at env one f ≡ Ok set
    → sets_from place env before (also key (also f forms)) ≡ sets_from place env (before ++ set ∷ []) forms
unfolding sets_from
sets_next place env before one set key f forms first second = rw (first, second) refl

set_of_field : (env : Env) (one : Field) (form : BareTree) (set : Set) → IsSet env one form set → set.field ≡ one
set_of_field env one form _ (a_set is fit) = refl

sets_onto : (env : Env) (row : BareTrees) (sets : List Set) → AreSets env row sets
    → (place : ℕ) (forms : FormTrees) (before : List Set) → AllNamed before → Apart before sets → bare_trees forms ≡ row
    → sets_from place env before forms ≡ Ok (before ++ sets)
sets_onto env _ _ no_sets place forms before good apart h =
    ap (sets_from place env before) (none_of forms h) ∙ sets_done place env before
    ∙ ap (λ (all : List Set). Ok all) (sym (append-nil before))
sets_onto env _ _ (more_sets {f = f} {v = v} {forms = row} {one = one} {set = set} {sets = sets} means is others new)
    place forms before good apart h =
    let first = also_of forms f (and_trees v row) h in
    let second = also_of first.rest v row first.rest_are in
    let of = set_of_field env one v set is in
    let name = field_named env f one means in
    ap (sets_from place env before) (first.are ∙ ap (also first.first) second.are)
    ∙ sets_next place env before one set first.first second.first second.rest
    (new_read env before first.first one (field_read env f one means first.first first.first_is)
    (unset_none one before name good (subst (λ (x : Field). IsUnset x before) of apart.0)))
    (set_read env one v set is second.first second.first_is)
    ∙ sets_onto env row sets others place second.rest (before ++ set ∷ [])
    (all_named before set good (subst Named (sym of) name))
    (apart_more before set sets apart.1 (subst (λ (x : Field). IsUnset x sets) (sym of) new)) second.rest_are
    ∙ ap (λ (all : List Set). Ok all) (append_assoc before (set ∷ []) sets)

record SetRow (env : Env) (row : BareTrees) (before all : List Set) : Type 0 where
  later : List Set
  is : all ≡ before ++ later
  are : AreSets env row later
  apart : Apart before later

sets_more : (env : Env) (f v : BareTree) (row : BareTrees) (before : List Set) (one : Field) (set : Set)
    → IsField env f one → IsUnset one before → IsSet env one v set → (all : List Set)
    → SetRow env row (before ++ set ∷ []) all
    → SetRow env (and_trees f (and_trees v row)) before all
sets_more env f v row before one set means new is all known =
    let of = set_of_field env one v set is in
    let parts = apart_front before set known.later known.apart in
    record {
      later = set ∷ known.later;
      is = known.is ∙ append_assoc before (set ∷ []) known.later;
      are = more_sets means is known.are (subst (λ (x : Field). IsUnset x known.later) of parts.1);
      apart = (subst (λ (x : Field). IsUnset x before) (sym of) new, parts.0);
    }

abbrev IsNew : Env → BareTree → List Set → Field → Type 0
IsNew env form before one = IsField env form one × IsUnset one before

new_means : (env : Env) (before : List Set) (f : FormTree)
    → OkGood (IsNew env (bare_tree f) before) (new_field_at env before f)
unfolding new_field_at
new_means env before f =
    let Q = IsNew env (bare_tree f) before in
    bind_good (IsField env (bare_tree f)) Q (field_at env f) (new_field (start_of f) before) (field_means env f)
    (λ one is. ok_if Q (has_field one before) _ _ (λ _. tt) (λ new. (is, none_unset one before new)))

sets_mean : (place : ℕ) (env : Env) (forms : FormTrees) (before : List Set)
    → OkGood (SetRow env (bare_trees forms) before) (sets_from place env before forms)
unfolding sets_from
sets_mean place env none before = record { later = []; is = sym (append-nil before); are = no_sets; apart = tt }
sets_mean place env (also key none) before =
    bind_good Any_ (SetRow env (bare_trees (also key none)) before) (new_field_at env before key) _
    (any_good (new_field_at env before key)) (λ one _. tt)
sets_mean place env (also key (also f forms)) before =
    let Q = SetRow env (bare_trees (also key (also f forms))) before in
    bind_good (IsNew env (bare_tree key) before) Q (new_field_at env before key) _ (new_means env before key)
    (λ one new.
    bind_good (IsSet env one (bare_tree f)) Q (set_at env one f) _ (set_means env one f) (λ set is.
    weaker (SetRow env (bare_trees forms) (before ++ set ∷ [])) Q (sets_from place env (before ++ set ∷ []) forms)
    (sets_more env (bare_tree key) (bare_tree f) (bare_trees forms) before one set new.0 new.1 is)
    (sets_mean place env forms (before ++ set ∷ []))))

set_row : (env : Env) (row : BareTrees) (all : List Set) → SetRow env row [] all → AreSets env row all
set_row env row all known = subst (λ (sets : List Set). AreSets env row sets) (sym known.is) known.are

pub set_maps_are_read : SetMapsAreRead
set_maps_are_read env place forms sets = (
  (λ are. sets_onto env (bare_trees forms) sets are place forms [] tt (apart_none sets) refl),
  (λ is. set_row env (bare_trees forms) sets
      (ok_read (SetRow env (bare_trees forms) []) (sets_from place env [] forms) sets is
      (sets_mean place env forms []))),
)

-- ---- the value of the one key of a map

abbrev pub KeyIs : Env → BareTree → List ℕ → Type 0
KeyIs env form name = IsLiteral env form (bound.Keyword name)

keyword_in_means : (env : Env) (form : BareTree) (given : Argument) → Meaning env form given
    → SomeGood (KeyIs env form) (keyword_in given)
keyword_in_means env form (Keyword key) means = means
keyword_in_means env form given means = tt

pub keyword_means : (env : Env) (f : FormTree) → OkGood (KeyIs env (bare_tree f)) (keyword_at env f)
unfolding keyword_at
keyword_means env f = taken_means (KeyIs env (bare_tree f)) keyword_in env f (keyword_in_means env (bare_tree f))

keyword_found : (env : Env) (f : FormTree) (name : List ℕ) → argument_of env f ≡ Keyword name
    → keyword_at env f ≡ Ok name
unfolding keyword_at
keyword_found env f name is = rw is refl

pub keyword_read : (env : Env) (form : BareTree) (name : List ℕ) → KeyIs env form name → (f : FormTree)
    → bare_tree f ≡ form → keyword_at env f ≡ Ok name
keyword_read env form name is f h = keyword_found env f name (literal_read env form (bound.Keyword name) is f h)

entry_is : {A : Type 0} (wanted : List ℕ) (read : Env → FormTree → Result A Fault) (env : Env) (place : ℕ)
    (key f : FormTree) (a : A) → keyword_at env key ≡ Ok wanted → read env f ≡ Ok a
    → one_entry wanted read place env None (also key (also f none)) ≡ Ok a
unfolding one_entry only_key_at
entry_is wanted read env place key f a first second =
    rw (first, (bytes_eq-Decides wanted wanted).1 refl, second) refl

-- a form is read as each value exactly where it represents it
abbrev AreRead : {A : Type 0} → (Env → BareTree → A → Type 0) → (Env → FormTree → Result A Fault) → Type 0
AreRead {A} Is read = (env : Env) (f : FormTree) (a : A) → Is env (bare_tree f) a ↔ (read env f ≡ Ok a)

only_read : {A : Type 0} (wanted : List ℕ) (Is : Env → BareTree → A → Type 0) (read : Env → FormTree → Result A Fault)
    → AreRead Is read → (env : Env) (row : BareTrees) (a : A) → IsOnly wanted Is env row a
    → (place : ℕ) (forms : FormTrees) → bare_trees forms ≡ row → one_entry wanted read place env None forms ≡ Ok a
only_read wanted Is read reads env _ a (only {key = key} {v = v} literal is) place forms h =
    let two = two_of forms key v h in
    ap (one_entry wanted read place env None) two.are
    ∙ entry_is wanted read env place two.a two.b a (keyword_read env key wanted literal two.a two.a_is)
    ((reads env two.b a).0 (subst (λ (t : BareTree). Is env t a) (sym two.b_is) is))

abbrev Wanted : Env → BareTree → List ℕ → Unit {0} → Type 0
Wanted env form wanted known = KeyIs env form wanted

first_key : (env : Env) (wanted : List ℕ) (f : FormTree)
    → OkGood (Wanted env (bare_tree f) wanted) (only_key_at wanted false env f)
unfolding only_key_at
first_key env wanted f =
    let Q = Wanted env (bare_tree f) wanted in
    bind_good (KeyIs env (bare_tree f)) Q (keyword_at env f) (only_key wanted false (start_of f)) (keyword_means env f)
    (λ name is. ok_if Q (bytes_eq name wanted) _ _
    (λ same. subst (KeyIs env (bare_tree f)) ((bytes_eq-Decides name wanted).0 same) is) (λ _. tt))

abbrev Never_ : Unit {0} → Type 0
Never_ known = ⊥

-- the key does not come again
second_key : (env : Env) (wanted : List ℕ) (f : FormTree) → OkGood Never_ (only_key_at wanted true env f)
unfolding only_key_at
second_key env wanted f =
    bind_good Any_ Never_ (keyword_at env f) (only_key wanted true (start_of f)) (any_good (keyword_at env f))
    (λ name _. ok_if Never_ (bytes_eq name wanted) _ _ (λ _. tt) (λ _. tt))

entries_end : {A : Type 0} (wanted : List ℕ) (read : Env → FormTree → Result A Fault) (env : Env) (place : ℕ)
    (P : A → Type 0) (a : A) (key : FormTree) (forms : FormTrees)
    → OkGood P (one_entry wanted read place env (Some a) (also key forms))
unfolding one_entry
entries_end wanted read env place P a key none =
    bind_good Never_ P (only_key_at wanted true env key) _ (second_key env wanted key) (λ known never. absurd never)
entries_end wanted read env place P a key (also f forms) =
    bind_good Never_ P (only_key_at wanted true env key) _ (second_key env wanted key) (λ known never. absurd never)

only_means : {A : Type 0} (wanted : List ℕ) (Is : Env → BareTree → A → Type 0) (read : Env → FormTree → Result A Fault)
    → AreRead Is read → (env : Env) (place : ℕ) (forms : FormTrees)
    → OkGood (IsOnly wanted Is env (bare_trees forms)) (one_entry wanted read place env None forms)
unfolding one_entry
only_means wanted Is read reads env place none = tt
only_means wanted Is read reads env place (also key none) =
    bind_good Any_ (IsOnly wanted Is env (bare_trees (also key none))) (only_key_at wanted false env key) _
    (any_good (only_key_at wanted false env key)) (λ known _. tt)
only_means wanted Is read reads env place (also key (also f none)) =
    let Q = IsOnly wanted Is env (bare_trees (also key (also f none))) in
    bind_good (Wanted env (bare_tree key) wanted) Q (only_key_at wanted false env key) _ (first_key env wanted key)
    (λ known is.
    bind_good (Is env (bare_tree f)) Q (read env f) _
    (ok_from (Is env (bare_tree f)) (read env f) (λ a at. (reads env f a).1 at)) (λ a means. only is means))
only_means wanted Is read reads env place (also key (also f (also other forms))) =
    let Q = IsOnly wanted Is env (bare_trees (also key (also f (also other forms)))) in
    bind_good Any_ Q (only_key_at wanted false env key) _ (any_good (only_key_at wanted false env key))
    (λ known _.
    bind_good Any_ Q (read env f) _ (any_good (read env f))
    (λ a _. entries_end wanted read env place Q a other forms))

pub only_are_read : {A : Type 0} (wanted : List ℕ) (Is : Env → BareTree → A → Type 0)
    (read : Env → FormTree → Result A Fault) → AreRead Is read → (env : Env) (place : ℕ) (forms : FormTrees) (a : A)
    → IsOnly wanted Is env (bare_trees forms) a ↔ (one_entry wanted read place env None forms ≡ Ok a)
only_are_read wanted Is read reads env place forms a = (
  λ is. only_read wanted Is read reads env (bare_trees forms) a is place forms refl,
  λ is. ok_read (IsOnly wanted Is env (bare_trees forms)) (one_entry wanted read place env None forms) a is
      (only_means wanted Is read reads env place forms),
)

pub inits_are_read : InitsAreRead
inits_are_read = only_are_read init_text IsValue value_at values_are_read
