-- What a text is read as, by its forms.
use Rattle.std.proofs.Common.{◌≡◌, ℕ, List, Option, Some, None, Result, Ok, Err, IfOk, IfErr, inl, inr, refl, ap, sym}
use Rattle.std.proofs.Common.{◌∙◌, subst}
use Rattle.sexp_read.specs.declared.fault.SexpFault.{SexpFault}
use Rattle.sexp_read.specs.declared.fault.SexpFault.TheVariants as sexp
use Rattle.sexp_read.specs.declared.fault.SexpWhy.{SexpWhy}
use Rattle.sexp_read.specs.Gives.{IsFault}
use Rattle.sexp_read.specs.Tokens as forms
use Rattle.sexp_read.specs.declared.fault.SexpWhy.TheVariants as reported
use Rattle.config_terms.specs.declared.fault.ConfigWhy.TheVariants as cause
use Rattle.sexp_read.specs.Grammar.{IsForms, text_fault}
use Rattle.sexp_read.specs.Tree.{FormTrees}
use Rattle.sexp_config.specs.declared.config.Config.{Config}
use Rattle.config_terms.specs.declared.fault.ConfigFault.{ConfigFault}
use Rattle.config_terms.specs.declared.fault.ConfigFault.TheVariants.{Refused, Memory}
use Rattle.config_terms.specs.declared.fault.ConfigWhy.{ConfigWhy}
use Rattle.config_terms.specs.Steps.{Fault, Gives}
use Rattle.sexp_config.specs.Config.{config_of, IsConfigOf, IsConfigFault, IsRefusedFor, IsReadAs, IsRefusedAs, why_of}
use Rattle.sexp_config.specs.Config.{fault_in}
use Rattle.sexp_config.proofs.GrammarLaws.{configs_are_read, config_read_of}

-- ---- the text is forms

module _ (text : List ℕ) (trees : FormTrees) (read : IsForms text trees) where
  pub config_read : (result : Result Config ConfigFault) → Gives result (config_of trees)
      → IfOk result (λ config. IsConfigOf text config)
  config_read (Ok config) gives = record { forms = trees; read = read; holds = (configs_are_read trees config).1 gives }
  config_read (Err fault) gives = tt

  pub refused_read : (result : Result Config ConfigFault) → Gives result (config_of trees)
      → IfErr result (λ fault. IsRefusedFor text fault)
  refused_read (Ok config) gives = tt
  refused_read (Err (Refused place why)) gives = inr (record { forms = trees; read = read; fault = gives })
  refused_read (Err Memory) gives = tt

same_config : (trees : FormTrees) (config : Config) (result : Result Config ConfigFault)
    → Gives result (config_of trees) → config_of trees ≡ Ok config → IsReadAs config result
same_config trees config (Ok read) gives holds = cc
same_config trees config (Err (Refused place why)) gives holds = cc
same_config trees config (Err Memory) gives holds = refl

-- the same forms were read, whose reading the result gives
pub only_config : (text : List ℕ) (trees : FormTrees) (result : Result Config ConfigFault) →
    ((others : FormTrees) → IsForms text others → trees ≡ others) →
    Gives result (config_of trees) → (config : Config) → IsConfigOf text config → IsReadAs config result
only_config text trees result same gives config is =
    same_config trees config result gives (ap config_of (same is.forms is.read) ∙ config_read_of text config is)

abbrev pub place_in : Result Config Fault → ℕ
place_in (Ok config) = 0
place_in (Err fault) = fault.0

abbrev pub why_in : Result Config Fault → ConfigWhy
why_in (Ok config) = cause.Long
why_in (Err fault) = fault.1

same_fault : (trees : FormTrees) (place : ℕ) (why : ConfigWhy) (result : Result Config ConfigFault)
    → Gives result (config_of trees) → config_of trees ≡ Err (place, why) → IsRefusedAs place why result
same_fault trees place why (Ok read) gives fails = cc
same_fault trees place why (Err (Refused at reason)) gives fails =
    let both = sym gives ∙ fails in
    (ap (λ (read : Result Config Fault). place_in read) both, ap (λ (read : Result Config Fault). why_in read) both)
same_fault trees place why (Err Memory) gives fails = tt

pub none_some : {A : Type 0} (a : A) (found : Option A) → found ≡ None → found ≡ Some a → ⊥
none_some a found e f = cc

pub only_fault : (text : List ℕ) (trees : FormTrees) (result : Result Config ConfigFault) →
    ((others : FormTrees) → IsForms text others → trees ≡ others) → text_fault text ≡ None →
    Gives result (config_of trees) → (place : ℕ) (why : ConfigWhy) → IsConfigFault text place why →
    IsRefusedAs place why result
only_fault text trees result same faultless gives place why (inl is) =
    absurd (none_some (place, is.cause) (text_fault text) faultless is.fault)
only_fault text trees result same faultless gives place why (inr is) =
    same_fault trees place why result gives (ap config_of (same is.forms is.read) ∙ is.fault)

-- ---- the text is no forms

pub refused_forms : (text : List ℕ) (fault : SexpFault) (made : ConfigFault) → IsFault fault (text_fault text)
    → made ≡ fault_in fault → IsRefusedFor text made
refused_forms text (sexp.Refused place why) made is e =
    subst (λ (f : ConfigFault). IsRefusedFor text f) (sym e) (inl (record { cause = why; fault = is; is = refl }))
refused_forms text sexp.Memory made is e = subst (λ (f : ConfigFault). IsRefusedFor text f) (sym e) tt

pub no_config : (text : List ℕ) (fault : SexpFault) (made : ConfigFault) →
    ((others : FormTrees) → IsForms text others → fault ≡ sexp.Memory) → made ≡ fault_in fault →
    (config : Config) → IsConfigOf text config → made ≡ Memory
no_config text fault made same e config is = e ∙ ap fault_in (same is.forms is.read)

abbrev place_reported : Option forms.Fault → ℕ
place_reported None = 0
place_reported (Some fault) = fault.0

abbrev cause_reported : Option forms.Fault → SexpWhy
cause_reported None = reported.Long
cause_reported (Some fault) = fault.1

pub same_places : (text : List ℕ) (place : ℕ) (why : ConfigWhy) (at : ℕ) (reason known : SexpWhy)
    → text_fault text ≡ Some (at, reason) → text_fault text ≡ Some (place, known) → why_of known ≡ why
    → (at ≡ place) × (why_of reason ≡ why)
same_places text place why at reason known d e f =
    let both = sym d ∙ e in
    (ap place_reported both, ap why_of (ap cause_reported both) ∙ f)

pub same_refusal : (text : List ℕ) (fault : SexpFault) (made : ConfigFault) →
    ((others : FormTrees) → IsForms text others → fault ≡ sexp.Memory) → IsFault fault (text_fault text) →
    made ≡ fault_in fault →
    (place : ℕ) (why : ConfigWhy) → IsConfigFault text place why → IsRefusedAs place why (Err made)
same_refusal text fault made same is e place why (inr known) =
    subst (λ (f : ConfigFault). IsRefusedAs place why (Err f)) (sym (e ∙ ap fault_in (same known.forms known.read))) tt
same_refusal text (sexp.Refused at reason) made same is e place why (inl known) =
    subst (λ (f : ConfigFault). IsRefusedAs place why (Err f)) (sym e)
    (same_places text place why at reason known.cause is known.fault known.is)
same_refusal text sexp.Memory made same is e place why (inl known) =
    subst (λ (f : ConfigFault). IsRefusedAs place why (Err f)) (sym e) tt
