-- For what the streams of a configuration are refused.
use Rattle.std.proofs.Common.{◌≡◌, ℕ, List, Option, Some, None, Result, Ok, Err, refl, ap, sym, ◌∙◌, subst}
use Rattle.std.specs.Option.{option_map, option_or}
use Rattle.stream_plan.specs.declared.fault.PlanWhy.{PlanWhy}
use Rattle.stream_plan.specs.declared.fault.PlanWhy.TheVariants.{Many, Deep, Children, Range, Kind}
use Rattle.stream_plan.specs.Faults as plan
use Rattle.stream_plan.specs.Tree.{StreamTrees}
use Rattle.config_terms.specs.declared.fault.ConfigFault.{ConfigFault}
use Rattle.config_terms.specs.declared.fault.ConfigWhy.{ConfigWhy}
use Rattle.config_terms.specs.declared.fault.ConfigWhy.TheVariants as why
use Rattle.config_terms.specs.Steps.{Fault, Fails}
use Rattle.config_streams.specs.Sources.{SourceTrees, place_along}
use Rattle.config_streams.specs.Streams.{Located}
use Rattle.sexp_config.specs.Config.{plan_fault, faultless, checked, fault_by}

abbrev pub At : Type 0
At = Option plan.Placed

abbrev pub reported : PlanWhy → At → Option plan.Fault
reported cause at = option_map (λ (s : plan.Placed). let f : plan.Fault = record { path = s.path; why = cause } in f) at

abbrev pub first : At → At → At → At → At → Option plan.Fault
first a b c d e =
    option_or (reported Many a)
    (option_or (reported Deep b) (option_or (reported Children c) (option_or (reported Range d) (reported Kind e))))

abbrev located_fault : SourceTrees → ConfigWhy → At → Option Fault
located_fault places cause at = option_map (λ (s : plan.Placed). (place_along 0 places s.path, cause)) at

abbrev both : SourceTrees → At → At → Option Fault
both places a e = option_or (located_fault places why.Many a) (located_fault places why.Kind e)

abbrev pub one : List ℕ → PlanWhy → Option plan.Fault
one path cause = Some (record { path = path; why = cause })

abbrev pub why_reported : Option plan.Fault → PlanWhy
why_reported None = Many
why_reported (Some fault) = fault.why

abbrev path_reported : List ℕ → Option plan.Fault → List ℕ
path_reported path None = path
path_reported path (Some fault) = fault.path

no_fault : (places : SourceTrees) (a b c d e : At) → first a b c d e ≡ None → both places a e ≡ None
no_fault places None None None None None none = refl
no_fault places (Some s) b c d e none = cc
no_fault places None (Some s) c d e none = cc
no_fault places None None (Some s) d e none = cc
no_fault places None None None (Some s) e none = cc
no_fault places None None None None (Some s) none = cc

a_fault : (places : SourceTrees) (streams : StreamTrees) (a b c d e : At) (path : List ℕ) (cause : PlanWhy)
    → first a b c d e ≡ one path cause
    → Fails (fault_by cause (place_along 0 places path)) (faultless streams (both places a e))
a_fault places streams a b c d e path Deep is = tt
a_fault places streams a b c d e path Children is = tt
a_fault places streams a b c d e path Range is = tt
a_fault places streams (Some s) b c d e path Many is =
    ap (λ (found : Option plan.Fault). at_path (path_reported path found)) is
  where
    at_path : List ℕ → Result StreamTrees Fault
    at_path p = Err (place_along 0 places p, why.Many)
a_fault places streams None (Some s) c d e path Many is = let other : Deep ≡ Many = ap why_reported is in cc
a_fault places streams None None (Some s) d e path Many is = let other : Children ≡ Many = ap why_reported is in cc
a_fault places streams None None None (Some s) e path Many is = let other : Range ≡ Many = ap why_reported is in cc
a_fault places streams None None None None (Some s) path Many is = let other : Kind ≡ Many = ap why_reported is in cc
a_fault places streams None None None None None path Many is = cc
a_fault places streams (Some s) b c d e path Kind is = let other : Many ≡ Kind = ap why_reported is in cc
a_fault places streams None (Some s) c d e path Kind is = let other : Deep ≡ Kind = ap why_reported is in cc
a_fault places streams None None (Some s) d e path Kind is = let other : Children ≡ Kind = ap why_reported is in cc
a_fault places streams None None None (Some s) e path Kind is = let other : Range ≡ Kind = ap why_reported is in cc
a_fault places streams None None None None (Some s) path Kind is =
    ap (λ (found : Option plan.Fault). at_path (path_reported path found)) is
  where
    at_path : List ℕ → Result StreamTrees Fault
    at_path p = Err (place_along 0 places p, why.Kind)
a_fault places streams None None None None None path Kind is = cc

abbrev source_of : PlanWhy → Located → At
source_of cause located = plan.place_of cause (plan.preorder_of located.streams)

pub sound_plan : (located : Located) → plan.first_fault located.streams ≡ None → checked located ≡ Ok located.streams
unfolding plan.first_fault plan_fault
sound_plan located none =
    ap (faultless located.streams)
    (no_fault located.places (source_of Many located) (source_of Deep located) (source_of Children located)
    (source_of Range located) (source_of Kind located) none)

pub refused_plan : (located : Located) (path : List ℕ) (cause : PlanWhy) (fault : ConfigFault) (place : ℕ) →
    plan.first_fault located.streams ≡ one path cause → place ≡ place_along 0 located.places path →
    fault ≡ fault_by cause place →
    Fails fault (checked located)
unfolding plan.first_fault plan_fault
refused_plan located path cause fault place is at e =
    subst
    (λ (f : ConfigFault).
    Fails f (faultless located.streams (both located.places (source_of Many located) (source_of Kind located))))
    (sym (e ∙ ap (fault_by cause) at))
    (a_fault located.places located.streams (source_of Many located) (source_of Deep located)
    (source_of Children located) (source_of Range located) (source_of Kind located) path cause is)
