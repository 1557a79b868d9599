-- The texts that are configurations, and for what the others are refused.
use Rattle.std.specs.Prelude.{◌≡◌, ◌↔◌, ℕ, ◌⊎◌, List, [], Option, Some, None, Result, Ok, Err}
use Rattle.std.specs.Option.{option_map, option_or}
use Rattle.sexp_read.specs.declared.fault.SexpFault.{SexpFault}
use Rattle.sexp_read.specs.declared.fault.SexpFault.TheVariants as sexp_fault
use Rattle.sexp_read.specs.declared.fault.SexpWhy.{SexpWhy}
use Rattle.sexp_read.specs.declared.fault.SexpWhy.TheVariants as sexp
use Rattle.sexp_read.specs.Grammar.{IsForms, text_fault}
use Rattle.sexp_read.specs.Tree.{FormTrees}
use Rattle.sexp_read.specs.Written.{bare_trees}
use Rattle.stream_plan.specs.declared.fault.PlanWhy.{PlanWhy}
use Rattle.stream_plan.specs.declared.fault.PlanWhy.TheVariants as plan_why
use Rattle.stream_plan.specs.Faults as plan
use Rattle.stream_plan.specs.Tree.{StreamTrees}
use Rattle.sexp_config.specs.declared.config.Config.{Config}
use Rattle.config_terms.specs.declared.fault.ConfigFault.{ConfigFault}
use Rattle.config_terms.specs.declared.fault.ConfigFault.TheVariants.{Refused, Memory}
use Rattle.config_terms.specs.declared.fault.ConfigWhy.{ConfigWhy}
use Rattle.config_terms.specs.declared.fault.ConfigWhy.TheVariants as why
use Rattle.config_terms.specs.Steps.{Fault, ◌>>=◌}
use Rattle.config_streams.specs.Sources.{place_along}
use Rattle.config_streams.specs.Streams.{Located}
use Rattle.sexp_config.specs.Grammar.{Server, AreConfig}
use Rattle.sexp_config.specs.Tops.{Draft, default_server, fresh_draft, or_default, run, tops_in}

-- ---- the streams together

-- the first stream that is one too many for a cause
abbrev pub fault_for : PlanWhy → ConfigWhy → Located → Option Fault
fault_for cause why located =
    option_map (λ s. (place_along 0 located.places s.path, why))
    (plan.place_of cause (plan.preorder_of located.streams))

-- a stream too many counts before one that does not take what comes
unfoldable pub plan_fault : Located → Option Fault
plan_fault located = option_or (fault_for plan_why.Many why.Many located) (fault_for plan_why.Kind why.Kind located)

abbrev pub faultless : {A : Type 0} → A → Option Fault → Result A Fault
faultless a None = Ok a
faultless a (Some fault) = Err fault

abbrev pub checked : Located → Result StreamTrees Fault
checked located = faultless located.streams (plan_fault located)

-- the refusal of a stream for a cause; of streams that were read only Many and Kind can still come
abbrev pub fault_by : PlanWhy → ℕ → ConfigFault
fault_by plan_why.Many place = Refused place why.Many
fault_by plan_why.Kind place = Refused place why.Kind
fault_by _ place = Memory

-- ---- a configuration

abbrev pub config_from : Draft → Server → StreamTrees → Config
config_from draft server plan = record { host = server.host; port = server.port; expiry = draft.expiry; plan = plan }

abbrev pub finished : Draft → Result Config Fault
finished draft =
    checked draft.below.children >>= λ plan. Ok (config_from draft (or_default default_server draft.server) plan)

-- What the forms of a text are read as, step by step. Which forms represent a configuration is said by the grammar;
-- this says in addition where and for what the others are refused.
unfoldable pub config_of : FormTrees → Result Config Fault
config_of forms = run [] fresh_draft (tops_in forms) >>= λ draft. finished draft

-- forms are read as a configuration exactly where they represent it
abbrev pub ConfigsAreRead : Type 0
ConfigsAreRead =
    (forms : FormTrees) (config : Config) → AreConfig (bare_trees forms) config ↔ (config_of forms ≡ Ok config)

-- ---- texts

-- the text is forms that represent this
pub record IsConfigOf (text : List ℕ) (config : Config) : Type 0 where
  pub forms : FormTrees
  pub read : IsForms text forms
  pub holds : AreConfig (bare_trees forms) config

abbrev pub why_of : SexpWhy → ConfigWhy
why_of sexp.Long = why.Long
why_of sexp.Utf8 = why.Utf8
why_of sexp.Open = why.Open
why_of sexp.Close = why.Close
why_of sexp.Token = why.Token
why_of sexp.Number = why.Number
why_of sexp.Escape = why.Escape
why_of sexp.Deep = why.Deep

abbrev pub fault_in : SexpFault → ConfigFault
fault_in (sexp_fault.Refused place cause) = Refused place (why_of cause)
fault_in sexp_fault.Memory = Memory

-- the text is not forms, for this cause at the place
pub record IsFormsFault (text : List ℕ) (place : ℕ) (why : ConfigWhy) : Type 0 where
  pub cause : SexpWhy
  pub fault : text_fault text ≡ Some (place, cause)
  pub is : why_of cause ≡ why

-- the text is forms that represent nothing, for this cause at the place
pub record IsReadingFault (text : List ℕ) (place : ℕ) (why : ConfigWhy) : Type 0 where
  pub forms : FormTrees
  pub read : IsForms text forms
  pub fault : config_of forms ≡ Err (place, why)

abbrev pub IsConfigFault : List ℕ → ℕ → ConfigWhy → Type 0
IsConfigFault text place why = IsFormsFault text place why ⊎ IsReadingFault text place why

abbrev pub IsRefusedFor : List ℕ → ConfigFault → Type 0
IsRefusedFor text (Refused place why) = IsConfigFault text place why
IsRefusedFor text Memory = Unit {0}

-- this very configuration is read, or the call is out of memory
abbrev pub IsReadAs : Config → Result Config ConfigFault → Type 0
IsReadAs config (Ok read) = read ≡ config
IsReadAs config (Err fault) = fault ≡ Memory

-- the text is refused for this very cause at the place, or the call is out of memory
abbrev pub IsRefusedAs : ℕ → ConfigWhy → Result Config ConfigFault → Type 0
IsRefusedAs place why (Ok read) = ⊥
IsRefusedAs place why (Err (Refused at cause)) = (at ≡ place) × (cause ≡ why)
IsRefusedAs place why (Err Memory) = Unit {0}
