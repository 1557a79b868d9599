-- Forms represent a configuration exactly where they are read as it.
use Rattle.std.proofs.Common.{◌≡◌, ℕ, List, [], Option, Some, None, unwrap_or, Ok, refl, ap, sym, ◌∙◌, subst}
use Rattle.std.specs.Prelude.{option_to_list}
use Rattle.ev_types.specs.declared.settings.Expiry.{Expiry}
use Rattle.sexp_read.specs.Tree.{FormTrees}
use Rattle.sexp_read.specs.Written.{BareTrees, bare_trees}
use Rattle.stream_plan.specs.Faults.{preorder_of}
use Rattle.stream_plan.specs.Tree.{StreamTrees}
use Rattle.config_terms.specs.Steps.{Fault}
use Rattle.config_terms.proofs.Outcomes.{OkGood, bind_good, ok_read}
use Rattle.config_streams.specs.Streams.{Located}
use Rattle.sexp_config.specs.declared.config.Config.{Config}
use Rattle.sexp_config.specs.Grammar.{Server, listening, AreTops, AreConfig}
use Rattle.sexp_config.specs.Tops.{Draft, fresh_draft, default_server, or_default, run, tops_in}
use Rattle.sexp_config.specs.Config.{plan_fault, faultless, checked, config_from, finished, config_of, ConfigsAreRead}
use Rattle.sexp_config.specs.Config.{IsConfigOf}
use Rattle.sexp_config.proofs.GrammarTops.{tops_read, TopsMean, tops_mean}
use Rattle.sexp_config.proofs.PlanPasses.{Passes, passes, passed}

abbrev server_in : Option Server → Server
server_in server = or_default default_server server

same_default : (server : Option Server) → server_in server ≡ unwrap_or server (listening None None)
same_default None = refl
same_default (Some server) = refl

-- ---- a configuration of the grammar is read

steps_end : (forms : FormTrees) (draft : Draft) → run [] fresh_draft (tops_in forms) ≡ Ok draft
    → plan_fault draft.below.children ≡ None
    → config_of forms ≡ Ok (config_from draft (server_in draft.server) draft.below.children.streams)
unfolding config_of
steps_end forms draft ran none = rw (ran, none) refl

made : Server → Option Expiry → StreamTrees → Config
made server expiry plan = record { host = server.host; port = server.port; expiry = expiry; plan = plan }

config_is_read : (forms : FormTrees) (config : Config) → AreConfig (bare_trees forms) config
    → config_of forms ≡ Ok config
unfolding made
config_is_read forms config are =
    let onto = tops_read [] (bare_trees forms) _ are.said forms refl fresh_draft are.server config.expiry refl refl in
    let draft = onto.after in
    let streams : config.plan ≡ draft.below.children.streams = sym onto.streams_are in
    let known : Passes (preorder_of draft.below.children.streams) =
    subst (λ (plan : StreamTrees). Passes (preorder_of plan)) streams (record { few = are.few; taken = are.taken }) in
    let server : server_in draft.server ≡ unwrap_or are.server (listening None None) =
    ap server_in onto.server_is ∙ same_default are.server in
    steps_end forms draft onto.is (passes draft.below.children known)
    ∙ ap (λ (one : Server). Ok (made one draft.expiry draft.below.children.streams)) server
    ∙ ap
    (λ (expiry : Option Expiry).
    Ok (made (unwrap_or are.server (listening None None)) expiry draft.below.children.streams))
    onto.expiry_is
    ∙ ap (λ (plan : StreamTrees). Ok (made (unwrap_or are.server (listening None None)) config.expiry plan))
    (sym streams)
    ∙ ap
    (λ (host : List ℕ). Ok
    (record {
      host = host;
      port = (unwrap_or are.server (listening None None)).port;
      expiry = config.expiry;
      plan = config.plan;
    }))
    (sym are.host)
    ∙ ap (λ (port : ℕ). Ok (record { host = config.host; port = port; expiry = config.expiry; plan = config.plan }))
    (sym are.port)

-- ---- what is read is a configuration of the grammar

checked_means : (located : Located)
    → OkGood (λ plan. (plan ≡ located.streams) × Passes (preorder_of located.streams)) (checked located)
checked_means located = by (plan_fault located) refl
  where
    by : (fault : Option Fault) → plan_fault located ≡ fault
        → OkGood (λ plan. (plan ≡ located.streams) × Passes (preorder_of located.streams))
        (faultless located.streams fault)
    by None is = (refl, passed located is)
    by (Some fault) is = tt

config_of_draft : (row : BareTrees) (draft : Draft) → TopsMean [] row fresh_draft draft → (plan : StreamTrees)
    → plan ≡ draft.below.children.streams → Passes (preorder_of draft.below.children.streams)
    → AreConfig row (config_from draft (server_in draft.server) plan)
config_of_draft row draft known plan is passing =
    let host_port = same_default draft.server in
    record {
      server = draft.server;
      said =
          subst
          (λ (servers : List Server).
          AreTops [] row (record { servers = servers; expiries = option_to_list draft.expiry; streams = plan }))
          (sym known.more.servers)
          (subst
          (λ (expiries : List Expiry).
          AreTops [] row (record { servers = known.said.servers; expiries = expiries; streams = plan }))
          (sym known.more.expiries)
          (subst
          (λ (streams : StreamTrees).
          AreTops [] row (record { servers = known.said.servers; expiries = known.said.expiries; streams = streams }))
          (sym (is ∙ known.more.streams)) known.are));
      host = ap (λ (server : Server). server.host) host_port;
      port = ap (λ (server : Server). server.port) host_port;
      few = (subst (λ (streams : StreamTrees). Passes (preorder_of streams)) (sym is) passing).few;
      taken = (subst (λ (streams : StreamTrees). Passes (preorder_of streams)) (sym is) passing).taken;
    }

config_means : (forms : FormTrees) → OkGood (AreConfig (bare_trees forms)) (config_of forms)
unfolding config_of
config_means forms =
    bind_good (TopsMean [] (bare_trees forms) fresh_draft) (AreConfig (bare_trees forms))
    (run [] fresh_draft (tops_in forms)) (λ draft. finished draft) ((tops_mean forms).0 [] fresh_draft) (λ draft known.
    bind_good (λ plan. (plan ≡ draft.below.children.streams) × Passes (preorder_of draft.below.children.streams))
    (AreConfig (bare_trees forms)) (checked draft.below.children)
    (λ plan. Ok (config_from draft (server_in draft.server) plan))
    (checked_means draft.below.children)
    (λ plan passing. config_of_draft (bare_trees forms) draft known plan passing.0 passing.1))

pub configs_are_read : ConfigsAreRead
configs_are_read forms config = (
  config_is_read forms config,
  (λ is. ok_read (AreConfig (bare_trees forms)) (config_of forms) config is (config_means forms)),
)

-- the forms of a configuration are read as it
pub config_read_of : (text : List ℕ) (config : Config) → (is : IsConfigOf text config) → config_of is.forms ≡ Ok config
config_read_of text config is = (configs_are_read is.forms config).0 is.holds
