-- The grammar of whole configurations, as a relation: which forms, apart from their places, represent which
-- configuration. Each case belongs to a row of the table of forms at the top in docs/CONFIGURATIONS.md, or to what the
-- page says of names.
use Rattle.std.specs.Prelude.{◌≡◌, ℕ, ◌≤◌, false, List, [], ◌∷◌, ◌++◌, length, codes, Option, Some, None}
use Rattle.std.specs.Prelude.{option_to_list, unwrap_or}
use Rattle.std.specs.List.{AllByRecursion}
use Rattle.ev_types.specs.declared.field.Field.{Field}
use Rattle.ev_types.specs.declared.field.Field.TheVariants.{Host, Service}
use Rattle.ev_types.specs.declared.settings.Expiry.{Expiry}
use Rattle.ev_types.specs.declared.settings.KeepKey.{KeepKey}
use Rattle.ev_types.specs.declared.settings.KeepKey.TheVariants as keep
use Rattle.sexp_read.specs.Written.{BareTree, BareTrees, no_trees, and_trees, listed}
use Rattle.stream_plan.specs.declared.kinds.TheConstants.{MAX_SECS}
use Rattle.stream_plan.specs.declared.search.TheConstants.{MAX_STREAMS}
use Rattle.stream_plan.specs.Faults.{preorder_of}
use Rattle.stream_plan.specs.Sound.{TakesWhatComes}
use Rattle.stream_plan.specs.Tree.{StreamTrees, none}
use Rattle.config_terms.specs.declared.binding.Bound.{Bound}
use Rattle.config_terms.specs.declared.binding.Bound.TheVariants as bound
use Rattle.config_terms.specs.Arguments.{Env}
use Rattle.config_terms.specs.Grammar.{symbol, worded, IsLiteral}
use Rattle.config_terms.specs.Terms.{vector_of, map_of, IsRanged, IsField, AreEach, IsOnly}
use Rattle.config_streams.specs.Grammar.{AreStreams, with_streams}
use Rattle.sexp_config.specs.declared.config.Config.{Config}

-- ---- names

-- the value of a name: a string, a number, a pattern, a keyword, a name that is bound already, or `(index)`
pub data IsNamed : Env → BareTree → Bound → Type 0 where
  a_value : {env : Env} {form : BareTree} {value : Bound} → IsLiteral env form value → IsNamed env form value
  the_index : {env : Env} → IsNamed env (worded (codes "index") no_trees) bound.Index

-- `name value ..`: what is bound before these, and what is bound after them. A value may name what was bound before it,
-- and of bindings of one name the last one holds
pub data AreNames : Env → BareTrees → Env → Type 0 where
  no_names : {env : Env} → AreNames env no_trees env
  more_names : {env inner : Env} {name : List ℕ} {v : BareTree} {value : Bound} {forms : BareTrees}
      → IsNamed env v value → AreNames (env ++ record { name = name; value = value } ∷ []) forms inner
      → AreNames env (and_trees (symbol name) (and_trees v forms)) inner

-- ---- where the server listens

pub record Server : Type 0 where
  pub host : List ℕ
  pub port : ℕ

-- with the defaults for what is not there
abbrev pub listening : Option (List ℕ) → Option ℕ → Server
listening host port = record { host = unwrap_or host (codes "127.0.0.1"); port = unwrap_or port 5555 }

-- the keys and values of `{:host "h" :port 5555}`: each key once at most, in any order
pub data AreEntries : Env → BareTrees → Option (List ℕ) → Option ℕ → Type 0 where
  no_entries : {env : Env} → AreEntries env no_trees None None
  a_host : {env : Env} {key h : BareTree} {forms : BareTrees} {host : List ℕ} {port : Option ℕ}
      → IsLiteral env key (bound.Keyword (codes "host")) → IsLiteral env h (bound.Text host)
      → AreEntries env forms None port
      → AreEntries env (and_trees key (and_trees h forms)) (Some host) port
  a_port : {env : Env} {key p : BareTree} {forms : BareTrees} {host : Option (List ℕ)} {port : ℕ}
      → IsLiteral env key (bound.Keyword (codes "port")) → IsRanged 0 65535 env p port → AreEntries env forms host None
      → AreEntries env (and_trees key (and_trees p forms)) host (Some port)

-- what follows `tcp-server`
pub data IsServer : Env → BareTrees → Server → Type 0 where
  by_default : {env : Env} → IsServer env no_trees (listening None None)
  by_map : {env : Env} {entries : BareTrees} {host : Option (List ℕ)} {port : Option ℕ}
      → AreEntries env entries host port
      → IsServer env (listed (map_of entries ∷ [])) (listening host port)

-- ---- how expired events are looked for

-- a field, or `:tags`
pub data IsKey : Env → BareTree → KeepKey → Type 0 where
  field_key : {env : Env} {form : BareTree} {field : Field} → IsField env form field → IsKey env form (keep.Field field)
  tags_key : {env : Env} {form : BareTree} → IsLiteral env form (bound.Keyword (codes "tags"))
      → IsKey env form keep.Tags

abbrev pub AreKeys : Env → BareTrees → List KeepKey → Type 0
AreKeys env = AreEach (IsKey env)

-- a vector of keys
pub data IsKeys : Env → BareTree → List KeepKey → Type 0 where
  key_vector : {env : Env} {forms : BareTrees} {keys : List KeepKey} → AreKeys env forms keys
      → IsKeys env (vector_of forms) keys

abbrev pub host_and_service : List KeepKey
host_and_service = keep.Field Host ∷ keep.Field Service ∷ []

-- what follows `periodically-expire`
pub data IsExpiry : Env → BareTrees → Expiry → Type 0 where
  every_ten : {env : Env} → IsExpiry env no_trees (record { interval = 10; keep = host_and_service })
  every : {env : Env} {n : BareTree} {secs : ℕ} → IsRanged 1 MAX_SECS env n secs
      → IsExpiry env (listed (n ∷ [])) (record { interval = secs; keep = host_and_service })
  keeping : {env : Env} {n : BareTree} {entries : BareTrees} {secs : ℕ} {keys : List KeepKey}
      → IsRanged 1 MAX_SECS env n secs → IsOnly (codes "keep-keys") IsKeys env entries keys
      → IsExpiry env (listed (n ∷ map_of entries ∷ [])) (record { interval = secs; keep = keys })

-- ---- forms at the top

-- what forms say in all, in their order
pub record Said : Type 0 where
  pub servers : List Server
  pub expiries : List Expiry
  pub streams : StreamTrees

abbrev pub nothing_said : Said
nothing_said = record { servers = []; expiries = []; streams = none }

abbrev pub together : Said → Said → Said
together first second =
    record {
      servers = first.servers ++ second.servers;
      expiries = first.expiries ++ second.expiries;
      streams = with_streams first.streams second.streams;
    }

mutual
  pub data IsTop : Env → BareTree → Said → Type 0 where
    a_server : {env : Env} {forms : BareTrees} {server : Server} → IsServer env forms server
        → IsTop env (worded (codes "tcp-server") forms) (record nothing_said { servers = server ∷ [] })
    an_expiry : {env : Env} {forms : BareTrees} {expiry : Expiry} → IsExpiry env forms expiry
        → IsTop env (worded (codes "periodically-expire") forms) (record nothing_said { expiries = expiry ∷ [] })
    some_streams : {env : Env} {forms : BareTrees} {streams : StreamTrees} → AreStreams false env forms streams
        → IsTop env (worded (codes "streams") forms) (record nothing_said { streams = streams })
    with_names : {env inner : Env} {names forms : BareTrees} {said : Said} → AreNames env names inner
        → AreTops inner forms said
        → IsTop env (worded (codes "let") (and_trees (vector_of names) forms)) said

  -- forms at the top in a row
  pub data AreTops : Env → BareTrees → Said → Type 0 where
    no_tops : {env : Env} → AreTops env no_trees nothing_said
    more_tops : {env : Env} {form : BareTree} {forms : BareTrees} {said more : Said} → IsTop env form said
        → AreTops env forms more
        → AreTops env (and_trees form forms) (together said more)

-- ---- configurations

-- the forms represent the configuration: they say one server at most and one expiry at most, and all their streams are
-- its plan, which are not too many and take what comes to them
pub record AreConfig (forms : BareTrees) (config : Config) : Type 0 where
  pub server : Option Server
  pub said : AreTops [] forms (record {
    servers = option_to_list server;
    expiries = option_to_list config.expiry;
    streams = config.plan;
  })
  pub host : config.host ≡ (unwrap_or server (listening None None)).host
  pub port : config.port ≡ (unwrap_or server (listening None None)).port
  pub few : length (preorder_of config.plan) ≤ MAX_STREAMS
  pub taken : AllByRecursion TakesWhatComes (preorder_of config.plan)
