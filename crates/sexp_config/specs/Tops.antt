-- How the forms of a whole configuration are read, step by step, and what each step refuses at which place. Which forms
-- represent a configuration is said by the grammar, apart from these steps (`Grammar.antt`).
use Rattle.std.specs.Prelude.{ℕ, Bool, true, false, if◌then◌else◌, List, [], ◌∷◌, ◌++◌, drop, codes, Option, Some, None}
use Rattle.std.specs.Prelude.{Result, Ok, Err}
use Rattle.std.specs.Str.{bytes_eq}
use Rattle.ev_types.specs.declared.field.Field.{Field}
use Rattle.ev_types.specs.declared.field.Field.TheVariants.{Host, Service}
use Rattle.ev_types.specs.declared.settings.Expiry.{Expiry}
use Rattle.ev_types.specs.declared.settings.KeepKey.{KeepKey}
use Rattle.ev_types.specs.declared.settings.KeepKey.TheVariants as keep
use Rattle.sexp_read.specs.declared.piece.Bracket.TheVariants.{Round}
use Rattle.sexp_read.specs.Tree.{FormTree, FormTrees, Single, Group, none, also}
use Rattle.sexp_read.specs.declared.piece.Atom.TheVariants as form
use Rattle.stream_plan.specs.declared.kinds.TheConstants.{MAX_SECS}
use Rattle.sexp_config.specs.declared.server.TheConstants.{DEFAULT_PORT, MAX_PORT}
use Rattle.sexp_config.specs.declared.expiry.TheConstants.{DEFAULT_INTERVAL}
use Rattle.config_terms.specs.declared.binding.Bound.{Bound}
use Rattle.config_terms.specs.declared.binding.Bound.TheVariants as bound
use Rattle.config_terms.specs.declared.fault.ConfigWhy.TheVariants as why
use Rattle.config_terms.specs.declared.word.StreamWord.TheVariants as word
use Rattle.config_terms.specs.declared.word.TopWord.{TopWord}
use Rattle.config_terms.specs.declared.word.TopWord.TheVariants as top
use Rattle.config_terms.specs.Steps.{Fault, ◌>>=◌, start_of, nth, argument, at_most, each, onto, name_in}
use Rattle.ev_types.specs.Names.{named_field}
use Rattle.config_terms.specs.Words.{stream_text, top_word, tags_text, keep_text, host_text, port_text}
use Rattle.config_terms.specs.Arguments.{Env, bound_value, Argument, Text, Pattern, Number, Keyword, Index, argument_of}
use Rattle.config_terms.specs.Arguments.{misfit, fitting, keyword_at, text_at, ranged_at, vector_at, map_at, one_entry}
use Rattle.config_terms.specs.Rules.{no_form}
use Rattle.config_streams.specs.Streams.{Below, nothing, parts_in, all_read}
use Rattle.sexp_config.specs.Grammar.{Server}

-- ---- what was read so far

abbrev pub default_server : Server
default_server = record { host = codes "127.0.0.1"; port = DEFAULT_PORT }

pub record Draft : Type 0 where
  pub server : Option Server
  pub expiry : Option Expiry
  pub below : Below

abbrev pub fresh_draft : Draft
fresh_draft = record { server = None; expiry = None; below = nothing }

-- a form that may come once
abbrev pub once : {A : Type 0} → ℕ → Option A → Result (Unit {0}) Fault
once start None = Ok tt
once start (Some a) = Err (start, why.Twice)

-- ---- where the server listens

abbrev pub port_at : Env → FormTree → Result ℕ Fault
port_at = ranged_at 0 MAX_PORT

-- a map whose keys are these two
pub record Listens : Type 0 where
  pub host : Option (List ℕ)
  pub port : Option ℕ

abbrev pub or_default : {A : Type 0} → A → Option A → A
or_default default None = default
or_default default (Some a) = a

abbrev pub server_of : Listens → Server
server_of listens =
    record { host = or_default default_server.host listens.host; port = or_default default_server.port listens.port }

-- the key of an entry: the first is that of the host
abbrev pub listen_key : ℕ → Listens → List ℕ → Result Bool Fault
listen_key place listens name =
    if bytes_eq name host_text then (once place listens.host >>= λ new. Ok true)
    else (if bytes_eq name port_text then (once place listens.port >>= λ new. Ok false)
    else Err (place, why.Arguments))

unfoldable pub listen_key_at : Env → Listens → FormTree → Result Bool Fault
listen_key_at env listens f = keyword_at env f >>= listen_key (start_of f) listens

unfoldable pub with_entry : Env → Listens → Bool → FormTree → Result Listens Fault
with_entry env listens true f = text_at env f >>= λ host. Ok (record { host = Some host; port = listens.port })
with_entry env listens false f = port_at env f >>= λ port. Ok (record { host = listens.host; port = Some port })

unfoldable pub listens_from : ℕ → Env → Listens → FormTrees → Result Listens Fault
listens_from place env listens none = Ok listens
listens_from place env listens (also key none) = listen_key_at env listens key >>= λ is_host. Err (place, why.Arguments)
listens_from place env listens (also key (also f forms)) =
    listen_key_at env listens key >>= λ is_host.
    with_entry env listens is_host f >>= λ more.
    listens_from place env more forms

abbrev pub no_listens : Listens
no_listens = record { host = None; port = None }

abbrev pub server_at : Env → FormTree → Result Server Fault
server_at env f =
    map_at env f >>= λ entries.
    listens_from (start_of f) env no_listens entries >>= λ listens.
    Ok (server_of listens)

abbrev pub server_by : Env → Option FormTree → Result Server Fault
server_by env None = Ok default_server
server_by env (Some f) = server_at env f

unfoldable pub server_in : Env → FormTrees → Result Server Fault
server_in env forms =
    server_by env (nth 0 forms) >>= λ server.
    at_most 1 forms >>= λ over.
    Ok server

-- ---- how expired events are looked for

abbrev pub keep_field : Option Field → Option KeepKey
keep_field None = None
keep_field (Some field) = Some (keep.Field field)

abbrev pub keep_in : Argument → Option KeepKey
keep_in (Keyword key) = if bytes_eq key tags_text then Some keep.Tags else keep_field (named_field key)
keep_in _ = None

unfoldable pub keep_at : Env → FormTree → Result KeepKey Fault
keep_at env f = fitting (start_of f) (argument_of env f) (keep_in (argument_of env f))

unfoldable pub keys_at : Env → FormTree → Result (List KeepKey) Fault
keys_at env f = vector_at env f >>= each (onto (keep_at env)) []

abbrev pub default_keys : List KeepKey
default_keys = keep.Field Host ∷ keep.Field Service ∷ []

abbrev pub interval_by : Env → Option FormTree → Result ℕ Fault
interval_by env None = Ok DEFAULT_INTERVAL
interval_by env (Some f) = ranged_at 1 MAX_SECS env f

abbrev pub keys_of_map : Env → FormTree → Result (List KeepKey) Fault
keys_of_map env f = map_at env f >>= λ entries. one_entry keep_text keys_at (start_of f) env None entries

abbrev pub keys_by : Env → Option FormTree → Result (List KeepKey) Fault
keys_by env None = Ok default_keys
keys_by env (Some f) = keys_of_map env f

unfoldable pub expiry_in : Env → FormTrees → Result Expiry Fault
expiry_in env forms =
    interval_by env (nth 0 forms) >>= λ interval.
    keys_by env (nth 1 forms) >>= λ keys.
    at_most 2 forms >>= λ over.
    Ok (record { interval = interval; keep = keys })

-- ---- names

-- a name is any symbol, whatever it is bound to
unfoldable pub name_at : FormTree → Result (List ℕ) Fault
name_at f = fitting (start_of f) (argument_of [] f) (name_in f)

-- `(index)` is a value, and so is what an argument may be but a vector, a map or a list
abbrev pub bound_by : FormTree → Argument → Result Bound Fault
bound_by f (Text text) = Ok (bound.Text text)
bound_by f (Pattern text) = Ok (bound.Pattern text)
bound_by f (Number number) = Ok (bound.Number number)
bound_by f (Keyword key) = Ok (bound.Keyword key)
bound_by f Index = Ok bound.Index
bound_by f given = Err (start_of f, misfit given)

abbrev pub index_by : List ℕ → ℕ → FormTrees → Result Bound Fault
index_by name start forms =
    if bytes_eq name (stream_text word.Index)
    then (at_most 0 forms >>= λ over. Ok bound.Index)
    else Err (start, why.Form)

unfoldable pub bound_at : Env → FormTree → Result Bound Fault
bound_at env (Group Round (also (Single (form.Symbol name) begin end) forms) start last) = index_by name start forms
bound_at env f = bound_by f (argument_of env f)

-- names and values alternately, in a vector that starts at the place; each value knows the names before it
unfoldable pub names_from : ℕ → Env → FormTrees → Result Env Fault
names_from place env none = Ok env
names_from place env (also name none) = name_at name >>= λ known. Err (place, why.Arguments)
names_from place env (also name (also f forms)) =
    name_at name >>= λ known.
    bound_at env f >>= λ value.
    names_from place (env ++ record { name = known; value = value } ∷ []) forms

abbrev pub names_at : Env → FormTree → Result Env Fault
names_at env f = vector_at env f >>= names_from (start_of f) env

abbrev pub names_in : Env → ℕ → FormTrees → Result Env Fault
names_in env start forms = argument start 0 forms >>= λ first. names_at env first

-- ---- forms at the top

abbrev pub Step : Type 0
Step = Env → Draft → Result Draft Fault

-- forms one after the other
unfoldable pub run : Env → Draft → List Step → Result Draft Fault
run env draft [] = Ok draft
run env draft (step ∷ steps) = step env draft >>= λ more. run env more steps

abbrev pub with_server : Env → ℕ → FormTrees → Draft → Result Draft Fault
with_server env start forms draft =
    once start draft.server >>= λ new.
    server_in env forms >>= λ server.
    Ok (record draft { server = Some server })

abbrev pub with_expiry : Env → ℕ → FormTrees → Draft → Result Draft Fault
with_expiry env start forms draft =
    once start draft.expiry >>= λ new.
    expiry_in env forms >>= λ expiry.
    Ok (record draft { expiry = Some expiry })

abbrev pub with_streams : Env → FormTrees → Draft → Result Draft Fault
with_streams env forms draft =
    all_read draft.below (parts_in false false env forms) >>= λ below. Ok (record draft { below = below })

-- the forms after the names, where these are bound
abbrev pub let_by : Env → ℕ → FormTrees → List Step → Draft → Result Draft Fault
let_by env start forms steps draft = names_in env start forms >>= λ inner. run inner draft (drop 1 steps)

-- a form of the word, with these arguments, which are these steps as forms at the top
unfoldable pub top_by : Option TopWord → Env → ℕ → FormTrees → List Step → Draft → Result Draft Fault
top_by None env start forms steps draft = Err (start, why.Form)
top_by (Some top.TcpServer) env start forms steps draft = with_server env start forms draft
top_by (Some top.PeriodicallyExpire) env start forms steps draft = with_expiry env start forms draft
top_by (Some top.Streams) env start forms steps draft = with_streams env forms draft
top_by (Some top.Let) env start forms steps draft = let_by env start forms steps draft

unfoldable mutual
  pub top_at : FormTree → Step
  top_at (Single (form.Symbol name) start last) env draft = Err (no_form start (bound_value name env))
  top_at (Group Round (also (Single (form.Symbol name) begin end) forms) start last) env draft =
      top_by (top_word name) env start forms (tops_in forms) draft
  top_at f env draft = Err (start_of f, why.Form)

  pub tops_in : FormTrees → List Step
  tops_in none = []
  tops_in (also f forms) = top_at f ∷ tops_in forms
