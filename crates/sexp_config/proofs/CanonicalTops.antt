-- The canonical forms of a configuration that forms represent represent it too, and can be written.
use Rattle.std.proofs.Common.{◌≡◌, ℕ, pos, ◌≤◌, Bool, true, false, nat_lt, codes, List, [], ◌∷◌, ◌++◌, map, Option}
use Rattle.std.proofs.Common.{Some, None, unwrap_or, refl, ap, sym, ◌∙◌, subst, arith}
use Rattle.std.proofs.lemmas.Bool.{and_parts, ltb-true}
use Rattle.std.proofs.lemmas.Str.{IsUtf8-from_ascii}
use Rattle.std.proofs.lemmas.Str.Ascii.{IsAscii-nil, IsAscii-cons}
use Rattle.std.specs.List.{list_all}
use Rattle.std.specs.Prelude.{option_to_list}
use Rattle.std.specs.Str.{IsUtf8, IsAscii}
use Rattle.ev_types.specs.declared.settings.Expiry.{Expiry}
use Rattle.ev_types.specs.declared.settings.KeepKey.{KeepKey}
use Rattle.ev_types.specs.Names.{named_field, protocol_field}
use Rattle.sexp_read.specs.Written.{BareTree, BareTrees, listed, IsWritableTree, AreWritable}
use Rattle.stream_plan.specs.declared.kinds.TheConstants.{MAX_SECS}
use Rattle.stream_plan.specs.Tree.{StreamTrees}
use Rattle.config_terms.specs.declared.binding.Bound.{Bound}
use Rattle.config_terms.specs.declared.binding.Bound.TheVariants as bound
use Rattle.config_terms.specs.declared.binding.Binding.{Binding}
use Rattle.config_terms.specs.Arguments.{Env}
use Rattle.config_terms.specs.Grammar.{a_text, a_number, a_keyword}
use Rattle.config_terms.specs.Terms.{IsRanged, a_ranged, a_field, no_more, one_more, only}
use Rattle.config_streams.proofs.GrammarRead.{with_none}
use Rattle.sexp_config.specs.declared.config.Config.{Config}
use Rattle.sexp_config.specs.Canonical.{keyword_form, text_form, number_form, vector_form, map_form, keep_form}
use Rattle.sexp_config.specs.Canonical.{server_form, expiry_form, expiry_forms, streams_form, config_forms}
use Rattle.config_terms.specs.Words.{keep_text, host_text, port_text}
use Rattle.sexp_config.specs.Grammar.{IsNamed, a_value, the_index, AreNames, no_names, more_names, Server, listening}
use Rattle.sexp_config.specs.Grammar.{AreEntries, no_entries, a_host, a_port, IsServer, by_default, by_map, field_key}
use Rattle.sexp_config.specs.Grammar.{tags_key, IsKey, AreKeys, key_vector, host_and_service, IsExpiry, every_ten}
use Rattle.sexp_config.specs.Grammar.{every, keeping, Said, nothing_said, IsTop, a_server, an_expiry, some_streams}
use Rattle.sexp_config.specs.Grammar.{with_names, AreTops, no_tops, more_tops, AreConfig}
use Rattle.config_terms.proofs.Outcomes.{SomeGood}
use Rattle.sexp_config.proofs.CanonicalTerms.{AllGood, all_both, GoodBound, GoodBinding, GoodEnv, literal_good}
use Rattle.sexp_config.proofs.CanonicalTerms.{field_written, each_written}
use Rattle.sexp_config.proofs.CanonicalStreams.{number_written, AllWritten, row_written, joined_written}
use Rattle.sexp_config.proofs.CanonicalStreams.{streams_written}

-- ---- names

value_good : (env : Env) → GoodEnv env → (form : BareTree) (value : Bound) → IsNamed env form value
    → IsWritableTree form → GoodBound value
value_good env e form value (a_value is) w = literal_good env e form value is w
value_good env e _ _ the_index w = tt

names_good : (env : Env) → GoodEnv env → (forms : BareTrees) (inner : Env) → AreNames env forms inner
    → AreWritable forms → GoodEnv inner
names_good env e _ _ no_names w = e
names_good env e _ inner (more_names {name = name} {v = v} {value = value} {forms = forms} is others) w =
    let binding : Binding = record { name = name; value = value } in
    names_good (env ++ binding ∷ []) (all_both GoodBinding env (binding ∷ []) e (value_good env e v value is w.1.0, tt))
    forms inner others w.1.1

-- ---- the server

abbrev server_map : Server → BareTree
server_map server =
    map_form
    (keyword_form host_text ∷ text_form server.host ∷ keyword_form port_text ∷ number_form (pos server.port) ∷ [])

abbrev ServerWritten : Server → Type 0
ServerWritten server =
    IsServer [] (listed (server_map server ∷ [])) server × IsWritableTree (server_form server.host server.port)

abbrev IsPort : ℕ → Type 0
IsPort port = port ≤ 65535

server_is : (server : Server) → IsUtf8 server.host → IsPort server.port → ServerWritten server
server_is server utf8 low = (
  by_map {host = Some server.host} {port = Some server.port}
      (a_host a_keyword a_text (a_port a_keyword (a_ranged a_number (omega arith) low) no_entries)),
  (refl, ((refl, (utf8, (refl, (omega (arith, low), tt)))), tt)),
)

abbrev small : ℕ → Bool
small b = nat_lt b 128

small_ascii : (text : List ℕ) → list_all small text ≡ true → IsAscii text
small_ascii [] h = IsAscii-nil
small_ascii (b ∷ text) h =
    let parts = and_parts (small b) (list_all small text) h in
    IsAscii-cons b text (ltb-true b 128 parts.0) (small_ascii text parts.1)

default_host : IsUtf8 (codes "127.0.0.1")
default_host = IsUtf8-from_ascii (codes "127.0.0.1") (small_ascii (codes "127.0.0.1") refl)

default_port : IsPort 5555
default_port = omega arith

host_good : (host : Option (List ℕ)) → SomeGood IsUtf8 host → IsUtf8 (unwrap_or host (codes "127.0.0.1"))
host_good None good = default_host
host_good (Some host) good = good

port_good : (port : Option ℕ) → SomeGood IsPort port → IsPort (unwrap_or port 5555)
port_good None good = default_port
port_good (Some port) good = good

entries_good : (env : Env) → GoodEnv env → (forms : BareTrees) (host : Option (List ℕ)) (port : Option ℕ)
    → AreEntries env forms host port → AreWritable forms → SomeGood IsUtf8 host × SomeGood IsPort port
entries_good env e _ _ _ no_entries w = (tt, tt)
entries_good env e _ _ port (a_host {h = h} {forms = forms} {host = host} key is others) w =
    (literal_good env e h (bound.Text host) is w.1.0, (entries_good env e forms None port others w.1.1).1)
entries_good env e _ host _ (a_port {forms = forms} {port = port} key (a_ranged is low high) others) w =
    ((entries_good env e forms host None others w.1.1).0, high)

server_written : (env : Env) → GoodEnv env → (forms : BareTrees) (server : Server) → IsServer env forms server
    → AreWritable forms → ServerWritten server
server_written env e _ _ by_default w = server_is (listening None None) default_host default_port
server_written env e _ _ (by_map {entries = entries} {host = host} {port = port} are) w =
    let good = entries_good env e entries host port are w.0 in
    server_is (listening host port) (host_good host good.0) (port_good port good.1)

-- ---- the expiry

abbrev KeysWritten : List KeepKey → Type 0
KeysWritten keys = AreKeys [] (listed (map keep_form keys)) keys × AreWritable (listed (map keep_form keys))

key_written : (env : Env) → GoodEnv env → (form : BareTree) (key : KeepKey) → IsKey env form key → IsWritableTree form
    → IsKey [] (keep_form key) key × IsWritableTree (keep_form key)
key_written env e form _ (field_key {field = one} is) w =
    let one_is = field_written env e form one is w in (field_key one_is.0, one_is.1)
key_written env e form _ (tags_key is) w = (tags_key a_keyword, refl)

default_keys : KeysWritten host_and_service
unfolding named_field protocol_field
default_keys = (
  one_more (field_key (a_field a_keyword refl)) (one_more (field_key (a_field a_keyword refl)) no_more),
  (refl, (refl, tt)),
)

abbrev keep_map : List KeepKey → BareTree
keep_map keys = map_form (keyword_form keep_text ∷ vector_form (map keep_form keys) ∷ [])

abbrev ExpiryWritten : Expiry → Type 0
ExpiryWritten expiry =
    IsExpiry [] (listed (number_form (pos expiry.interval) ∷ keep_map expiry.keep ∷ [])) expiry
    × IsWritableTree (expiry_form expiry)

expiry_is : (expiry : Expiry)
    → IsRanged 1 MAX_SECS [] (number_form (pos expiry.interval)) expiry.interval
    × IsWritableTree (number_form (pos expiry.interval))
    → KeysWritten expiry.keep → ExpiryWritten expiry
expiry_is expiry number keys =
    (keeping number.0 (only a_keyword (key_vector keys.0)), (refl, (number.1, ((refl, (keys.1, tt)), tt))))

expiry_written : (env : Env) → GoodEnv env → (forms : BareTrees) (expiry : Expiry) → IsExpiry env forms expiry
    → AreWritable forms → ExpiryWritten expiry
expiry_written env e _ _ every_ten w =
    expiry_is (record { interval = 10; keep = host_and_service })
    (a_ranged a_number (omega arith) (omega arith), omega arith) default_keys
expiry_written env e _ _ (every {n = n} {secs = secs} is) w =
    expiry_is (record { interval = secs; keep = host_and_service }) (number_written 1 MAX_SECS env e n secs is w.0)
    default_keys
expiry_written env e _ _ (keeping {n = n} {secs = secs} is
    (only key (key_vector {forms = forms} {keys = keys} are))) w =
    expiry_is (record { interval = secs; keep = keys }) (number_written 1 MAX_SECS env e n secs is w.0)
    (each_written IsKey keep_form env (key_written env e) forms keys are w.1.0.1.0)

-- ---- forms at the top

record SaidWritten (said : Said) : Type 0 where
  servers : AllGood ServerWritten said.servers
  expiries : AllGood ExpiryWritten said.expiries
  streams : AllWritten false said.streams

mutual
  top_written : (env : Env) → GoodEnv env → (form : BareTree) (said : Said) → IsTop env form said → IsWritableTree form
      → SaidWritten said
  top_written env e _ _ (a_server {forms = forms} {server = server} is) w =
      record { servers = (server_written env e forms server is w.1, tt); expiries = tt; streams = tt }
  top_written env e _ _ (an_expiry {forms = forms} {expiry = expiry} is) w =
      record { servers = tt; expiries = (expiry_written env e forms expiry is w.1, tt); streams = tt }
  top_written env e _ _ (some_streams {forms = forms} {streams = streams} are) w =
      record { servers = tt; expiries = tt; streams = streams_written false env e forms streams are w.1 }
  top_written env e _ said (with_names {inner = inner} {names = names} {forms = forms} known are) w =
      tops_written inner (names_good env e names inner known w.1.0) forms said are w.1.1

  tops_written : (env : Env) → GoodEnv env → (forms : BareTrees) (said : Said) → AreTops env forms said
      → AreWritable forms → SaidWritten said
  tops_written env e _ _ no_tops w = record { servers = tt; expiries = tt; streams = tt }
  tops_written env e _ _ (more_tops {form = form} {forms = forms} {said = said} {more = more} is others) w =
      let first = top_written env e form said is w.0 in
      let rest = tops_written env e forms more others w.1 in
      record {
        servers = all_both ServerWritten said.servers more.servers first.servers rest.servers;
        expiries = all_both ExpiryWritten said.expiries more.expiries first.expiries rest.expiries;
        streams = joined_written false said.streams more.streams first.streams rest.streams;
      }

-- ---- configurations

abbrev TopsWritten : List BareTree → Said → Type 0
TopsWritten forms said = AreTops [] (listed forms) said × AreWritable (listed forms)

plan_top : (streams : StreamTrees) → AllWritten false streams
    → TopsWritten (streams_form streams ∷ []) (record nothing_said { streams = streams })
plan_top streams all =
    let row = row_written false streams all in (
      subst
          (λ (plan : StreamTrees).
          AreTops [] (listed (streams_form streams ∷ [])) (record nothing_said { streams = plan }))
          (with_none streams) (more_tops (some_streams row.0) no_tops),
      ((refl, row.1), tt),
    )

expiry_top : (expiry : Option Expiry) (forms : List BareTree) (streams : StreamTrees)
    → AllGood ExpiryWritten (option_to_list expiry) → TopsWritten forms (record nothing_said { streams = streams })
    → TopsWritten (expiry_forms expiry ++ forms)
    (record { servers = []; expiries = option_to_list expiry; streams = streams })
expiry_top None forms streams all rest = rest
expiry_top (Some expiry) forms streams all rest = (more_tops (an_expiry all.0.0) rest.0, (all.0.1, rest.1))

server_or : (server : Option Server) → AllGood ServerWritten (option_to_list server)
    → ServerWritten (unwrap_or server (listening None None))
server_or None all = server_is (listening None None) default_host default_port
server_or (Some server) all = all.0

pub config_written : (forms : BareTrees) (config : Config) → AreConfig forms config → AreWritable forms
    → AreConfig (listed (config_forms config)) config × AreWritable (listed (config_forms config))
config_written forms config are w =
    let known = tops_written [] tt forms _ are.said w in
    let listens : Server = record { host = config.host; port = config.port } in
    let same : listens ≡ unwrap_or are.server (listening None None) =
    ap (λ (host : List ℕ). let one : Server = record { host = host; port = config.port } in one) are.host
    ∙ ap
    (λ (port : ℕ).
    let one : Server = record { host = (unwrap_or are.server (listening None None)).host; port = port } in one)
    are.port in
    let server : ServerWritten listens =
    subst (λ (one : Server). ServerWritten one) (sym same) (server_or are.server known.servers) in
    let rest =
    expiry_top config.expiry (streams_form config.plan ∷ []) config.plan known.expiries
    (plan_top config.plan known.streams) in (
      record {
        server = Some listens;
        said = more_tops (a_server server.0) rest.0;
        host = refl;
        port = refl;
        few = are.few;
        taken = are.taken;
      },
      (server.1, rest.1),
    )
