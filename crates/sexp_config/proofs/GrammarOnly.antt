-- What is read as names, a server or an expiry is what the grammar says.
use Rattle.std.proofs.Common.{◌≡◌, ℕ, Bool, true, false, codes, List, [], ◌∷◌, ◌++◌, Option, Some, None}
use Rattle.std.proofs.Common.{Ok, Err, refl, ap, sym, ◌∙◌, subst}
use Rattle.std.proofs.lemmas.Slice.Eq.{bytes_eq-Decides}
use Rattle.std.specs.Option.{option_or}
use Rattle.std.specs.Str.{bytes_eq}
use Rattle.ev_types.specs.declared.settings.KeepKey.{KeepKey}
use Rattle.sexp_read.specs.declared.piece.Atom.TheVariants as atom
use Rattle.sexp_read.specs.declared.piece.Bracket.TheVariants.{Round, Square, Curly}
use Rattle.sexp_read.specs.Tree.{FormTree, FormTrees, Single, Group, none, also}
use Rattle.sexp_read.specs.Written.{BareTree, BareTrees, no_trees, and_trees, bare_tree, bare_trees, listed}
use Rattle.stream_plan.specs.declared.kinds.TheConstants.{MAX_SECS}
use Rattle.config_terms.specs.declared.binding.Bound.{Bound}
use Rattle.config_terms.specs.declared.binding.Bound.TheVariants as bound
use Rattle.config_terms.specs.declared.word.StreamWord.TheVariants as word
use Rattle.config_terms.specs.Steps.{◌>>=◌, start_of, argument, at_most}
use Rattle.config_terms.specs.Words.{stream_text, keep_text, host_text, port_text}
use Rattle.config_terms.specs.Arguments.{Env, bound_value}
use Rattle.config_terms.specs.Arguments.{bound_argument, argument_of, text_at, keyword_at}
use Rattle.config_terms.specs.Arguments.{ranged_at, vector_at, map_at, one_entry}
use Rattle.config_terms.specs.Grammar.{symbol, worded, IsLiteral, a_text, a_pattern, a_number, a_keyword, a_name}
use Rattle.config_terms.specs.Terms.{vector_of, map_of, IsRanged, IsOnly}
use Rattle.config_terms.proofs.Outcomes.{OkGood, Any_, bind_good, any_good, weaker, ok_if}
use Rattle.config_terms.proofs.Outcomes.{ok_from}
use Rattle.config_terms.proofs.GrammarOnly.{TextIs, text_means}
use Rattle.config_terms.proofs.SetLaws.{KeyIs, keyword_means}
use Rattle.config_terms.proofs.VectorLaws.{VectorIs, MapIs, vector_means, map_means, ranges_are_read}
use Rattle.sexp_config.specs.Grammar.{Server, IsNamed, a_value, the_index, AreNames, no_names, more_names, AreEntries}
use Rattle.sexp_config.specs.Grammar.{no_entries, a_host, a_port, IsServer, by_default, by_map}
use Rattle.sexp_config.specs.Grammar.{IsKeys, IsExpiry, every_ten, every, keeping}
use Rattle.sexp_config.specs.Tops.{once, Listens, no_listens, server_of, listen_key, listen_key_at, with_entry}
use Rattle.sexp_config.specs.Tops.{listens_from, server_at, server_in, keys_at}
use Rattle.sexp_config.specs.Tops.{keys_of_map, expiry_in, name_at, bound_by, index_by, bound_at, names_from, names_in}
use Rattle.sexp_config.proofs.GrammarRead.{NotBoth, listens, same_server}
use Rattle.sexp_config.proofs.KeyLaws.{keep_maps_are_read}

-- ---- arguments

ranged_means : (least most : ℕ) (env : Env) (f : FormTree)
    → OkGood (IsRanged least most env (bare_tree f)) (ranged_at least most env f)
ranged_means least most env f =
    ok_from (IsRanged least most env (bare_tree f)) (ranged_at least most env f)
    (λ n is. (ranges_are_read least most env f n).1 is)

-- ---- names

symbol_value : (env : Env) (f : FormTree) (name : List ℕ) (held : Option Bound) → bound_value name env ≡ held
    → OkGood (IsNamed env (symbol name)) (bound_by f (bound_argument name held))
symbol_value env f name None is = tt
symbol_value env f name (Some (bound.Text text)) is = a_value (a_name is)
symbol_value env f name (Some (bound.Pattern text)) is = a_value (a_name is)
symbol_value env f name (Some (bound.Number number)) is = a_value (a_name is)
symbol_value env f name (Some (bound.Keyword key)) is = a_value (a_name is)
symbol_value env f name (Some bound.Index) is = a_value (a_name is)

index_means : (env : Env) (name : List ℕ) (start : ℕ) (forms : FormTrees)
    → OkGood (IsNamed env (worded name (bare_trees forms))) (index_by name start forms)
unfolding at_most
index_means env name start none =
    ok_if (IsNamed env (worded name no_trees)) (bytes_eq name (stream_text word.Index)) (Ok bound.Index) (Err _)
    (λ is. subst (λ (n : List ℕ). IsNamed env (worded n no_trees) bound.Index)
    (sym ((bytes_eq-Decides name (stream_text word.Index)).0 is)) the_index)
    (λ _. tt)
index_means env name start (also f forms) =
    ok_if (IsNamed env (worded name (bare_trees (also f forms)))) (bytes_eq name (stream_text word.Index)) (Err _)
    (Err _) (λ _. tt) (λ _. tt)

named_means : (env : Env) (f : FormTree) → OkGood (IsNamed env (bare_tree f)) (bound_at env f)
unfolding bound_at argument_of
named_means env (Single (atom.Text text) start last) = a_value a_text
named_means env (Single (atom.Pattern text) start last) = a_value a_pattern
named_means env (Single (atom.Number number) start last) = a_value a_number
named_means env (Single (atom.Keyword key) start last) = a_value a_keyword
named_means env (Single (atom.Symbol name) start last) =
    symbol_value env (Single (atom.Symbol name) start last) name (bound_value name env) refl
named_means env (Group Round (also (Single (atom.Symbol name) begin end) forms) start last) =
    index_means env name start forms
named_means env (Group Round (also (Single (atom.Text text) begin end) forms) start last) = tt
named_means env (Group Round (also (Single (atom.Pattern text) begin end) forms) start last) = tt
named_means env (Group Round (also (Single (atom.Number number) begin end) forms) start last) = tt
named_means env (Group Round (also (Single (atom.Keyword key) begin end) forms) start last) = tt
named_means env (Group Round (also (Group bracket inner begin end) forms) start last) = tt
named_means env (Group Round none start last) = tt
named_means env (Group Square forms start last) = tt
named_means env (Group Curly forms start last) = tt

abbrev SymbolIs : BareTree → List ℕ → Type 0
SymbolIs form name = form ≡ symbol name

name_means : (f : FormTree) → OkGood (SymbolIs (bare_tree f)) (name_at f)
unfolding name_at
name_means (Single (atom.Symbol name) start last) = refl
name_means (Single (atom.Text text) start last) = tt
name_means (Single (atom.Pattern text) start last) = tt
name_means (Single (atom.Number number) start last) = tt
name_means (Single (atom.Keyword key) start last) = tt
name_means (Group bracket forms start last) = tt

names_mean : (place : ℕ) (env : Env) (forms : FormTrees)
    → OkGood (AreNames env (bare_trees forms)) (names_from place env forms)
unfolding names_from
names_mean place env none = no_names
names_mean place env (also name none) =
    bind_good Any_ (AreNames env (bare_trees (also name none))) (name_at name) _ (any_good (name_at name))
    (λ known _. tt)
names_mean place env (also name (also f forms)) =
    let Q = AreNames env (bare_trees (also name (also f forms))) in
    bind_good (SymbolIs (bare_tree name)) Q (name_at name) _ (name_means name) (λ known at.
    bind_good (IsNamed env (bare_tree f)) Q (bound_at env f) _ (named_means env f) (λ value is.
    weaker (AreNames (env ++ record { name = known; value = value } ∷ []) (bare_trees forms)) Q
    (names_from place (env ++ record { name = known; value = value } ∷ []) forms)
    (λ inner others. subst
    (λ (t : BareTree). AreNames env (and_trees t (and_trees (bare_tree f) (bare_trees forms))) inner) (sym at)
    (more_names is others))
    (names_mean place (env ++ record { name = known; value = value } ∷ []) forms)))

-- the first form is a vector of names, after which these are bound
pub record HasNames (env : Env) (forms : FormTrees) (inner : Env) : Type 0 where
  pub first : FormTree
  pub rest : FormTrees
  pub names : BareTrees
  pub are : forms ≡ also first rest
  pub is : bare_tree first ≡ vector_of names
  pub bound : AreNames env names inner

pub vector_names : (env : Env) (start : ℕ) (forms : FormTrees) → OkGood (HasNames env forms) (names_in env start forms)
unfolding argument
vector_names env start none = tt
vector_names env start (also first rest) =
    bind_good (VectorIs (bare_tree first)) (HasNames env (also first rest)) (vector_at env first)
    (names_from (start_of first) env) (vector_means env first) (λ names is.
    weaker (AreNames env (bare_trees names)) (HasNames env (also first rest)) (names_from (start_of first) env names)
    (λ inner are. record { first = first; rest = rest; names = bare_trees names; are = refl; is = is; bound = are })
    (names_mean (start_of first) env names))

-- ---- the server

-- which of the two keys it is, that was not there before
abbrev KeyMeans : Env → BareTree → Option (List ℕ) → Option ℕ → Bool → Type 0
KeyMeans env key host port true = IsLiteral env key (bound.Keyword (codes "host")) × (host ≡ None)
KeyMeans env key host port false = IsLiteral env key (bound.Keyword (codes "port")) × (port ≡ None)

pub once_means : {A : Type 0} (place : ℕ) (held : Option A) → OkGood (λ _. held ≡ None) (once place held)
once_means place None = refl
once_means place (Some a) = tt

key_means : (env : Env) (key : FormTree) (host : Option (List ℕ)) (port : Option ℕ)
    → OkGood (KeyMeans env (bare_tree key) host port) (listen_key_at env (listens host port) key)
unfolding listen_key_at
key_means env key host port =
    let P = KeyMeans env (bare_tree key) host port in
    bind_good (KeyIs env (bare_tree key)) P (keyword_at env key) (listen_key (start_of key) (listens host port))
    (keyword_means env key) (λ name is.
    ok_if P (bytes_eq name host_text) _ _
    (λ same. bind_good (λ _. host ≡ None) P (once (start_of key) host) (λ new. Ok true) (once_means (start_of key) host)
    (λ _ new. (subst (KeyIs env (bare_tree key)) ((bytes_eq-Decides name host_text).0 same) is, new)))
    (λ _. ok_if P (bytes_eq name port_text) _ _
    (λ same. bind_good (λ _. port ≡ None) P (once (start_of key) port) (λ new. Ok false)
    (once_means (start_of key) port)
    (λ _ new. (subst (KeyIs env (bare_tree key)) ((bytes_eq-Decides name port_text).0 same) is, new)))
    (λ _. tt)))

-- entries that are read onto others
record Entries (env : Env) (row : BareTrees) (before : Option (List ℕ)) (earlier : Option ℕ)
    (found : Listens) : Type 0 where
  host : Option (List ℕ)
  port : Option ℕ
  are : AreEntries env row host port
  host_is : found.host ≡ option_or before host
  port_is : found.port ≡ option_or earlier port
  new : NotBoth before host
  fresh : NotBoth earlier port

host_first : (env : Env) (key h : BareTree) (row : BareTrees) (host : List ℕ) (earlier : Option ℕ) (found : Listens)
    → IsLiteral env key (bound.Keyword (codes "host")) → IsLiteral env h (bound.Text host)
    → (more : Option (List ℕ)) (port : Option ℕ) → AreEntries env row more port
    → found.host ≡ option_or (Some host) more → found.port ≡ option_or earlier port → NotBoth (Some host) more
    → NotBoth earlier port
    → Entries env (and_trees key (and_trees h row)) None earlier found
host_first env key h row host earlier found is given None port are host_is port_is new fresh =
    record {
      host = Some host;
      port = port;
      are = a_host is given are;
      host_is = host_is;
      port_is = port_is;
      new = tt;
      fresh = fresh;
    }
host_first env key h row host earlier found is given (Some more) port are host_is port_is new fresh = absurd new

port_first : (env : Env) (key p : BareTree) (row : BareTrees) (port : ℕ) (before : Option (List ℕ)) (found : Listens)
    → IsLiteral env key (bound.Keyword (codes "port")) → IsRanged 0 65535 env p port
    → (host : Option (List ℕ)) (more : Option ℕ) → AreEntries env row host more → found.host ≡ option_or before host
    → found.port ≡ option_or (Some port) more → NotBoth before host → NotBoth (Some port) more
    → Entries env (and_trees key (and_trees p row)) before None found
port_first env key p row port before found is given host None are host_is port_is new fresh =
    record {
      host = host;
      port = Some port;
      are = a_port is given are;
      host_is = host_is;
      port_is = port_is;
      new = new;
      fresh = tt;
    }
port_first env key p row port before found is given host (Some more) are host_is port_is new fresh = absurd fresh

or_none : {A : Type 0} (held : Option A) → held ≡ option_or held None
or_none None = refl
or_none (Some a) = refl

abbrev MoreMeans : ℕ → Env → FormTrees → Type 0
MoreMeans place env forms =
    (host : Option (List ℕ)) (port : Option ℕ)
    → OkGood (Entries env (bare_trees forms) host port) (listens_from place env (listens host port) forms)

value_means : (place : ℕ) (env : Env) (host : Option (List ℕ)) (port : Option ℕ) (key f : FormTree) (forms : FormTrees)
    → MoreMeans place env forms → (is_host : Bool) → KeyMeans env (bare_tree key) host port is_host
    → OkGood (Entries env (bare_trees (also key (also f forms))) host port)
    (with_entry env (listens host port) is_host f >>= λ more. listens_from place env more forms)
unfolding with_entry
value_means place env None port key f forms others true means =
    let Q = Entries env (bare_trees (also key (also f forms))) None port in
    bind_good (λ (more : Listens). OkGood Q (listens_from place env more forms)) Q
    (with_entry env (listens None port) true f) (λ more. listens_from place env more forms)
    (bind_good (TextIs env (bare_tree f)) (λ (more : Listens). OkGood Q (listens_from place env more forms))
    (text_at env f) (λ host. Ok (listens (Some host) port)) (text_means env f) (λ host given.
    weaker (Entries env (bare_trees forms) (Some host) port) Q (listens_from place env (listens (Some host) port) forms)
    (λ found known. host_first env (bare_tree key) (bare_tree f) (bare_trees forms) host port found means.0 given
    known.host known.port known.are known.host_is known.port_is known.new known.fresh)
    (others (Some host) port))) (λ more known. known)
value_means place env (Some host) port key f forms others true means = let other = means.1 in cc
value_means place env host None key f forms others false means =
    let Q = Entries env (bare_trees (also key (also f forms))) host None in
    bind_good (λ (more : Listens). OkGood Q (listens_from place env more forms)) Q
    (with_entry env (listens host None) false f) (λ more. listens_from place env more forms)
    (bind_good (IsRanged 0 65535 env (bare_tree f)) (λ (more : Listens). OkGood Q (listens_from place env more forms))
    (ranged_at 0 65535 env f) (λ port. Ok (listens host (Some port))) (ranged_means 0 65535 env f) (λ port given.
    weaker (Entries env (bare_trees forms) host (Some port)) Q (listens_from place env (listens host (Some port)) forms)
    (λ found known. port_first env (bare_tree key) (bare_tree f) (bare_trees forms) port host found means.0 given
    known.host known.port known.are known.host_is known.port_is known.new known.fresh)
    (others host (Some port)))) (λ more known. known)
value_means place env host (Some port) key f forms others false means = let other = means.1 in cc

not_both : {A : Type 0} (held : Option A) → NotBoth held None
not_both None = tt
not_both (Some a) = tt

entries_mean : (place : ℕ) (env : Env) (forms : FormTrees) → MoreMeans place env forms
unfolding listens_from
entries_mean place env none host port = record {
  host = None;
  port = None;
  are = no_entries;
  host_is = or_none host;
  port_is = or_none port;
  new = not_both host;
  fresh = not_both port;
}
entries_mean place env (also key none) host port =
    bind_good Any_ (Entries env (bare_trees (also key none)) host port) (listen_key_at env (listens host port) key) _
    (any_good (listen_key_at env (listens host port) key)) (λ is_host _. tt)
entries_mean place env (also key (also f forms)) host port =
    bind_good (KeyMeans env (bare_tree key) host port) (Entries env (bare_trees (also key (also f forms))) host port)
    (listen_key_at env (listens host port) key) _ (key_means env key host port)
    (λ is_host means. value_means place env host port key f forms (entries_mean place env forms) is_host means)

map_server : (env : Env) (entries : BareTrees) (found : Listens) → Entries env entries None None found
    → IsServer env (listed (map_of entries ∷ [])) (server_of found)
map_server env entries found known =
    let are : found ≡ listens known.host known.port =
    ap (λ (host : Option (List ℕ)). listens host found.port) known.host_is
    ∙ ap (λ (port : Option ℕ). listens known.host port) known.port_is in
    subst (λ (server : Server). IsServer env (listed (map_of entries ∷ [])) server)
    (sym (ap server_of are ∙ same_server known.host known.port)) (by_map known.are)

server_at_means : (env : Env) (f : FormTree) → OkGood (IsServer env (listed (bare_tree f ∷ []))) (server_at env f)
server_at_means env f =
    let Q = IsServer env (listed (bare_tree f ∷ [])) in
    bind_good (MapIs (bare_tree f)) Q (map_at env f) _ (map_means env f) (λ entries is.
    bind_good (Entries env (bare_trees entries) None None) Q (listens_from (start_of f) env no_listens entries)
    (λ found. Ok (server_of found)) (entries_mean (start_of f) env entries None None)
    (λ found known. subst (λ (t : BareTree). IsServer env (listed (t ∷ [])) (server_of found)) (sym is)
    (map_server env (bare_trees entries) found known)))

pub server_means : (env : Env) (forms : FormTrees) → OkGood (IsServer env (bare_trees forms)) (server_in env forms)
unfolding server_in at_most
server_means env none = by_default
server_means env (also f none) =
    bind_good (IsServer env (listed (bare_tree f ∷ []))) (IsServer env (bare_trees (also f none))) (server_at env f) _
    (server_at_means env f) (λ server is. is)
server_means env (also f (also g forms)) =
    bind_good Any_ (IsServer env (bare_trees (also f (also g forms)))) (server_at env f) _ (any_good (server_at env f))
    (λ server _. tt)

-- ---- the expiry

abbrev KeysOf : Env → BareTree → List KeepKey → Type 0
KeysOf env form keys = (entries : BareTrees) × (form ≡ map_of entries) × IsOnly keep_text IsKeys env entries keys

keys_of_means : (env : Env) (f : FormTree) → OkGood (KeysOf env (bare_tree f)) (keys_of_map env f)
keys_of_means env f =
    bind_good (MapIs (bare_tree f)) (KeysOf env (bare_tree f)) (map_at env f)
    (one_entry keep_text keys_at (start_of f) env None) (map_means env f) (λ entries is.
    ok_from (KeysOf env (bare_tree f)) (one_entry keep_text keys_at (start_of f) env None entries)
    (λ keys read. (bare_trees entries, is, (keep_maps_are_read env (start_of f) entries keys).1 read)))

pub expiry_means : (env : Env) (forms : FormTrees) → OkGood (IsExpiry env (bare_trees forms)) (expiry_in env forms)
unfolding expiry_in at_most
expiry_means env none = every_ten
expiry_means env (also f none) =
    bind_good (IsRanged 1 MAX_SECS env (bare_tree f)) (IsExpiry env (bare_trees (also f none)))
    (ranged_at 1 MAX_SECS env f) _ (ranged_means 1 MAX_SECS env f) (λ secs is. every is)
expiry_means env (also f (also g none)) =
    let Q = IsExpiry env (bare_trees (also f (also g none))) in
    bind_good (IsRanged 1 MAX_SECS env (bare_tree f)) Q (ranged_at 1 MAX_SECS env f) _ (ranged_means 1 MAX_SECS env f)
    (λ secs is.
    bind_good (KeysOf env (bare_tree g)) Q (keys_of_map env g) _ (keys_of_means env g)
    (λ keys known.
    subst
    (λ (t : BareTree). IsExpiry env (listed (bare_tree f ∷ t ∷ [])) (record { interval = secs; keep = keys }))
    (sym known.1) (keeping is known.2)))
expiry_means env (also f (also g (also h forms))) =
    let Q = IsExpiry env (bare_trees (also f (also g (also h forms)))) in
    bind_good Any_ Q (ranged_at 1 MAX_SECS env f) _ (any_good (ranged_at 1 MAX_SECS env f))
    (λ secs _. bind_good Any_ Q (keys_of_map env g) _ (any_good (keys_of_map env g)) (λ keys _. tt))
