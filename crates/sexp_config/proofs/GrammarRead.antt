-- What the grammar says of names, the server and the expiry is read.
use Rattle.std.proofs.Common.{◌≡◌, ℕ, codes, List, [], ◌∷◌, ◌++◌, Option, Some, None}
use Rattle.std.proofs.Common.{Ok, refl, ap, sym, ◌∙◌, subst}
use Rattle.std.specs.Option.{option_or}
use Rattle.ev_types.specs.declared.settings.Expiry.{Expiry}
use Rattle.ev_types.specs.declared.settings.KeepKey.{KeepKey}
use Rattle.sexp_read.specs.declared.piece.Atom.{Atom}
use Rattle.sexp_read.specs.declared.piece.Atom.TheVariants as atom
use Rattle.sexp_read.specs.declared.piece.Bracket.TheVariants.{Round, Square, Curly}
use Rattle.sexp_read.specs.Tree.{FormTree, FormTrees, Single, Group, none, also}
use Rattle.sexp_read.specs.Written.{BareTree, BareTrees, no_trees, and_trees, bare_tree, bare_trees}
use Rattle.stream_plan.specs.declared.kinds.TheConstants.{MAX_SECS}
use Rattle.config_terms.specs.declared.binding.Bound.{Bound}
use Rattle.config_terms.specs.declared.binding.Bound.TheVariants as bound
use Rattle.config_terms.specs.Steps.{argument, at_most}
use Rattle.config_terms.specs.Words.{keep_text}
use Rattle.config_terms.specs.Arguments.{Env, argument_of, text_at, keyword_at, ranged_at, vector_at, map_at}
use Rattle.config_terms.specs.Arguments.{one_entry}
use Rattle.config_terms.specs.Grammar.{symbol, IsLiteral, a_text, a_pattern, a_number, a_keyword, a_name}
use Rattle.config_terms.specs.Terms.{vector_of, map_of, IsRanged, IsOnly}
use Rattle.config_terms.proofs.BareForms.{single_of, group_of, also_of, none_of, call_of}
use Rattle.config_terms.proofs.GrammarRead.{given, literal_read, text_read}
use Rattle.config_terms.proofs.SetLaws.{keyword_read}
use Rattle.config_terms.proofs.VectorLaws.{ranges_are_read}
use Rattle.sexp_config.specs.Grammar.{Server, IsNamed, a_value, the_index, AreNames, no_names, more_names, listening}
use Rattle.sexp_config.specs.Grammar.{AreEntries, no_entries, a_host, a_port, IsServer, by_default, by_map}
use Rattle.sexp_config.specs.Grammar.{IsKeys, host_and_service, IsExpiry}
use Rattle.sexp_config.specs.Grammar.{every_ten, every, keeping}
use Rattle.sexp_config.specs.Tops.{Listens, server_of, listens_from, listen_key_at, with_entry, server_in}
use Rattle.sexp_config.specs.Tops.{keys_at, expiry_in, name_at, bound_by, bound_at, names_from, names_in}
use Rattle.sexp_config.proofs.KeyLaws.{keep_maps_are_read}

-- ---- arguments

text_given : (env : Env) (form : BareTree) (text : List ℕ) → IsLiteral env form (bound.Text text) → (f : FormTree)
    → bare_tree f ≡ form → text_at env f ≡ Ok text
text_given env form text is f h = text_read env f text (literal_read env form (bound.Text text) is f h)

ranged_given : (least most : ℕ) (env : Env) (form : BareTree) (n : ℕ) → IsRanged least most env form n → (f : FormTree)
    → bare_tree f ≡ form → ranged_at least most env f ≡ Ok n
ranged_given least most env form n is f h =
    (ranges_are_read least most env f n).0 (subst (λ (t : BareTree). IsRanged least most env t n) (sym h) is)

vector_group : (env : Env) (forms : FormTrees) (start last : ℕ)
    → vector_at env (Group Square forms start last) ≡ Ok forms
unfolding vector_at argument_of
vector_group env forms start last = refl

map_group : (env : Env) (forms : FormTrees) (start last : ℕ) → map_at env (Group Curly forms start last) ≡ Ok forms
unfolding map_at argument_of
map_group env forms start last = refl

-- two forms, and the others after them
record ArePair (forms : FormTrees) (first second : BareTree) (more : BareTrees) : Type 0 where
  a : FormTree
  b : FormTree
  rest : FormTrees
  are : forms ≡ also a (also b rest)
  a_is : bare_tree a ≡ first
  b_is : bare_tree b ≡ second
  rest_are : bare_trees rest ≡ more

pair_of : (forms : FormTrees) (first second : BareTree) (more : BareTrees)
    → bare_trees forms ≡ and_trees first (and_trees second more) → ArePair forms first second more
pair_of forms first second more h =
    let one = also_of forms first (and_trees second more) h in
    let two = also_of one.rest second more one.rest_are in
    record {
      a = one.first;
      b = two.first;
      rest = two.rest;
      are = one.are ∙ ap (also one.first) two.are;
      a_is = one.first_is;
      b_is = two.first_is;
      rest_are = two.rest_are;
    }

-- ---- names

-- a literal is a single form
record IsLeaf (f : FormTree) : Type 0 where
  one : Atom
  start : ℕ
  last : ℕ
  is : f ≡ Single one start last

leaf : (f : FormTree) (one : Atom) → bare_tree f ≡ bare_tree (Single one 0 0) → IsLeaf f
leaf f one h =
    let single = single_of f one h in record { one = one; start = single.start; last = single.last; is = single.is }

leaf_of : (env : Env) (form : BareTree) (literal : Bound) → IsLiteral env form literal → (f : FormTree)
    → bare_tree f ≡ form → IsLeaf f
leaf_of env _ _ (a_text {text = text}) f h = leaf f (atom.Text text) h
leaf_of env _ _ (a_pattern {text = text}) f h = leaf f (atom.Pattern text) h
leaf_of env _ _ (a_number {number = number}) f h = leaf f (atom.Number number) h
leaf_of env _ _ (a_keyword {name = name}) f h = leaf f (atom.Keyword name) h
leaf_of env _ literal (a_name {name = name} is) f h = leaf f (atom.Symbol name) h

leaf_value : (env : Env) (one : Atom) (start last : ℕ)
    → bound_at env (Single one start last) ≡ bound_by (Single one start last) (argument_of env (Single one start last))
unfolding bound_at
leaf_value env one start last = refl

given_value : (f : FormTree) (literal : Bound) → bound_by f (given literal) ≡ Ok literal
given_value f (bound.Text text) = refl
given_value f (bound.Pattern text) = refl
given_value f (bound.Number number) = refl
given_value f (bound.Keyword name) = refl
given_value f bound.Index = refl

index_value : (env : Env) (begin end start last : ℕ)
    → bound_at env (Group Round (also (Single (atom.Symbol (codes "index")) begin end) none) start last)
    ≡ Ok bound.Index
unfolding bound_at at_most
index_value env begin end start last = refl

named_read : (env : Env) (form : BareTree) (value : Bound) → IsNamed env form value → (f : FormTree)
    → bare_tree f ≡ form → bound_at env f ≡ Ok value
named_read env form value (a_value is) f h =
    let one = leaf_of env form value is f h in
    ap (bound_at env) one.is ∙ leaf_value env one.one one.start one.last
    ∙ ap (λ (x : FormTree). bound_by x (argument_of env x)) (sym one.is)
    ∙ ap (bound_by f) (literal_read env form value is f h) ∙ given_value f value
named_read env _ _ the_index f h =
    let call = call_of f (atom.Symbol (codes "index")) no_trees h in
    ap (bound_at env) (call.is
    ∙ ap
    (λ (forms : FormTrees).
    Group Round (also (Single (atom.Symbol (codes "index")) call.begin call.end) forms) call.start call.last)
    (none_of call.forms call.forms_are))
    ∙ index_value env call.begin call.end call.start call.last

name_single : (name : List ℕ) (start last : ℕ) → name_at (Single (atom.Symbol name) start last) ≡ Ok name
unfolding name_at
name_single name start last = refl

name_read : (f : FormTree) (name : List ℕ) → bare_tree f ≡ symbol name → name_at f ≡ Ok name
name_read f name h =
    let one = single_of f (atom.Symbol name) h in ap name_at one.is ∙ name_single name one.start one.last

names_none : (place : ℕ) (env : Env) → names_from place env none ≡ Ok env
unfolding names_from
names_none place env = refl

names_more : (place : ℕ) (env : Env) (a b : FormTree) (rest : FormTrees) (name : List ℕ) (value : Bound)
    → name_at a ≡ Ok name → bound_at env b ≡ Ok value
    → names_from place env (also a (also b rest))
    ≡ names_from place (env ++ record { name = name; value = value } ∷ []) rest
unfolding names_from
names_more place env a b rest name value first second = rw (first, second) refl

names_read : (env : Env) (row : BareTrees) (inner : Env) → AreNames env row inner → (place : ℕ) (forms : FormTrees)
    → bare_trees forms ≡ row → names_from place env forms ≡ Ok inner
names_read env _ _ no_names place forms h = ap (names_from place env) (none_of forms h) ∙ names_none place env
names_read env _ inner (more_names {name = name} {v = v} {value = value} {forms = row} is others) place forms h =
    let pair = pair_of forms (symbol name) v row h in
    ap (names_from place env) pair.are
    ∙ names_more place env pair.a pair.b pair.rest name value (name_read pair.a name pair.a_is)
    (named_read env v value is pair.b pair.b_is)
    ∙ names_read (env ++ record { name = name; value = value } ∷ []) row inner others place pair.rest pair.rest_are

names_vector : (env inner : Env) (start : ℕ) (names rest : FormTrees) (begin end : ℕ)
    → names_from begin env names ≡ Ok inner → names_in env start (also (Group Square names begin end) rest) ≡ Ok inner
unfolding argument
names_vector env inner start names rest begin end is = rw (vector_group env names begin end) is

-- the vector of a `let`
pub vector_read : (env inner : Env) (names : BareTrees) → AreNames env names inner
    → (start : ℕ) (f : FormTree) (rest : FormTrees) → bare_tree f ≡ vector_of names
    → names_in env start (also f rest) ≡ Ok inner
vector_read env inner names are start f rest h =
    let group = group_of f Square names h in
    ap (λ (x : FormTree). names_in env start (also x rest)) group.is
    ∙ names_vector env inner start group.forms rest group.start group.last
    (names_read env names inner are group.start group.forms group.forms_are)

-- ---- the server

-- not both
abbrev pub NotBoth : {A : Type 0} → Option A → Option A → Type 0
NotBoth (Some a) (Some b) = ⊥
NotBoth _ _ = Unit {0}

abbrev pub listens : Option (List ℕ) → Option ℕ → Listens
listens host port = record { host = host; port = port }

host_entry : (place : ℕ) (env : Env) (port : Option ℕ) (a b : FormTree) (rest : FormTrees) (host : List ℕ)
    → keyword_at env a ≡ Ok (codes "host") → text_at env b ≡ Ok host
    → listens_from place env (listens None port) (also a (also b rest))
    ≡ listens_from place env (listens (Some host) port) rest
unfolding listens_from listen_key_at with_entry
host_entry place env port a b rest host first second = rw (first, second) refl

port_entry : (place : ℕ) (env : Env) (host : Option (List ℕ)) (a b : FormTree) (rest : FormTrees) (port : ℕ)
    → keyword_at env a ≡ Ok (codes "port") → ranged_at 0 65535 env b ≡ Ok port
    → listens_from place env (listens host None) (also a (also b rest))
    ≡ listens_from place env (listens host (Some port)) rest
unfolding listens_from listen_key_at with_entry
port_entry place env host a b rest port first second = rw (first, second) refl

entries_none : (place : ℕ) (env : Env) (host : Option (List ℕ)) (port : Option ℕ)
    → listens_from place env (listens host port) none ≡ Ok (listens (option_or host None) (option_or port None))
unfolding listens_from
entries_none place env None None = refl
entries_none place env None (Some port) = refl
entries_none place env (Some host) None = refl
entries_none place env (Some host) (Some port) = refl

-- onto what was given before, which is not given again
entries_read : (env : Env) (row : BareTrees) (host : Option (List ℕ)) (port : Option ℕ) → AreEntries env row host port
    → (place : ℕ) (before : Option (List ℕ)) (earlier : Option ℕ) → NotBoth before host → NotBoth earlier port
    → (forms : FormTrees) → bare_trees forms ≡ row
    → listens_from place env (listens before earlier) forms
    ≡ Ok (listens (option_or before host) (option_or earlier port))
entries_read env _ _ _ no_entries place before earlier new fresh forms h =
    ap (listens_from place env (listens before earlier)) (none_of forms h) ∙ entries_none place env before earlier
entries_read env _ _ port (a_host {key = key} {h = one} {forms = row} {host = host} is given_host others) place None
    earlier new fresh forms h =
    let pair = pair_of forms key one row h in
    ap (listens_from place env (listens None earlier)) pair.are
    ∙ host_entry place env earlier pair.a pair.b pair.rest host
    (keyword_read env key (codes "host") is pair.a pair.a_is) (text_given env one host given_host pair.b pair.b_is)
    ∙ entries_read env row None port others place (Some host) earlier tt fresh pair.rest pair.rest_are
entries_read env _ _ port (a_host is given_host others) place (Some before) earlier new fresh forms h = absurd new
entries_read env _ host _ (a_port {key = key} {p = one} {forms = row} {port = port} is given_port others) place before
    None new fresh forms h =
    let pair = pair_of forms key one row h in
    ap (listens_from place env (listens before None)) pair.are
    ∙ port_entry place env before pair.a pair.b pair.rest port (keyword_read env key (codes "port") is pair.a pair.a_is)
    (ranged_given 0 65535 env one port given_port pair.b pair.b_is)
    ∙ entries_read env row host None others place before (Some port) new tt pair.rest pair.rest_are
entries_read env _ host _ (a_port is given_port others) place before (Some earlier) new fresh forms h = absurd fresh

pub same_server : (host : Option (List ℕ)) (port : Option ℕ) → server_of (listens host port) ≡ listening host port
same_server None None = refl
same_server None (Some port) = refl
same_server (Some host) None = refl
same_server (Some host) (Some port) = refl

server_none : (env : Env) → server_in env none ≡ Ok (listening None None)
unfolding server_in at_most
server_none env = refl

server_map : (env : Env) (entries : FormTrees) (begin end : ℕ) (found : Listens)
    → listens_from begin env (listens None None) entries ≡ Ok found
    → server_in env (also (Group Curly entries begin end) none) ≡ Ok (server_of found)
unfolding server_in at_most
server_map env entries begin end found is = rw (map_group env entries begin end, is) refl

pub server_read : (env : Env) (row : BareTrees) (server : Server) → IsServer env row server → (forms : FormTrees)
    → bare_trees forms ≡ row → server_in env forms ≡ Ok server
server_read env _ _ by_default forms h = ap (server_in env) (none_of forms h) ∙ server_none env
server_read env _ _ (by_map {entries = row} {host = host} {port = port} are) forms h =
    let one = also_of forms (map_of row) no_trees h in
    let group = group_of one.first Curly row one.first_is in
    ap (server_in env)
    (one.are ∙ ap (also one.first) (none_of one.rest one.rest_are) ∙ ap (λ (f : FormTree). also f none) group.is)
    ∙ server_map env group.forms group.start group.last (listens (option_or None host) (option_or None port))
    (entries_read env row host port are group.start None None tt tt group.forms group.forms_are)
    ∙ ap (λ (server : Server). Ok server) (same_server host port)

-- ---- the expiry

expiry_none : (env : Env) → expiry_in env none ≡ Ok (record { interval = 10; keep = host_and_service })
unfolding expiry_in at_most
expiry_none env = refl

expiry_one : (env : Env) (f : FormTree) (secs : ℕ) → ranged_at 1 MAX_SECS env f ≡ Ok secs
    → expiry_in env (also f none) ≡ Ok (record { interval = secs; keep = host_and_service })
unfolding expiry_in at_most
expiry_one env f secs is = rw is refl

expiry_two : (env : Env) (f : FormTree) (entries : FormTrees) (begin end secs : ℕ) (keys : List KeepKey)
    → ranged_at 1 MAX_SECS env f ≡ Ok secs → one_entry keep_text keys_at begin env None entries ≡ Ok keys
    → expiry_in env (also f (also (Group Curly entries begin end) none)) ≡ Ok (record { interval = secs; keep = keys })
unfolding expiry_in at_most
expiry_two env f entries begin end secs keys first second = rw (first, map_group env entries begin end, second) refl

pub expiry_read : (env : Env) (row : BareTrees) (expiry : Expiry) → IsExpiry env row expiry → (forms : FormTrees)
    → bare_trees forms ≡ row → expiry_in env forms ≡ Ok expiry
expiry_read env _ _ every_ten forms h = ap (expiry_in env) (none_of forms h) ∙ expiry_none env
expiry_read env _ _ (every {n = n} {secs = secs} is) forms h =
    let one = also_of forms n no_trees h in
    ap (expiry_in env) (one.are ∙ ap (also one.first) (none_of one.rest one.rest_are))
    ∙ expiry_one env one.first secs (ranged_given 1 MAX_SECS env n secs is one.first one.first_is)
expiry_read env _ _ (keeping {n = n} {entries = entries} {secs = secs} {keys = keys} is are) forms h =
    let two = pair_of forms n (map_of entries) no_trees h in
    let group = group_of two.b Curly entries two.b_is in
    ap (expiry_in env) (two.are
    ∙ ap (λ (rest : FormTrees). also two.a (also two.b rest)) (none_of two.rest two.rest_are)
    ∙ ap (λ (f : FormTree). also two.a (also f none)) group.is)
    ∙ expiry_two env two.a group.forms group.start group.last secs keys
    (ranged_given 1 MAX_SECS env n secs is two.a two.a_is)
    ((keep_maps_are_read env group.start group.forms keys).0
    (subst (λ (ts : BareTrees). IsOnly keep_text IsKeys env ts keys) (sym group.forms_are) are))
