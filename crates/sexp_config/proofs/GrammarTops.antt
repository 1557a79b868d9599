-- Forms at the top are read exactly as the grammar says.
use Rattle.std.proofs.Common.{◌≡◌, ℕ, false, codes, List, [], ◌∷◌, ◌++◌, drop, append_assoc, Option, Some, None}
use Rattle.std.proofs.Common.{Result, Ok, Err, refl, ap, sym, ◌∙◌, subst}
use Rattle.std.specs.Prelude.{option_to_list}
use Rattle.std.proofs.lemmas.List.{append-nil}
use Rattle.ev_types.specs.declared.settings.Expiry.{Expiry}
use Rattle.sexp_read.specs.declared.piece.Atom.TheVariants as atom
use Rattle.sexp_read.specs.declared.piece.Bracket.TheVariants.{Round, Square, Curly}
use Rattle.sexp_read.specs.Tree.{FormTree, FormTrees, Single, Group, none, also}
use Rattle.sexp_read.specs.Written.{BareTree, BareTrees, no_trees, and_trees, bare_tree, bare_trees}
use Rattle.stream_plan.specs.Tree.{StreamTrees}
use Rattle.stream_plan.specs.Tree as plan
use Rattle.config_terms.specs.declared.word.TopWord.{TopWord}
use Rattle.config_terms.specs.declared.word.TopWord.TheVariants as top
use Rattle.config_terms.specs.Steps.{Fault}
use Rattle.config_terms.specs.Words.{top_text, top_word}
use Rattle.config_terms.specs.Arguments.{Env}
use Rattle.config_terms.specs.Grammar.{worded}
use Rattle.config_terms.specs.Terms.{vector_of}
use Rattle.config_terms.proofs.BareForms.{also_of, none_of, call_of}
use Rattle.config_terms.proofs.Outcomes.{OkGood, SomeGood, bind_good, weaker}
use Rattle.config_terms.proofs.NameLaws.{top_named, top_found}
use Rattle.config_streams.specs.Streams.{Below, all_read, parts_in}
use Rattle.config_streams.specs.Grammar.{AreStreams, with_streams, AreThose}
use Rattle.config_streams.proofs.GrammarLaws.{streams_are_read, only_streams_are_read}
use Rattle.sexp_config.specs.Grammar.{Server, AreNames, IsServer, IsExpiry, Said, nothing_said, together, IsTop}
use Rattle.sexp_config.specs.Grammar.{a_server, an_expiry, some_streams, with_names, AreTops, no_tops, more_tops}
use Rattle.sexp_config.specs.Tops.{Draft, once, server_in, expiry_in, names_in, Step, run, with_server, with_expiry}
use Rattle.sexp_config.specs.Tops.{with_streams as streams_onto, let_by, top_by, top_at, tops_in}
use Rattle.sexp_config.proofs.GrammarRead.{server_read, expiry_read, vector_read}
use Rattle.sexp_config.proofs.GrammarOnly.{HasNames, once_means, server_means, expiry_means, vector_names}

-- ---- streams in a row

with_streams_none : (streams : StreamTrees) → with_streams streams plan.none ≡ streams
with_streams_none plan.none = refl
with_streams_none (plan.also one streams) = ap (plan.also one) (with_streams_none streams)

with_streams_all : (a b c : StreamTrees) → with_streams (with_streams a b) c ≡ with_streams a (with_streams b c)
with_streams_all plan.none b c = refl
with_streams_all (plan.also one a) b c = ap (plan.also one) (with_streams_all a b c)

streams_on : (front middle all a b : StreamTrees) → middle ≡ with_streams front a → all ≡ with_streams middle b
    → all ≡ with_streams front (with_streams a b)
streams_on front middle all a b first second =
    second ∙ ap (λ (streams : StreamTrees). with_streams streams b) first ∙ with_streams_all front a b

-- ---- what was said of one thing

-- where all is one at most, and one is the last, nothing was before it
record IsOnly {A : Type 0} (held : Option A) (a : A) (all : Option A) : Type 0 where
  before : held ≡ None
  after : all ≡ Some a

only_one : {A : Type 0} (held : Option A) (a : A) (all : Option A) → option_to_list held ++ a ∷ [] ≡ option_to_list all
    → IsOnly held a all
only_one None a None h = cc
only_one None a (Some b) h = record { before = refl; after = cc }
only_one (Some b) a None h = cc
only_one (Some b) a (Some c) h = cc

same_one : {A : Type 0} (held all : Option A) → option_to_list held ++ [] ≡ option_to_list all → held ≡ all
same_one None None h = refl
same_one None (Some b) h = cc
same_one (Some a) None h = cc
same_one (Some a) (Some b) h = cc

record HasMiddle {A : Type 0} (front : List A) : Type 0 where
  middle : Option A
  is : front ≡ option_to_list middle

middle_of : {A : Type 0} (front rest : List A) (all : Option A) → front ++ rest ≡ option_to_list all → HasMiddle front
middle_of [] rest all h = record { middle = None; is = refl }
middle_of (a ∷ []) rest all h = record { middle = Some a; is = refl }
middle_of (a ∷ b ∷ front) rest None h = cc
middle_of (a ∷ b ∷ front) rest (Some c) h = cc

-- ---- words

group_top : (env : Env) (name : List ℕ) (begin end start last : ℕ) (forms : FormTrees) (draft : Draft)
    → top_at (Group Round (also (Single (atom.Symbol name) begin end) forms) start last) env draft
    ≡ top_by (top_word name) env start forms (tops_in forms) draft
unfolding top_at tops_in
group_top env name begin end start last forms draft = refl

record WordTop (env : Env) (f : FormTree) (w : TopWord) (row : BareTrees) (draft : Draft) : Type 0 where
  forms : FormTrees
  start : ℕ
  forms_are : bare_trees forms ≡ row
  read : top_at f env draft ≡ top_by (Some w) env start forms (tops_in forms) draft

word_top : (env : Env) (f : FormTree) (w : TopWord) (row : BareTrees) (draft : Draft)
    → bare_tree f ≡ worded (top_text w) row → WordTop env f w row draft
word_top env f w row draft h =
    let call = call_of f (atom.Symbol (top_text w)) row h in
    record {
      forms = call.forms;
      start = call.start;
      forms_are = call.forms_are;
      read =
          ap (λ (one : FormTree). top_at one env draft) call.is
          ∙ group_top env (top_text w) call.begin call.end call.start call.last call.forms draft
          ∙ ap (λ (known : Option TopWord). top_by known env call.start call.forms (tops_in call.forms) draft)
          (top_found w);
    }

server_step : (env : Env) (start : ℕ) (forms : FormTrees) (server : Server) (draft : Draft) → draft.server ≡ None
    → server_in env forms ≡ Ok server
    → top_by (Some top.TcpServer) env start forms (tops_in forms) draft ≡ Ok (record draft { server = Some server })
unfolding top_by
server_step env start forms server draft new read = rw (new, read) refl

expiry_step : (env : Env) (start : ℕ) (forms : FormTrees) (expiry : Expiry) (draft : Draft) → draft.expiry ≡ None
    → expiry_in env forms ≡ Ok expiry
    → top_by (Some top.PeriodicallyExpire) env start forms (tops_in forms) draft
    ≡ Ok (record draft { expiry = Some expiry })
unfolding top_by
expiry_step env start forms expiry draft new read = rw (new, read) refl

streams_step : (env : Env) (start : ℕ) (forms : FormTrees) (below : Below) (draft : Draft)
    → all_read draft.below (parts_in false false env forms) ≡ Ok below
    → top_by (Some top.Streams) env start forms (tops_in forms) draft ≡ Ok (record draft { below = below })
unfolding top_by
streams_step env start forms below draft read = rw read refl

tops_of : (f : FormTree) (forms : FormTrees) → tops_in (also f forms) ≡ top_at f ∷ tops_in forms
unfolding top_at tops_in
tops_of f forms = refl

no_steps : tops_in none ≡ []
unfolding top_at tops_in
no_steps = refl

let_step : (env inner : Env) (start : ℕ) (first : FormTree) (rest : FormTrees) (draft : Draft)
    → names_in env start (also first rest) ≡ Ok inner
    → top_by (Some top.Let) env start (also first rest) (top_at first ∷ tops_in rest) draft
    ≡ run inner draft (tops_in rest)
unfolding top_by
let_step env inner start first rest draft read = rw read refl

run_done : (env : Env) (draft : Draft) → run env draft [] ≡ Ok draft
unfolding run
run_done env draft = refl

run_more : (env : Env) (draft more : Draft) (step : Step) (steps : List Step) → step env draft ≡ Ok more
    → run env draft (step ∷ steps) ≡ run env more steps
unfolding run
run_more env draft more step steps is = rw is refl

-- ---- forms in a row, and those after the names of a `let`

tops_done : (env : Env) (forms : FormTrees) (draft : Draft) → forms ≡ none → run env draft (tops_in forms) ≡ Ok draft
tops_done env forms draft are =
    ap (λ (fs : FormTrees). run env draft (tops_in fs)) are ∙ ap (run env draft) no_steps ∙ run_done env draft

tops_on : (env : Env) (forms rest : FormTrees) (first : FormTree) (draft middle after : Draft) → forms ≡ also first rest
    → top_at first env draft ≡ Ok middle → run env middle (tops_in rest) ≡ Ok after
    → run env draft (tops_in forms) ≡ Ok after
tops_on env forms rest first draft middle after are one more =
    ap (λ (fs : FormTrees). run env draft (tops_in fs)) are ∙ ap (run env draft) (tops_of first rest)
    ∙ run_more env draft middle (top_at first) (tops_in rest) one ∙ more

record LetTop (env inner : Env) (f : FormTree) (row : BareTrees) (draft : Draft) : Type 0 where
  rest : FormTrees
  rest_are : bare_trees rest ≡ row
  read : top_at f env draft ≡ run inner draft (tops_in rest)

let_read : (env inner : Env) (names row : BareTrees) → AreNames env names inner → (f : FormTree) (draft : Draft)
    → bare_tree f ≡ worded (codes "let") (and_trees (vector_of names) row) → LetTop env inner f row draft
let_read env inner names row are f draft h =
    let word = word_top env f top.Let (and_trees (vector_of names) row) draft h in
    let parts = also_of word.forms (vector_of names) row word.forms_are in
    record {
      rest = parts.rest;
      rest_are = parts.rest_are;
      read =
          word.read
          ∙ ap (λ (forms : FormTrees). top_by (Some top.Let) env word.start forms (tops_in forms) draft) parts.are
          ∙ ap (λ (steps : List Step). top_by (Some top.Let) env word.start (also parts.first parts.rest) steps draft)
          (tops_of parts.first parts.rest)
          ∙ let_step env inner word.start parts.first parts.rest draft
          (vector_read env inner names are word.start parts.first parts.rest parts.first_is);
    }

-- ---- forms of the grammar are read

-- they are read onto a draft, after which it has these servers and expiries at most, and these streams more
pub record IsReadOnto (read : Result Draft Fault) (draft : Draft) (server : Option Server) (expiry : Option Expiry)
    (streams : StreamTrees) : Type 0 where
  pub after : Draft
  pub is : read ≡ Ok after
  pub server_is : after.server ≡ server
  pub expiry_is : after.expiry ≡ expiry
  pub streams_are : after.below.children.streams ≡ with_streams draft.below.children.streams streams

read_as : (read other : Result Draft Fault) (draft : Draft) (server : Option Server) (expiry : Option Expiry)
    (streams : StreamTrees)
    → read ≡ other → IsReadOnto other draft server expiry streams → IsReadOnto read draft server expiry streams
read_as read other draft server expiry streams same onto =
    record {
      after = onto.after;
      is = same ∙ onto.is;
      server_is = onto.server_is;
      expiry_is = onto.expiry_is;
      streams_are = onto.streams_are;
    }

mutual
  top_read : (env : Env) (form : BareTree) (said : Said) → IsTop env form said → (f : FormTree) → bare_tree f ≡ form
      → (draft : Draft) (server : Option Server) (expiry : Option Expiry)
      → option_to_list draft.server ++ said.servers ≡ option_to_list server
      → option_to_list draft.expiry ++ said.expiries ≡ option_to_list expiry
      → IsReadOnto (top_at f env draft) draft server expiry said.streams
  top_read env _ _ (a_server {forms = row} {server = one} is) f h draft server expiry servers expiries =
      let word = word_top env f top.TcpServer row draft h in
      let only = only_one draft.server one server servers in
      record {
        after = record draft { server = Some one };
        is =
            word.read
            ∙ server_step env word.start word.forms one draft only.before
            (server_read env row one is word.forms word.forms_are);
        server_is = sym only.after;
        expiry_is = same_one draft.expiry expiry expiries;
        streams_are = sym (with_streams_none draft.below.children.streams);
      }
  top_read env _ _ (an_expiry {forms = row} {expiry = one} is) f h draft server expiry servers expiries =
      let word = word_top env f top.PeriodicallyExpire row draft h in
      let only = only_one draft.expiry one expiry expiries in
      record {
        after = record draft { expiry = Some one };
        is =
            word.read
            ∙ expiry_step env word.start word.forms one draft only.before
            (expiry_read env row one is word.forms word.forms_are);
        server_is = same_one draft.server server servers;
        expiry_is = sym only.after;
        streams_are = sym (with_streams_none draft.below.children.streams);
      }
  top_read env _ _ (some_streams {forms = row} {streams = streams} are) f h draft server expiry servers expiries =
      let word = word_top env f top.Streams row draft h in
      let read =
      streams_are_read env draft.below word.forms streams
      (subst (λ (r : BareTrees). AreStreams false env r streams) (sym word.forms_are) are) in
      record {
        after = record draft { below = read.below };
        is = word.read ∙ streams_step env word.start word.forms read.below draft read.read;
        server_is = same_one draft.server server servers;
        expiry_is = same_one draft.expiry expiry expiries;
        streams_are = read.grown.children;
      }
  top_read env _ said (with_names {inner = inner} {names = names} {forms = row} are others) f h draft server expiry
      servers expiries =
      let known = let_read env inner names row are f draft h in
      read_as (top_at f env draft) (run inner draft (tops_in known.rest)) draft server expiry said.streams known.read
      (tops_read inner row said others known.rest known.rest_are draft server expiry servers expiries)

  pub tops_read : (env : Env) (row : BareTrees) (said : Said) → AreTops env row said → (forms : FormTrees)
      → bare_trees forms ≡ row → (draft : Draft) (server : Option Server) (expiry : Option Expiry)
      → option_to_list draft.server ++ said.servers ≡ option_to_list server
      → option_to_list draft.expiry ++ said.expiries ≡ option_to_list expiry
      → IsReadOnto (run env draft (tops_in forms)) draft server expiry said.streams
  tops_read env _ _ no_tops forms h draft server expiry servers expiries =
      record {
        after = draft;
        is = tops_done env forms draft (none_of forms h);
        server_is = same_one draft.server server servers;
        expiry_is = same_one draft.expiry expiry expiries;
        streams_are = sym (with_streams_none draft.below.children.streams);
      }
  tops_read env _ _ (more_tops {form = form} {forms = row} {said = said} {more = more} is others) forms h draft server
      expiry servers expiries =
      let parts = also_of forms form row h in
      let all_servers = append_assoc (option_to_list draft.server) said.servers more.servers ∙ servers in
      let all_expiries = append_assoc (option_to_list draft.expiry) said.expiries more.expiries ∙ expiries in
      let a = middle_of (option_to_list draft.server ++ said.servers) more.servers server all_servers in
      let b = middle_of (option_to_list draft.expiry ++ said.expiries) more.expiries expiry all_expiries in
      let first = top_read env form said is parts.first parts.first_is draft a.middle b.middle a.is b.is in
      let later = tops_read env row more others parts.rest parts.rest_are first.after server expiry
      (ap (λ (one : Option Server). option_to_list one ++ more.servers) first.server_is
      ∙ ap (λ (front : List Server). front ++ more.servers) (sym a.is) ∙ all_servers)
      (ap (λ (one : Option Expiry). option_to_list one ++ more.expiries) first.expiry_is
      ∙ ap (λ (front : List Expiry). front ++ more.expiries) (sym b.is) ∙ all_expiries) in
      record {
        after = later.after;
        is = tops_on env forms parts.rest parts.first draft first.after later.after parts.are first.is later.is;
        server_is = later.server_is;
        expiry_is = later.expiry_is;
        streams_are =
            streams_on draft.below.children.streams first.after.below.children.streams
            later.after.below.children.streams said.streams more.streams first.streams_are later.streams_are;
      }

-- ---- what is read is of the grammar

-- what a draft has more
pub record HasMore (before : Draft) (said : Said) (after : Draft) : Type 0 where
  pub servers : option_to_list after.server ≡ option_to_list before.server ++ said.servers
  pub expiries : option_to_list after.expiry ≡ option_to_list before.expiry ++ said.expiries
  pub streams : after.below.children.streams ≡ with_streams before.below.children.streams said.streams

record TopMeans (env : Env) (form : BareTree) (before after : Draft) : Type 0 where
  said : Said
  is : IsTop env form said
  more : HasMore before said after

pub record TopsMean (env : Env) (row : BareTrees) (before after : Draft) : Type 0 where
  pub said : Said
  pub are : AreTops env row said
  pub more : HasMore before said after

nothing_more : (draft : Draft) → HasMore draft nothing_said draft
nothing_more draft =
    record {
      servers = sym (append-nil (option_to_list draft.server));
      expiries = sym (append-nil (option_to_list draft.expiry));
      streams = sym (with_streams_none draft.below.children.streams);
    }

both_more : (before middle after : Draft) (first second : Said) → HasMore before first middle
    → HasMore middle second after → HasMore before (together first second) after
both_more before middle after first second a b =
    record {
      servers =
          b.servers ∙ ap (λ (front : List Server). front ++ second.servers) a.servers
          ∙ append_assoc (option_to_list before.server) first.servers second.servers;
      expiries =
          b.expiries ∙ ap (λ (front : List Expiry). front ++ second.expiries) a.expiries
          ∙ append_assoc (option_to_list before.expiry) first.expiries second.expiries;
      streams =
          streams_on before.below.children.streams middle.below.children.streams after.below.children.streams
          first.streams second.streams a.streams b.streams;
    }

abbrev StepMeans : BareTree → Step → Type 0
StepMeans form step = (env : Env) (draft : Draft) → OkGood (TopMeans env form draft) (step env draft)

abbrev RunMeans : BareTrees → List Step → Type 0
RunMeans row steps = (env : Env) (draft : Draft) → OkGood (TopsMean env row draft) (run env draft steps)

-- the forms after the first
abbrev RestMeans : FormTrees → Type 0
RestMeans none = Unit {0}
RestMeans (also f forms) = RunMeans (bare_trees forms) (tops_in forms)

no_run : RunMeans no_trees []
unfolding run
no_run env draft = record { said = nothing_said; are = no_tops; more = nothing_more draft }

more_run : (form : BareTree) (row : BareTrees) (step : Step) (steps : List Step) → StepMeans form step
    → RunMeans row steps → RunMeans (and_trees form row) (step ∷ steps)
unfolding run
more_run form row step steps first others env draft =
    bind_good (TopMeans env form draft) (TopsMean env (and_trees form row) draft) (step env draft)
    (λ more. run env more steps) (first env draft) (λ middle known.
    weaker (TopsMean env row middle) (TopsMean env (and_trees form row) draft) (run env middle steps)
    (λ after later. record {
      said = together known.said later.said;
      are = more_tops known.is later.are;
      more = both_more draft middle after known.said later.said known.more later.more;
    })
    (others env middle))

-- what follows `tcp-server`, and so on

server_top : (env : Env) (start : ℕ) (forms : FormTrees) (draft : Draft)
    → OkGood (TopMeans env (worded (codes "tcp-server") (bare_trees forms)) draft) (with_server env start forms draft)
server_top env start forms draft =
    let Q = TopMeans env (worded (codes "tcp-server") (bare_trees forms)) draft in
    bind_good (λ _. draft.server ≡ None) Q (once start draft.server) _ (once_means start draft.server) (λ _ new.
    bind_good (IsServer env (bare_trees forms)) Q (server_in env forms)
    (λ server. Ok (record draft { server = Some server })) (server_means env forms) (λ server is.
    record {
      said = record nothing_said { servers = server ∷ [] };
      is = a_server is;
      more = record {
        servers = ap (λ (held : Option Server). option_to_list held ++ server ∷ []) (sym new);
        expiries = sym (append-nil (option_to_list draft.expiry));
        streams = sym (with_streams_none draft.below.children.streams);
      };
    }))

expiry_top : (env : Env) (start : ℕ) (forms : FormTrees) (draft : Draft)
    → OkGood (TopMeans env (worded (codes "periodically-expire") (bare_trees forms)) draft)
    (with_expiry env start forms draft)
expiry_top env start forms draft =
    let Q = TopMeans env (worded (codes "periodically-expire") (bare_trees forms)) draft in
    bind_good (λ _. draft.expiry ≡ None) Q (once start draft.expiry) _ (once_means start draft.expiry) (λ _ new.
    bind_good (IsExpiry env (bare_trees forms)) Q (expiry_in env forms)
    (λ expiry. Ok (record draft { expiry = Some expiry })) (expiry_means env forms) (λ expiry is.
    record {
      said = record nothing_said { expiries = expiry ∷ [] };
      is = an_expiry is;
      more = record {
        servers = sym (append-nil (option_to_list draft.server));
        expiries = ap (λ (held : Option Expiry). option_to_list held ++ expiry ∷ []) (sym new);
        streams = sym (with_streams_none draft.below.children.streams);
      };
    }))

let_top : (env : Env) (start : ℕ) (forms : FormTrees) (draft : Draft) → RestMeans forms
    → OkGood (TopMeans env (worded (codes "let") (bare_trees forms)) draft)
    (let_by env start forms (tops_in forms) draft)
unfolding top_at tops_in
let_top env start forms draft rest =
    bind_good (HasNames env forms) (TopMeans env (worded (codes "let") (bare_trees forms)) draft)
    (names_in env start forms) _ (vector_names env start forms)
    (λ inner known. inside forms rest inner known)
  where
    inside : (forms : FormTrees) → RestMeans forms → (inner : Env) → HasNames env forms inner
        → OkGood (TopMeans env (worded (codes "let") (bare_trees forms)) draft)
        (run inner draft (drop 1 (tops_in forms)))
    inside none rest inner known = let other = known.are in cc
    inside (also f forms) rest inner known =
        weaker (TopsMean inner (bare_trees forms) draft)
        (TopMeans env (worded (codes "let") (bare_trees (also f forms))) draft) (run inner draft (tops_in forms))
        (λ after later.
        record { said = later.said; is = named f forms inner known later.said later.are; more = later.more })
        (rest inner draft)
      where
        named : (f : FormTree) (forms : FormTrees) (inner : Env) → HasNames env (also f forms) inner → (said : Said)
            → AreTops inner (bare_trees forms) said → IsTop env (worded (codes "let") (bare_trees (also f forms))) said
        named f forms inner known said are =
            let same : bare_trees (also f forms) ≡ and_trees (vector_of known.names) (bare_trees known.rest) =
            ap bare_trees known.are ∙ ap (λ (t : BareTree). and_trees t (bare_trees known.rest)) known.is in
            let rest_same : bare_trees forms ≡ bare_trees known.rest = cc in
            subst (λ (row : BareTrees). IsTop env (worded (codes "let") row) said) (sym same)
            (with_names known.bound (subst (λ (row : BareTrees). AreTops inner row said) rest_same are))

-- ---- heads

abbrev Spells : List ℕ → TopWord → Type 0
Spells name one = name ≡ top_text one

streams_top : (env : Env) (forms : FormTrees) (draft : Draft)
    → OkGood (TopMeans env (worded (codes "streams") (bare_trees forms)) draft) (streams_onto env forms draft)
streams_top env forms draft =
    bind_good (AreThose env draft.below forms) (TopMeans env (worded (codes "streams") (bare_trees forms)) draft)
    (all_read draft.below (parts_in false false env forms)) (λ below. Ok (record draft { below = below }))
    (ok_from (all_read draft.below (parts_in false false env forms))
    (λ below is. only_streams_are_read env draft.below forms below is))
    (λ below known.
    record {
      said = record nothing_said { streams = known.streams };
      is = some_streams known.are;
      more = record {
        servers = sym (append-nil (option_to_list draft.server));
        expiries = sym (append-nil (option_to_list draft.expiry));
        streams = known.grown.children;
      };
    })
  where
    ok_from : (read : Result Below Fault) → ((below : Below) → read ≡ Ok below → AreThose env draft.below forms below)
        → OkGood (AreThose env draft.below forms) read
    ok_from (Ok below) known = known below refl
    ok_from (Err fault) known = tt

word_means : (one : TopWord) (env : Env) (start : ℕ) (forms : FormTrees) → RestMeans forms → (draft : Draft)
    → OkGood (TopMeans env (worded (top_text one) (bare_trees forms)) draft)
    (top_by (Some one) env start forms (tops_in forms) draft)
unfolding top_by
word_means top.TcpServer env start forms rest draft = server_top env start forms draft
word_means top.PeriodicallyExpire env start forms rest draft = expiry_top env start forms draft
word_means top.Streams env start forms rest draft = streams_top env forms draft
word_means top.Let env start forms rest draft = let_top env start forms draft rest

call_means : (name : List ℕ) (found : Option TopWord) → SomeGood (Spells name) found
    → (env : Env) (start : ℕ) (forms : FormTrees) → RestMeans forms → (draft : Draft)
    → OkGood (TopMeans env (worded name (bare_trees forms)) draft) (top_by found env start forms (tops_in forms) draft)
unfolding top_by
call_means name None spells env start forms rest draft = tt
call_means name (Some one) spells env start forms rest draft =
    subst
    (λ (n : List ℕ).
    OkGood (TopMeans env (worded n (bare_trees forms)) draft) (top_by (Some one) env start forms (tops_in forms) draft))
    (sym spells) (word_means one env start forms rest draft)

mutual
  unfolding top_at tops_in

  top_means : (f : FormTree) → StepMeans (bare_tree f) (top_at f)
  top_means (Group Round (also (Single (atom.Symbol name) begin end) forms) start last) env draft =
      call_means name (top_word name) (top_named name) env start forms (tops_mean forms).1 draft
  top_means (Single (atom.Symbol name) start last) env draft = tt
  top_means (Single (atom.Text text) start last) env draft = tt
  top_means (Single (atom.Pattern text) start last) env draft = tt
  top_means (Single (atom.Number number) start last) env draft = tt
  top_means (Single (atom.Keyword key) start last) env draft = tt
  top_means (Group Round none start last) env draft = tt
  top_means (Group Round (also (Single (atom.Text text) begin end) forms) start last) env draft = tt
  top_means (Group Round (also (Single (atom.Pattern text) begin end) forms) start last) env draft = tt
  top_means (Group Round (also (Single (atom.Number number) begin end) forms) start last) env draft = tt
  top_means (Group Round (also (Single (atom.Keyword key) begin end) forms) start last) env draft = tt
  top_means (Group Round (also (Group bracket inner begin end) forms) start last) env draft = tt
  top_means (Group Square forms start last) env draft = tt
  top_means (Group Curly forms start last) env draft = tt

  pub tops_mean : (forms : FormTrees) → RunMeans (bare_trees forms) (tops_in forms) × RestMeans forms
  tops_mean none = (no_run, tt)
  tops_mean (also f forms) = (
    more_run (bare_tree f) (bare_trees forms) (top_at f) (tops_in forms) (top_means f) (tops_mean forms).0,
    (tops_mean forms).0,
  )
