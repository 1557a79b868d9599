-- The forks of a `by`: the fork of a key, and an item that comes to it.
use Rattle.std.proofs.Common.{◌≡◌, ℕ, ◌+◌, ◌<◌, ◌≤◌, Bool, true, false, ◌&&◌, ◌==◌, cond, eqb, List, [], ◌∷◌, ◌++◌, map}
use Rattle.std.proofs.Common.{length, Option, Some, None, refl, sym, ap, ◌∙◌, subst, arith}
use mathlib.Core.Bool.{true≢false}
use Rattle.std.specs.Prelude.{IfSome}
use Rattle.std.specs.List.{AllByRecursion}
use Rattle.std.proofs.lemmas.Bool.{eq-eqb}
use Rattle.std.proofs.lemmas.List.{map-append}
use Rattle.list_laws.specs.Counts.{greatest}
use Rattle.ev_types.specs.declared.value.Value.{Value}
use Rattle.ev_types.specs.Key.{same_key}
use Rattle.fork_by.specs.declared.table.ForkTable.{ForkTable}
use Rattle.fork_by.specs.Table.{kept_forks, kept_number, fork_labels, fork_touched, AreApart, HasFork, IsTable}
use Rattle.fork_by.specs.Labels.{IsLatest}
use Rattle.fork_by.proofs.Laws.{forks_apart, keys_have_forks, latest_of_forks}
use Rattle.stream_plan.specs.Tree.{StreamTrees}
use Rattle.stream_meaning.specs.Branches.{with_key}
use Rattle.stream_meaning.specs.declared.entry.Entry.{Entry}
use Rattle.stream_meaning.specs.Deadlines.{until, plan_deadline}
use Rattle.stream_meaning.specs.Ends.{KeyFork, same_fork, idle_after}
use Rattle.stream_meaning.specs.Emission.{Branch, Children, Otherwise, Fork}
use Rattle.stream_meaning.specs.History.{History, ◌▸◌, moment_of, TicksAlone}
use Rattle.stream_meaning.specs.Laws.{is_among}
use Rattle.stream_meaning.proofs.EndLaws.{key_is, key_same}
use Rattle.stream_meaning.proofs.KeptEvents.{all-append, all-weaker}
use Rattle.stream_meaning.proofs.ForkLaws.{not_among-before}
use Rattle.stream_meaning.proofs.MetLaws.{and_false}
use Rattle.stream_tree.specs.declared.forest.Forest.{Forest}
use Rattle.stream_tree.specs.Forest.{Meaning, LiveKeys, key_fork, nodes_of, IsFork, ForksRepresent, ForestRepresents}
use Rattle.stream_tree.specs.Forks.{IsFound, FoundAt, Finds}
use Rattle.stream_tree.specs.Fresh.{ForestIsFresh}
use Rattle.stream_tree.specs.Running.{Received, FitsBranch, with_branch, UnseenHaveTicks, extended, fork_after, ForkRan}
use Rattle.stream_tree.proofs.KeptLaws.{Kept, Tied, keys_of_kept, all-both, all-to_map, all-front, all-last, apart_tied}
use Rattle.stream_tree.proofs.KeptLaws.{at_number, among_at, no_number, new_key}

abbrev Keys : Type 0
Keys = List (List Value)

with_key_known : (key : List Value) (keys : Keys) → is_among key keys ≡ true → with_key key keys ≡ keys
with_key_known key keys e = ap (λ (b : Bool). cond b keys (keys ++ key ∷ [])) e

with_key_new : (key : List Value) (keys : Keys) → is_among key keys ≡ false → with_key key keys ≡ keys ++ key ∷ []
with_key_new key keys e = ap (λ (b : Bool). cond b keys (keys ++ key ∷ [])) e

-- a change of forks that leaves their keys
pub keys_stay : (f : Kept → Kept) (ks : List Kept) → ((k : Kept) → (f k).key ≡ k.key)
    → keys_of_kept (map f ks) ≡ keys_of_kept ks
keys_stay f [] same = refl
keys_stay f (k ∷ ks) same =
    ap (λ (key : List Value). key ∷ keys_of_kept (map f ks)) (same k)
    ∙ ap (λ (keys : Keys). k.key ∷ keys) (keys_stay f ks same)

module _ (Means : Meaning) (deadline : History → Option ℕ) (idle : Option ℕ) (key : List Value) (now number : ℕ)
    (last : List Value → Option ℕ) (received : List Value → History) where
  abbrev Found : Kept → Type 0
  Found = IsFound Means deadline idle key now number last received

  abbrev Was : Kept → Type 0
  Was k = IsFork Means deadline idle (last k.key) (received k.key) k

  -- ---- a fork that is there

  touched_found : (k : Kept) → Tied key number k → Was k → Found (fork_touched number now k)
  touched_found k tied was = step (eqb k.number number) refl
    where
      put : Bool → Kept
      put b = cond b (record k { moment = now }) k

      step : (b : Bool) → eqb k.number number ≡ b → Found (fork_touched number now k)
      step true e =
          let same : same_key key k.key ≡ true = sym tied ∙ e in
          let is : key ≡ k.key = key_is key k.key same in
          subst Found (sym (ap put e)) (record {
            numbered = tied;
            here =
                λ at. (
                  subst (λ (other : List Value). Means (nodes_of k.fork) (received other)) (sym is) was.represents,
                  refl,
                );
            elsewhere = λ other. absurd (true≢false (sym same ∙ other));
          })
      step false e =
          let other : same_key key k.key ≡ false = sym tied ∙ e in
          subst Found (sym (ap put e)) (record {
            numbered = tied;
            here = λ at. absurd (true≢false (sym at ∙ other));
            elsewhere = λ other. was;
          })

  touched_key : (k : Kept) → (fork_touched number now k).key ≡ k.key
  touched_key k = step (eqb k.number number)
    where
      step : (b : Bool) → (cond b (record k { moment = now }) k).key ≡ k.key
      step true = refl
      step false = refl

  -- ---- a fork that is made

  waits : (k : Kept) → Tied key number k → same_key key k.key ≡ false → Was k → Found k
  waits k tied other was = record {
    numbered = tied;
    here = λ at. absurd (true≢false (sym at ∙ other));
    elsewhere = λ other. was;
  }

came_by : (Means : Meaning) (deadline : History → Option ℕ) (idle : Option ℕ) (last : List Value → Option ℕ)
    (received : List Value → History) (now : ℕ) → ((other : List Value) → moment_of (received other) ≤ now) →
    (ks : List Kept) →
    AllByRecursion (λ k. IsFork Means deadline idle (last k.key) (received k.key) k) ks →
    AllByRecursion (λ (k : Kept). k.moment ≤ now) ks
came_by Means deadline idle last received now past ks all =
    all-weaker (λ k. IsFork Means deadline idle (last k.key) (received k.key) k) (λ (k : Kept). k.moment ≤ now)
    (λ k is. let at = past k.key in omega (arith, is.came, at)) ks all

-- a fork that is there
pub found_known : (streams : StreamTrees) (first start now : ℕ) (key : List Value) (forks forks' : ForkTable Forest)
    (number : ℕ) →
    (IsTable forks → Some number ≡ kept_number key (kept_forks forks)) →
    (IsTable forks → HasFork number forks) →
    (IsLatest now (fork_labels forks) → kept_forks forks' ≡ map (fork_touched number now) (kept_forks forks)) →
    (IsTable forks → IsTable forks') →
    ((other : ℕ) → HasFork other forks → HasFork other forks') →
    Finds streams first start now key forks forks' number
found_known streams first start now key forks forks' number found has touched table still texts idle keys last received
    can represents unseen begins past =
    let Means : Meaning = ForestRepresents texts streams in
    let deadline = plan_deadline streams in
    let ks = kept_forks forks in
    let is_table = represents.is_table in
    let latest =
    touched
    (latest_of_forks forks is_table now (came_by Means deadline idle last received now past ks represents.each)) in
    let own = keys_have_forks forks is_table key number (sym (found is_table)) in
    let there =
    at_number (λ one. AllByRecursion (Tied one.key one.number) ks) number ks own.kept
    (apart_tied ks (forks_apart forks is_table)) own.at in
    let tied : AllByRecursion (Tied key number) ks =
    subst (λ (k : List Value). AllByRecursion (Tied k number) ks) own.of_key
    (subst (λ (n : ℕ). AllByRecursion (Tied own.kept.key n) ks) there.1 there.0) in
    let among : is_among key keys ≡ true =
    subst (λ (k : List Value). is_among k keys ≡ true) own.of_key
    (subst (λ (l : Keys). is_among own.kept.key l ≡ true) represents.keys_are (among_at number ks own.kept own.at)) in
    record {
      is_table = table is_table;
      has_fork = still number (has is_table);
      keys_are =
          ap keys_of_kept latest
          ∙ keys_stay (fork_touched number now) ks (touched_key Means deadline idle key now number last received)
          ∙ represents.keys_are ∙ sym (with_key_known key keys among);
      each =
          subst (AllByRecursion (IsFound Means deadline idle key now number last received)) (sym latest)
          (all-to_map (IsFound Means deadline idle key now number last received) (fork_touched number now) ks
          (all-both (Tied key number) (λ k. IsFork Means deadline idle (last k.key) (received k.key) k)
          (λ k. IsFound Means deadline idle key now number last received (fork_touched number now k))
          (touched_found Means deadline idle key now number last received) ks tied represents.each));
    }

-- a fork that is made
pub found_new : (streams : StreamTrees) (first start now next : ℕ) (key : List Value) (forks forks' : ForkTable Forest)
    (fork : Forest) (number : ℕ) →
    (IsTable forks → None ≡ kept_number key (kept_forks forks)) →
    ForestIsFresh streams start first next (nodes_of fork) →
    (IsTable forks → IsLatest now (fork_labels forks) →
    kept_forks forks'
    ≡ kept_forks forks ++ record { key = key; number = number; fork = fork; moment = now; due = None } ∷ []) →
    (IsTable forks → IsTable forks') →
    (IsTable forks → HasFork number forks') →
    Finds streams first start now key forks forks' number
found_new streams first start now next key forks forks' fork number absent fresh added table has texts idle keys last
    received can represents unseen begins past =
    let Means : Meaning = ForestRepresents texts streams in
    let deadline = plan_deadline streams in
    let ks = kept_forks forks in
    let is_table = represents.is_table in
    let new : Kept = record { key = key; number = number; fork = fork; moment = now; due = None } in
    let list_is : kept_forks forks' ≡ ks ++ new ∷ [] =
    added is_table
    (latest_of_forks forks is_table now (came_by Means deadline idle last received now past ks represents.each)) in
    let none : kept_number key ks ≡ None = sym (absent is_table) in
    let among : is_among key keys ≡ false =
    subst (λ (l : Keys). is_among key l ≡ false) represents.keys_are (new_key key ks none) in
    let tied : AllByRecursion (Tied key number) (ks ++ new ∷ []) =
    all-last (λ one. AllByRecursion (Tied one.key one.number) (ks ++ new ∷ [])) ks new
    (apart_tied (ks ++ new ∷ []) (subst AreApart list_is (forks_apart forks' (table is_table)))) in
    let made : Means (nodes_of fork) (received key) =
    subst (λ (ts : List (List ℕ)). ForestRepresents ts streams (nodes_of fork) (received key)) (sym can.among)
    (fresh.represents can.before can.after true (received key) (unseen among) begins can.in_range can.endless can.begins
    (subst (λ (ts : List (List ℕ)). length ts ≤ greatest) can.among can.few)) in
    let there : IsFound Means deadline idle key now number last received new = record {
      numbered = all-last (Tied key number) ks new tied;
      here = λ same. (made, refl);
      elsewhere = λ other. absurd (true≢false (sym (key_same key key refl) ∙ other));
    } in
    let others : AllByRecursion (IsFound Means deadline idle key now number last received) ks =
    all-both (λ k. Tied key number k × (same_key key k.key ≡ false))
    (λ k. IsFork Means deadline idle (last k.key) (received k.key) k)
    (IsFound Means deadline idle key now number last received)
    (λ k apart was. waits Means deadline idle key now number last received k apart.0 apart.1 was) ks
    (all-both (Tied key number) (λ k. same_key key k.key ≡ false)
    (λ k. Tied key number k × (same_key key k.key ≡ false)) (λ k a b. (a, b)) ks
    (all-front (Tied key number) ks (new ∷ []) tied)
    (no_number key ks none))
    represents.each in
    record {
      is_table = table is_table;
      has_fork = has is_table;
      keys_are =
          ap keys_of_kept list_is ∙ map-append (λ (k : Kept). k.key) ks (new ∷ [])
          ∙ ap (λ (l : Keys). l ++ key ∷ []) represents.keys_are ∙ sym (with_key_new key keys among);
      each =
          subst (AllByRecursion (IsFound Means deadline idle key now number last received)) (sym list_is)
          (all-append (IsFound Means deadline idle key now number last received) ks (new ∷ []) others (there, tt));
    }

-- ---- an item comes to the fork of a key

module _ (texts : List (List ℕ)) (streams : StreamTrees) (idle : Option ℕ) (key : List Value) (now : ℕ) (keys : Keys)
    (last last' : List Value → Option ℕ) (received received' : List Value → History)
    (forks forks' : ForkTable Forest) (number : ℕ) (h : History)
    (lasts : IfSome idle (λ secs. 0 < secs)) (comes : moment_of h ≡ now)
    (got : (k : List Value) → same_key key k ≡ true → received' k ≡ h)
    (others : (k : List Value) → same_key key k ≡ false → received' k ≡ received k)
    (came : (k : List Value) → same_key key k ≡ true → last' k ≡ Some now)
    (others_came : (k : List Value) → same_key key k ≡ false → last' k ≡ last k) where
  abbrev Means : Meaning
  Means = ForestRepresents texts streams

  abbrev deadline : History → Option ℕ
  deadline = plan_deadline streams

  after_key : (fork : Forest) (dl : Option ℕ) (k : Kept) → (fork_after idle number fork dl k).key ≡ k.key
  after_key fork dl k = step (eqb k.number number)
    where
      step : (b : Bool)
          → (cond b (record k { fork = fork; due = until (idle_after idle (Some k.moment)) dl }) k).key ≡ k.key
      step true = refl
      step false = refl

  goes : (idle : Option ℕ) → IfSome idle (λ secs. 0 < secs) → (g : History) (moment : ℕ) → moment_of g ≡ now
      → moment ≡ now
      → IfSome idle (λ secs. moment_of g < moment + secs)
  goes None lasts g moment at is = tt
  goes (Some secs) lasts g moment at is = omega (arith, lasts, at, is)

  now_after : (fork : Forest) → Means (nodes_of fork) h → (k : Kept) →
      IsFound Means deadline idle key now number last received k →
      IsFork Means deadline idle (last' k.key) (received' k.key) (fork_after idle number fork (deadline h) k)
  now_after fork represents k found = step (same_key key k.key) refl
    where
      put : Bool → Kept
      put b = cond b (record k { fork = fork; due = until (idle_after idle (Some k.moment)) (deadline h) }) k

      step : (b : Bool) → same_key key k.key ≡ b
          → IsFork Means deadline idle (last' k.key) (received' k.key) (fork_after idle number fork (deadline h) k)
      step true e =
          let here = found.here e in
          let gets : received' k.key ≡ h = got k.key e in
          let last_is : last' k.key ≡ Some k.moment = came k.key e ∙ ap Some (sym here.1) in
          let at : moment_of (received' k.key) ≡ now = ap moment_of gets ∙ comes in
          subst (IsFork Means deadline idle (last' k.key) (received' k.key))
          (sym (ap put (found.numbered ∙ e))) (record {
            represents = subst (Means (nodes_of fork)) (sym gets) represents;
            last_is = last_is;
            due_is =
                ap (λ (l : Option ℕ). until (idle_after idle l) (deadline h)) (sym last_is)
                ∙ ap (λ (g : History). until (idle_after idle (last' k.key)) (deadline g)) (sym gets);
            came = omega (arith, at, here.1);
            goes_on = goes idle lasts (received' k.key) k.moment at here.1;
          })
      step false e =
          subst (IsFork Means deadline idle (last' k.key) (received' k.key)) (sym (ap put (found.numbered ∙ e)))
          (subst (λ (l : Option ℕ). IsFork Means deadline idle l (received' k.key) k) (sym (others_came k.key e))
          (subst (λ (g : History). IsFork Means deadline idle (last k.key) g k) (sym (others k.key e))
          (found.elsewhere e)))

  pub fork_goes_on : FoundAt texts streams idle key now keys last received forks number →
      ForkRan texts streams idle number forks forks' h →
      ForksRepresent Means deadline idle (with_key key keys) last' received' forks'
  fork_goes_on found ran =
      let ks = kept_forks forks in
      let after = fork_after idle number ran.fork (deadline h) in record {
        is_table = ran.is_table;
        keys_are =
            ap keys_of_kept ran.kept ∙ keys_stay after ks (after_key ran.fork (deadline h)) ∙ found.keys_are;
        each =
            subst (AllByRecursion (λ k. IsFork Means deadline idle (last' k.key) (received' k.key) k)) (sym ran.kept)
            (all-to_map (λ k. IsFork Means deadline idle (last' k.key) (received' k.key) k) after ks
            (all-weaker (IsFound Means deadline idle key now number last received)
            (λ k. IsFork Means deadline idle (last' (after k).key) (received' (after k).key) (after k))
            (λ k is. subst
            (λ (other : List Value). IsFork Means deadline idle (last' other) (received' other) (after k))
            (sym (after_key ran.fork (deadline h) k))
            (now_after ran.fork ran.represents k is)) ks found.each));
      }

-- the forks of keys, and one entry for one of them
module _ (live : LiveKeys) (key : List Value) (number : ℕ) (own : number ≡ live.ended key) (x : Entry)
    (received : Received) where
  abbrev new_fork : KeyFork
  new_fork = record { key = key; number = number }

  pub extended_here : (k : List Value) → same_key key k ≡ true →
      extended (Fork (record { key = key; number = number })) x received (key_fork live k)
      ≡ received (Fork (record { key = key; number = number })) ▸ x
  extended_here k same =
      let is : key ≡ k = key_is key k same in
      let fork_is : key_fork live k ≡ Fork new_fork =
      ap (key_fork live) (sym is) ∙ ap (λ (n : ℕ). Fork (record { key = key; number = n })) (sym own) in
      let yes : same_fork new_fork new_fork ≡ true =
      ap (λ (b : Bool). b && same_key key key) (eq-eqb number number refl) ∙ key_same key key refl in
      ap (extended (Fork new_fork) x received) fork_is
      ∙ ap (λ (b : Bool). cond b (received (Fork new_fork) ▸ x) (received (Fork new_fork))) yes

  pub extended_elsewhere : (k : List Value) → same_key key k ≡ false →
      extended (Fork (record { key = key; number = number })) x received (key_fork live k) ≡ received (key_fork live k)
  extended_elsewhere k other =
      let unlike : same_fork new_fork (record { key = k; number = live.ended k }) ≡ false =
      ap (λ (b : Bool). number == live.ended k && b) other ∙ and_false (number == live.ended k) in
      ap (λ (b : Bool). cond b (received (key_fork live k) ▸ x) (received (key_fork live k))) unlike

-- a fork that is not there still has ticks alone
pub unseen_goes_on : (shape : Option (Option ℕ)) (now : ℕ) (branch : Branch) (x : Entry) (live : LiveKeys)
    (received : Received) → FitsBranch shape live.ended branch →
    UnseenHaveTicks shape live received →
    UnseenHaveTicks shape (with_branch now branch live) (extended branch x received)
unseen_goes_on None now branch x live received fits unseen = tt
unseen_goes_on (Some idle) now Children x live received fits unseen = absurd fits
unseen_goes_on (Some idle) now Otherwise x live received fits unseen = absurd fits
unseen_goes_on (Some idle) now (Fork new) x live received fits unseen = λ key absent.
    let parts = not_among-before key new.key live.keys absent in
    subst (λ (h : History). TicksAlone h)
    (sym (extended_elsewhere live new.key new.number fits x received key parts.1)) (unseen key parts.0)

pub unseen_fits : (shape : Option (Option ℕ)) (live : LiveKeys) (received : Received) (key : List Value) (number : ℕ) →
    FitsBranch shape live.ended (Fork (record { key = key; number = number })) → UnseenHaveTicks shape live received →
    is_among key live.keys ≡ false → TicksAlone (received (key_fork live key))
unseen_fits None live received key number fits unseen = absurd fits
unseen_fits (Some idle) live received key number fits unseen = unseen key
