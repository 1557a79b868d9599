-- Which forks are due at a tick, in which order, and which end at it.
use Rattle.std.proofs.Common.{◌≡◌, ℕ, ◌+◌, ◌<◌, ◌≤◌, ◌==◌, Bool, true, false, not, ◌||◌, cond, nat_le, eqb, List, []}
use Rattle.std.proofs.Common.{◌∷◌, ◌++◌, map, filter, length, Option, Some, None, refl, sym, ap, ◌∙◌, subst, arith}
use mathlib.Core.Bool.{true≢false}
use Rattle.std.specs.Prelude.{IfSome}
use Rattle.std.specs.List.{AllByRecursion, IsDistinct, flat_map}
use Rattle.std.proofs.lemmas.Bool.Decides.{nat_tests}
use Rattle.ev_types.specs.declared.item.Output.{Output}
use Rattle.ev_types.specs.declared.value.Value.{Value}
use Rattle.fork_by.specs.declared.table.ForkTable.{ForkTable}
use Rattle.fork_by.specs.Table.{kept_forks, due_kept, fork_cleared, HasFork, IsTable}
use Rattle.fork_by.specs.Labels.{is_due_by}
use Rattle.fork_by.proofs.Laws.{forks_apart, forks_reached}
use Rattle.stream_plan.specs.Tree.{StreamTrees}
use Rattle.stream_meaning.specs.Deadlines.{until, plan_deadline}
use Rattle.stream_meaning.specs.DueLaws.{has_effects}
use Rattle.stream_meaning.specs.declared.entry.Entry.TheVariants.{Tick}
use Rattle.stream_meaning.specs.Ends.{idle_after}
use Rattle.stream_meaning.specs.History.{History, ◌▸◌, moment_of, is_at as falls_at}
use Rattle.stream_meaning.specs.Outputs.{Effect, Due, Given, due_if_any, outputs_among, due_among, given_among}
use Rattle.stream_meaning.specs.Outputs.{plan_effects}
use Rattle.stream_meaning.proofs.KeptEvents.{all-weaker}
use Rattle.stream_meaning.proofs.LiveLaws.{map_filter, filter_same}
use Rattle.stream_meaning.proofs.OutputLaws.{outputs_among-append}
use Rattle.stream_meaning.proofs.PlanDueLaws.{plan_ahead, plan_met}
use Rattle.stream_meaning.proofs.RootLaws.{plan_tick_rooted}
use Rattle.tick_schedule.proofs.QueueLaws.{is_by}
use Rattle.stream_tree.specs.declared.forest.Forest.{Forest}
use Rattle.stream_tree.specs.Ends.{has_ended, not_ended}
use Rattle.stream_tree.specs.Forest.{AreInRange, Meaning, nodes_of, keys_in, IsFork, ForksRepresent}
use Rattle.stream_tree.specs.Running.{fork_after, lives_on}
use Rattle.stream_tree.proofs.ForkLaws.{keys_stay}
use Rattle.stream_tree.proofs.KeptLaws.{Kept, numbers_of, keys_of_kept, has, or-true, eqb-is, all-both, all-to_map}
use Rattle.stream_tree.proofs.KeptLaws.{all-passed, chosen_apart, all-chosen_numbers, has_all, has_chosen, key_at}
use Rattle.stream_tree.proofs.KeptLaws.{keys_at}
use Rattle.stream_tree.proofs.KindLaws.{plan_ranges}
use Rattle.stream_tree.proofs.PerformLaws.{due-append, given-append}
use Rattle.stream_tree.proofs.StillLaws.{IsStill, plan_still}

-- ---- the forks that have effects

effect_none : (es : List Effect) → has_effects es ≡ false → due_if_any es ≡ []
effect_none [] e = refl
effect_none (first ∷ more) e = cc

effect_some : (es : List Effect) → has_effects es ≡ true → due_if_any es ≡ Due ∷ es
effect_some [] e = cc
effect_some (first ∷ more) e = refl

-- all effects of the forks are those of the chosen ones, by their numbers, if these are the ones that have some
pub due_in_order : (effects : List Value → List Effect) (key_of : ℕ → List Value) (p : Kept → Bool) (ks : List Kept) →
    AllByRecursion (λ k. key_of k.number ≡ k.key) ks →
    AllByRecursion (λ k. p k ≡ has_effects (effects k.key)) ks →
    flat_map (λ key. due_if_any (effects key)) (keys_of_kept ks)
    ≡ flat_map (λ n. Due ∷ effects (key_of n)) (numbers_of (filter p ks))
due_in_order effects key_of p [] keyed met = refl
due_in_order effects key_of p (k ∷ ks) keyed met = step (p k) met.0 (due_in_order effects key_of p ks keyed.1 met.1)
  where
    rest : List Effect
    rest = flat_map (λ key. due_if_any (effects key)) (keys_of_kept ks)

    chosen : List Kept
    chosen = filter p ks

    step : (b : Bool) → b ≡ has_effects (effects k.key) →
        rest ≡ flat_map (λ n. Due ∷ effects (key_of n)) (numbers_of chosen) →
        due_if_any (effects k.key) ++ rest
        ≡ flat_map (λ n. Due ∷ effects (key_of n)) (numbers_of (cond b (k ∷ chosen) chosen))
    step true e more =
        ap (λ (l : List Effect). l ++ rest) (effect_some (effects k.key) (sym e))
        ∙ ap (λ (key : List Value). (Due ∷ effects key) ++ rest) (sym keyed.0)
        ∙ ap (λ (l : List Effect). (Due ∷ effects (key_of k.number)) ++ l) more
    step false e more = ap (λ (l : List Effect). l ++ rest) (effect_none (effects k.key) (sym e)) ∙ more

-- ---- what is counted

-- forks that are entered as due ones count as forks to which something is given, and an entry each
pub entered_as_given : (effects : ℕ → List Effect) (ids : List ℕ) →
    (outputs_among (flat_map (λ n. Due ∷ effects n) ids) ≡ outputs_among (flat_map (λ n. Given ∷ effects n) ids))
    × (due_among (flat_map (λ n. Due ∷ effects n) ids) ≡ due_among (flat_map (λ n. Given ∷ effects n) ids) + length ids)
    × (due_among (flat_map (λ n. Due ∷ effects n) ids) + given_among (flat_map (λ n. Due ∷ effects n) ids)
    ≡ due_among (flat_map (λ n. Given ∷ effects n) ids) + given_among (flat_map (λ n. Given ∷ effects n) ids))
entered_as_given effects [] = (refl, omega arith, refl)
entered_as_given effects (id ∷ ids) =
    let rest = entered_as_given effects ids in
    let es = effects id in
    let d = flat_map (λ n. Due ∷ effects n) ids in
    let g = flat_map (λ n. Given ∷ effects n) ids in (
      outputs_among-append es d ∙ ap (λ (l : List Output). outputs_among es ++ l) rest.0
          ∙ sym (outputs_among-append es g),
      omega (arith, rest.1, due-append es d, due-append es g),
      omega (arith, rest.2, due-append es d, due-append es g, given-append es d, given-append es g),
    )

-- ---- when a fork is due

is_by_at : (now : ℕ) (deadline : Option ℕ) → IfSome deadline (λ moment. now < moment)
    → is_by (now + 1) deadline ≡ falls_at (now + 1) deadline
is_by_at now None ahead = refl
is_by_at now (Some moment) ahead = grind (arith, nat_tests)

-- at the next moment the deadline has come exactly where there are effects
pub due_if_effects : (plan : StreamTrees) (h : History) → AreInRange plan
    → is_by (moment_of h + 1) (plan_deadline plan h) ≡ has_effects (plan_effects plan (h ▸ Tick))
due_if_effects plan h ranges =
    let rs = plan_ranges plan ranges in
    is_by_at (moment_of h) (plan_deadline plan h) (plan_ahead plan h rs) ∙ sym (plan_met plan h rs)
    ∙ sym (plan_tick_rooted plan h)

-- ---- the moments that are kept

-- a deadline that the tick reaches is not cut off by the end of the fork
uncut : (now last : ℕ) (idle deadline : Option ℕ) → IfSome idle (λ secs. now < last + secs)
    → is_due_by (now + 1) (until (idle_after idle (Some last)) deadline) ≡ is_by (now + 1) deadline
uncut now last None None goes_on = refl
uncut now last None (Some deadline) goes_on = refl
uncut now last (Some secs) None goes_on = refl
uncut now last (Some secs) (Some deadline) goes_on = step (nat_le deadline (last + secs)) refl
  where
    late : (end : ℕ) → now < end → nat_le deadline end ≡ false → false ≡ nat_le deadline (now + 1)
    late end less e = grind (arith, nat_tests)

    step : (b : Bool) → nat_le deadline (last + secs) ≡ b
        → is_due_by (now + 1) (cond b (Some deadline) None) ≡ nat_le deadline (now + 1)
    step true e = refl
    step false e = late (last + secs) goes_on e

-- of a fork that has not ended before, the test for its end is met by the key
ends_now : (idle : Option ℕ) (now last : ℕ) → IfSome idle (λ secs. now < last + secs)
    → not (has_ended idle (now + 1) last) ≡ lives_on idle (now + 1) (Some last)
ends_now None now last goes_on = refl
ends_now (Some secs) now last goes_on = ap not (same now (last + secs) goes_on)
  where
    same : (now end : ℕ) → now < end → nat_le end (now + 1) ≡ (now + 1 == end)
    same now end less = grind (arith, nat_tests)

-- what has not ended goes on
goes_after : (idle : Option ℕ) (now last : ℕ) → not (has_ended idle now last) ≡ true
    → IfSome idle (λ secs. now < last + secs)
goes_after None now last e = tt
goes_after (Some secs) now last e = after now (last + secs) e
  where
    after : (now end : ℕ) → not (nat_le end now) ≡ true → now < end
    after now end e = grind (arith, nat_tests)

-- ---- a tick in the forks

module _ (streams : StreamTrees) (Means : Meaning) (idle : Option ℕ) (keys : List (List Value))
    (last : List Value → Option ℕ) (received : List Value → History)
    (now : ℕ) (ranges : AreInRange streams) (comes : (key : List Value) → moment_of (received key) + 1 ≡ now) where
  abbrev pub effects_of : List Value → List Effect
  effects_of key = plan_effects streams (received key ▸ Tick)

  abbrev pub tick_effects : List Effect
  tick_effects = flat_map (λ key. due_if_any (effects_of key)) keys

  abbrev pub Was : Kept → Type 0
  Was k = IsFork Means (plan_deadline streams) idle (last k.key) (received k.key) k

  abbrev pub is_due : Kept → Bool
  is_due k = is_due_by now k.due

  -- a fork that has effects is due, and no other one
  met : (k : Kept) → Was k → is_due k ≡ has_effects (effects_of k.key)
  met k was =
      let h = received k.key in
      ap (is_due_by now)
      (was.due_is ∙ ap (λ (l : Option ℕ). until (idle_after idle l) (plan_deadline streams h)) was.last_is)
      ∙ ap (λ (m : ℕ). is_due_by m (until (idle_after idle (Some k.moment)) (plan_deadline streams h)))
      (sym (comes k.key))
      ∙ uncut (moment_of h) k.moment idle (plan_deadline streams h) was.goes_on ∙ due_if_effects streams h ranges

  module _ (forks : ForkTable Forest)
      (represents : ForksRepresent Means (plan_deadline streams) idle keys last received forks) where
    abbrev pub first_forks : List Kept
    first_forks = kept_forks forks

    abbrev pub due_ones : List ℕ
    due_ones = due_kept now first_forks

    apart : IsDistinct eqb (numbers_of first_forks)
    apart = (forks_apart forks represents.is_table).numbers

    pub due_apart : IsDistinct eqb due_ones
    due_apart = chosen_apart is_due first_forks apart

    pub due_are_all : tick_effects ≡ flat_map (λ n. Due ∷ effects_of (key_at first_forks n)) due_ones
    due_are_all =
        ap (flat_map (λ key. due_if_any (effects_of key))) (sym represents.keys_are)
        ∙ due_in_order effects_of (key_at first_forks) is_due first_forks (keys_at first_forks apart)
        (all-weaker Was (λ k. is_due k ≡ has_effects (effects_of k.key)) met first_forks represents.each)

    -- if there are no effects nothing is due
    pub none_due : tick_effects ≡ [] → due_ones ≡ []
    none_due none = nothing due_ones (sym due_are_all ∙ none)
      where
        nothing : (ids : List ℕ) → flat_map (λ n. Due ∷ effects_of (key_at first_forks n)) ids ≡ [] → ids ≡ []
        nothing [] e = refl
        nothing (id ∷ ids) e = cc

    pub due_have_forks : (number : ℕ) → has number due_ones ≡ true → HasFork number forks
    due_have_forks number h =
        has_all (λ n. HasFork n forks) due_ones number
        (all-chosen_numbers (λ n. HasFork n forks) is_due first_forks
        (forks_reached forks represents.is_table)) h

  -- a fork on the way: those that are due and are left have not got the tick, and all others have
  pub record Halfway (key_of : ℕ → List Value) (left : List ℕ) (k : Kept) : Type 0 where
    pub keyed : key_of k.number ≡ k.key
    pub last_is : last k.key ≡ Some k.moment
    pub came : k.moment ≤ moment_of (received k.key)
    pub goes_on : IfSome idle (λ secs. moment_of (received k.key) < k.moment + secs)
    pub waiting : has k.number left ≡ true → Means (nodes_of k.fork) (received k.key)
    pub ticked : has k.number left ≡ false → Means (nodes_of k.fork) (received k.key ▸ Tick)
    pub due_is : has k.number left ≡ false
        → k.due ≡ until (idle_after idle (last k.key)) (plan_deadline streams (received k.key ▸ Tick))

  pub record DueRan (key_of : ℕ → List Value) (left : List ℕ) (forks : ForkTable Forest) : Type 0 where
    pub is_table : IsTable forks
    pub keys_are : keys_in forks ≡ keys
    pub has_forks : (number : ℕ) → has number left ≡ true → HasFork number forks
    pub each : AllByRecursion (Halfway key_of left) (kept_forks forks)

  nothing_happens : (es : List Effect) → has_effects es ≡ false → es ≡ []
  nothing_happens [] e = refl
  nothing_happens (first ∷ more) e = cc

  cleared_key : (k : Kept) → (fork_cleared now k).key ≡ k.key
  cleared_key k = step (is_due k)
    where
      step : (b : Bool) → (cond b (record k { due = None }) k).key ≡ k.key
      step true = refl
      step false = refl

  -- a fork once the due moments are cleared
  begins_one : IsStill Means (plan_effects streams) → (key_of : ℕ → List Value) (ids : List ℕ) (k : Kept) →
      Was k → key_of k.number ≡ k.key → has k.number ids ≡ is_due k → Halfway key_of ids (fork_cleared now k)
  begins_one still key_of ids k was keyed chosen = step (is_due k) refl
    where
      put : Bool → Kept
      put b = cond b (record k { due = None }) k

      step : (b : Bool) → is_due k ≡ b → Halfway key_of ids (fork_cleared now k)
      step true e =
          let there : has k.number ids ≡ true = chosen ∙ e in
          subst (Halfway key_of ids) (sym (ap put e)) (record {
            keyed = keyed;
            last_is = was.last_is;
            came = was.came;
            goes_on = was.goes_on;
            waiting = λ left. was.represents;
            ticked = λ done. absurd (true≢false (sym there ∙ done));
            due_is = λ done. absurd (true≢false (sym there ∙ done));
          })
      step false e =
          let absent : has k.number ids ≡ false = chosen ∙ e in
          let quiet : effects_of k.key ≡ [] = nothing_happens (effects_of k.key) (sym (met k was) ∙ e) in
          subst (Halfway key_of ids) (sym (ap put e)) (record {
            keyed = keyed;
            last_is = was.last_is;
            came = was.came;
            goes_on = was.goes_on;
            waiting = λ left. absurd (true≢false (sym left ∙ absent));
            ticked = λ done. still (nodes_of k.fork) (received k.key) was.represents quiet;
            due_is =
                λ done. was.due_is
                ∙ ap (until (idle_after idle (last k.key))) (sym (plan_still streams (received k.key) ranges quiet));
          })

  pub due_begins : IsStill Means (plan_effects streams) → (forks forks' : ForkTable Forest) →
      (represents : ForksRepresent Means (plan_deadline streams) idle keys last received forks) →
      IsTable forks' → kept_forks forks' ≡ map (fork_cleared now) (kept_forks forks) →
      ((other : ℕ) → HasFork other forks → HasFork other forks') →
      DueRan (key_at (kept_forks forks)) (due_kept now (kept_forks forks)) forks'
  due_begins still forks forks' represents is_table later has_on =
      let ks = kept_forks forks in
      let ids = due_kept now ks in
      let distinct = (forks_apart forks represents.is_table).numbers in
      let key_of = key_at ks in record {
        is_table = is_table;
        keys_are = ap keys_of_kept later ∙ keys_stay (fork_cleared now) ks cleared_key ∙ represents.keys_are;
        has_forks = λ number h. has_on number (due_have_forks forks represents number h);
        each =
            subst (AllByRecursion (Halfway key_of ids)) (sym later)
            (all-to_map (Halfway key_of ids) (fork_cleared now) ks
            (all-both Was (λ k. (key_of k.number ≡ k.key) × (has k.number ids ≡ is_due k))
            (λ k. Halfway key_of ids (fork_cleared now k))
            (λ k was own. begins_one still key_of ids k was own.0 own.1) ks represents.each
            (all-both (λ k. key_of k.number ≡ k.key) (λ k. has k.number ids ≡ is_due k)
            (λ k. (key_of k.number ≡ k.key) × (has k.number ids ≡ is_due k)) (λ k a b. (a, b)) ks (keys_at ks distinct)
            (has_chosen is_due ks distinct))));
      }

  -- one fork more has got the tick
  module _ (key_of : ℕ → List Value) (id : ℕ) (left : List ℕ) (fork : Forest) (gone : has id left ≡ false)
      (represents : Means (nodes_of fork) (received (key_of id) ▸ Tick)) where
    abbrev deadline : Option ℕ
    deadline = plan_deadline streams (received (key_of id) ▸ Tick)

    after_key : (k : Kept) → (fork_after idle id fork deadline k).key ≡ k.key
    after_key k = step (eqb k.number id)
      where
        step : (b : Bool)
            → (cond b (record k { fork = fork; due = until (idle_after idle (Some k.moment)) deadline }) k).key ≡ k.key
        step true = refl
        step false = refl

    one_more : (k : Kept) → Halfway key_of (id ∷ left) k → Halfway key_of left (fork_after idle id fork deadline k)
    one_more k half = step (eqb k.number id) refl
      where
        put : Bool → Kept
        put b = cond b (record k { fork = fork; due = until (idle_after idle (Some k.moment)) deadline }) k

        step : (b : Bool) → eqb k.number id ≡ b → Halfway key_of left (fork_after idle id fork deadline k)
        step true e =
            let is : k.number ≡ id = eqb-is k.number id e in
            let key_is : key_of id ≡ k.key = ap key_of (sym is) ∙ half.keyed in
            let absent : has k.number left ≡ false = ap (λ (n : ℕ). has n left) is ∙ gone in
            subst (Halfway key_of left) (sym (ap put e)) (record {
              keyed = half.keyed;
              last_is = half.last_is;
              came = half.came;
              goes_on = half.goes_on;
              waiting = λ there. absurd (true≢false (sym there ∙ absent));
              ticked =
                  λ done. subst (λ (key : List Value). Means (nodes_of fork) (received key ▸ Tick)) key_is represents;
              due_is =
                  λ done.
                  ap (λ (l : Option ℕ). until (idle_after idle l) deadline) (sym half.last_is)
                  ∙ ap (λ (key : List Value). until (idle_after idle (last k.key))
                  (plan_deadline streams (received key ▸ Tick))) key_is;
            })
        step false e =
            let same : has k.number (id ∷ left) ≡ has k.number left = ap (λ (b : Bool). b || has k.number left) e in
            subst (Halfway key_of left) (sym (ap put e)) (record {
              keyed = half.keyed;
              last_is = half.last_is;
              came = half.came;
              goes_on = half.goes_on;
              waiting = λ there. half.waiting (same ∙ there);
              ticked = λ done. half.ticked (same ∙ done);
              due_is = λ done. half.due_is (same ∙ done);
            })

    pub due_goes_on : (forks forks' : ForkTable Forest) →
        DueRan key_of (id ∷ left) forks → IsTable forks' →
        ((other : ℕ) → HasFork other forks → HasFork other forks') →
        kept_forks forks' ≡ map (fork_after idle id fork deadline) (kept_forks forks) →
        DueRan key_of left forks'
    due_goes_on forks forks' so_far is_table has_on kept =
        let ks = kept_forks forks in record {
          is_table = is_table;
          keys_are =
              ap keys_of_kept kept ∙ keys_stay (fork_after idle id fork deadline) ks after_key ∙ so_far.keys_are;
          has_forks =
              λ number h. has_on number (so_far.has_forks number (or-true (eqb number id) (has number left) h));
          each =
              subst (AllByRecursion (Halfway key_of left)) (sym kept)
              (all-to_map (Halfway key_of left) (fork_after idle id fork deadline) ks
              (all-weaker (Halfway key_of (id ∷ left))
              (λ k. Halfway key_of left (fork_after idle id fork deadline k)) one_more ks so_far.each));
        }

  -- all that are due have got the tick, and then those are dropped that end at it
  pub due_ends : (key_of : ℕ → List Value) (forks forks' : ForkTable Forest) → DueRan key_of [] forks →
      IsTable forks' → kept_forks forks' ≡ not_ended idle now (kept_forks forks) →
      ForksRepresent Means (plan_deadline streams) idle (filter (λ key. lives_on idle now (last key)) keys) last
      (λ key. received key ▸ Tick) forks'
  due_ends key_of forks forks' ran is_table kept =
      let ks = kept_forks forks in
      let stays = λ (k : Kept). not (has_ended idle now k.moment) in record {
        is_table = is_table;
        keys_are =
            ap keys_of_kept kept
            ∙ ap keys_of_kept
            (filter_same stays (λ k. lives_on idle now (last k.key)) ks
            (all-weaker (Halfway key_of []) (λ k. stays k ≡ lives_on idle now (last k.key))
            (λ k half.
            ap (λ (m : ℕ). not (has_ended idle m k.moment)) (sym (comes k.key))
            ∙ ends_now idle (moment_of (received k.key)) k.moment half.goes_on
            ∙ ap (λ (m : ℕ). lives_on idle m (Some k.moment)) (comes k.key)
            ∙ ap (lives_on idle now) (sym half.last_is)) ks ran.each))
            ∙ map_filter (λ (k : Kept). k.key) (λ key. lives_on idle now (last key)) ks
            ∙ ap (filter (λ key. lives_on idle now (last key))) ran.keys_are;
        each =
            subst
            (AllByRecursion
            (λ k. IsFork Means (plan_deadline streams) idle (last k.key) (received k.key ▸ Tick) k)) (sym kept)
            (all-passed (Halfway key_of [])
            (λ k. IsFork Means (plan_deadline streams) idle (last k.key) (received k.key ▸ Tick) k) stays
            (λ k half e. record {
              represents = half.ticked refl;
              last_is = half.last_is;
              due_is = half.due_is refl;
              came = let before = half.came in omega (arith, before);
              goes_on = subst (λ (m : ℕ). IfSome idle (λ secs. m < k.moment + secs)) (sym (comes k.key))
                  (goes_after idle now k.moment e);
            }) ks ran.each);
      }
