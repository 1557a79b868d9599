-- A tick on its way along the forks that are due.
use Rattle.std.proofs.Common.{◌≡◌, ℕ, zero, suc, ◌+◌, ◌<◌, ◌≤◌, Bool, true, false, ◌||◌, List, [], ◌∷◌, ◌++◌, map}
use Rattle.std.proofs.Common.{length, take, drop, get_or, eqb, Option, refl, sym, ap, ◌∙◌, subst, arith}
use Rattle.std.specs.List.{IsDistinct, flat_map}
use Rattle.std.proofs.lemmas.List.{append-nil, drop_more, drop_all, take_more, take_all, take-append-drop}
use Rattle.std.proofs.lemmas.Grind.{flat_map-append, get_or_default_zero}
use Rattle.ev_types.specs.declared.item.Output.{Output}
use Rattle.ev_types.specs.declared.value.Value.{Value}
use Rattle.fork_by.specs.declared.table.ForkTable.{ForkTable}
use Rattle.fork_by.specs.Table.{kept_forks, fork_labels, fork_cleared, due_kept, HasFork, IsTable}
use Rattle.fork_by.specs.Labels.{due_numbers}
use Rattle.step_count.specs.Count.{StepCount}
use Rattle.pred_eval.specs.Search.{AreReadFrom}
use Rattle.regex.specs.declared.string.regex.Regex.{Regex}
use Rattle.stream_plan.specs.Nesting.{AllEndOutermost}
use Rattle.stream_plan.specs.Tree.{StreamTrees}
use Rattle.stream_meaning.specs.declared.entry.Entry.TheVariants.{Tick}
use Rattle.stream_meaning.specs.Deadlines.{plan_deadline}
use Rattle.stream_meaning.specs.History.{History, ◌▸◌, moment_of}
use Rattle.stream_meaning.specs.Outputs.{Effect, Due, Given, due_if_any, outputs_among, plan_effects}
use Rattle.stream_meaning.proofs.KeptEvents.{all-weaker}
use Rattle.stream_tree.specs.declared.forest.Forest.{Forest}
use Rattle.stream_tree.specs.Ends.{not_ended}
use Rattle.stream_tree.specs.Forest.{Meaning, LiveKeys, nodes_of, AreInRange, ForksRepresent, ForestRepresents}
use Rattle.stream_tree.specs.Running.{ComesAt, ForkRuns, ForkStops, DueRuns, DueStops, ForkComes}
use Rattle.stream_tree.specs.Tree.{Performs, PerformsPart}
use Rattle.stream_tree.proofs.DueLaws.{entered_as_given, due_are_all, due_apart, none_due, Halfway, DueRan, due_begins}
use Rattle.stream_tree.proofs.DueLaws.{due_goes_on, due_ends}
use Rattle.stream_tree.proofs.KeptLaws.{Kept, has, eqb-is, eqb-self, has_rest, distinct_rest, key_at}
use Rattle.stream_tree.proofs.PerformLaws.{extends_none, grew_none, grew_then, part_more, part_then}
use Rattle.stream_tree.proofs.StillLaws.{forest_still}

get_more : (ids : List ℕ) (i id : ℕ) → i < length ids → id ≡ get_or ids i id → drop i ids ≡ id ∷ drop (i + 1) ids
get_more ids i id within is = drop_more ids i id within ∙ ap (λ (n : ℕ). n ∷ drop (i + 1) ids) (sym is)

distinct_drop : (i : ℕ) (ids : List ℕ) → IsDistinct eqb ids → IsDistinct eqb (drop i ids)
distinct_drop zero ids distinct = distinct
distinct_drop (suc i) [] distinct = distinct
distinct_drop (suc i) (id ∷ ids) distinct = distinct_drop i ids (distinct_rest id ids distinct)

-- ---- effects of numbers

flat_more : (f : ℕ → List Effect) (ids : List ℕ) (i id : ℕ) → i < length ids → id ≡ get_or ids i id
    → flat_map f (take i ids) ++ f id ≡ flat_map f (take (i + 1) ids)
flat_more f ids i id within is =
    ap (λ (l : List Effect). flat_map f (take i ids) ++ l) (sym (append-nil (f id)))
    ∙ sym (flat_map-append f (take i ids) (id ∷ []))
    ∙ ap (λ (n : ℕ). flat_map f (take i ids ++ n ∷ [])) is
    ∙ ap (flat_map f) (sym (take_more ids i id within))

flat_whole : (f : ℕ → List Effect) (ids : List ℕ) (i : ℕ)
    → flat_map f (take i ids) ++ flat_map f (drop i ids) ≡ flat_map f ids
flat_whole f ids i = sym (flat_map-append f (take i ids) (drop i ids)) ∙ ap (flat_map f) (take-append-drop i ids)

module _ {G : Type 0} (patterns : List Regex) (start moment : ℕ) (a : List Output) (t t' : StepCount G)
    (streams : StreamTrees) (idle : Option ℕ) (first : ForkTable Forest) where
  abbrev pub numbers : List ℕ
  numbers = due_numbers moment (fork_labels first)

  -- what the table says of them
  abbrev pub AreDue : Type 0
  AreDue = IsTable first → numbers ≡ due_kept moment (kept_forks first)

  abbrev pub key_of : ℕ → List Value
  key_of = key_at (kept_forks first)

  abbrev pub Comes : (List Value → History) → Type 0
  Comes received = (key : List Value) → ComesAt start moment (received key) Tick

  pub now : (received : List Value → History) → Comes received → (key : List Value)
      → moment_of (received key) + 1 ≡ moment
  now received comes key = (comes key).comes

  abbrev effects_at : (List Value → History) → ℕ → List Effect
  effects_at received n = plan_effects streams (received (key_of n) ▸ Tick)

  abbrev pub Given_to : (List Value → History) → List ℕ → List Effect
  Given_to received ids = flat_map (λ n. Given ∷ effects_at received n) ids

  abbrev Due_in : (List Value → History) → List ℕ → List Effect
  Due_in received ids = flat_map (λ n. Due ∷ effects_at received n) ids

  abbrev Represents : List (List ℕ) → LiveKeys → (List Value → History) → ForkTable Forest → Type 0
  Represents texts live received forks =
      ForksRepresent (ForestRepresents texts streams) (plan_deadline streams) idle live.keys live.last received forks

  abbrev Ran : List (List ℕ) → (live : LiveKeys) (received : List Value → History) → AreInRange streams →
      Comes received → List ℕ → ForkTable Forest → Type 0
  Ran texts live received ranges comes left forks =
      DueRan streams (ForestRepresents texts streams) idle live.keys live.last received moment ranges
      (now received comes) key_of left forks

  -- the forks of the first i numbers have got the tick; the steps are counted from those on at which the numbers were
  -- taken
  abbrev pub LoopRan : ℕ → ForkTable Forest → List Output → StepCount G → Type 0
  LoopRan i forks b u =
      (texts : List (List ℕ)) (live : LiveKeys) (received : List Value → History)
      (from : AreReadFrom texts patterns) (ranges : AreInRange streams) (endless : AllEndOutermost true streams)
      (represents : Represents texts live received first) (comes : Comes received) →
      Ran texts live received ranges comes (drop i numbers) forks
      × Performs a t' b u (Given_to received (take i numbers))

  module _ (are_due : AreDue) (texts : List (List ℕ)) (live : LiveKeys) (received : List Value → History)
      (ranges : AreInRange streams) (comes : Comes received) (represents : Represents texts live received first) where
    chosen : numbers ≡ due_kept moment (kept_forks first)
    chosen = are_due represents.is_table

    numbers_apart : IsDistinct eqb numbers
    numbers_apart =
        subst (IsDistinct eqb) (sym chosen)
        (due_apart streams (ForestRepresents texts streams) idle live.keys live.last received moment ranges
        (now received comes) first represents)

    all_due : flat_map (λ key. due_if_any (plan_effects streams (received key ▸ Tick))) live.keys
        ≡ Due_in received numbers
    all_due =
        due_are_all streams (ForestRepresents texts streams) idle live.keys live.last received moment ranges
        (now received comes) first represents
        ∙ ap (Due_in received) (sym chosen)

    no_numbers : flat_map (λ key. due_if_any (plan_effects streams (received key ▸ Tick))) live.keys ≡ [] → numbers ≡ []
    no_numbers none =
        chosen
        ∙ none_due streams (ForestRepresents texts streams) idle live.keys live.last received moment ranges
        (now received comes) first represents none

  pub loop_begins : AreDue → (forks : ForkTable Forest) → (IsTable first → IsTable forks)
      → kept_forks forks ≡ map (fork_cleared moment) (kept_forks first)
      → ((other : ℕ) → HasFork other first → HasFork other forks) → LoopRan 0 forks a t'
  loop_begins are_due forks table later has_on texts live received from ranges endless represents comes = (
    subst (λ (ids : List ℕ). Ran texts live received ranges comes ids forks)
        (sym (chosen are_due texts live received ranges comes represents))
        (due_begins streams (ForestRepresents texts streams) idle live.keys live.last received moment ranges
        (now received comes) (λ nodes h here none. forest_still texts streams nodes h endless here none) first forks
        represents
        (table represents.is_table) later has_on),
    grew_none a t',
  )

  -- the next fork represents what it has received
  fork_next : (texts : List (List ℕ)) (live : LiveKeys) (received : List Value → History)
      (ranges : AreInRange streams) (comes : Comes received) (i id : ℕ) (forks : ForkTable Forest) →
      i < length numbers → id ≡ get_or numbers i id →
      Ran texts live received ranges comes (drop i numbers) forks →
      ForkComes start moment texts streams id forks (received (key_of id)) Tick
  fork_next texts live received ranges comes i id forks within is ran =
      let Means : Meaning = ForestRepresents texts streams in
      let here : has id (drop i numbers) ≡ true =
      ap (has id) (get_more numbers i id within is)
      ∙ ap (λ (b : Bool). b || has id (drop (i + 1) numbers)) (eqb-self id) in record {
        is_table = ran.is_table;
        has_fork = ran.has_forks id here;
        fork =
            all-weaker
            (Halfway streams Means idle live.keys live.last received moment ranges (now received comes) key_of
            (drop i numbers))
            (λ (k : Kept). eqb k.number id ≡ true → Means (nodes_of k.fork) (received (key_of id)))
            (λ k half same.
            let own : k.number ≡ id = eqb-is k.number id same in
            subst (λ (key : List Value). Means (nodes_of k.fork) (received key))
            (sym half.keyed ∙ ap key_of own)
            (half.waiting (ap (λ (n : ℕ). has n (drop i numbers)) own ∙ here)))
            (kept_forks forks) ran.each;
        comes = comes (key_of id);
      }

  pub loop_more : AreDue → (i id : ℕ) (forks forks' : ForkTable Forest) (b c : List Output) (u v : StepCount G) →
      i < length numbers → id ≡ get_or numbers i id → LoopRan i forks b u →
      ForkRuns patterns start moment b u c v Tick streams idle id forks forks' → LoopRan (i + 1) forks' c v
  loop_more are_due i id forks forks' b c u v within is so_far runs texts live received from ranges endless represents
      comes =
      let before = so_far texts live received from ranges endless represents comes in
      let Means : Meaning = ForestRepresents texts streams in
      let at = fork_next texts live received ranges comes i id forks within is before.0 in
      let ran = runs texts (received (key_of id)) from at in
      let left : drop i numbers ≡ id ∷ drop (i + 1) numbers = get_more numbers i id within is in
      let gone : has id (drop (i + 1) numbers) ≡ false =
      has_rest id (drop (i + 1) numbers)
      (subst (IsDistinct eqb) left
      (distinct_drop i numbers (numbers_apart are_due texts live received ranges comes represents))) in
      let reported : Given_to received (take i numbers) ++ (Given ∷ effects_at received id)
      ≡ Given_to received (take (i + 1) numbers) =
      flat_more (λ n. Given ∷ effects_at received n) numbers i id within is in (
        due_goes_on streams Means idle live.keys live.last received moment ranges (now received comes) key_of id
            (drop (i + 1) numbers) ran.0.fork gone ran.0.represents forks forks'
            (subst (λ (l : List ℕ). Ran texts live received ranges comes l forks) left before.0)
            ran.0.is_table ran.0.has_forks ran.0.kept,
        subst (λ (hs : List Effect). Performs a t' c v hs) reported
            (grew_then a b c t' u v (Given_to received (take i numbers)) (Given ∷ effects_at received id) before.1
            ran.1),
      )

  -- the steps at which the numbers were taken
  pub record Taken : Type 0 where
    pub forks : t'.forks ≡ t.forks
    pub entries : t'.entries ≡ t.entries + length numbers
    pub began : t'.began ≡ t.began

  -- what was performed since then is all that was performed
  all_performed : (received : List Value → History) (b : List Output) (u : StepCount G) →
      Taken → Performs a t' b u (Given_to received numbers) → Performs a t b u (Due_in received numbers)
  all_performed received b u taken p =
      let counts = entered_as_given (effects_at received) numbers in record {
        outputs = p.outputs ∙ ap (λ (l : List Output). a ++ l) (sym counts.0);
        forks = omega (arith, p.forks, taken.forks, counts.2);
        entries = omega (arith, p.entries, taken.entries, counts.1);
        began = p.began ∙ taken.began;
      }

  part_performed : (received : List Value → History) (b : List Output) (u : StepCount G) →
      Taken → PerformsPart a t' b u (Given_to received numbers) → PerformsPart a t b u (Due_in received numbers)
  part_performed received b u taken p =
      let counts = entered_as_given (effects_at received) numbers in record {
        begins = p.begins;
        within = (p.within.0, ap (λ (l : List Output). a ++ l) counts.0 ∙ p.within.1);
        forks = omega (arith, p.forks, taken.forks, counts.2);
        entries = omega (arith, p.entries, taken.entries, counts.1);
        no_fewer_forks = omega (arith, p.no_fewer_forks, taken.forks);
        no_fewer_entries = omega (arith, p.no_fewer_entries, taken.entries);
        began = p.began ∙ taken.began;
      }

  -- all have got the tick, and those are dropped that end at it
  pub loop_ends : AreDue → (i : ℕ) (forks forks' : ForkTable Forest) (b : List Output) (u : StepCount G)
      → length numbers ≤ i → Taken → LoopRan i forks b u
      → (IsTable forks → kept_forks forks' ≡ not_ended idle moment (kept_forks forks))
      → (IsTable forks → IsTable forks')
      → DueRuns patterns start moment a t b u streams idle first forks'
  loop_ends are_due i forks forks' b u past taken so_far dropped table texts live received from ranges endless
      represents comes =
      let Means : Meaning = ForestRepresents texts streams in
      let ran = so_far texts live received from ranges endless represents comes in (
        due_ends streams Means idle live.keys live.last received moment ranges (now received comes) key_of forks forks'
            (subst (λ (l : List ℕ). Ran texts live received ranges comes l forks) (drop_all i numbers past) ran.0)
            (table ran.0.is_table) (dropped ran.0.is_table),
        subst (λ (hs : List Effect). Performs a t b u hs)
            (sym (all_due are_due texts live received ranges comes represents))
            (all_performed received b u taken
            (subst (λ (l : List ℕ). Performs a t' b u (Given_to received l)) (take_all i numbers past) ran.1)),
      )

  pub loop_stops : AreDue → (i id : ℕ) (forks : ForkTable Forest) (b c : List Output) (u v : StepCount G)
      → i < length numbers →
      id ≡ get_or numbers i id → Taken → LoopRan i forks b u →
      ForkStops patterns start moment b u c v Tick streams id forks →
      DueStops patterns start moment a t c v streams idle first
  loop_stops are_due i id forks b c u v within is taken so_far stops texts live received from ranges endless represents
      comes =
      let before = so_far texts live received from ranges endless represents comes in
      let at = fork_next texts live received ranges comes i id forks within is before.0 in
      let stop = stops texts (received (key_of id)) from at in
      let f = λ (n : ℕ). Given ∷ effects_at received n in
      let rest = flat_map f (drop (i + 1) numbers) in
      let whole : (Given_to received (take i numbers) ++ f id) ++ rest ≡ Given_to received numbers =
      ap (λ (l : List Effect). l ++ rest) (flat_more f numbers i id within is)
      ∙ flat_whole f numbers (i + 1) in record {
        part =
            subst (λ (hs : List Effect). PerformsPart a t c v hs)
            (sym (all_due are_due texts live received ranges comes represents))
            (part_performed received c v taken
            (subst (λ (hs : List Effect). PerformsPart a t' c v hs) whole
            (part_more a c t' v (Given_to received (take i numbers) ++ f id) rest
            (part_then a b c t' u v (Given_to received (take i numbers)) (f id) before.1 stop))));
        busy = λ tick none.
            let no_number : numbers ≡ [] = no_numbers are_due texts live received ranges comes represents none in
            let few : i < 0 = subst (λ (l : List ℕ). i < length l) no_number within in absurd (omega (arith, few));
      }

  -- the numbers were not taken
  pub due_stop : AreDue → (steps : StepCount G) → steps.forks ≡ t.forks → steps.entries ≤ t.entries + length numbers
      → t.entries ≤ steps.entries → steps.began ≡ t.began → (numbers ≡ [] → ⊥)
      → DueStops patterns start moment a t a steps streams idle first
  due_stop are_due steps forks_same at_most at_least goes_on some texts live received from ranges endless represents
      comes =
      let counts = entered_as_given (effects_at received) numbers in record {
        part =
            subst (λ (hs : List Effect). PerformsPart a t a steps hs)
            (sym (all_due are_due texts live received ranges comes represents)) (record {
              begins = extends_none a;
              within = (outputs_among (Due_in received numbers), refl);
              forks = omega (arith, forks_same);
              entries = omega (arith, at_most, counts.1);
              no_fewer_forks = omega (arith, forks_same);
              no_fewer_entries = at_least;
              began = goes_on;
            });
        busy = λ tick none. some (no_numbers are_due texts live received ranges comes represents none);
      }

-- the number that the code reads
pub item_is : (items all : List ℕ) (i : ℕ) → items ≡ all → i < length items
    → get_or items i 0 ≡ get_or all i (get_or items i 0)
item_is items all i same within =
    sym (get_or_default_zero items i (get_or items i 0) within)
    ∙ ap (λ (l : List ℕ). get_or l i (get_or items i 0)) same

pub items_within : (items all : List ℕ) (i : ℕ) → items ≡ all → i < length items → i < length all
items_within items all i same within = subst (λ (l : List ℕ). i < length l) same within

pub items_past : (items all : List ℕ) (i : ℕ) → items ≡ all → length items ≤ i → length all ≤ i
items_past items all i same past = subst (λ (l : List ℕ). length l ≤ i) same past
