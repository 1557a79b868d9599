-- A file holds a journal, or it does not fit at one place.
use Rattle.std.proofs.Common.{◌≡◌, ◌≢◌, ◌⊎◌, inl, inr, ℕ, zero, suc, ◌+◌, ◌-◌, ◌^◌, ◌<◌, ◌≤◌, Bool, true, false, not}
use Rattle.std.proofs.Common.{List, [], ◌∷◌, ◌++◌, length, get_or, take, drop, Option, Some, None, refl, sym, ap, subst}
use Rattle.std.proofs.Common.{◌∙◌, append_assoc, length-append, length-take, arith}
use Rattle.std.specs.Int.{w32, to_be_bytes}
use Rattle.std.proofs.lemmas.Bool.{cases_eq, cases_lt}
use Rattle.std.proofs.lemmas.List.{append-nil, take-append-drop}
use Rattle.journal_format.specs.Limits.{config_limit, journal_limit}
use Rattle.journal_format.specs.Spelling.{Spells, is_listen, record_bytes}
use Rattle.journal_format.specs.Reading.{number_at, record_at}
use Rattle.journal_format.specs.Journals.{AreRecords, BeginsWithNone, Holds, IsFront, Journal, MisfitsAt, no_open_gate}
use Rattle.journal_format.specs.Journals.{no_length, no_config, no_gate, no_record, head_bytes}
use Rattle.journal_format.specs.Finding.{Ends, HasFront, TakesRecord}
use Rattle.journal_format.specs.Laws.{FilesHoldOrMisfit, MisfitsAreOne}
use Rattle.journal_format.specs.declared.finder.Found.{Found}
use Rattle.journal_format.specs.declared.turn_record.TurnRecord.{TurnRecord}
use Rattle.journal_format.proofs.NumberLaws.{IsBytes, IsBytes-drop, IsBytes-rest, IsBytes-take, number_again}
use Rattle.journal_format.proofs.NumberLaws.{number_takes, some_is, wide32}
use Rattle.journal_format.proofs.RecordLaws.{record_again, record_takes}
use Rattle.journal_format.proofs.FindLaws.{closed, cut_short, ends_in_config, gate_shut, goes_on, head_front, is_head}
use Rattle.journal_format.proofs.FindLaws.{next_false, next_first, next_true, no_length_long, no_length_short, no_more}
use Rattle.journal_format.proofs.FindLaws.{nothing_open, record_of_other_kind}
use Rattle.journal_format.proofs.OneLaws.{begun, both_begin, front_is, run_ends, run_stops, same_fronts}

-- ---- one of both

-- the bytes hold a journal, or they do not fit at some place
abbrev Either : List ℕ → Type 0
Either bytes = ((found : Found) × Ends bytes found) ⊎ ((place : ℕ) × MisfitsAt bytes place)

same_bool : (a b : Bool) → (a ≡ b) ⊎ (a ≢ b)
same_bool true true = inl refl
same_bool true false = inr (λ e. absurd cc)
same_bool false true = inr (λ e. absurd cc)
same_bool false false = inl refl

none_read : (first : Bool) (bytes : List ℕ) → record_at bytes ≡ None → BeginsWithNone first bytes
none_read first bytes e entry text more spells whole =
    let read : record_at bytes ≡ Some (entry, more) =
    ap record_at (whole ∙ ap (λ (t : List ℕ). t ++ more) spells.text) ∙ record_again entry more spells.allowed in
    absurd cc

module _ (first : Bool) (bytes : List ℕ) (gate : ℕ) (after : List ℕ) (fits : IsBytes (gate ∷ after))
    (limit : length bytes ≤ journal_limit) (so_far : HasFront first bytes (gate ∷ after))
    (again : (left : List ℕ) → length left ≤ length after → IsBytes left → HasFront false bytes left
    → Either bytes) where
  abbrev here : ℕ
  here = length bytes - length (gate ∷ after)

  by_record : (read : Option (TurnRecord × List ℕ)) → record_at after ≡ read → gate ≢ 0 → Either bytes
  by_record None e is_open =
      inr (
        here + 1,
        no_more first bytes (gate ∷ after) gate after here so_far refl is_open refl (none_read first after e),
      )
  by_record (Some (entry, left)) e is_open =
      let t = record_takes after (entry, left) (IsBytes-rest gate after fits) e in
      let size : length left ≤ length after =
      omega (arith, ap length t.0.parts, length-append (record_bytes entry) left) in
      let only =
      λ (other : TurnRecord) (more : List ℕ) (allowed : _) (whole : after ≡ record_bytes other ++ more).
      sym (record_again other more allowed) ∙ ap record_at (sym whole) ∙ e in
      elim (same_bool (is_listen entry.event) first) [
        | inl same ↦ again left size t.0.rest_fits
            (goes_on first bytes (gate ∷ after) gate after left so_far refl is_open (record {
              entry = entry;
              text = record_bytes entry;
              spells = record { allowed = t.1; order = same; text = refl };
              whole = t.0.parts;
            }))
        | inr differs ↦
            inr (
              here + 1,
              no_more first bytes (gate ∷ after) gate after here so_far refl is_open refl
                  (record_of_other_kind first after entry left only differs),
            )
      ]

  by_gate : Either bytes
  by_gate = elim (cases_eq gate 0) [
    | inl shut ↦
        inl (
          record { gate = here; has_record = not first },
          closed first bytes (gate ∷ after) gate after here so_far limit refl shut refl,
        )
    | inr is_open ↦ by_record (record_at after) refl is_open
  ]

run_decides : (n : ℕ) (first : Bool) (bytes rest : List ℕ) → length rest ≤ n → IsBytes rest
    → length bytes ≤ journal_limit → HasFront first bytes rest → Either bytes
run_decides n first bytes [] short fits limit so_far = inr (length bytes, cut_short first bytes [] so_far refl)
run_decides zero first bytes (gate ∷ after) short fits limit so_far = absurd (omega (arith, short))
run_decides (suc n) first bytes (gate ∷ after) short fits limit so_far =
    by_gate first bytes gate after fits limit so_far
    (λ left le left_fits front. run_decides n false bytes left (omega (arith, short, le)) left_fits limit front)

module _ (gate : ℕ) (head : List ℕ) (fits : IsBytes (gate ∷ head)) (limit : length (gate ∷ head) ≤ journal_limit)
    (is_open : 0 < gate) where
  by_size : (size : ℕ) (rest : List ℕ) → number_at w32 head ≡ Some (size, rest) → Either (gate ∷ head)
  by_size size rest e = elim (cases_lt config_limit size) [
    | inl long ↦ inr (1, no_length gate head refl is_open refl (no_length_long head (size, rest) e long))
    | inr small ↦ elim (cases_lt (length rest) size) [
      | inl short ↦
          inr (
            5,
            no_config gate head refl is_open refl
                (ends_in_config head size rest (IsBytes-rest gate head fits) e small short),
          )
      | inr whole ↦
          let t = number_takes w32 (2 ^ 32) wide32 head size rest (IsBytes-rest gate head fits) e in
          run_decides (length (drop size rest)) true (gate ∷ head) (drop size rest) (omega arith)
          (IsBytes-drop size rest t.0.rest_fits) limit
          (head_front (gate ∷ head) gate head (drop size rest) is_open refl
          (is_head head size rest (IsBytes-rest gate head fits) e small whole))
    ]
  ]

  by_length : (read : Option (ℕ × List ℕ)) → number_at w32 head ≡ read → Either (gate ∷ head)
  by_length None e = inr (1, no_length gate head refl is_open refl (no_length_short head e))
  by_length (Some (size, rest)) e = by_size size rest e

decides : (bytes : List ℕ) → IsBytes bytes → length bytes ≤ journal_limit → Either bytes
decides [] fits limit = inr (0, nothing_open [] refl)
decides (gate ∷ head) fits limit = elim (cases_eq gate 0) [
  | inl shut ↦ inr (0, gate_shut (gate ∷ head) gate head shut refl)
  | inr not_shut ↦ by_length gate head fits limit (omega (arith, not_shut)) (number_at w32 head) refl
]

-- what holds a journal within the limit holds it
more_holds : (file : List ℕ) (found : Found) → Ends (take journal_limit file) found
    → (journal : Journal) × Holds journal file
more_holds file found ends = (
  ends.journal,
  (
    found.gate,
    record {
      front = ends.holds.front;
      rest = ends.holds.rest ++ drop journal_limit file;
      begins = ends.holds.begins;
      whole = sym (take-append-drop journal_limit file)
          ∙ ap (λ (t : List ℕ). t ++ drop journal_limit file) ends.holds.whole
          ∙ append_assoc ends.holds.front (0 ∷ ends.holds.rest) (drop journal_limit file);
      gate = ends.holds.gate;
      limit = ends.holds.limit;
    },
  ),
)

pub holds_or_misfits : FilesHoldOrMisfit
holds_or_misfits file fits =
    elim (decides (take journal_limit file) (IsBytes-take journal_limit file fits)
    (omega (arith, length-take journal_limit file))) [
      | inl ends ↦ inl (more_holds file ends.0 ends.1)
      | inr misfit ↦ inr misfit
    ]

-- ---- no more than one place

-- an open first gate, unless there is none
opened : (bytes : List ℕ) (place : ℕ) → MisfitsAt bytes place
    → (place ≡ 0) ⊎ ((gate : ℕ) × (more : List ℕ) × (0 < gate) × (bytes ≡ gate ∷ more))
opened bytes place (no_open_gate at none) = inl at
opened bytes place (no_length gate rest at is_open whole none) = inr (gate, rest, is_open, whole)
opened bytes place (no_config gate rest at is_open whole ends) = inr (gate, rest, is_open, whole)
opened bytes place (no_gate journal at is) = inr (is.gate, head_bytes journal.config ++ is.run, is.is_open, is.whole)
opened bytes place (no_record ends) =
    inr (
      ends.begins.gate,
      head_bytes ends.journal.config ++ (ends.begins.run ++ ends.gate ∷ ends.rest),
      ends.begins.is_open,
      ends.whole ∙ front_is ends.journal ends.front (ends.gate ∷ ends.rest) ends.begins,
    )

same_after : (bytes : List ℕ) (gate other : ℕ) (after rest : List ℕ) → bytes ≡ gate ∷ after → bytes ≡ other ∷ rest
    → after ≡ rest
same_after bytes gate other after rest one two = let cells : gate ∷ after ≡ other ∷ rest = sym one ∙ two in cc

-- what follows the first gate of a journal
after_gate : (bytes : List ℕ) (gate : ℕ) (after : List ℕ) (journal : Journal) (front x : List ℕ)
    (is : IsFront journal front) → bytes ≡ gate ∷ after → bytes ≡ front ++ x
    → after ≡ to_be_bytes w32 (length journal.config) ++ (journal.config ++ (is.run ++ x))
after_gate bytes gate after journal front x is begins whole =
    same_after bytes gate is.gate after (head_bytes journal.config ++ (is.run ++ x)) begins
    (whole ∙ front_is journal front x is)
    ∙ append_assoc (to_be_bytes w32 (length journal.config)) journal.config (is.run ++ x)

-- the configuration of a journal does not end too early
config_whole : (bytes : List ℕ) (gate : ℕ) (after : List ℕ) (journal : Journal) (front x : List ℕ)
    (is : IsFront journal front) (size : ℕ) (part : List ℕ) → bytes ≡ gate ∷ after → bytes ≡ front ++ x
    → size ≤ config_limit → after ≡ to_be_bytes w32 size ++ part → size ≤ length part
config_whole bytes gate after journal front x is size part begins whole small sized =
    let n = length journal.config in
    let sizes : to_be_bytes w32 size ++ part ≡ to_be_bytes w32 n ++ (journal.config ++ (is.run ++ x)) =
    sym sized ∙ after_gate bytes gate after journal front x is begins whole in
    let read =
    some_is (size, part) (n, journal.config ++ (is.run ++ x))
    (sym (number_again w32 (2 ^ 32) wide32 size part (omega (arith, small))) ∙ ap (number_at w32) sizes
    ∙ number_again w32 (2 ^ 32) wide32 n (journal.config ++ (is.run ++ x)) (omega (arith, is.small))) in
    let size_is : size ≡ n = ap (λ (pair : ℕ × List ℕ). pair.0) read in
    let part_is : part ≡ journal.config ++ (is.run ++ x) = ap (λ (pair : ℕ × List ℕ). pair.1) read in
    omega (arith, size_is, ap length part_is, length-append journal.config (is.run ++ x))

-- records up to the end of the bytes, and an open gate with no record after it
run_cut : (first : Bool) (rs ss : List TurnRecord) (p q y : List ℕ) (gate : ℕ) → AreRecords first rs p
    → AreRecords first ss q → 0 < gate → BeginsWithNone (next_first first ss) y → p ++ [] ≡ q ++ gate ∷ y → ⊥
run_cut first [] ss p q y gate none others is_open begins_none e =
    omega (arith, ap length e, ap length none, length-append p [], length-append q (gate ∷ y))
run_cut first (r ∷ rs) [] p q y gate (more, b, others) none is_open begins_none e =
    let cells : b.gate ∷ (b.text ++ (more ++ [])) ≡ gate ∷ y =
    sym (begun first r p more [] b) ∙ e ∙ ap (λ (t : List ℕ). t ++ gate ∷ y) none in
    let tails : y ≡ b.text ++ (more ++ []) = cc in
    begins_none r b.text (more ++ []) b.spells tails
run_cut first (r ∷ rs) (s ∷ ss) p q y gate (more, b, rest) (others, d, left) is_open begins_none e =
    let both = both_begin first r s p q more others [] (gate ∷ y) b d e in
    run_cut false rs ss more others y gate rest left is_open
    (subst (λ (f : Bool). BeginsWithNone f y) (sym (next_false ss)) begins_none) both.rest

-- two that stop at an open gate with no record after it
run_both : (first : Bool) (rs ss : List TurnRecord) (p q x y : List ℕ) (gate other : ℕ) → AreRecords first rs p
    → AreRecords first ss q → BeginsWithNone (next_first first rs) x → BeginsWithNone (next_first first ss) y
    → p ++ gate ∷ x ≡ q ++ other ∷ y → length p ≡ length q
run_both first [] [] p q x y gate other none nothing begins_none begins e = ap length none ∙ sym (ap length nothing)
run_both first [] (s ∷ ss) p q x y gate other none (more, d, left) begins_none begins e =
    let cells : gate ∷ x ≡ d.gate ∷ (d.text ++ (more ++ other ∷ y)) =
    ap (λ (t : List ℕ). t ++ gate ∷ x) (sym none) ∙ e ∙ begun first s q more (other ∷ y) d in
    let tails : x ≡ d.text ++ (more ++ other ∷ y) = cc in
    absurd (begins_none s d.text (more ++ other ∷ y) d.spells tails)
run_both first (r ∷ rs) [] p q x y gate other (more, b, rest) none begins_none begins e =
    let cells : other ∷ y ≡ b.gate ∷ (b.text ++ (more ++ gate ∷ x)) =
    ap (λ (t : List ℕ). t ++ other ∷ y) (sym none) ∙ sym e ∙ begun first r p more (gate ∷ x) b in
    let tails : y ≡ b.text ++ (more ++ gate ∷ x) = cc in
    absurd (begins r b.text (more ++ gate ∷ x) b.spells tails)
run_both first (r ∷ rs) (s ∷ ss) p q x y gate other (more, b, rest) (others, d, left) begins_none begins e =
    let both = both_begin first r s p q more others (gate ∷ x) (other ∷ y) b d e in
    let tails =
    run_both false rs ss more others x y gate other rest left
    (subst (λ (f : Bool). BeginsWithNone f x) (sym (next_false rs)) begins_none)
    (subst (λ (f : Bool). BeginsWithNone f y) (sym (next_false ss)) begins) both.rest in
    omega (
      arith,
      both.size,
      tails,
      ap length b.whole,
      ap length d.whole,
      length-append b.text more,
      length-append d.text others,
    )

-- the place of the second kind and of the third, against those of journals that are begun
module _ (bytes : List ℕ) (journal : Journal) (front x : List ℕ) (is : IsFront journal front)
    (whole : bytes ≡ front ++ x) where
  not_lengthless : (gate : ℕ) (after : List ℕ) → bytes ≡ gate ∷ after
      → ((size : ℕ) (more : List ℕ) → size ≤ config_limit → after ≡ to_be_bytes w32 size ++ more → ⊥) → ⊥
  not_lengthless gate after begins none =
      none (length journal.config) (journal.config ++ (is.run ++ x)) is.small
      (after_gate bytes gate after journal front x is begins whole)

  not_short : (gate : ℕ) (after : List ℕ) (size : ℕ) (part : List ℕ) → bytes ≡ gate ∷ after → size ≤ config_limit
      → after ≡ to_be_bytes w32 size ++ part → length part < size → ⊥
  not_short gate after size part begins small sized short =
      let long = config_whole bytes gate after journal front x is size part begins whole small sized in
      omega (arith, long, short)

one_place : (bytes : List ℕ) (place other : ℕ) → MisfitsAt bytes place → MisfitsAt bytes other → place ≡ other
one_place bytes place other (no_open_gate at none) misfit = elim (opened bytes other misfit) [
  | inl zeroth ↦ at ∙ sym zeroth
  | inr (gate, more, is_open, whole) ↦ absurd (none gate more is_open whole)
]
one_place bytes place other (no_length gate after at is_open begins none) (no_open_gate next nothing) =
    absurd (nothing gate after is_open begins)
one_place bytes place other (no_length gate after at is_open begins none) (no_length g rest next opens whole nothing) =
    at ∙ sym next
one_place bytes place other (no_length gate after at is_open begins none) (no_config g rest next opens whole ends) =
    absurd (none ends.size ends.part ends.small (same_after bytes gate g after rest begins whole ∙ ends.whole))
one_place bytes place other (no_length gate after at is_open begins none) (no_gate journal next is) =
    absurd (not_lengthless bytes journal bytes [] is (sym (append-nil bytes)) gate after begins none)
one_place bytes place other (no_length gate after at is_open begins none) (no_record ends) =
    absurd (not_lengthless bytes ends.journal ends.front (ends.gate ∷ ends.rest)
    ends.begins ends.whole gate after begins none)
one_place bytes place other (no_config gate after at is_open begins ends) (no_open_gate next nothing) =
    absurd (nothing gate after is_open begins)
one_place bytes place other (no_config gate after at is_open begins ends) (no_length g rest next opens whole none) =
    absurd (none ends.size ends.part ends.small (sym (same_after bytes gate g after rest begins whole) ∙ ends.whole))
one_place bytes place other (no_config gate after at is_open begins ends) (no_config g rest next opens whole others) =
    at ∙ sym next
one_place bytes place other (no_config gate after at is_open begins ends) (no_gate journal next is) =
    absurd (not_short bytes journal bytes [] is (sym (append-nil bytes))
    gate after ends.size ends.part begins ends.small ends.whole ends.short)
one_place bytes place other (no_config gate after at is_open begins ends) (no_record others) =
    absurd (not_short bytes others.journal others.front (others.gate ∷ others.rest)
    others.begins others.whole gate after ends.size ends.part begins ends.small ends.whole ends.short)
one_place bytes place other (no_gate journal at is) (no_open_gate next nothing) =
    absurd (nothing is.gate (head_bytes journal.config ++ is.run) is.is_open is.whole)
one_place bytes place other (no_gate journal at is) (no_length g rest next opens whole none) =
    absurd (not_lengthless bytes journal bytes [] is (sym (append-nil bytes)) g rest whole none)
one_place bytes place other (no_gate journal at is) (no_config g rest next opens whole ends) =
    absurd (not_short bytes journal bytes [] is (sym (append-nil bytes))
    g rest ends.size ends.part whole ends.small ends.whole ends.short)
one_place bytes place other (no_gate journal at is) (no_gate second next was) = at ∙ sym next
one_place bytes place other (no_gate journal at is) (no_record ends) =
    let heads =
    same_fronts journal ends.journal bytes ends.front [] (ends.gate ∷ ends.rest) is ends.begins
    (append-nil bytes ∙ ends.whole) in
    absurd (run_cut true journal.records ends.journal.records is.run ends.begins.run ends.rest ends.gate is.records
    ends.begins.records ends.is_open
    (subst (λ (f : Bool). BeginsWithNone f ends.rest) (sym (next_true ends.journal.records)) ends.none) heads.rest)
one_place bytes place other (no_record ends) (no_open_gate next nothing) = elim (opened bytes place (no_record ends)) [
  | inl zeroth ↦ zeroth ∙ sym next
  | inr (gate, more, is_open, whole) ↦ absurd (nothing gate more is_open whole)
]
one_place bytes place other (no_record ends) (no_length g rest next opens whole none) =
    absurd (not_lengthless bytes ends.journal ends.front (ends.gate ∷ ends.rest)
    ends.begins ends.whole g rest whole none)
one_place bytes place other (no_record ends) (no_config g rest next opens whole others) =
    absurd (not_short bytes ends.journal ends.front (ends.gate ∷ ends.rest)
    ends.begins ends.whole g rest others.size others.part whole others.small others.whole others.short)
one_place bytes place other (no_record ends) (no_gate journal next is) =
    let heads =
    same_fronts journal ends.journal bytes ends.front [] (ends.gate ∷ ends.rest) is ends.begins
    (append-nil bytes ∙ ends.whole) in
    absurd (run_cut true journal.records ends.journal.records is.run ends.begins.run ends.rest ends.gate is.records
    ends.begins.records ends.is_open
    (subst (λ (f : Bool). BeginsWithNone f ends.rest) (sym (next_true ends.journal.records)) ends.none) heads.rest)
one_place bytes place other (no_record ends) (no_record others) =
    let heads =
    same_fronts ends.journal others.journal ends.front others.front (ends.gate ∷ ends.rest) (others.gate ∷ others.rest)
    ends.begins others.begins (sym ends.whole ∙ others.whole) in
    let runs =
    run_both true ends.journal.records others.journal.records ends.begins.run others.begins.run ends.rest others.rest
    ends.gate others.gate ends.begins.records others.begins.records
    (subst (λ (f : Bool). BeginsWithNone f ends.rest) (sym (next_true ends.journal.records)) ends.none)
    (subst (λ (f : Bool). BeginsWithNone f others.rest) (sym (next_true others.journal.records)) others.none)
    heads.rest in
    omega (
      arith,
      ends.after_gate,
      others.after_gate,
      runs,
      ap length ends.begins.whole,
      ap length others.begins.whole,
      length-append (head_bytes ends.journal.config) ends.begins.run,
      length-append (head_bytes others.journal.config) others.begins.run,
      ap (λ (c : List ℕ). length (head_bytes c)) heads.config_is,
    )

pub misfits_one : MisfitsAreOne
misfits_one file place other misfit next = one_place (take journal_limit file) place other misfit next
