-- A file holds one journal at most, and none where it does not fit.
use Rattle.std.proofs.Common.{◌≡◌, ℕ, zero, suc, ◌+◌, ◌-◌, ◌^◌, ◌<◌, ◌≤◌, Bool, true, false, List, [], ◌∷◌, ◌++◌}
use Rattle.std.proofs.Common.{length, take, drop, refl, sym, ap, subst, ◌∙◌, append_assoc, length-append, arith}
use Rattle.std.specs.Int.{w32, to_be_bytes}
use Rattle.std.proofs.lemmas.List.{append-nil, take_at, drop_at}
use Rattle.journal_format.specs.Limits.{config_limit, journal_limit}
use Rattle.journal_format.specs.Spelling.{Spells, record_bytes}
use Rattle.journal_format.specs.Reading.{number_at, record_at}
use Rattle.journal_format.specs.Journals.{AreRecords, BeginsWith, BeginsWithNone, HoldsAt, IsFront, Journal, MisfitsAt}
use Rattle.journal_format.specs.Journals.{no_open_gate, no_length, no_config, no_gate, no_record, head_bytes}
use Rattle.journal_format.specs.Laws.{JournalsAreOne, MisfitsHoldNone, PrefixesAreJournals}
use Rattle.journal_format.specs.declared.turn_record.TurnRecord.{TurnRecord}
use Rattle.journal_format.proofs.NumberLaws.{number_again, some_is, wide32}
use Rattle.journal_format.proofs.RecordLaws.{record_again}
use Rattle.journal_format.proofs.FindLaws.{next_first, next_false, next_true}

-- ---- one record

pub spelled_one : (first other : Bool) (r s : TurnRecord) (text more x y : List ℕ) → Spells first r text
    → Spells other s more → text ++ x ≡ more ++ y → (r ≡ s) × (x ≡ y)
spelled_one first other r s text more x y p q same =
    let whole : record_bytes r ++ x ≡ record_bytes s ++ y =
    ap (λ (t : List ℕ). t ++ x) (sym p.text) ∙ same ∙ ap (λ (t : List ℕ). t ++ y) q.text in
    let read =
    some_is (r, x) (s, y) (sym (record_again r x p.allowed) ∙ ap record_at whole ∙ record_again s y q.allowed) in
    (ap (λ (pair : TurnRecord × List ℕ). pair.0) read, ap (λ (pair : TurnRecord × List ℕ). pair.1) read)

-- records that begin, with what follows them
pub begun : (first : Bool) (r : TurnRecord) (p more x : List ℕ) (begins : BeginsWith first r p more)
    → p ++ x ≡ begins.gate ∷ (begins.text ++ (more ++ x))
begun first r p more x begins =
    ap (λ (t : List ℕ). t ++ x) begins.whole ∙ ap (λ (t : List ℕ). begins.gate ∷ t) (append_assoc begins.text more x)

-- of two that begin the same bytes
pub record BothBegin (r s : TurnRecord) (x y : List ℕ) (m n : ℕ) : Type 0 where
  pub same : r ≡ s
  pub rest : x ≡ y
  pub size : m ≡ n

pub both_begin : (first : Bool) (r s : TurnRecord) (p q more others x y : List ℕ) (b : BeginsWith first r p more)
    (d : BeginsWith first s q others) → p ++ x ≡ q ++ y
    → BothBegin r s (more ++ x) (others ++ y) (length p - length more) (length q - length others)
both_begin first r s p q more others x y b d e =
    let cells : b.gate ∷ (b.text ++ (more ++ x)) ≡ d.gate ∷ (d.text ++ (others ++ y)) =
    sym (begun first r p more x b) ∙ e ∙ begun first s q others y d in
    let tails : b.text ++ (more ++ x) ≡ d.text ++ (others ++ y) = cc in
    let one = spelled_one first first r s b.text d.text (more ++ x) (others ++ y) b.spells d.spells tails in
    let texts : length b.text ≡ length d.text =
    omega (
      arith,
      ap length tails,
      ap length one.1,
      length-append b.text (more ++ x),
      length-append d.text (others ++ y),
    ) in
    record {
      same = one.0;
      rest = one.1;
      size =
          omega (
            arith,
            texts,
            ap length b.whole,
            ap length d.whole,
            length-append b.text more,
            length-append d.text others,
          );
    }

-- an open gate is no closed one
gates_differ : (first : Bool) (r : TurnRecord) (p more x y : List ℕ) → BeginsWith first r p more → p ++ x ≡ 0 ∷ y → ⊥
gates_differ first r p more x y b e =
    let cells : b.gate ∷ (b.text ++ (more ++ x)) ≡ 0 ∷ y = sym (begun first r p more x b) ∙ e in
    let shut : b.gate ≡ 0 = cc in
    omega (arith, shut, b.is_open)

pub run_one : (first : Bool) (rs ss : List TurnRecord) (p q x y : List ℕ) → AreRecords first rs p
    → AreRecords first ss q → p ++ 0 ∷ x ≡ q ++ 0 ∷ y → (rs ≡ ss) × (length p ≡ length q)
run_one first [] [] p q x y none nothing e = (refl, ap length none ∙ sym (ap length nothing))
run_one first [] (s ∷ ss) p q x y none (more, b, others) e =
    absurd (gates_differ first s q more (0 ∷ y) x b (sym e ∙ ap (λ (t : List ℕ). t ++ 0 ∷ x) none))
run_one first (r ∷ rs) [] p q x y (more, b, others) none e =
    absurd (gates_differ first r p more (0 ∷ x) y b (e ∙ ap (λ (t : List ℕ). t ++ 0 ∷ y) none))
run_one first (r ∷ rs) (s ∷ ss) p q x y (more, b, rest) (others, d, left) e =
    let both = both_begin first r s p q more others (0 ∷ x) (0 ∷ y) b d e in
    let tails = run_one false rs ss more others x y rest left both.rest in (
      λ i. both.same i ∷ tails.0 i,
      omega (
        arith,
        both.size,
        tails.1,
        ap length b.whole,
        ap length d.whole,
        length-append b.text more,
        length-append d.text others,
      ),
    )

-- bytes that end before a gate
pub run_ends : (first : Bool) (rs ss : List TurnRecord) (p q x : List ℕ) → AreRecords first rs p → AreRecords first ss q
    → p ++ 0 ∷ x ≡ q ++ [] → ⊥
run_ends first [] [] p q x none nothing e =
    omega (arith, ap length e, length-append p (0 ∷ x), length-append q [], ap length nothing)
run_ends first [] (s ∷ ss) p q x none (more, b, others) e =
    gates_differ first s q more [] x b (sym e ∙ ap (λ (t : List ℕ). t ++ 0 ∷ x) none)
run_ends first (r ∷ rs) [] p q x (more, b, others) none e =
    omega (arith, ap length e, length-append p (0 ∷ x), length-append q [], ap length none)
run_ends first (r ∷ rs) (s ∷ ss) p q x (more, b, rest) (others, d, left) e =
    let both = both_begin first r s p q more others (0 ∷ x) [] b d e in
    run_ends false rs ss more others x rest left both.rest

-- an open gate with no record after it
pub run_stops : (first : Bool) (rs ss : List TurnRecord) (p q x y : List ℕ) (gate : ℕ) → AreRecords first rs p
    → AreRecords first ss q → 0 < gate → BeginsWithNone (next_first first ss) y
    → p ++ 0 ∷ x ≡ q ++ gate ∷ y → ⊥
run_stops first [] [] p q x y gate none nothing is_open begins_none e =
    let cells : 0 ∷ x ≡ gate ∷ y =
    ap (λ (t : List ℕ). t ++ 0 ∷ x) (sym none) ∙ e ∙ ap (λ (t : List ℕ). t ++ gate ∷ y) nothing in
    let shut : 0 ≡ gate = cc in
    omega (arith, shut, is_open)
run_stops first [] (s ∷ ss) p q x y gate none (more, b, others) is_open begins_none e =
    gates_differ first s q more (gate ∷ y) x b (sym e ∙ ap (λ (t : List ℕ). t ++ 0 ∷ x) none)
run_stops first (r ∷ rs) [] p q x y gate (more, b, others) none is_open begins_none e =
    let cells : b.gate ∷ (b.text ++ (more ++ 0 ∷ x)) ≡ gate ∷ y =
    sym (begun first r p more (0 ∷ x) b) ∙ e ∙ ap (λ (t : List ℕ). t ++ gate ∷ y) none in
    let tails : y ≡ b.text ++ (more ++ 0 ∷ x) = cc in
    begins_none r b.text (more ++ 0 ∷ x) b.spells tails
run_stops first (r ∷ rs) (s ∷ ss) p q x y gate (more, b, rest) (others, d, left) is_open begins_none e =
    let both = both_begin first r s p q more others (0 ∷ x) (gate ∷ y) b d e in
    run_stops false rs ss more others x y gate rest left is_open
    (subst (λ (f : Bool). BeginsWithNone f y) (sym (next_false ss)) begins_none) both.rest

-- ---- the head

-- of two heads that begin the same bytes
pub record SameHead (config other x y : List ℕ) : Type 0 where
  pub config_is : config ≡ other
  pub rest : x ≡ y

same_head : (config other x y : List ℕ) → length config ≤ config_limit → length other ≤ config_limit
    → head_bytes config ++ x ≡ head_bytes other ++ y → SameHead config other x y
same_head config other x y small few e =
    let n = length config in
    let m = length other in
    let sizes : to_be_bytes w32 n ++ (config ++ x) ≡ to_be_bytes w32 m ++ (other ++ y) =
    sym (append_assoc (to_be_bytes w32 n) config x) ∙ e ∙ append_assoc (to_be_bytes w32 m) other y in
    let read =
    some_is (n, config ++ x) (m, other ++ y)
    (sym (number_again w32 (2 ^ 32) wide32 n (config ++ x) (omega (arith, small))) ∙ ap (number_at w32) sizes
    ∙ number_again w32 (2 ^ 32) wide32 m (other ++ y) (omega (arith, few))) in
    let size : n ≡ m = ap (λ (pair : ℕ × List ℕ). pair.0) read in
    let rest : config ++ x ≡ other ++ y = ap (λ (pair : ℕ × List ℕ). pair.1) read in
    record {
      config_is = sym (take_at config x m size) ∙ ap (take m) rest ∙ take_at other y m refl;
      rest = sym (drop_at config x m size) ∙ ap (drop m) rest ∙ drop_at other y m refl;
    }

pub front_is : (journal : Journal) (front x : List ℕ) (is : IsFront journal front)
    → front ++ x ≡ is.gate ∷ (head_bytes journal.config ++ (is.run ++ x))
front_is journal front x is =
    ap (λ (t : List ℕ). t ++ x) is.whole
    ∙ ap (λ (t : List ℕ). is.gate ∷ t) (append_assoc (head_bytes journal.config) is.run x)

pub same_fronts : (journal other : Journal) (front part x y : List ℕ) (is : IsFront journal front)
    (was : IsFront other part) → front ++ x ≡ part ++ y
    → SameHead journal.config other.config (is.run ++ x) (was.run ++ y)
same_fronts journal other front part x y is was e =
    let cells : is.gate ∷ (head_bytes journal.config ++ (is.run ++ x))
    ≡ was.gate ∷ (head_bytes other.config ++ (was.run ++ y)) =
    sym (front_is journal front x is) ∙ e ∙ front_is other part y was in
    let tails : head_bytes journal.config ++ (is.run ++ x) ≡ head_bytes other.config ++ (was.run ++ y) = cc in
    same_head journal.config other.config (is.run ++ x) (was.run ++ y) is.small was.small tails

-- ---- the laws

-- the first bytes of two parts, of which all of the first part
pub take_more : (n : ℕ) (a b : List ℕ) (left : ℕ) → n ≡ length a + left → take n (a ++ b) ≡ a ++ take left b
take_more n [] b left is = let same : n ≡ left = omega arith in ap (λ k. take k b) same
take_more zero (x ∷ a) b left is = absurd (omega arith)
take_more (suc n) (x ∷ a) b left is = ap (λ (t : List ℕ). x ∷ t) (take_more n a b left (omega arith))

pub journals_one : JournalsAreOne
journals_one journal other place next file holds held =
    let e : holds.front ++ 0 ∷ holds.rest ≡ held.front ++ 0 ∷ held.rest = sym holds.whole ∙ held.whole in
    let heads =
    same_fronts journal other holds.front held.front (0 ∷ holds.rest) (0 ∷ held.rest) holds.begins held.begins e in
    let runs =
    run_one true journal.records other.records holds.begins.run held.begins.run holds.rest held.rest
    holds.begins.records held.begins.records heads.rest in (
      λ i. record { config = heads.config_is i; records = runs.0 i },
      omega (
        arith,
        holds.gate,
        held.gate,
        runs.1,
        ap length holds.begins.whole,
        ap length held.begins.whole,
        length-append (head_bytes journal.config) holds.begins.run,
        length-append (head_bytes other.config) held.begins.run,
        ap (λ (c : List ℕ). length (head_bytes c)) heads.config_is,
      ),
    )

-- the bytes within the limit hold the journal
within : (journal : Journal) (place : ℕ) (file : List ℕ) (holds : HoldsAt journal place file)
    → take journal_limit file ≡ holds.front ++ 0 ∷ take (journal_limit - (place + 1)) holds.rest
within journal place file holds =
    let left = journal_limit - (place + 1) in
    let front = holds.front ++ 0 ∷ [] in
    let length_is : length front ≡ place + 1 = omega (arith, holds.gate, length-append holds.front (0 ∷ [])) in
    let whole : file ≡ front ++ holds.rest = holds.whole ∙ sym (append_assoc holds.front (0 ∷ []) holds.rest) in
    ap (take journal_limit) whole
    ∙ take_more journal_limit front holds.rest left (omega (arith, length_is, holds.limit))
    ∙ append_assoc holds.front (0 ∷ []) (take left holds.rest)

misfit : (journal : Journal) (bytes front rest : List ℕ) (place : ℕ) → IsFront journal front → bytes ≡ front ++ 0 ∷ rest
    → MisfitsAt bytes place → ⊥
misfit journal bytes front rest place is whole (no_open_gate at none) =
    none is.gate (head_bytes journal.config ++ (is.run ++ 0 ∷ rest)) is.is_open
    (whole ∙ front_is journal front (0 ∷ rest) is)
misfit journal bytes front rest place is whole (no_length gate after at is_open begins none) =
    let cells : gate ∷ after ≡ is.gate ∷ (head_bytes journal.config ++ (is.run ++ 0 ∷ rest)) =
    sym begins ∙ whole ∙ front_is journal front (0 ∷ rest) is in
    let tails : after ≡ head_bytes journal.config ++ (is.run ++ 0 ∷ rest) = cc in
    none (length journal.config) (journal.config ++ (is.run ++ 0 ∷ rest)) is.small
    (tails ∙ append_assoc (to_be_bytes w32 (length journal.config)) journal.config (is.run ++ 0 ∷ rest))
misfit journal bytes front rest place is whole (no_config gate after at is_open begins ends) =
    let cells : gate ∷ after ≡ is.gate ∷ (head_bytes journal.config ++ (is.run ++ 0 ∷ rest)) =
    sym begins ∙ whole ∙ front_is journal front (0 ∷ rest) is in
    let tails : after ≡ head_bytes journal.config ++ (is.run ++ 0 ∷ rest) = cc in
    let n = length journal.config in
    let sizes : to_be_bytes w32 ends.size ++ ends.part ≡ to_be_bytes w32 n ++ (journal.config ++ (is.run ++ 0 ∷ rest)) =
    sym ends.whole ∙ tails ∙ append_assoc (to_be_bytes w32 n) journal.config (is.run ++ 0 ∷ rest) in
    let read =
    some_is (ends.size, ends.part) (n, journal.config ++ (is.run ++ 0 ∷ rest))
    (sym (number_again w32 (2 ^ 32) wide32 ends.size ends.part (omega (arith, ends.small))) ∙ ap (number_at w32) sizes
    ∙ number_again w32 (2 ^ 32) wide32 n (journal.config ++ (is.run ++ 0 ∷ rest)) (omega (arith, is.small))) in
    let size : ends.size ≡ n = ap (λ (pair : ℕ × List ℕ). pair.0) read in
    let part : ends.part ≡ journal.config ++ (is.run ++ 0 ∷ rest) = ap (λ (pair : ℕ × List ℕ). pair.1) read in
    omega (arith, size, ends.short, ap length part, length-append journal.config (is.run ++ 0 ∷ rest))
misfit journal bytes front rest place is whole (no_gate other at was) =
    let heads = same_fronts journal other front bytes (0 ∷ rest) [] is was (sym whole ∙ sym (append-nil bytes)) in
    run_ends true journal.records other.records is.run was.run rest is.records was.records heads.rest
misfit journal bytes front rest place is whole (no_record ends) =
    let heads =
    same_fronts journal ends.journal front ends.front (0 ∷ rest) (ends.gate ∷ ends.rest) is ends.begins
    (sym whole ∙ ends.whole) in
    run_stops true journal.records ends.journal.records is.run ends.begins.run rest ends.rest ends.gate is.records
    ends.begins.records ends.is_open
    (subst (λ (f : Bool). BeginsWithNone f ends.rest) (sym (next_true ends.journal.records)) ends.none) heads.rest

pub misfits_none : MisfitsHoldNone
misfits_none journal file place (gate, holds) fits =
    misfit journal (take journal_limit file) holds.front (take (journal_limit - (gate + 1)) holds.rest)
    place holds.begins (within journal gate file holds) fits

run_prefix : (first : Bool) (rs : List TurnRecord) (p : List ℕ) (n : ℕ) → AreRecords first rs p
    → (part : List ℕ) × (rest : List ℕ) × (p ≡ part ++ rest) × AreRecords first (take n rs) part
run_prefix first rs p zero are = ([], p, refl, refl)
run_prefix first [] p (suc n) are = ([], p, refl, refl)
run_prefix first (r ∷ rs) p (suc n) (more, b, others) =
    let prefix = run_prefix false rs more n others in (
      b.gate ∷ (b.text ++ prefix.0),
      prefix.1,
      b.whole
          ∙ ap (λ (t : List ℕ). b.gate ∷ t)
          (ap (λ (t : List ℕ). b.text ++ t) prefix.2 ∙ sym (append_assoc b.text prefix.0 prefix.1)),
      (
        prefix.0,
        record { gate = b.gate; text = b.text; is_open = b.is_open; spells = b.spells; whole = refl },
        prefix.3,
      ),
    )

pub prefixes : PrefixesAreJournals
prefixes journal bytes n is =
    let prefix = run_prefix true journal.records is.run n is.records in
    let head = head_bytes journal.config in (
      is.gate ∷ (head ++ prefix.0),
      prefix.1,
      is.whole
          ∙ ap (λ (t : List ℕ). is.gate ∷ t)
          (ap (λ (t : List ℕ). head ++ t) prefix.2 ∙ sym (append_assoc head prefix.0 prefix.1)),
      record {
        gate = is.gate;
        run = prefix.0;
        is_open = is.is_open;
        small = is.small;
        records = prefix.3;
        whole = refl;
      },
    )
