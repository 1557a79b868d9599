-- What is known of the parts of a journal that were read one after the other.
use Rattle.std.proofs.Common.{◌≡◌, ◌≢◌, ℕ, ◌+◌, ◌-◌, ◌^◌, ◌<◌, ◌≤◌, Bool, true, false, not, List, [], ◌∷◌, ◌++◌, length}
use Rattle.std.proofs.Common.{take, drop, Some, None, Result, Ok, Err, MatchResult, refl, sym, ap, subst, ◌∙◌}
use Rattle.std.proofs.Common.{append_assoc, length-append, arith, inl, inr}
use Rattle.std.specs.Int.{w32, to_be_bytes}
use Rattle.std.proofs.lemmas.List.{append-nil, nil_from_length, take-append-drop, length-take}
use Rattle.journal_format.specs.Limits.{config_limit, journal_limit}
use Rattle.journal_format.specs.Spelling.{IsRecord, Spells, is_listen, record_bytes}
use Rattle.journal_format.specs.Reading.{number_at, read_as}
use Rattle.journal_format.specs.Journals.{AreRecords, BeginsWithNoLength, BeginsWithNone, EndsInConfig, IsFront}
use Rattle.journal_format.specs.Journals.{Journal, MisfitsAt, no_open_gate, no_length, no_config, no_gate, no_record}
use Rattle.journal_format.specs.Journals.{blank, head_bytes, is_blank, is_empty, with_record}
use Rattle.journal_format.specs.Finding.{Ends, HasFront, IsHead, IsWhyNoHead, IsWhyNone, TakesRecord}
use Rattle.journal_format.specs.declared.finder.NoJournal.{NoJournal}
use Rattle.journal_format.specs.declared.finder.NoJournal.TheVariants as none
use Rattle.journal_format.specs.declared.turn_record.TurnRecord.{TurnRecord}
use Rattle.journal_format.specs.declared.unread.Unread.TheVariants as unread
use Rattle.journal_format.proofs.NumberLaws.{IsBytes, number_takes, number_again, some_is, wide32}

-- ---- the head

-- the length that the bytes begin with is the one that is read
length_is : (bytes more : List ℕ) (size : ℕ) (read : ℕ × List ℕ) → size ≤ config_limit
    → bytes ≡ to_be_bytes w32 size ++ more → number_at w32 bytes ≡ Some read → size ≡ read.0
length_is bytes more size read small whole e =
    let again : number_at w32 bytes ≡ Some (size, more) =
    ap (number_at w32) whole ∙ number_again w32 (2 ^ 32) wide32 size more (omega (arith, small)) in
    ap (λ (x : ℕ × List ℕ). x.0) (some_is (size, more) read (sym again ∙ e))

pub no_length_short : (bytes : List ℕ) → number_at w32 bytes ≡ None → BeginsWithNoLength bytes
no_length_short bytes e size more small whole =
    let again : number_at w32 bytes ≡ Some (size, more) =
    ap (number_at w32) whole ∙ number_again w32 (2 ^ 32) wide32 size more (omega (arith, small)) in
    absurd cc

pub no_length_long : (bytes : List ℕ) (read : ℕ × List ℕ) → number_at w32 bytes ≡ Some read → config_limit < read.0
    → BeginsWithNoLength bytes
no_length_long bytes read e long size more small whole =
    let same = length_is bytes more size read small whole e in
    omega (arith, same, small, long)

pub ends_in_config : (bytes : List ℕ) (size : ℕ) (rest : List ℕ) → IsBytes bytes
    → number_at w32 bytes ≡ Some (size, rest) → size ≤ config_limit → length rest < size → EndsInConfig bytes
ends_in_config bytes size rest fits e small short =
    let t = number_takes w32 (2 ^ 32) wide32 bytes size rest fits e in
    record { size = size; part = rest; small = small; whole = t.0.parts; short = short }

pub is_head : (bytes : List ℕ) (size : ℕ) (rest : List ℕ) → IsBytes bytes → number_at w32 bytes ≡ Some (size, rest)
    → size ≤ config_limit → size ≤ length rest → IsHead bytes (drop size rest)
is_head bytes size rest fits e small there =
    let t = number_takes w32 (2 ^ 32) wide32 bytes size rest fits e in
    let config = take size rest in
    let is_size : length config ≡ size = omega (arith, length-take size rest) in
    record {
      config = config;
      small = omega (arith, is_size, small);
      whole = t.0.parts
          ∙ ap (λ (more : List ℕ). to_be_bytes w32 size ++ more) (sym (take-append-drop size rest))
          ∙ sym (append_assoc (to_be_bytes w32 size) config (drop size rest))
          ∙ ap (λ (k : ℕ). (to_be_bytes w32 k ++ config) ++ drop size rest) (sym is_size);
    }

-- after an open gate
pub head_front : (bytes : List ℕ) (gate : ℕ) (head rest : List ℕ) → 0 < gate → bytes ≡ gate ∷ head → IsHead head rest
    → HasFront true bytes rest
head_front bytes gate head rest is_open whole is = record {
  journal = blank is.config;
  front = gate ∷ (head_bytes is.config ++ []);
  begins = record { gate = gate; run = []; is_open = is_open; small = is.small; records = refl; whole = refl };
  next = refl;
  whole =
      whole
      ∙ ap (λ (t : List ℕ). gate ∷ t)
      (is.whole ∙ ap (λ (t : List ℕ). t ++ rest) (sym (append-nil (head_bytes is.config))));
}

head_misfit : (bytes : List ℕ) (gate : ℕ) (head : List ℕ) (why : NoJournal) → 0 < gate → bytes ≡ gate ∷ head
    → IsWhyNoHead head why → IsWhyNone bytes why
head_misfit bytes gate head (none.Refused place) is_open whole (inl length) =
    no_length gate head length.0 is_open whole length.1
head_misfit bytes gate head (none.Refused place) is_open whole (inr config) =
    no_config gate head config.0 is_open whole config.1
head_misfit bytes gate head none.Memory is_open whole nothing = tt

pub head_read : {X : Type 0} (view : X → List ℕ) (bytes : List ℕ) (gate : ℕ) (head : List ℕ)
    (answer : Result X NoJournal) → 0 < gate → bytes ≡ gate ∷ head
    → MatchResult answer (λ rest. IsHead head (view rest)) (IsWhyNoHead head)
    → MatchResult answer (λ rest. HasFront true bytes (view rest)) (IsWhyNone bytes)
head_read view bytes gate head (Ok rest) is_open whole is = head_front bytes gate head (view rest) is_open whole is
head_read view bytes gate head (Err why) is_open whole is = head_misfit bytes gate head why is_open whole is

pub nothing_open : (bytes : List ℕ) → length bytes ≡ 0 → MisfitsAt bytes 0
nothing_open bytes empty = no_open_gate refl (λ gate more is_open whole. omega (arith, empty, ap length whole))

pub gate_shut : (bytes : List ℕ) (gate : ℕ) (head : List ℕ) → gate ≡ 0 → bytes ≡ gate ∷ head → MisfitsAt bytes 0
gate_shut bytes gate head shut whole =
    no_open_gate refl (λ other more is_open is. let same : gate ≡ other = cc in omega (arith, same, shut, is_open))

-- ---- records

-- whether the record after these is the first of the journal
abbrev pub next_first : Bool → List TurnRecord → Bool
next_first first [] = first
next_first first (entry ∷ entries) = false

pub next_false : (entries : List TurnRecord) → next_first false entries ≡ false
next_false [] = refl
next_false (entry ∷ entries) = refl

pub next_true : (entries : List TurnRecord) → next_first true entries ≡ is_empty entries
next_true [] = refl
next_true (entry ∷ entries) = refl

one_more : (first : Bool) (entries : List TurnRecord) (run : List ℕ) (gate : ℕ) (entry : TurnRecord) (text : List ℕ)
    → AreRecords first entries run → 0 < gate
    → Spells (next_first first entries) entry text → AreRecords first (entries ++ entry ∷ []) (run ++ gate ∷ text)
one_more first [] run gate entry text none is_open spells = (
  [],
  record {
    gate = gate;
    text = text;
    is_open = is_open;
    spells = spells;
    whole = ap (λ (r : List ℕ). r ++ gate ∷ text) none ∙ ap (λ (t : List ℕ). gate ∷ t) (sym (append-nil text));
  },
  refl,
)
one_more first (r ∷ entries) run gate entry text (more, begins, others) is_open spells = (
  more ++ gate ∷ text,
  record {
    gate = begins.gate;
    text = begins.text;
    is_open = begins.is_open;
    spells = begins.spells;
    whole =
        ap (λ (t : List ℕ). t ++ gate ∷ text) begins.whole
        ∙ ap (λ (t : List ℕ). begins.gate ∷ t) (append_assoc begins.text more (gate ∷ text));
  },
  one_more false entries more gate entry text others is_open
      (subst (λ (b : Bool). Spells b entry text) (sym (next_false entries)) spells),
)

pub not_empty : (entries : List TurnRecord) (entry : TurnRecord) → is_empty (entries ++ entry ∷ []) ≡ false
not_empty [] entry = refl
not_empty (r ∷ entries) entry = refl

-- the journal up to its closed gate, with a record more
pub front_more : (journal : Journal) (front : List ℕ) (gate : ℕ) (entry : TurnRecord) (text : List ℕ)
    → IsFront journal front → 0 < gate → Spells (is_blank journal) entry text
    → IsFront (with_record journal entry) (front ++ gate ∷ text)
front_more journal front gate entry text is is_open spells = record {
  gate = is.gate;
  run = is.run ++ gate ∷ text;
  is_open = is.is_open;
  small = is.small;
  records =
      one_more true journal.records is.run gate entry text is.records is_open
      (subst (λ (b : Bool). Spells b entry text) (sym (next_true journal.records)) spells);
  whole =
      ap (λ (t : List ℕ). t ++ gate ∷ text) is.whole
      ∙ ap (λ (t : List ℕ). is.gate ∷ t) (append_assoc (head_bytes journal.config) is.run (gate ∷ text));
}

pub goes_on : (first : Bool) (bytes rest : List ℕ) (gate : ℕ) (after left : List ℕ) → HasFront first bytes rest
    → rest ≡ gate ∷ after → gate ≢ 0 → TakesRecord first after left → HasFront false bytes left
goes_on first bytes rest gate after left so_far is shut takes = record {
  journal = with_record so_far.journal takes.entry;
  front = so_far.front ++ gate ∷ takes.text;
  begins =
      front_more so_far.journal so_far.front gate takes.entry takes.text so_far.begins (omega (arith, shut))
      (subst (λ (b : Bool). Spells b takes.entry takes.text) (sym so_far.next) takes.spells);
  next = not_empty so_far.journal.records takes.entry;
  whole =
      so_far.whole ∙ ap (λ (t : List ℕ). so_far.front ++ t) (is ∙ ap (λ (t : List ℕ). gate ∷ t) takes.whole)
      ∙ sym (append_assoc so_far.front (gate ∷ takes.text) left);
}

twice : (b : Bool) → not (not b) ≡ b
twice true = refl
twice false = refl

front_length : (first : Bool) (bytes rest : List ℕ) (so_far : HasFront first bytes rest)
    → length so_far.front ≡ length bytes - length rest
front_length first bytes rest so_far = omega (arith, ap length so_far.whole, length-append so_far.front rest)

pub closed : (first : Bool) (bytes rest : List ℕ) (gate : ℕ) (after : List ℕ) (place : ℕ) → HasFront first bytes rest
    → length bytes ≤ journal_limit → rest ≡ gate ∷ after → gate ≡ 0
    → place ≡ length bytes - length rest → Ends bytes (record { gate = place; has_record = not first })
closed first bytes rest gate after place so_far limit is shut at = record {
  journal = so_far.journal;
  holds = record {
    front = so_far.front;
    rest = after;
    begins = so_far.begins;
    whole = so_far.whole ∙ ap (λ (t : List ℕ). so_far.front ++ t) (is ∙ ap (λ (g : ℕ). g ∷ after) shut);
    gate = front_length first bytes rest so_far ∙ sym at;
    limit =
        omega (
          arith,
          limit,
          at,
          ap length is,
          front_length first bytes rest so_far,
          ap length so_far.whole,
          length-append so_far.front rest,
        );
  };
  has_record = so_far.next ∙ sym (twice first);
}

pub cut_short : (first : Bool) (bytes rest : List ℕ) → HasFront first bytes rest → length rest ≡ 0
    → MisfitsAt bytes (length bytes)
cut_short first bytes rest so_far empty =
    let all : so_far.front ≡ bytes =
    sym (so_far.whole ∙ ap (λ (t : List ℕ). so_far.front ++ t) (nil_from_length rest empty)
    ∙ append-nil so_far.front) in
    no_gate so_far.journal refl (subst (IsFront so_far.journal) all so_far.begins)

pub no_more : (first : Bool) (bytes rest : List ℕ) (gate : ℕ) (after : List ℕ) (place : ℕ) → HasFront first bytes rest
    → rest ≡ gate ∷ after → gate ≢ 0 → place ≡ length bytes - length rest
    → BeginsWithNone first after → MisfitsAt bytes (place + 1)
no_more first bytes rest gate after place so_far is shut at begins_none = no_record (record {
  journal = so_far.journal;
  front = so_far.front;
  gate = gate;
  rest = after;
  begins = so_far.begins;
  is_open = omega (arith, shut);
  whole = so_far.whole ∙ ap (λ (t : List ℕ). so_far.front ++ t) is;
  after_gate = omega (arith, at, front_length first bytes rest so_far);
  none = subst (λ (b : Bool). BeginsWithNone b after) (sym so_far.next) begins_none;
})

-- ---- one record

pub record_of_other_kind : (first : Bool) (bytes : List ℕ) (entry : TurnRecord) (rest : List ℕ)
    → ((other : TurnRecord) (more : List ℕ) → IsRecord other → bytes ≡ record_bytes other ++ more
    → read_as other more ≡ read_as entry rest) → is_listen entry.event ≢ first → BeginsWithNone first bytes
record_of_other_kind first bytes entry rest only differs other text more spells whole =
    let same = only other more spells.allowed (whole ∙ ap (λ (t : List ℕ). t ++ more) spells.text) in
    let is : other ≡ entry = ap (λ (x : TurnRecord × List ℕ). x.0) (some_is (other, more) (entry, rest) same) in
    differs (sym (ap (λ (r : TurnRecord). is_listen r.event) is) ∙ spells.order)
