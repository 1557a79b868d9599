-- What a record more makes of a file, and what a crash may make of it.
use Rattle.std.proofs.Common.{◌≡◌, inl, inr, ℕ, ◌+◌, ◌-◌, ◌<◌, ◌≤◌, Bool, true, not, List, [], ◌∷◌, ◌++◌, length}
use Rattle.std.proofs.Common.{get_or, take, drop, Option, Some, None, Result, Ok, Err, OnOk, refl, sym, ap, subst, ◌∙◌}
use Rattle.std.proofs.Common.{append_assoc, length-append, length-drop, arith}
use Rattle.std.specs.Option.{ForSome, option_map}
use Rattle.std.proofs.lemmas.Bool.{cases_eq}
use Rattle.std.proofs.lemmas.List.{take_at, drop_at, drop_more, take-append-drop, length-take-le}
use Rattle.std.proofs.lemmas.Option.{none-some, same_Some}
use Rattle.disk_port.specs.Past.{LeavesOnly, Past, Rests, TearsOnly, Torn, put, synced, text_of, written}
use Rattle.disk_port.proofs.PastLaws.{then_more, weaker}
use Rattle.journal_format.specs.Limits.{journal_limit}
use Rattle.journal_format.specs.Journals.{HoldsAt, Journal, is_blank, with_record}
use Rattle.journal_format.specs.Spelling.{Spells}
use Rattle.journal_format.specs.declared.turn_record.TurnRecord.{TurnRecord}
use Rattle.journal_format.proofs.FindLaws.{front_more, not_empty}
use Rattle.turn_journal.specs.Standing.{Adds, HoldsOrWith, IsNext, IsReady, IsWithin, LeavesOneOrBoth, Stands}
use Rattle.turn_journal.specs.Standing.{StandsWith, Told, opened_past, put_past}

-- ---- the file at rest

pub gate_within : (journal : Journal) (gate : ℕ) (file : List ℕ) → HoldsAt journal gate file → gate + 1 ≤ length file
gate_within journal gate file holds =
    omega (arith, holds.gate, ap length holds.whole, length-append holds.front (0 ∷ holds.rest))

-- a journal that is ready has its closed gate within the file
pub ready_within : (told : Option Past) (gate : ℕ) (has_record : Bool) → IsReady told gate has_record
    → IsWithin told gate
ready_within told gate has_record ready past is =
    let at = ready past is in gate_within at.0 gate (text_of past) at.1.holds

-- where the old past has P, the new one has Q
pub place_then : (f : Past → Past) (P Q : Past → Type 0) (old new : Option Past) → ((past : Past) → P past → Q (f past))
    → new ≡ option_map f old → ForSome old P → ForSome new Q
place_then f P Q None new gives new_is was past is = absurd (none-some past (sym new_is ∙ is))
place_then f P Q (Some old) new gives new_is was past is =
    subst Q (same_Some (f old) past (sym new_is ∙ is)) (gives old (was old refl))

-- a file with other bytes over some of its own is no shorter, and has room for them
put_long : (place : ℕ) (bytes text : List ℕ) → place ≤ length text
    → (length text ≤ length (put place bytes text)) × (place + length bytes ≤ length (put place bytes text))
put_long place bytes text within =
    let rest = drop (place + length bytes) text in
    let whole : length (put place bytes text) ≡ place + (length bytes + (length text - (place + length bytes))) =
    omega (
      arith,
      length-take-le place text within,
      length-append (take place text) (bytes ++ rest),
      length-append bytes rest,
      length-drop (place + length bytes) text,
    ) in
    (omega (arith, whole), omega (arith, whole))

-- the place to write to, and the gate after it
pub put_within : (gate : ℕ) (bytes : List ℕ) (old mid : Option Past) → mid ≡ option_map (put_past gate bytes) old
    → IsWithin old gate → ForSome mid (λ past. gate + 1 + length bytes ≤ length (text_of past))
put_within gate bytes old mid mid_is within =
    place_then (put_past gate bytes) (λ past. gate + 1 ≤ length (text_of past))
    (λ past. gate + 1 + length bytes ≤ length (text_of past)) old mid
    (λ past long. (put_long (gate + 1) bytes (text_of past) long).1) mid_is within

pub gate_within_put : (gate : ℕ) (bytes : List ℕ) (old mid : Option Past) → mid ≡ option_map (put_past gate bytes) old
    → IsWithin old gate → ForSome mid (λ past. gate ≤ length (text_of past))
gate_within_put gate bytes old mid mid_is within past is =
    let long = put_within gate bytes old mid mid_is within past is in omega (arith, long)

pub within_done : {T E : Type 0} (answer : Result T E) (old mid new : Option Past) (gate : ℕ) (bytes : List ℕ)
    → IsWithin old gate → mid ≡ option_map (put_past gate bytes) old
    → OnOk answer (new ≡ option_map (opened_past gate) mid) → OnOk answer (IsWithin new (gate + length bytes))
within_done (Ok value) old mid new gate bytes within mid_is new_is =
    place_then (opened_past gate) (λ past. gate + 1 + length bytes ≤ length (text_of past))
    (λ past. gate + length bytes + 1 ≤ length (text_of past)) mid new
    (λ past long.
    let at : gate ≤ length (text_of past) = omega (arith, long) in
    let kept = (put_long gate (1 ∷ []) (text_of past) at).0 in omega (arith, long, kept)) new_is
    (put_within gate bytes old mid mid_is within)
within_done (Err error) old mid new gate bytes within mid_is new_is = tt

-- the file up to its closed gate
front_is : (journal : Journal) (gate : ℕ) (file : List ℕ) (holds : HoldsAt journal gate file)
    → take (gate + 1) file ≡ holds.front ++ 0 ∷ []
front_is journal gate file holds =
    let front = holds.front ++ 0 ∷ [] in
    ap (take (gate + 1)) (holds.whole ∙ sym (append_assoc holds.front (0 ∷ []) holds.rest))
    ∙ take_at front holds.rest (gate + 1) (omega (arith, holds.gate, length-append holds.front (0 ∷ [])))

-- ---- the write after the gate

-- any bytes may follow a closed gate
pub behind_gate : (journal : Journal) (gate count : ℕ) (file image : List ℕ) → HoldsAt journal gate file
    → Torn (gate + 1) count file image → HoldsAt journal gate image
behind_gate journal gate count file image holds torn = record {
  front = holds.front;
  rest = drop (gate + 1) image;
  begins = holds.begins;
  whole = sym (take-append-drop (gate + 1) image)
      ∙ ap (λ (t : List ℕ). t ++ drop (gate + 1) image) (torn.before ∙ front_is journal gate file holds)
      ∙ append_assoc holds.front (0 ∷ []) (drop (gate + 1) image);
  gate = holds.gate;
  limit = holds.limit;
}

-- what was after these bytes
abbrev tail_of : ℕ → List ℕ → List ℕ → List ℕ
tail_of gate bytes file = drop (gate + 1 + length bytes) file

-- the file with the record and a closed gate after the closed gate
staged : (journal : Journal) (gate : ℕ) (file bytes text : List ℕ) (holds : HoldsAt journal gate file)
    → bytes ≡ text ++ 0 ∷ []
    → put (gate + 1) bytes file ≡ holds.front ++ 0 ∷ (text ++ 0 ∷ tail_of gate bytes file)
staged journal gate file bytes text holds is =
    let tail = tail_of gate bytes file in
    ap (λ (t : List ℕ). t ++ (bytes ++ tail)) (front_is journal gate file holds)
    ∙ append_assoc holds.front (0 ∷ []) (bytes ++ tail)
    ∙ ap (λ (t : List ℕ). holds.front ++ 0 ∷ t) (ap (λ (t : List ℕ). t ++ tail) is ∙ append_assoc text (0 ∷ []) tail)

-- ---- the write of the gate

module _ (front after : List ℕ) (gate : ℕ) (at : length front ≡ gate) where
  -- the bytes with this gate
  abbrev gated : ℕ → List ℕ
  gated byte = front ++ byte ∷ after

  before_gate : (byte : ℕ) → take gate (gated byte) ≡ front
  before_gate byte = take_at front (byte ∷ after) gate at

  after_gate : (byte : ℕ) → drop (gate + 1) (gated byte) ≡ after
  after_gate byte =
      ap (drop (gate + 1)) (sym (append_assoc front (byte ∷ []) after))
      ∙ drop_at (front ++ byte ∷ []) after (gate + 1) (omega (arith, at, length-append front (byte ∷ [])))

  -- any byte may stand at a gate that is torn
  pub torn_gate : (byte : ℕ) (image : List ℕ) → Torn gate 1 (gated byte) image → (new : ℕ) × (image ≡ gated new)
  torn_gate byte image torn =
      let long : gate < length image = omega (arith, torn.no_shorter, at, length-append front (byte ∷ after)) in
      let new = get_or image gate 0 in (
        new,
        sym (take-append-drop gate image)
            ∙ ap (λ (t : List ℕ). t ++ drop gate image) (torn.before ∙ before_gate byte)
            ∙ ap (λ (t : List ℕ). front ++ t)
            (drop_more image gate 0 long ∙ ap (λ (t : List ℕ). new ∷ t) (torn.after ∙ after_gate byte)),
      )

  pub put_gate : (byte new : ℕ) → put gate (new ∷ []) (gated byte) ≡ gated new
  put_gate byte new =
      ap (λ (t : List ℕ). t ++ (new ∷ drop (gate + 1) (gated byte))) (before_gate byte)
      ∙ ap (λ (t : List ℕ). front ++ new ∷ t) (after_gate byte)

-- a journal with a record after its gate, once that is open
with_more : (journal : Journal) (gate : ℕ) (file : List ℕ) (holds : HoldsAt journal gate file) (has_record : Bool)
    (entry : TurnRecord) (text tail : List ℕ) (byte place : ℕ) → is_blank journal ≡ not has_record
    → Spells (not has_record) entry text → 0 < byte → place ≡ gate + (length text + 1) → place < journal_limit
    → HoldsAt (with_record journal entry) place (holds.front ++ byte ∷ (text ++ 0 ∷ tail))
with_more journal gate file holds has_record entry text tail byte place blank spells is_open at limit = record {
  front = holds.front ++ byte ∷ text;
  rest = tail;
  begins =
      front_more journal holds.front byte entry text holds.begins is_open
      (subst (λ (first : Bool). Spells first entry text) (sym blank) spells);
  whole = sym (append_assoc holds.front (byte ∷ text) (0 ∷ tail));
  gate = omega (arith, at, holds.gate, length-append holds.front (byte ∷ text));
  limit = limit;
}

-- with any byte at the gate
one_or_both : (journal : Journal) (gate : ℕ) (file : List ℕ) (holds : HoldsAt journal gate file) (has_record : Bool)
    (entry : TurnRecord) (text tail : List ℕ) (byte place : ℕ) → is_blank journal ≡ not has_record
    → Spells (not has_record) entry text → place ≡ gate + (length text + 1) → place < journal_limit
    → HoldsOrWith journal entry (holds.front ++ byte ∷ (text ++ 0 ∷ tail))
one_or_both journal gate file holds has_record entry text tail byte place blank spells at limit =
    elim (cases_eq byte 0) [
      | inl shut ↦ inl (
        gate,
        record {
          front = holds.front;
          rest = text ++ 0 ∷ tail;
          begins = holds.begins;
          whole = ap (λ (b : ℕ). holds.front ++ b ∷ (text ++ 0 ∷ tail)) shut;
          gate = holds.gate;
          limit = holds.limit;
        },
      )
      | inr not_shut ↦
          inr (
            place,
            with_more journal gate file holds has_record entry text tail byte place blank spells
                (omega (arith, not_shut)) at limit,
          )
    ]

-- ---- the two calls

rests : (past : Past) → Rests (synced past)
rests past image leaves = leaves

at_end : (gate : ℕ) (bytes text : List ℕ) → bytes ≡ text ++ 0 ∷ [] → gate + length bytes ≡ gate + (length text + 1)
at_end gate bytes text is = omega (arith, ap length is, length-append text (0 ∷ []))

staged_text : (told : Option Past) (gate : ℕ) (has_record : Bool) (bytes text : List ℕ) (is : bytes ≡ text ++ 0 ∷ [])
    (adds : Adds told gate has_record text)
    → text_of (put_past gate bytes adds.past) ≡ adds.stands.holds.front ++ 0
    ∷ (text ++ 0 ∷ tail_of gate bytes (text_of adds.past))
staged_text told gate has_record bytes text is adds =
    staged adds.journal gate (text_of adds.past) bytes text adds.stands.holds is

pub append_done : (old mid new : Option Past) (gate : ℕ) (has_record : Bool) (bytes text : List ℕ)
    → bytes ≡ text ++ 0 ∷ [] → (adds : Adds old gate has_record text) → gate + length bytes < journal_limit
    → mid ≡ option_map (put_past gate bytes) old → new ≡ option_map (opened_past gate) mid
    → StandsWith adds new (gate + length bytes) true
append_done old mid new gate has_record bytes text is adds limit mid_is new_is =
    let holds = adds.stands.holds in
    let tail = tail_of gate bytes (text_of adds.past) in
    let after = text ++ 0 ∷ tail in
    let text_is : text_of (opened_past gate (put_past gate bytes adds.past)) ≡ holds.front ++ 1 ∷ after =
    ap (put gate (1 ∷ [])) (staged_text old gate has_record bytes text is adds)
    ∙ put_gate holds.front after gate holds.gate 0 1 in
    let place = gate + length bytes in
    let more =
    with_more adds.journal gate (text_of adds.past) holds has_record adds.entry text tail 1 place adds.stands.blank
    adds.spells (omega arith) (at_end gate bytes text is) limit in (
      opened_past gate (put_past gate bytes adds.past),
      new_is ∙ ap (option_map (opened_past gate)) (mid_is ∙ ap (option_map (put_past gate bytes)) adds.is_told),
      record {
        rests = rests (written gate (1 ∷ []) (put_past gate bytes adds.past));
        holds = subst (HoldsAt (with_record adds.journal adds.entry) place) (sym text_is) more;
        blank = not_empty adds.journal.records adds.entry;
      },
    )

pub first_torn : (old mid : Option Past) (gate count : ℕ) (has_record : Bool) (text : List ℕ)
    (adds : Adds old gate has_record text) → ForSome old (λ past. TearsOnly (gate + 1) count past mid)
    → LeavesOneOrBoth adds mid
first_torn old mid gate count has_record text adds tears =
    let t = tears adds.past adds.is_told adds.stands.rests in (
      t.0,
      t.1,
      weaker adds.past t.0 (Torn (gate + 1) count (text_of adds.past)) (HoldsOrWith adds.journal adds.entry)
          (λ image torn.
          inl (gate, behind_gate adds.journal gate count (text_of adds.past) image adds.stands.holds torn)) t.2,
    )

pub second_torn : (old mid new : Option Past) (gate : ℕ) (has_record : Bool) (bytes text : List ℕ)
    → bytes ≡ text ++ 0 ∷ [] → (adds : Adds old gate has_record text) → gate + length bytes < journal_limit
    → mid ≡ option_map (put_past gate bytes) old → ForSome old (λ past. TearsOnly (gate + 1) (length bytes) past mid)
    → ForSome mid (λ past. TearsOnly gate 1 past new) → LeavesOneOrBoth adds new
second_torn old mid new gate has_record bytes text is adds limit mid_is tears tears_gate =
    let P = HoldsOrWith adds.journal adds.entry in
    let holds = adds.stands.holds in
    let tail = tail_of gate bytes (text_of adds.past) in
    let after = text ++ 0 ∷ tail in
    let past = put_past gate bytes adds.past in
    let told : mid ≡ Some past = mid_is ∙ ap (option_map (put_past gate bytes)) adds.is_told in
    let first = first_torn old mid gate (length bytes) has_record text adds tears in
    let same : first.0 ≡ past = same_Some first.0 past (sym first.1 ∙ told) in
    let second = tears_gate past told (rests (written (gate + 1) bytes adds.past)) in
    let place = gate + length bytes in
    let image_is = λ (image : List ℕ) (torn : Torn gate 1 (text_of past) image).
    let t =
    torn_gate holds.front after gate holds.gate 0 image
    (subst (λ (file : List ℕ). Torn gate 1 file image) (staged_text old gate has_record bytes text is adds) torn) in
    subst P (sym t.1)
    (one_or_both adds.journal gate (text_of adds.past)
    holds has_record adds.entry text tail t.0 place adds.stands.blank adds.spells (at_end gate bytes text is) limit) in
    let later : LeavesOnly past second.0 P = weaker past second.0 (Torn gate 1 (text_of past)) P image_is second.2 in (
      second.0,
      second.1,
      then_more adds.past first.0 second.0 P first.2
          (subst (λ (from : Past). LeavesOnly from second.0 P) (sym same) later),
    )

pub done_if_ok : {T E : Type 0} (answer : Result T E) (old mid new : Option Past) (gate : ℕ) (bytes : List ℕ)
    → gate + length bytes < journal_limit → mid ≡ option_map (put_past gate bytes) old
    → OnOk answer (new ≡ option_map (opened_past gate) mid)
    → OnOk answer
    ((has_record : Bool) (text : List ℕ) → bytes ≡ text ++ 0 ∷ [] → (adds : Adds old gate has_record text)
    → StandsWith adds new (gate + length bytes) true)
done_if_ok (Ok value) old mid new gate bytes limit mid_is new_is =
    λ has_record text is adds. append_done old mid new gate has_record bytes text is adds limit mid_is new_is
done_if_ok (Err error) old mid new gate bytes limit mid_is new_is = tt

-- what stands there is ready for the next record
ready_done : (old mid new : Option Past) (gate : ℕ) (has_record : Bool) (bytes text : List ℕ) → bytes ≡ text ++ 0 ∷ []
    → IsReady old gate has_record → IsNext has_record text → gate + length bytes < journal_limit
    → mid ≡ option_map (put_past gate bytes) old → new ≡ option_map (opened_past gate) mid
    → IsReady new (gate + length bytes) true
ready_done None mid new gate has_record bytes text is ready next limit mid_is new_is past now_is =
    absurd (none-some past (sym (new_is ∙ ap (option_map (opened_past gate)) mid_is) ∙ now_is))
ready_done (Some old) mid new gate has_record bytes text is ready next limit mid_is new_is past now_is =
    let at = ready old refl in
    let adds : Adds (Some old) gate has_record text =
    record { past = old; journal = at.0; entry = next.0; is_told = refl; stands = at.1; spells = next.1 } in
    let done = append_done (Some old) mid new gate has_record bytes text is adds limit mid_is new_is in
    let journal = with_record at.0 next.0 in (
      journal,
      subst (λ (p : Past). Stands p (gate + length bytes) true journal)
          (same_Some done.0 past (sym done.1 ∙ now_is)) done.2,
    )

pub ready_if_ok : {T E : Type 0} (answer : Result T E) (old mid new : Option Past) (gate : ℕ) (bytes : List ℕ)
    → gate + length bytes < journal_limit → mid ≡ option_map (put_past gate bytes) old
    → OnOk answer (new ≡ option_map (opened_past gate) mid)
    → OnOk answer
    ((has_record : Bool) (text : List ℕ) → bytes ≡ text ++ 0 ∷ [] → IsReady old gate has_record → IsNext has_record text
    → IsReady new (gate + length bytes) true)
ready_if_ok (Ok value) old mid new gate bytes limit mid_is new_is =
    λ has_record text is ready next. ready_done old mid new gate has_record bytes text is ready next limit mid_is new_is
ready_if_ok (Err error) old mid new gate bytes limit mid_is new_is = tt

-- ---- the same of a value whose bytes are made ready first

pub moved_within : (old told : Option Past) (gate place : ℕ) → told ≡ old → place ≡ gate → IsWithin old gate
    → IsWithin told place
moved_within old told gate place same at within past is =
    let long = within past (sym same ∙ is) in omega (arith, at, long)

module _ (old told new : Option Past) (gate place : ℕ) (bytes ready : List ℕ) (same : told ≡ old) (at : place ≡ gate)
    (is : ready ≡ bytes ++ 0 ∷ []) (has_record : Bool) where
  abbrev moved : Adds old gate has_record bytes → Adds told place has_record bytes
  moved adds = record {
    past = adds.past;
    journal = adds.journal;
    entry = adds.entry;
    is_told = same ∙ adds.is_told;
    stands = subst (λ (g : ℕ). Stands adds.past g has_record adds.journal) (sym at) adds.stands;
    spells = adds.spells;
  }

  pub moved_moment :
      ((has : Bool) (text : List ℕ) → ready ≡ text ++ 0 ∷ [] → (adds : Adds told place has text)
      → LeavesOneOrBoth adds new)
      → (adds : Adds old gate has_record bytes)
      → Told new (λ now. LeavesOnly adds.past now (HoldsOrWith adds.journal adds.entry))
  moved_moment clause adds = clause has_record bytes is (moved adds)

  pub moved_ok : (size : ℕ) → size ≡ length ready
      → ((has : Bool) (text : List ℕ) → ready ≡ text ++ 0 ∷ [] → (adds : Adds told place has text)
      → StandsWith adds new (place + length ready) true)
      → (adds : Adds old gate has_record bytes)
      → Told new (λ now. Stands now (place + size) true (with_record adds.journal adds.entry))
  moved_ok size size_is clause adds =
      let stands = clause has_record bytes is (moved adds) in (
        stands.0,
        stands.1,
        subst (λ (n : ℕ). Stands stands.0 (place + n) true (with_record adds.journal adds.entry))
            (sym size_is) stands.2,
      )

  pub moved_ready : (size : ℕ) → size ≡ length ready → IsReady old gate has_record → IsNext has_record bytes
      → ((has : Bool) (text : List ℕ) → ready ≡ text ++ 0 ∷ [] → IsReady told place has → IsNext has text
      → IsReady new (place + length ready) true) → IsReady new (place + size) true
  moved_ready size size_is was next clause =
      let was_told : IsReady told place has_record = λ past is_told.
      let before = was past (sym same ∙ is_told) in
      (before.0, subst (λ (g : ℕ). Stands past g has_record before.0) (sym at) before.1) in
      subst (λ (n : ℕ). IsReady new (place + n) true) (sym size_is) (clause has_record bytes is was_told next)
