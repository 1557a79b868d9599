-- How what a crash may leave goes on from call to call.
use Rattle.std.proofs.Common.{◌≡◌, inl, inr, ℕ, zero, suc, ◌+◌, ◌-◌, ◌≤◌, min, List, ◌++◌, length, take, drop, Option}
use Rattle.std.proofs.Common.{None, Some, Result, Ok, Err, OnOk, OnErr, refl, sym, ◌∙◌, ap, subst, arith, append_assoc}
use Rattle.std.proofs.Common.{length-append, length-drop}
use Rattle.std.specs.Option.{option_map, ForSome}
use Rattle.std.proofs.lemmas.Bool.{cases_lt}
use Rattle.std.proofs.lemmas.List.{take_at, drop_at, drop_min, drop-drop, length-take-le}
use Rattle.std.proofs.lemmas.Option.{none-some, same_Some}
use Rattle.disk_port.specs.Past.{Past, found, wrote, synced, text_of, put, written, Torn, Leaves, Rests, earlier}
use Rattle.disk_port.specs.Past.{IsPossible, LeavesOnly, IsUndoneOrBegun, TearsOnly}
use Rattle.disk_port.specs.Laws.{CallsArePossible, ReadsAreLeft}

-- before the first call
pub begins : (past : Past) (P : List ℕ → Type 0) → ((image : List ℕ) → Leaves past image → P image)
    → LeavesOnly past past P
begins past P here = record { steps = 0; began = refl; each = each }
  where
    each : (count : ℕ) → count ≤ 0 → (image : List ℕ) → Leaves (earlier count past) image → P image
    each zero le image leaves = here image leaves
    each (suc n) le image leaves = absurd (omega arith)

-- one write more
pub then_wrote : (old now : Past) (place count : ℕ) (text : List ℕ) (P : List ℕ → Type 0) → LeavesOnly old now P
    → ((image : List ℕ) → Leaves (wrote now place count text) image → P image)
    → LeavesOnly old (wrote now place count text) P
then_wrote old now place count text P so_far here =
    record { steps = suc so_far.steps; began = so_far.began; each = each }
  where
    each : (n : ℕ) → n ≤ suc so_far.steps → (image : List ℕ) → Leaves (earlier n (wrote now place count text)) image
        → P image
    each zero le image leaves = here image leaves
    each (suc n) le image leaves = so_far.each n (omega arith) image leaves

-- one sync more
pub then_synced : (old now : Past) (P : List ℕ → Type 0) → LeavesOnly old now P → P (text_of now)
    → LeavesOnly old (synced now) P
then_synced old now P so_far here = record { steps = suc so_far.steps; began = so_far.began; each = each }
  where
    each : (n : ℕ) → n ≤ suc so_far.steps → (image : List ℕ) → Leaves (earlier n (synced now)) image → P image
    each zero le image leaves = subst P (sym leaves) here
    each (suc n) le image leaves = so_far.each n (omega arith) image leaves

pub weaker : (old now : Past) (P Q : List ℕ → Type 0) → ((image : List ℕ) → P image → Q image) → LeavesOnly old now P
    → LeavesOnly old now Q
weaker old now P Q gives so_far = record {
  steps = so_far.steps;
  began = so_far.began;
  each = λ count le image leaves. gives image (so_far.each count le image leaves);
}

earlier_found : (n : ℕ) (text : List ℕ) → earlier n (found text) ≡ found text
earlier_found zero text = refl
earlier_found (suc n) text = refl

-- without m calls and then n more
earlier_more : (k m n : ℕ) (past : Past) → k ≡ m + n → earlier k past ≡ earlier n (earlier m past)
earlier_more k zero n past is = let same : k ≡ n = omega arith in ap (λ i. earlier i past) same
earlier_more zero (suc m) n past is = absurd (omega arith)
earlier_more (suc k) (suc m) n (found text) is = sym (earlier_found n text)
earlier_more (suc k) (suc m) n (wrote past place count text) is = earlier_more k m n past (omega arith)
earlier_more (suc k) (suc m) n (synced past) is = earlier_more k m n past (omega arith)

-- one run of calls, and then another
pub then_more : (old mid now : Past) (P : List ℕ → Type 0) → LeavesOnly old mid P → LeavesOnly mid now P
    → LeavesOnly old now P
then_more old mid now P first second = record {
  steps = second.steps + first.steps;
  began =
      earlier_more (second.steps + first.steps) second.steps first.steps now refl
      ∙ ap (earlier first.steps) second.began ∙ first.began;
  each = each;
}
  where
    back : (count : ℕ) → second.steps ≤ count → earlier count now ≡ earlier (count - second.steps) mid
    back count le =
        earlier_more count second.steps (count - second.steps) now (omega arith)
        ∙ ap (earlier (count - second.steps)) second.began

    each : (count : ℕ) → count ≤ second.steps + first.steps → (image : List ℕ) → Leaves (earlier count now) image
        → P image
    each count le image leaves = elim (cases_lt count second.steps) [
      | inl lt ↦ second.each count (omega arith) image leaves
      | inr ge ↦
          first.each (count - second.steps) (omega arith) image
          (subst (λ past. Leaves past image) (back count ge) leaves)
    ]

-- what is whole is a case of what is torn
pub torn_not : (place count : ℕ) (text : List ℕ) → Torn place count text text
torn_not place count text = record { before = refl; after = refl; no_shorter = omega arith; no_longer = omega arith }

pub torn_put : (place : ℕ) (bytes text : List ℕ) → place ≤ length text
    → Torn place (length bytes) text (put place bytes text)
torn_put place bytes text within = record {
  before = take_at (take place text) (bytes ++ drop (place + length bytes) text) place front_length;
  after =
      ap (drop (place + length bytes)) (sym (append_assoc (take place text) bytes (drop (place + length bytes) text)))
      ∙ drop_at (take place text ++ bytes) (drop (place + length bytes) text) (place + length bytes)
      (length-append (take place text) bytes ∙ ap (λ n. n + length bytes) front_length);
  no_shorter = omega (arith, whole_length);
  no_longer = omega (arith, whole_length);
}
  where
    front_length : length (take place text) ≡ place
    front_length = length-take-le place text within

    whole_length : length (put place bytes text) ≡ place + (length bytes + (length text - (place + length bytes)))
    whole_length =
        omega (
          arith,
          front_length,
          length-append (take place text) (bytes ++ drop (place + length bytes) text),
          length-append bytes (drop (place + length bytes) text),
          length-drop (place + length bytes) text,
        )

-- the bytes of which a file with others over it is made
pub put_parts : (place : ℕ) (bytes file made : List ℕ)
    → made ≡ (take place file ++ bytes) ++ drop (min (length bytes) (length (drop place file))) (drop place file)
    → made ≡ put place bytes file
put_parts place bytes file made is =
    is
    ∙ append_assoc (take place file) bytes (drop (min (length bytes) (length (drop place file))) (drop place file))
    ∙ ap (λ (rest : List ℕ). take place file ++ (bytes ++ rest))
    (drop_min (length bytes) (drop place file) ∙ drop-drop (length bytes) place file)

-- a crash in a write leaves a file that rested with that range torn
torn_whole : (old : Past) (place count : ℕ) (text : List ℕ) → Rests old → (image : List ℕ)
    → Leaves (wrote old place count text) image → Torn place count (text_of old) image
torn_whole old place count text rests image (before, leaves, torn) =
    subst (λ file. Torn place count file image) (rests before leaves) torn

begun : (old : Past) (place count : ℕ) (text : List ℕ) → Rests old
    → LeavesOnly old (wrote old place count text) (Torn place count (text_of old))
begun old place count text rests =
    let P = Torn place count (text_of old) in
    then_wrote old old place count text P
    (begins old P (λ image leaves. subst P (sym (rests image leaves)) (torn_not place count (text_of old))))
    (torn_whole old place count text rests)

-- a write that failed
pub failed_tears : (place count : ℕ) (old new : Option Past) → IsUndoneOrBegun place count old new
    → ForSome old (λ past. TearsOnly place count past new)
failed_tears place count old new (inl same) past is rests =
    let P = Torn place count (text_of past) in (
      past,
      same ∙ is,
      begins past P (λ image leaves. subst P (sym (rests image leaves)) (torn_not place count (text_of past))),
    )
failed_tears place count old new (inr (text, torn, new_is)) past is rests = (
  wrote past place count text,
  new_is ∙ ap (option_map (λ p. wrote p place count text)) is,
  begun past place count text rests,
)

-- a write, and a sync that failed
pub unsynced_tears : (place : ℕ) (bytes : List ℕ) (old mid new : Option Past)
    → mid ≡ option_map (written place bytes) old → new ≡ mid
    → ForSome old (λ past. TearsOnly place (length bytes) past new)
unsynced_tears place bytes old mid new wrote_is same past is rests = (
  written place bytes past,
  same ∙ wrote_is ∙ ap (option_map (written place bytes)) is,
  begun past place (length bytes) (put place bytes (text_of past)) rests,
)

-- a write and a sync
pub synced_tears : (place : ℕ) (bytes : List ℕ) (old mid new : Option Past)
    → ForSome old (λ past. place ≤ length (text_of past))
    → mid ≡ option_map (written place bytes) old → new ≡ option_map synced mid
    → ForSome old (λ past. TearsOnly place (length bytes) past new)
synced_tears place bytes old mid new within wrote_is sync_is past is rests = (
  synced (written place bytes past),
  sync_is ∙ ap (option_map synced) (wrote_is ∙ ap (option_map (written place bytes)) is),
  then_synced past (written place bytes past) (Torn place (length bytes) (text_of past))
      (begun past place (length bytes) (put place bytes (text_of past)) rests)
      (torn_put place bytes (text_of past) (within past is)),
)

-- a write, and a sync that answered so
pub sync_tears : {T E : Type 0} (place : ℕ) (bytes : List ℕ) (old mid new : Option Past) (answer : Result T E)
    → ForSome old (λ past. place ≤ length (text_of past))
    → mid ≡ option_map (written place bytes) old → OnOk answer (new ≡ option_map synced mid) → OnErr answer (new ≡ mid)
    → ForSome old (λ past. TearsOnly place (length bytes) past new)
sync_tears place bytes old mid new (Ok value) within wrote_is sync_is failed =
    synced_tears place bytes old mid new within wrote_is sync_is
sync_tears place bytes old mid new (Err error) within wrote_is sync_is failed =
    unsynced_tears place bytes old mid new wrote_is failed

-- ---- what a disk can report

pub reads_left : ReadsAreLeft
reads_left (found text) possible = tt
reads_left (wrote past place count text) possible = (text_of past, reads_left past possible.0, possible.1)
reads_left (synced past) possible = refl

pub calls_possible : CallsArePossible
calls_possible = record {
  write = λ past place bytes possible within. (possible, torn_put place bytes (text_of past) within);
  failed_write = failed;
  sync = λ past possible. possible;
}
  where
    failed : (old new : Option Past) (place count : ℕ) → ForSome old IsPossible → IsUndoneOrBegun place count old new
        → ForSome new IsPossible
    failed old new place count possible (inl same) past is = possible past (sym same ∙ is)
    failed None new place count possible (inr (text, torn, new_is)) past is = absurd (none-some past (sym new_is ∙ is))
    failed (Some old) new place count possible (inr (text, torn, new_is)) past is =
        subst IsPossible (same_Some (wrote old place count text) past (sym new_is ∙ is))
        (possible old refl, torn old refl)

-- a past that is the same, or one after a write, a sync, or both
pub same_possible : (old new : Option Past) → new ≡ old → ForSome old IsPossible → ForSome new IsPossible
same_possible old new new_is possible past is = possible past (sym new_is ∙ is)

pub written_possible : (place : ℕ) (bytes : List ℕ) (old new : Option Past)
    → ForSome old (λ past. place ≤ length (text_of past))
    → new ≡ option_map (written place bytes) old → ForSome old IsPossible → ForSome new IsPossible
written_possible place bytes None new within new_is possible past is = absurd (none-some past (sym new_is ∙ is))
written_possible place bytes (Some old) new within new_is possible past is =
    subst IsPossible (same_Some (written place bytes old) past (sym new_is ∙ is))
    (calls_possible.write old place bytes (possible old refl) (within old refl))

pub synced_possible : (old new : Option Past) → new ≡ option_map synced old → ForSome old IsPossible
    → ForSome new IsPossible
synced_possible None new new_is possible past is = absurd (none-some past (sym new_is ∙ is))
synced_possible (Some old) new new_is possible past is =
    subst IsPossible (same_Some (synced old) past (sym new_is ∙ is)) (calls_possible.sync old (possible old refl))

pub sync_possible : {T E : Type 0} (place : ℕ) (bytes : List ℕ) (old mid new : Option Past) (answer : Result T E)
    → ForSome old (λ past. place ≤ length (text_of past))
    → mid ≡ option_map (written place bytes) old → OnOk answer (new ≡ option_map synced mid) → OnErr answer (new ≡ mid)
    → ForSome old IsPossible → ForSome new IsPossible
sync_possible place bytes old mid new (Ok value) within wrote_is sync_is failed possible =
    synced_possible mid new sync_is (written_possible place bytes old mid within wrote_is possible)
sync_possible place bytes old mid new (Err error) within wrote_is sync_is failed possible =
    same_possible mid new failed (written_possible place bytes old mid within wrote_is possible)

-- a write that failed and was done all the same
pub done_all_the_same : (place : ℕ) (bytes : List ℕ) (old : Past) (new : Option Past) → place ≤ length (text_of old)
    → new ≡ Some (written place bytes old) → IsUndoneOrBegun place (length bytes) (Some old) new
done_all_the_same place bytes old new within new_is =
    inr (
      put place bytes (text_of old),
      λ past is. subst (λ (p : Past). Torn place (length bytes) (text_of p) (put place bytes (text_of old)))
          (same_Some old past is) (torn_put place bytes (text_of old) within),
      new_is,
    )

-- what holds at any answer
pub if_err : {T E : Type 0} (answer : Result T E) (P : Type 0) → P → OnErr answer P
if_err (Ok value) P p = tt
if_err (Err error) P p = p
