-- The frames of a stream that comes in pieces, over plain lists.
use Rattle.std.proofs.Common.{◌≡◌, ℕ, zero, suc, ◌+◌, ◌<◌, ◌≤◌, Bool, true, false, ◌⊎◌, inl, inr, List, [], ◌∷◌, ◌++◌}
use Rattle.std.proofs.Common.{length, take, drop, refl, sym, ◌∙◌, ap, append_assoc, length-append, length-drop}
use Rattle.std.proofs.Common.{length-take, arith}
use Rattle.std.proofs.lemmas.Bool.{false≢true}
use Rattle.std.proofs.lemmas.Bool.Decides.{nat_tests}
use Rattle.std.proofs.lemmas.List.{take-append-le, drop-append-le, length-take-le, take-append-drop, drop-drop}
use Rattle.std.proofs.lemmas.List.{get_or-take, take_at, drop_at, get_or-drop, get_or_past}
use Rattle.std.proofs.lemmas.Nat.{be_bytes_4, from_be_bytes-to_be_bytes_4}
use Rattle.std.specs.Int.{w32, to_be_bytes, from_be_bytes}
use Rattle.std.specs.List.{flat_map}
use Rattle.framing.specs.declared.TheConstants.{BODY_LIMIT}
use Rattle.framing.specs.Frames.{length_at, HasFrame, IsOversized, first_body, after_frame, has_frame, frames_within}
use Rattle.framing.specs.Frames.{after_within, frames_of, partial, Represents, frame, AreWithinLimit, Splits, AreBytes}
use Rattle.framing.specs.Frames.{FramesAreFound, FramesAreOne}

-- the test tells whether there is a frame

pub has_frame_true : (b : List ℕ) → HasFrame b → has_frame b ≡ true
unfolding has_frame
has_frame_true b h = let head = h.head in let small = h.small in let whole = h.whole in grind (arith, nat_tests)

pub has_frame_tells : (b : List ℕ) → has_frame b ≡ true → HasFrame b
unfolding has_frame
has_frame_tells b e = record {
  head = grind (arith, nat_tests);
  small = grind (arith, nat_tests);
  whole = grind (arith, nat_tests);
}

cases_of_test : (t : Bool) → (t ≡ true) ⊎ (t ≡ false)
cases_of_test true = inl refl
cases_of_test false = inr refl

pub has_frame_false : (b : List ℕ) → (HasFrame b → ⊥) → has_frame b ≡ false
has_frame_false b bare =
    elim (cases_of_test (has_frame b)) [ inl e ↦ absurd (bare (has_frame_tells b e)) | inr e ↦ e ]

pub frame_cases : (b : List ℕ) → HasFrame b ⊎ (HasFrame b → ⊥)
frame_cases b =
    elim (cases_of_test (has_frame b))
    [ inl e ↦ inl (has_frame_tells b e) | inr e ↦ inr (λ h. false≢true (sym e ∙ has_frame_true b h)) ]

-- any count of frames that is at least the length gives them all

frames_within_frame : (n : ℕ) (b : List ℕ) → HasFrame b
    → frames_within (suc n) b ≡ first_body b ∷ frames_within n (after_frame b)
unfolding frames_within
frames_within_frame n b h = rw (has_frame_true b h)

after_within_frame : (n : ℕ) (b : List ℕ) → HasFrame b → after_within (suc n) b ≡ after_within n (after_frame b)
unfolding after_within
after_within_frame n b h = rw (has_frame_true b h)

frames_within_none : (n : ℕ) (b : List ℕ) → (HasFrame b → ⊥) → frames_within n b ≡ []
unfolding frames_within
frames_within_none zero b bare = refl
frames_within_none (suc n) b bare = rw (has_frame_false b bare)

after_within_none : (n : ℕ) (b : List ℕ) → (HasFrame b → ⊥) → after_within n b ≡ b
unfolding after_within
after_within_none zero b bare = refl
after_within_none (suc n) b bare = rw (has_frame_false b bare)

pub after_frame_length : (b : List ℕ) → HasFrame b → 4 + length_at b + length (after_frame b) ≡ length b
after_frame_length b h = let whole = h.whole in omega (arith, length-drop (4 + length_at b) b)

pub first_body_length : (b : List ℕ) → HasFrame b → length (first_body b) ≡ length_at b
first_body_length b h =
    let whole = h.whole in
    length-take-le (length_at b) (drop 4 b) (omega (arith, length-drop 4 b))

no_frame_in_none : (b : List ℕ) → length b ≤ 0 → HasFrame b → ⊥
no_frame_in_none b short h = let head = h.head in omega arith

within_enough : (n m : ℕ) (b : List ℕ) → length b ≤ n → length b ≤ m
    → (frames_within n b ≡ frames_within m b) × (after_within n b ≡ after_within m b)
within_enough zero m b p q =
    let bare = no_frame_in_none b p in (
      frames_within_none zero b bare ∙ sym (frames_within_none m b bare),
      after_within_none zero b bare ∙ sym (after_within_none m b bare),
    )
within_enough (suc n) zero b p q =
    let bare = no_frame_in_none b q in (
      frames_within_none (suc n) b bare ∙ sym (frames_within_none zero b bare),
      after_within_none (suc n) b bare ∙ sym (after_within_none zero b bare),
    )
within_enough (suc n) (suc m) b p q =
    elim (frame_cases b) [
      | inl h ↦
          (let long = after_frame_length b h in
          let ih = within_enough n m (after_frame b) (omega arith) (omega arith) in (
            frames_within_frame n b h ∙ ap (λ fs. first_body b ∷ fs) ih.0 ∙ sym (frames_within_frame m b h),
            after_within_frame n b h ∙ ih.1 ∙ sym (after_within_frame m b h),
          ))
      | inr bare ↦ (
        frames_within_none (suc n) b bare ∙ sym (frames_within_none (suc m) b bare),
        after_within_none (suc n) b bare ∙ sym (after_within_none (suc m) b bare),
      )
    ]

-- at a frame, where there is none, and of nothing

pub frames_at_frame : (b : List ℕ) → HasFrame b → frames_of b ≡ first_body b ∷ frames_of (after_frame b)
unfolding frames_of
frames_at_frame b h =
    let long = after_frame_length b h in
    (within_enough (length b) (suc (length b)) b (omega arith) (omega arith)).0
    ∙ frames_within_frame (length b) b h
    ∙ ap (λ fs. first_body b ∷ fs)
    (within_enough (length b) (length (after_frame b)) (after_frame b) (omega arith) (omega arith)).0

pub partial_at_frame : (b : List ℕ) → HasFrame b → partial b ≡ partial (after_frame b)
unfolding partial
partial_at_frame b h =
    let long = after_frame_length b h in
    (within_enough (length b) (suc (length b)) b (omega arith) (omega arith)).1
    ∙ after_within_frame (length b) b h
    ∙ (within_enough (length b) (length (after_frame b)) (after_frame b) (omega arith) (omega arith)).1

pub frames_at_none : (b : List ℕ) → (HasFrame b → ⊥) → frames_of b ≡ []
unfolding frames_of
frames_at_none b bare = frames_within_none (length b) b bare

pub partial_at_none : (b : List ℕ) → (HasFrame b → ⊥) → partial b ≡ b
unfolding partial
partial_at_none b bare = after_within_none (length b) b bare

pub frames_of_nothing : frames_of [] ≡ []
unfolding frames_of frames_within
frames_of_nothing = refl

pub partial_of_nothing : partial [] ≡ []
unfolding partial after_within
partial_of_nothing = refl

-- a frame is still there with more bytes after it

pub length_at_append : (b more : List ℕ) → 4 ≤ length b → length_at (b ++ more) ≡ length_at b
unfolding length_at
length_at_append b more long = ap (from_be_bytes w32) (take-append-le 4 b more long)

pub frame_stays : (b more : List ℕ) → HasFrame b → HasFrame (b ++ more)
frame_stays b more h =
    let head = h.head in
    let small = h.small in
    let whole = h.whole in
    let same = length_at_append b more head in
    record {
      head = omega (arith, length-append b more);
      small = omega arith;
      whole = omega (arith, length-append b more);
    }

pub first_body_append : (b more : List ℕ) → HasFrame b → first_body (b ++ more) ≡ first_body b
first_body_append b more h =
    let whole = h.whole in
    rw (length_at_append b more h.head, drop-append-le 4 b more h.head)
    (take-append-le (length_at b) (drop 4 b) more (omega (arith, length-drop 4 b)))

pub after_frame_append : (b more : List ℕ) → HasFrame b → after_frame (b ++ more) ≡ after_frame b ++ more
after_frame_append b more h =
    rw (length_at_append b more h.head) (drop-append-le (4 + length_at b) b more h.whole)

-- bytes that come in two pieces

cut_at_none : (b more : List ℕ) → (HasFrame b → ⊥)
    → (frames_of (b ++ more) ≡ frames_of b ++ frames_of (partial b ++ more))
    × (partial (b ++ more) ≡ partial (partial b ++ more))
cut_at_none b more bare = (rw (frames_at_none b bare, partial_at_none b bare), rw (partial_at_none b bare))

cut_at_frame : (b more : List ℕ) → HasFrame b
    → (frames_of (after_frame b ++ more) ≡ frames_of (after_frame b) ++ frames_of (partial (after_frame b) ++ more))
    → (partial (after_frame b ++ more) ≡ partial (partial (after_frame b) ++ more))
    → (frames_of (b ++ more) ≡ frames_of b ++ frames_of (partial b ++ more))
    × (partial (b ++ more) ≡ partial (partial b ++ more))
cut_at_frame b more h frames rest =
    let stays = frame_stays b more h in (
      rw (frames_at_frame b h, partial_at_frame b h)
          (frames_at_frame (b ++ more) stays
          ∙ ap (λ body. body ∷ frames_of (after_frame (b ++ more))) (first_body_append b more h)
          ∙ ap (λ later. first_body b ∷ frames_of later) (after_frame_append b more h)
          ∙ ap (λ fs. first_body b ∷ fs) frames),
      rw (partial_at_frame b h)
          (partial_at_frame (b ++ more) stays ∙ ap partial (after_frame_append b more h) ∙ rest),
    )

cut_within : (n : ℕ) (b more : List ℕ) → length b ≤ n
    → (frames_of (b ++ more) ≡ frames_of b ++ frames_of (partial b ++ more))
    × (partial (b ++ more) ≡ partial (partial b ++ more))
cut_within zero b more short = cut_at_none b more (no_frame_in_none b short)
cut_within (suc n) b more short =
    elim (frame_cases b) [
      | inl h ↦
          (let long = after_frame_length b h in
          let later = cut_within n (after_frame b) more (omega arith) in
          cut_at_frame b more h later.0 later.1)
      | inr bare ↦ cut_at_none b more bare
    ]

pub frames_append : (b more : List ℕ) → frames_of (b ++ more) ≡ frames_of b ++ frames_of (partial b ++ more)
frames_append b more = (cut_within (length b) b more (omega arith)).0

pub partial_append : (b more : List ℕ) → partial (b ++ more) ≡ partial (partial b ++ more)
partial_append b more = (cut_within (length b) b more (omega arith)).1

-- nothing comes after a length over the limit

pub oversized_has_none : (b : List ℕ) → IsOversized b → HasFrame b → ⊥
oversized_has_none b large h = let over = large.over in let small = h.small in omega arith

pub oversized_stays : (b more : List ℕ) → IsOversized b → IsOversized (b ++ more)
oversized_stays b more large =
    let head = large.head in
    let over = large.over in
    let same = length_at_append b more head in
    record { head = omega (arith, length-append b more); over = omega arith }

pub partial_oversized : (b more : List ℕ) → IsOversized b → partial (b ++ more) ≡ b ++ more
partial_oversized b more large =
    partial_at_none (b ++ more) (oversized_has_none (b ++ more) (oversized_stays b more large))

-- what is left represents what came

pub represents_nothing : Represents [] [] []
represents_nothing = record { frames = refl; rest = refl }

pub represents_more : (b : List ℕ) (handed : List (List ℕ)) (came more : List ℕ) → Represents b handed came
    → Represents (b ++ more) handed (came ++ more)
represents_more b handed came more old = record {
  frames =
      frames_append came more
      ∙ ap (λ fs. fs ++ frames_of (partial came ++ more)) old.frames
      ∙ append_assoc handed (frames_of b) (frames_of (partial came ++ more))
      ∙ ap (λ left. handed ++ (frames_of b ++ frames_of (left ++ more))) old.rest
      ∙ ap (λ fs. handed ++ fs) (sym (frames_append b more));
  rest =
      partial_append came more
      ∙ ap (λ left. partial (left ++ more)) old.rest
      ∙ sym (partial_append b more);
}

pub represents_handed : (b later : List ℕ) (body : List ℕ) (handed : List (List ℕ)) (came : List ℕ)
    → frames_of b ≡ body ∷ frames_of later → partial b ≡ partial later
    → Represents b handed came → Represents later (handed ++ body ∷ []) came
represents_handed b later body handed came first rest old = record {
  frames =
      old.frames
      ∙ ap (λ fs. handed ++ fs) first
      ∙ sym (append_assoc handed (body ∷ []) (frames_of later));
  rest = old.rest ∙ rest;
}

pub represents_first : (b : List ℕ) (handed : List (List ℕ)) (came : List ℕ) → HasFrame b
    → Represents b handed came → Represents (after_frame b) (handed ++ first_body b ∷ []) came
represents_first b handed came h old =
    represents_handed b (after_frame b) (first_body b) handed came (frames_at_frame b h) (partial_at_frame b h) old

-- the frames of a stream whose bodies are known

pub length_of_length : (n : ℕ) → length (to_be_bytes w32 n) ≡ 4
length_of_length n = refl

pub length_at_frame : (body more : List ℕ) → length body ≤ BODY_LIMIT → length_at (frame body ++ more) ≡ length body
unfolding length_at
length_at_frame body more small =
    ap (λ s. from_be_bytes w32 (take 4 s)) (append_assoc (to_be_bytes w32 (length body)) body more)
    ∙ ap (from_be_bytes w32) (take_at (to_be_bytes w32 (length body)) (body ++ more) 4 (length_of_length (length body)))
    ∙ from_be_bytes-to_be_bytes_4 (length body) (omega arith)

pub frame_holds : (body more : List ℕ) → length body ≤ BODY_LIMIT → HasFrame (frame body ++ more)
frame_holds body more small =
    let same = length_at_frame body more small in
    let all = length-append (frame body) more in
    let front = length-append (to_be_bytes w32 (length body)) body in
    let four = length_of_length (length body) in
    record { head = omega arith; small = omega arith; whole = omega arith }

pub first_body_of_frame : (body more : List ℕ) → length body ≤ BODY_LIMIT → first_body (frame body ++ more) ≡ body
first_body_of_frame body more small =
    rw (length_at_frame body more small)
    (ap (λ s. take (length body) (drop 4 s)) (append_assoc (to_be_bytes w32 (length body)) body more)
    ∙ ap (take (length body))
    (drop_at (to_be_bytes w32 (length body)) (body ++ more) 4 (length_of_length (length body)))
    ∙ take_at body more (length body) refl)

pub after_frame_of_frame : (body more : List ℕ) → length body ≤ BODY_LIMIT → after_frame (frame body ++ more) ≡ more
after_frame_of_frame body more small =
    rw (length_at_frame body more small)
    (drop_at (frame body) more (4 + length body) (length-append (to_be_bytes w32 (length body)) body))

pub frames_of_frame : (body more : List ℕ) → length body ≤ BODY_LIMIT
    → frames_of (frame body ++ more) ≡ body ∷ frames_of more
frames_of_frame body more small =
    frames_at_frame (frame body ++ more) (frame_holds body more small)
    ∙ ap (λ x. x ∷ frames_of (after_frame (frame body ++ more))) (first_body_of_frame body more small)
    ∙ ap (λ later. body ∷ frames_of later) (after_frame_of_frame body more small)

pub partial_of_frame : (body more : List ℕ) → length body ≤ BODY_LIMIT → partial (frame body ++ more) ≡ partial more
partial_of_frame body more small =
    partial_at_frame (frame body ++ more) (frame_holds body more small)
    ∙ ap partial (after_frame_of_frame body more small)

pub splits_are_one : (bodies : List (List ℕ)) (stream rest : List ℕ) → stream ≡ flat_map frame bodies ++ rest
    → AreWithinLimit bodies → (HasFrame rest → ⊥)
    → (bodies ≡ frames_of stream) × (rest ≡ partial stream)
splits_are_one [] stream rest whole small bare = (
  sym (frames_at_none rest bare) ∙ ap frames_of (sym whole),
  sym (partial_at_none rest bare) ∙ ap partial (sym whole),
)
splits_are_one (body ∷ bodies) stream rest whole small bare =
    let more : List ℕ = flat_map frame bodies ++ rest in
    let later = splits_are_one bodies more rest refl small.1 bare in
    let split : stream ≡ frame body ++ more = whole ∙ append_assoc (frame body) (flat_map frame bodies) rest in (
      ap (λ fs. body ∷ fs) later.0 ∙ sym (frames_of_frame body more small.0) ∙ ap frames_of (sym split),
      later.1 ∙ sym (partial_of_frame body more small.0) ∙ ap partial (sym split),
    )

pub frames_are_one_lem : FramesAreOne
frames_are_one_lem stream bodies rest split =
    splits_are_one bodies stream rest split.whole split.small split.partial_frame

-- the frames of any stream

pub bytes_after : (b : List ℕ) (n : ℕ) → AreBytes b → AreBytes (drop n b)
bytes_after b n small i = rw (get_or-drop n b i 0) (small (n + i))

pub bytes_before : (b : List ℕ) (n : ℕ) → AreBytes b → AreBytes (take n b)
bytes_before b n small i =
    let way : (i < n) ⊎ (n ≤ i) = grind arith in
    elim way [
      | inl below ↦ rw (get_or-take n b i 0 below) (small i)
      | inr above ↦ rw (get_or_past (take n b) i 0 (omega (arith, length-take n b))) (omega arith)
    ]

pub length_bytes : (b : List ℕ) → AreBytes b → 4 ≤ length b → to_be_bytes w32 (length_at b) ≡ take 4 b
unfolding length_at
length_bytes b small head = be_bytes_4 (take 4 b) (length_at b) (length-take-le 4 b head) (bytes_before b 4 small) refl

pub stream_of_frame : (b : List ℕ) → AreBytes b → HasFrame b → b ≡ frame (first_body b) ++ after_frame b
stream_of_frame b small h =
    let size = first_body_length b h in
    let front = length_bytes b small h.head in
    sym (take-append-drop 4 b)
    ∙ ap (λ s. take 4 b ++ s) (sym (take-append-drop (length_at b) (drop 4 b)))
    ∙ sym (append_assoc (take 4 b) (first_body b) (drop (length_at b) (drop 4 b)))
    ∙ ap (λ s. take 4 b ++ first_body b ++ s) (drop-drop (length_at b) 4 b)
    ∙ ap (λ s. s ++ first_body b ++ after_frame b) (sym (ap (to_be_bytes w32) size ∙ front))

split_at_frame : (b : List ℕ) → AreBytes b → HasFrame b
    → Splits (after_frame b) (frames_of (after_frame b)) (partial (after_frame b)) → Splits b (frames_of b) (partial b)
split_at_frame b small h later =
    let within = h.small in
    let size = first_body_length b h in
    let tail =
    append_assoc (frame (first_body b)) (flat_map frame (frames_of (after_frame b))) (partial (after_frame b)) in
    rw (frames_at_frame b h, partial_at_frame b h) (record {
      whole = stream_of_frame b small h ∙ ap (λ s. frame (first_body b) ++ s) later.whole ∙ sym tail;
      small = (omega arith, later.small);
      partial_frame = later.partial_frame;
    })

split_at_none : (b : List ℕ) → (HasFrame b → ⊥) → Splits b (frames_of b) (partial b)
split_at_none b bare =
    rw (frames_at_none b bare, partial_at_none b bare) (record { whole = refl; small = tt; partial_frame = bare })

split_within : (n : ℕ) (b : List ℕ) → length b ≤ n → AreBytes b → Splits b (frames_of b) (partial b)
split_within zero b short small = split_at_none b (no_frame_in_none b short)
split_within (suc n) b short small =
    elim (frame_cases b) [
      | inl h ↦
          (let long = after_frame_length b h in
          split_at_frame b small h
          (split_within n (after_frame b) (omega arith) (bytes_after b (4 + length_at b) small)))
      | inr bare ↦ split_at_none b bare
    ]

pub frames_are_found_lem : FramesAreFound
frames_are_found_lem stream small = split_within (length stream) stream (omega arith) small
