-- The requests that were sent, and those that have a reply, over plain values.
use Rattle.std.proofs.Common.{◌≡◌, ℕ, zero, suc, get_or, ◌+◌, ◌<◌, ◌≤◌, ◌==◌, Bool, true, false, not, List, [], ◌∷◌}
use Rattle.std.proofs.Common.{◌++◌, length, take, drop, Option, Some, None, append-nil, refl, ap, sym, ◌∙◌, subst}
use Rattle.std.proofs.Common.{arith, length-append}
use Rattle.std.specs.Prelude.{MatchOption, is_none, is_some}
use Rattle.std.specs.List.{flat_map}
use Rattle.std.proofs.lemmas.Bool.{eq-eqb, ne_eqb}
use Rattle.std.proofs.lemmas.List.{drop-append-le, drop-drop, drop-take, length-take-le, take-append-drop, take-take}
use Rattle.framing.specs.Frames.{AreWithinLimit, HasFrame, Represents, after_frame, first_body, frame, frames_of}
use Rattle.framing.specs.Frames.{has_frame, length_at, partial}
use Rattle.framing.specs.declared.TheConstants.{BODY_LIMIT}
use Rattle.framing.proofs.FrameLaws.{after_frame_length, frames_are_one_lem, frames_at_frame, frames_at_none}
use Rattle.framing.proofs.FrameLaws.{has_frame_false, has_frame_true, partial_at_frame, partial_at_none}
use Rattle.framing.proofs.FrameLaws.{represents_first, represents_more, represents_nothing}
use Rattle.riemann_client.specs.Requests.{AnswersIfSent, AnswersNext, HasAnswered, Requested, sent_count, taken_of}
use Rattle.riemann_client.specs.Requests.{waiting}

-- ---- the next request

count_sent : (requests : Requested) (count : ℕ) → HasAnswered requests count
    → sent_count requests ≡ count + length (frames_of (waiting requests))
count_sent requests count is =
    ap length is.are.frames ∙ length-append is.bodies (frames_of (waiting requests))
    ∙ ap (λ (n : ℕ). n + length (frames_of (waiting requests))) is.count_is

no_frames : (bytes : List ℕ) → (HasFrame bytes → ⊥) → length (frames_of bytes) ≡ 0
no_frames bytes bare = ap length (frames_at_none bytes bare)

some_frames : (bytes : List ℕ) → HasFrame bytes → 0 < length (frames_of bytes)
some_frames bytes has =
    let e : length (frames_of bytes) ≡ suc (length (frames_of (after_frame bytes))) =
    ap length (frames_at_frame bytes has) in
    omega arith

none_sent : (requests : Requested) (count : ℕ) → (HasFrame (waiting requests) → ⊥) → HasAnswered requests count
    → sent_count requests ≤ count
none_sent requests count bare is =
    let all = count_sent requests count is in
    let none = no_frames (waiting requests) bare in
    omega arith

same_taken : (old new : Requested) → new.stream ≡ old.stream → new.taken ≡ old.taken → taken_of old ≡ taken_of new
same_taken old new stream taken = ap (λ (n : ℕ). take n old.stream) (sym taken) ∙ ap (take new.taken) (sym stream)

module _ (old new : Requested) (size count : ℕ) (stream : new.stream ≡ old.stream) (taken : new.taken ≡ old.taken)
    (answered : new.answered ≡ old.answered + size)
    (has : HasFrame (waiting old)) (size_is : size ≡ 4 + length_at (waiting old)) (is : HasAnswered old count) where
  left : after_frame (waiting old) ≡ waiting new
  left =
      drop-drop (4 + length_at (waiting old)) old.answered (taken_of old)
      ∙ ap (λ (n : ℕ). drop (old.answered + n) (taken_of old)) (sym size_is)
      ∙ ap (λ (n : ℕ). drop n (taken_of old)) (sym answered)
      ∙ ap (drop new.answered) (same_taken old new stream taken)

  one_answered : AnswersNext old new count
  one_answered =
      let all = count_sent old count is in
      let some = some_frames (waiting old) has in
      let more : List (List ℕ) = is.bodies ++ first_body (waiting old) ∷ [] in
      let first : Represents (after_frame (waiting old)) more (taken_of old) =
      represents_first (waiting old) is.bodies (taken_of old) has is.are in
      record {
        asked = omega arith;
        answered = record {
          bodies = more;
          count_is = length-append is.bodies (first_body (waiting old) ∷ []) ∙ ap (λ (n : ℕ). n + 1) is.count_is;
          are = subst (λ (bytes : List ℕ). Represents bytes more (taken_of new)) left
              (subst (λ (bytes : List ℕ). Represents (after_frame (waiting old)) more bytes)
              (same_taken old new stream taken) first);
        };
      }

-- the frame of the next request was found, or there is none
pub answers_sent : (old new : Requested) (size : ℕ) → new.stream ≡ old.stream → new.taken ≡ old.taken
    → new.answered ≡ old.answered + size
    → HasFrame (waiting old) → size ≡ 4 + length_at (waiting old) → AnswersIfSent old new true
answers_sent old new size stream taken answered has size_is count is =
    one_answered old new size count stream taken answered has size_is is

pub answers_none : (old new : Requested) → (HasFrame (waiting old) → ⊥) → AnswersIfSent old new false
answers_none old new bare count is = none_sent old count bare is

-- ---- all requests

module _ (requests : Requested) (count : ℕ) (first : requests.answered ≤ requests.taken)
    (within : requests.taken ≤ length requests.stream) (is : HasAnswered requests count) where
  all_waiting : waiting requests ++ drop requests.taken requests.stream ≡ drop requests.answered requests.stream
  all_waiting =
      let long : length (taken_of requests) ≡ requests.taken = length-take-le requests.taken requests.stream within in
      let short : requests.answered ≤ length (taken_of requests) = omega arith in
      sym (drop-append-le requests.answered (taken_of requests) (drop requests.taken requests.stream) short)
      ∙ ap (drop requests.answered) (take-append-drop requests.taken requests.stream)

  all_count : length (frames_of requests.stream) ≡ count + length (frames_of (drop requests.answered requests.stream))
  all_count =
      let more =
      represents_more (waiting requests) is.bodies (taken_of requests) (drop requests.taken requests.stream) is.are in
      ap (λ (bytes : List ℕ). length (frames_of bytes)) (sym (take-append-drop requests.taken requests.stream))
      ∙ ap length more.frames
      ∙ length-append is.bodies (frames_of (waiting requests ++ drop requests.taken requests.stream))
      ∙ ap (λ (n : ℕ). n + length (frames_of (waiting requests ++ drop requests.taken requests.stream))) is.count_is
      ∙ ap (λ (bytes : List ℕ). count + length (frames_of bytes)) all_waiting

  -- no frame is left exactly where each request has a reply
  pub all_answered : (rest : List ℕ) (found : Option ℕ) → rest ≡ drop requests.answered requests.stream
      → MatchOption found (HasFrame rest → ⊥) (λ size. HasFrame rest × (size ≡ 4 + length_at rest))
      → is_none found ≡ (count == length (frames_of requests.stream))
  all_answered rest None same bare =
      let none = no_frames rest bare in
      let there : length (frames_of rest) ≡ length (frames_of (drop requests.answered requests.stream)) =
      ap (λ (bytes : List ℕ). length (frames_of bytes)) same in
      let all = all_count in
      sym (eq-eqb count (length (frames_of requests.stream)) (omega arith))
  all_answered rest (Some size) same has =
      let some = some_frames rest has.0 in
      let there : length (frames_of rest) ≡ length (frames_of (drop requests.answered requests.stream)) =
      ap (λ (bytes : List ℕ). length (frames_of bytes)) same in
      let all = all_count in
      sym (ne_eqb count (length (frames_of requests.stream)) (λ equal. omega arith))

-- ---- more was taken

take_sum : (n m : ℕ) (bytes : List ℕ) → take (n + m) bytes ≡ take n bytes ++ take m (drop n bytes)
take_sum n m bytes =
    sym (take-append-drop n (take (n + m) bytes))
    ∙ ap (λ (front : List ℕ). front ++ drop n (take (n + m) bytes)) (take-take n (n + m) bytes (omega arith))
    ∙ ap (λ (back : List ℕ). take n bytes ++ back) (drop-take n m bytes)

-- what was taken after a send
pub taken_more : (old new : Requested) (count : ℕ) → new.stream ≡ old.stream → new.taken ≡ old.taken + count
    → taken_of new ≡ taken_of old ++ take count (drop old.taken old.stream)
taken_more old new count stream taken =
    ap (λ (n : ℕ). take n new.stream) taken ∙ ap (take (old.taken + count)) stream ∙ take_sum old.taken count old.stream

pub answered_stays : (old new : Requested) (count : ℕ) → old.answered ≤ old.taken → old.taken ≤ length old.stream
    → new.stream ≡ old.stream → new.taken ≡ old.taken + count → new.answered ≡ old.answered
    → (answers : ℕ) → HasAnswered old answers → HasAnswered new answers
answered_stays old new count first within stream taken answered answers is =
    let more : List ℕ = take count (drop old.taken old.stream) in
    let long : length (taken_of old) ≡ old.taken = length-take-le old.taken old.stream within in
    let short : old.answered ≤ length (taken_of old) = omega arith in
    let all : taken_of old ++ more ≡ taken_of new = sym (taken_more old new count stream taken) in
    let there : waiting old ++ more ≡ waiting new =
    sym (drop-append-le old.answered (taken_of old) more short) ∙ ap (drop old.answered) all
    ∙ ap (λ (n : ℕ). drop n (taken_of new)) (sym answered) in
    record {
      bodies = is.bodies;
      count_is = is.count_is;
      are = subst (λ (bytes : List ℕ). Represents bytes is.bodies (taken_of new)) there
          (subst (λ (bytes : List ℕ). Represents (waiting old ++ more) is.bodies bytes) all
          (represents_more (waiting old) is.bodies (taken_of old) more is.are));
    }

-- nothing was taken
pub answered_nothing : (requests : Requested) → requests.taken ≡ 0 → requests.answered ≡ 0 → HasAnswered requests 0
answered_nothing requests taken answered =
    let none : [] ≡ taken_of requests = ap (λ (n : ℕ). take n requests.stream) (sym taken) in
    record {
      bodies = [];
      count_is = refl;
      are = subst (λ (bytes : List ℕ). Represents (drop requests.answered bytes) [] bytes) none
          (subst (λ (n : ℕ). Represents (drop n []) [] []) (sym answered) represents_nothing);
    }

-- whether the bytes begin with a frame
pub tells_request : (bytes : List ℕ) (found : Option ℕ)
    → MatchOption found (HasFrame bytes → ⊥) (λ size. HasFrame bytes × (size ≡ 4 + length_at bytes))
    → is_some found ≡ has_frame bytes
tells_request bytes None bare = sym (has_frame_false bytes bare)
tells_request bytes (Some size) has = sym (has_frame_true bytes has.0)

-- each of these bodies is within the limit
pub within_at : (bodies : List (List ℕ)) (i : ℕ) (body : List ℕ) → AreWithinLimit bodies → i < length bodies
    → body ≡ get_or bodies i body → length body ≤ BODY_LIMIT
within_at [] i body within less is = absurd (omega arith)
within_at (first ∷ bodies) zero body within less is =
    let same : length body ≡ length first = ap length is in let small = within.0 in omega arith
within_at (first ∷ bodies) (suc i) body within less is = within_at bodies i body within.1 (omega arith) is

pub none_test : (found : Option ℕ) (answer : Bool) → is_some found ≡ not answer → is_none found ≡ answer
none_test None true is = refl
none_test None false is = absurd (cc is)
none_test (Some size) true is = absurd (cc is)
none_test (Some size) false is = refl

-- the frames of requests are the requests
pub frames_of_requests : (stream : List ℕ) (bodies : List (List ℕ)) → stream ≡ flat_map frame bodies
    → AreWithinLimit bodies → frames_of stream ≡ bodies
frames_of_requests stream bodies is small =
    sym (frames_are_one_lem stream bodies []
    (record {
      whole = is ∙ sym (append-nil (flat_map frame bodies));
      small = small;
      partial_frame = λ has. let head = has.head in omega arith;
    })).0

-- what the fields keep, said of what contracts see
pub kept_at : (inside view : Requested) → inside ≡ view
    → (inside.answered ≤ inside.taken) × (inside.taken ≤ length inside.stream)
    → (view.answered ≤ view.taken) × (view.taken ≤ length view.stream)
kept_at inside view same kept =
    subst (λ (r : Requested). (r.answered ≤ r.taken) × (r.taken ≤ length r.stream)) same kept

-- ---- requests that are counted

-- these are left once so many were counted
pub record CountedSoFar (frames rest : List ℕ) (count : ℕ) : Type 0 where
  pub left : partial rest ≡ partial frames
  pub counted : count + length (frames_of rest) ≡ length (frames_of frames)
  pub few : count + length rest ≤ length frames

pub counted_none : (frames : List ℕ) → CountedSoFar frames frames 0
counted_none frames = record { left = refl; counted = omega arith; few = omega arith }

pub counted_more : (frames rest next : List ℕ) (count : ℕ) → CountedSoFar frames rest count → HasFrame rest
    → next ≡ after_frame rest → CountedSoFar frames next (count + 1)
counted_more frames rest next count so_far has is =
    let one : length (frames_of rest) ≡ suc (length (frames_of (after_frame rest))) =
    ap length (frames_at_frame rest has) in
    let short = after_frame_length rest has in
    let same : length next ≡ length (after_frame rest) = ap length is in
    let frames_same : length (frames_of next) ≡ length (frames_of (after_frame rest)) =
    ap (λ (bytes : List ℕ). length (frames_of bytes)) is in
    record {
      left = ap partial is ∙ sym (partial_at_frame rest has) ∙ so_far.left;
      counted = omega (arith, one, frames_same, so_far.counted);
      few = omega (arith, short, same, so_far.few);
    }

pub one_less : (rest next : List ℕ) → HasFrame rest → next ≡ after_frame rest → length next < length rest
one_less rest next has is =
    let short = after_frame_length rest has in
    let same : length next ≡ length (after_frame rest) = ap length is in
    omega (arith, short, same)

pub counted_all : (frames rest : List ℕ) (count : ℕ) → CountedSoFar frames rest count → (HasFrame rest → ⊥)
    → (count ≡ length (frames_of frames)) × (length rest ≡ length (partial frames))
counted_all frames rest count so_far bare =
    let none : length (frames_of rest) ≡ 0 = ap length (frames_at_none rest bare) in
    (omega (arith, none, so_far.counted), ap length (sym (partial_at_none rest bare) ∙ so_far.left))
