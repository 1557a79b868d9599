-- How replies are accepted, one after another.
use Rattle.std.proofs.Common.{◌≡◌, ℕ, ◌+◌, ◌<◌, ◌≤◌, Bool, true, false, cond, List, [], ◌∷◌, ◌++◌, length, map, Option}
use Rattle.std.proofs.Common.{Some, None, refl, ap, sym, ◌∙◌, subst, arith, append_assoc, append-nil, length-append}
use Rattle.std.specs.Prelude.{nat_lt, is_some}
use Rattle.std.specs.Option.{option_map, option_or}
use Rattle.std.proofs.lemmas.Bool.{lt-ltb}
use Rattle.std.proofs.lemmas.Bool.Decides.{nat_tests}
use Rattle.std.proofs.lemmas.List.{map-append}
use Rattle.framing.specs.Frames.{HasFrame, after_frame, first_body, frames_of, partial}
use Rattle.framing.proofs.FrameLaws.{frames_at_frame, frames_at_none, partial_at_none}
use Rattle.frame_link.specs.Held.{Held, HandsOut}
use Rattle.riemann_msg.specs.Fault.{Fault, first_fault, fault_at}
use Rattle.riemann_msg.specs.Value.{message_of}
use Rattle.riemann_msg.specs.declared.fault.MsgWhy.{MsgWhy}
use Rattle.riemann_msg.specs.declared.msg.Msg.{Msg}
use Rattle.riemann_client.specs.Accepting.{Accepts, AcceptsAll, AcceptsFront, AcceptsNext, IsEmpty}
use Rattle.riemann_client.specs.Exchange.{accepted_from, first_reply_fault, refused, reply_fault}
use Rattle.riemann_client.specs.Requests.{AnswersIfSent, HasAnswered, IsAsSent, Requested, sent_count, taken_of}
use Rattle.riemann_client.specs.declared.progress.Progress.{Progress}
use Rattle.riemann_client.specs.declared.progress.Progress.TheVariants.{More, Unasked, Refused}
use Rattle.riemann_client.specs.declared.replies.Front.TheVariants.{NotWhole, Accepted, Faulty}

-- ---- the faults of replies

le_test : (a b : ℕ) → b ≤ a → nat_lt a b ≡ false
le_test a b le = grind (arith, nat_tests)

not_asked : (asked number : ℕ) (body : List ℕ) → asked ≤ number → reply_fault asked number body ≡ Some (Unasked number)
not_asked asked number body le =
    ap (λ (t : Bool). cond t (option_map (refused number) (first_fault body)) (Some (Unasked number)))
    (le_test number asked le)

was_asked : (asked number : ℕ) (body : List ℕ) (fault : Option Fault) → number < asked → first_fault body ≡ fault
    → reply_fault asked number body ≡ option_map (refused number) fault
was_asked asked number body fault less is =
    ap (λ (t : Bool). cond t (option_map (refused number) (first_fault body)) (Some (Unasked number)))
    (lt-ltb number asked less)
    ∙ ap (option_map (refused number)) is

-- a fault is never that the exchange goes on
reply_is_no_more : (asked number : ℕ) (body : List ℕ) (rest : Option Progress) → (rest ≡ Some More → ⊥)
    → option_or (reply_fault asked number body) rest ≡ Some More → ⊥
reply_is_no_more asked number body rest later = by_test (nat_lt number asked) (first_fault body)
  where
    by_test : (t : Bool) (fault : Option Fault)
        → option_or (cond t (option_map (refused number) fault) (Some (Unasked number))) rest ≡ Some More → ⊥
    by_test true None is = later is
    by_test true (Some fault) is = absurd (cc is)
    by_test false None is = absurd (cc is)
    by_test false (Some fault) is = absurd (cc is)

pub fault_is_no_more : (asked number : ℕ) (bodies : List (List ℕ)) → first_reply_fault asked number bodies ≡ Some More
    → ⊥
fault_is_no_more asked number [] is = absurd (cc is)
fault_is_no_more asked number (body ∷ bodies) is =
    reply_is_no_more asked number body (first_reply_fault asked (number + 1) bodies)
    (fault_is_no_more asked (number + 1) bodies) is

-- without a fault all are accepted
pub all_accepted : (asked number : ℕ) (bodies : List (List ℕ)) → first_reply_fault asked number bodies ≡ None
    → accepted_from asked number bodies ≡ bodies
all_accepted asked number [] none = refl
all_accepted asked number (body ∷ bodies) none =
    by_fault (all_accepted asked (number + 1) bodies) (reply_fault asked number body) none
  where
    by_fault : (first_reply_fault asked (number + 1) bodies ≡ None → accepted_from asked (number + 1) bodies ≡ bodies)
        → (fault : Option Progress) → option_or fault (first_reply_fault asked (number + 1) bodies) ≡ None
        → cond (is_some fault) [] (body ∷ accepted_from asked (number + 1) bodies) ≡ body ∷ bodies
    by_fault later None none = ap (λ (bs : List (List ℕ)). body ∷ bs) (later none)
    by_fault later (Some fault) none = absurd (cc none)

-- ---- one reply

module _ (now : ℕ) (body : List ℕ) (requests requests' : Requested) (replies : List Msg) where
  pub accepts_unasked : (answer : Bool) (number : ℕ) → answer ≡ false → number ≡ length replies
      → AnswersIfSent requests requests' answer
      → AcceptsNext now body requests requests' replies replies (Some (Unasked number))
  accepts_unasked answer number test is answers answered =
      let none : AnswersIfSent requests requests' false = subst (AnswersIfSent requests requests') test answers in
      record {
        fault_is =
            ap (λ (n : ℕ). Some (Unasked n)) is
            ∙ sym (not_asked (sent_count requests) (length replies) body (none (length replies) answered));
        accepted = refl;
      }

  pub accepts_refused : (answer : Bool) (number place : ℕ) (why : MsgWhy) → answer ≡ true → number ≡ length replies
      → AnswersIfSent requests requests' answer
      → first_fault body ≡ Some (fault_at place why)
      → AcceptsNext now body requests requests' replies replies (Some (Refused number place why))
  accepts_refused answer number place why test is answers fault answered =
      let next : AnswersIfSent requests requests' true = subst (AnswersIfSent requests requests') test answers in
      record {
        fault_is = ap (λ (n : ℕ). Some (Refused n place why)) is
            ∙ sym (was_asked (sent_count requests) (length replies) body (Some (fault_at place why))
            (next (length replies) answered).asked fault);
        accepted = refl;
      }

  pub accepts_message : (answer : Bool) (msg : Msg) (replies' : List Msg) → answer ≡ true
      → AnswersIfSent requests requests' answer
      → first_fault body ≡ None → msg ≡ message_of now body → replies' ≡ replies ++ msg ∷ []
      → AcceptsNext now body requests requests' replies replies' None
  accepts_message answer msg replies' test answers fault read pushed answered =
      let next : AnswersIfSent requests requests' true = subst (AnswersIfSent requests requests') test answers in
      let one = next (length replies) answered in
      let written : replies' ≡ replies ++ message_of now body ∷ [] =
      pushed ∙ ap (λ (m : Msg). replies ++ m ∷ []) read in
      let count : length replies' ≡ length replies + 1 = ap length pushed ∙ length-append replies (msg ∷ []) in
      record {
        fault_is = sym (was_asked (sent_count requests) (length replies) body None one.asked fault);
        accepted = (written, subst (HasAnswered requests') (sym count) one.answered);
      }

-- ---- the loop over the frames

-- these replies were accepted, and their frames removed
pub record SoFar (now : ℕ) (input input' : Held) (requests requests' : Requested) (replies replies' : List Msg) : Type 0
  where
    pub done : List (List ℕ)
    pub frames : frames_of input.bytes ≡ done ++ frames_of input'.bytes
    pub faultless : (later : List (List ℕ)) → first_reply_fault (sent_count requests) (length replies) (done ++ later)
        ≡ first_reply_fault (sent_count requests) (length replies') later
    pub accepted : (later : List (List ℕ)) → accepted_from (sent_count requests) (length replies) (done ++ later)
        ≡ done ++ accepted_from (sent_count requests) (length replies') later
    pub replies_are : replies' ≡ replies ++ map (message_of now) done
    pub answered : HasAnswered requests' (length replies')
    pub rest : partial input.bytes ≡ partial input'.bytes
    pub goes_on : input.stopped ≡ false → input'.stopped ≡ false

abbrev pub SoFarFrom : ℕ → Held → Held → Requested → Requested → List Msg → List Msg → Type 0
SoFarFrom now input input' requests requests' replies replies' =
    HasAnswered requests (length replies) → SoFar now input input' requests requests' replies replies'

pub so_far_nothing : (now : ℕ) (input : Held) (requests : Requested) (replies : List Msg)
    → SoFarFrom now input input requests requests replies replies
so_far_nothing now input requests replies answered = record {
  done = [];
  frames = refl;
  faultless = λ later. refl;
  accepted = λ later. refl;
  replies_are = sym (append-nil replies);
  answered = answered;
  rest = refl;
  goes_on = λ is. is;
}

pub same_then : (one two three : Requested) → IsAsSent one two → IsAsSent two three → IsAsSent one three
same_then one two three first second =
    record { stream = second.stream ∙ first.stream; taken = second.taken ∙ first.taken }

same_count : (old new : Requested) → IsAsSent old new → sent_count new ≡ sent_count old
same_count old new same = ap (λ (r : List ℕ). length (frames_of r)) (taken_as old new same)
  where
    taken_as : (old new : Requested) → IsAsSent old new → taken_of new ≡ taken_of old
    taken_as old new same = cc

module _ (now : ℕ) (input input' input'' : Held) (requests requests' requests'' : Requested)
    (replies replies' replies'' : List Msg) (same : IsAsSent requests requests')
    (before : SoFarFrom now input input' requests requests' replies replies') where
  -- one reply more
  pub so_far_more : AcceptsFront now input' input'' requests' requests'' replies' replies'' Accepted
      → SoFarFrom now input input'' requests requests'' replies replies''
  so_far_more front answered =
      let so_far = before answered in
      let hands : HandsOut input' (first_body input'.bytes) input'' = front.0 in
      let body : List ℕ = first_body input'.bytes in
      let one : Accepts now body requests' requests'' replies' replies'' None = front.1 so_far.answered in
      let asked : ℕ = sent_count requests in
      let count : length replies'' ≡ length replies' + 1 =
      ap length one.accepted.0 ∙ length-append replies' (message_of now body ∷ []) in
      let none : reply_fault asked (length replies') body ≡ None =
      ap (λ (n : ℕ). reply_fault n (length replies') body) (sym (same_count requests requests' same))
      ∙ sym one.fault_is in
      record {
        done = so_far.done ++ body ∷ [];
        frames =
            so_far.frames ∙ ap (λ (bs : List (List ℕ)). so_far.done ++ bs) hands.frames
            ∙ sym (append_assoc so_far.done (body ∷ []) (frames_of input''.bytes));
        faultless = λ later.
            ap (first_reply_fault asked (length replies)) (append_assoc so_far.done (body ∷ []) later)
            ∙ so_far.faultless (body ∷ later)
            ∙ ap (λ (fault : Option Progress). option_or fault (first_reply_fault asked (length replies' + 1) later))
            none
            ∙ ap (λ (n : ℕ). first_reply_fault asked n later) (sym count);
        accepted = λ later.
            ap (accepted_from asked (length replies)) (append_assoc so_far.done (body ∷ []) later)
            ∙ so_far.accepted (body ∷ later)
            ∙ ap
            (λ (fault : Option Progress).
            so_far.done ++ cond (is_some fault) [] (body ∷ accepted_from asked (length replies' + 1) later))
            none
            ∙ ap (λ (n : ℕ). so_far.done ++ (body ∷ accepted_from asked n later)) (sym count)
            ∙ sym (append_assoc so_far.done (body ∷ []) (accepted_from asked (length replies'') later));
        replies_are = one.accepted.0 ∙ ap (λ (ms : List Msg). ms ++ message_of now body ∷ []) so_far.replies_are
            ∙ append_assoc replies (map (message_of now) so_far.done) (message_of now body ∷ [])
            ∙ ap (λ (ms : List Msg). replies ++ ms) (sym (map-append (message_of now) so_far.done (body ∷ [])));
        answered = one.accepted.1;
        rest = so_far.rest ∙ hands.rest;
        goes_on = λ is. hands.goes_on;
      }

  -- no frame is whole any more
  pub so_far_end : AcceptsFront now input' input'' requests' requests'' replies' replies'' NotWhole
      → HasAnswered requests (length replies)
      → AcceptsAll now input input'' requests requests'' replies replies'' None
  so_far_end front answered =
      let so_far = before answered in
      let empty : IsEmpty input' input'' requests' requests'' replies' replies'' = front in
      let asked : ℕ = sent_count requests in
      let frames : frames_of input.bytes ≡ so_far.done ++ [] =
      so_far.frames ∙ ap (λ (bs : List (List ℕ)). so_far.done ++ bs) (frames_at_none input'.bytes empty.no_frame) in
      record {
        fault_is = sym (ap (first_reply_fault asked (length replies)) frames ∙ so_far.faultless []);
        replies_are = empty.replies_are ∙ so_far.replies_are
            ∙ ap (λ (bs : List (List ℕ)). replies ++ map (message_of now) bs)
            (sym (ap (accepted_from asked (length replies)) frames ∙ so_far.accepted [] ∙ append-nil so_far.done));
        ends = record {
          answered = subst (λ (r : Requested). HasAnswered r (length replies'')) (sym empty.requests_are)
              (subst (λ (ms : List Msg). HasAnswered requests' (length ms)) (sym empty.replies_are) so_far.answered);
          rest =
              so_far.rest ∙ partial_at_none input'.bytes empty.no_frame
              ∙ ap (λ (held : Held). held.bytes) (sym empty.input_is);
          no_frame = subst (λ (held : Held). HasFrame held.bytes → ⊥) (sym empty.input_is) empty.no_frame;
          goes_on = λ is. ap (λ (held : Held). held.stopped) empty.input_is ∙ so_far.goes_on is;
        };
      }

  -- a reply is not accepted
  pub so_far_fault : (fault : Progress)
      → AcceptsFront now input' input'' requests' requests'' replies' replies'' (Faulty fault)
      → HasAnswered requests (length replies)
      → AcceptsAll now input input'' requests requests'' replies replies'' (Some fault)
  so_far_fault fault front answered =
      let so_far = before answered in
      let body : List ℕ = first_body input'.bytes in
      let later : List (List ℕ) = frames_of (after_frame input'.bytes) in
      let one : Accepts now body requests' requests'' replies' replies'' (Some fault) = front.1 so_far.answered in
      let asked : ℕ = sent_count requests in
      let is : reply_fault asked (length replies') body ≡ Some fault =
      ap (λ (n : ℕ). reply_fault n (length replies') body) (sym (same_count requests requests' same))
      ∙ sym one.fault_is in
      let frames : frames_of input.bytes ≡ so_far.done ++ (body ∷ later) =
      so_far.frames ∙ ap (λ (bs : List (List ℕ)). so_far.done ++ bs) (frames_at_frame input'.bytes front.0) in
      record {
        fault_is = sym (ap (first_reply_fault asked (length replies)) frames ∙ so_far.faultless (body ∷ later)
            ∙ ap (λ (f : Option Progress). option_or f (first_reply_fault asked (length replies' + 1) later)) is);
        replies_are = one.accepted ∙ so_far.replies_are
            ∙ ap (λ (bs : List (List ℕ)). replies ++ map (message_of now) bs)
            (sym (ap (accepted_from asked (length replies)) frames ∙ so_far.accepted (body ∷ later)
            ∙ ap
            (λ (f : Option Progress).
            so_far.done ++ cond (is_some f) [] (body ∷ accepted_from asked (length replies' + 1) later))
            is
            ∙ append-nil so_far.done));
        ends = tt;
      }
