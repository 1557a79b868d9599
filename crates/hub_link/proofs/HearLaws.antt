-- How messages are answered one after another, and what the link is then.
use Rattle.std.proofs.Common.{◌≡◌, ℕ, ◌+◌, ◌-◌, ◌≤◌, List, [], ◌∷◌, ◌++◌, length, map, drop, refl, ap, sym, ◌∙◌, subst}
use Rattle.std.proofs.Common.{arith, append-nil, append_assoc, length-append, length-drop}
use Rattle.std.specs.Prelude.{IfSome, Option, Some, None, Result, Ok, Err}
use Rattle.std.proofs.lemmas.List.{drop-append-le, drop-drop, map-append}
use Rattle.msg_replies.specs.event_core.declared.arrivals.Core.{Core}
use Rattle.msg_replies.specs.event_core.Core.{CoreConfig, Represents, config_of, now_of, state_by}
use Rattle.framing.specs.Frames.{HasFrame, after_frame, first_body, frames_of, partial}
use Rattle.framing.proofs.FrameLaws.{frames_at_frame, frames_at_none, partial_at_frame, partial_at_none}
use Rattle.list_laws.specs.declared.memory.Memory.{Memory}
use Rattle.stream_meaning.specs.Arrivals.{Arrival}
use Rattle.msg_replies.specs.hub_meaning.Legal.{ArePossible}
use Rattle.msg_replies.specs.hub_meaning.Links.{Link, unsent}
use Rattle.msg_replies.specs.hub_meaning.Messages.{posts_of}
use Rattle.msg_replies.specs.hub_meaning.Replies.{reply_to}
use Rattle.msg_replies.specs.hub_meaning.Runs.{Talk, all_answered, answered, with_reply}
use Rattle.msg_replies.specs.hub_meaning.Verdicts.{AfterVerdicts, IsOfRule, IsPossible, Message, PatternsReport}
use Rattle.msg_replies.specs.hub_meaning.Verdicts.{Refusal, built_rule, judged}
use Rattle.msg_replies.specs.Answering.{AnswersMessage, Replies}
use Rattle.msg_replies.specs.Arriving.{Arrives, Reported}
use Rattle.msg_replies.proofs.AnswerLaws.{arrives_nothing, arrives_then}
use Rattle.msg_replies.proofs.VerdictLaws.{more_verdicts, no_verdicts}
use Rattle.hub_link.specs.Answering.{Answered, AnswersFirst, AnswersFrames, AreTaken, IsSame, IsTalk}

-- ---- messages and their verdicts

abbrev pub body_of : Message → List ℕ
body_of message = message.body

abbrev pub verdict_of : Message → Option Refusal
verdict_of message = message.refusal

abbrev pub message_with : List ℕ → Option Refusal → Message
message_with body refusal = record { body = body; refusal = refusal }

judged_all : (messages : List Message) → judged (map body_of messages) (map verdict_of messages) ≡ messages
judged_all [] = refl
judged_all (message ∷ messages) = ap (λ (ms : List Message). message ∷ ms) (judged_all messages)

judged_more : (messages : List Message) (body : List ℕ) (bodies : List (List ℕ)) (verdict : Option Refusal)
    → judged (map body_of messages ++ (body ∷ bodies)) (map verdict_of messages ++ verdict ∷ [])
    ≡ messages ++ (message_with body verdict ∷ judged bodies [])
judged_more [] body bodies verdict = refl
judged_more (message ∷ messages) body bodies verdict =
    ap (λ (ms : List Message). message ∷ ms) (judged_more messages body bodies verdict)

pub all_answered_append : (config : CoreConfig) (now : ℕ) (first second : List Message) (talk : Talk)
    → all_answered config now (first ++ second) talk
    ≡ all_answered config now second (all_answered config now first talk)
all_answered_append config now [] second talk = refl
all_answered_append config now (message ∷ first) second talk =
    all_answered_append config now first second (answered config now message talk)

pub possible_append : (config : CoreConfig) (now : ℕ) (first second : List Message) (talk : Talk)
    → ArePossible config now first talk
    → ArePossible config now second (all_answered config now first talk) → ArePossible config now (first ++ second) talk
possible_append config now [] second talk before after = after
possible_append config now (message ∷ first) second talk before after =
    (before.0, possible_append config now first second (answered config now message talk) before.1 after)

pub none_refused : (config : CoreConfig) (now : ℕ) (bodies : List (List ℕ)) (talk : Talk)
    → ArePossible config now (judged bodies []) talk
none_refused config now [] talk = tt
none_refused config now (body ∷ bodies) talk =
    (tt, none_refused config now bodies (answered config now (message_with body None) talk))

-- ---- one message more

answered_nothing : (core : Core) (left : List ℕ) (old : Reported) (talk : Talk) → IsTalk core left talk
    → Answered core core left old old [] talk
answered_nothing core left old talk is = record {
  more = [];
  arrivals = sym (append-nil talk.arrivals);
  arrives = arrives_nothing core talk.arrivals old is.arrivals;
  now = refl;
  left_is = is.left_is;
  within = is.within;
}

-- a reply is appended to what is unsent
pub unsent_with_reply : (reply : List ℕ) (link : Link) → length link.taken ≤ length link.replies
    → unsent (with_reply reply link) ≡ unsent link ++ reply
unsent_with_reply reply link within = drop-append-le (length link.taken) link.replies reply within

pub within_with_reply : (reply : List ℕ) (link : Link) → length link.taken ≤ length link.replies
    → length link.taken ≤ length (link.replies ++ reply)
within_with_reply reply link within = omega (arith, length-append link.replies reply)

possible_there : (refusal : Option Refusal) (core one : Core) (left : List ℕ) (body : List ℕ) (talk : Talk)
    → now_of one ≡ now_of core → left ≡ unsent talk.link
    → IfSome refusal (IsOfRule (built_rule (now_of one) (length left) body))
    → IsPossible (now_of core) (length (unsent talk.link)) (message_with body refusal)
possible_there refusal core one left body talk now is possible =
    subst (λ (n : ℕ). IfSome refusal (IsOfRule (built_rule n (length (unsent talk.link)) body))) now
    (subst (λ (bs : List ℕ). IfSome refusal (IsOfRule (built_rule (now_of one) (length bs) body))) is possible)

-- what one message comes to, after the others
module _ (core one two : Core) (left left' left'' : List ℕ) (a b c : Reported) (messages : List Message) (body : List ℕ)
    (refusal : Option Refusal) (talk : Talk) where
  one_more : Answered core one left' a b messages talk
      → ((arrivals : List Arrival) → Represents one arrivals
      → Replies body (length left') refusal one two left' left'' b c arrivals)
      → Answered core two left'' a c (messages ++ message_with body refusal ∷ []) talk
  one_more before replies =
      let there : Talk = all_answered (config_of core) (now_of core) messages talk in
      let reply = replies there.arrivals (subst (Represents one) (sym before.arrivals) before.arrives.represents) in
      let posts : List Arrival = posts_of (now_of core) body in
      let comes : Arrives one two (talk.arrivals ++ before.more) posts b c =
      subst (λ (arrivals : List Arrival). Arrives one two arrivals posts b c) before.arrivals
      (subst (λ (n : ℕ). Arrives one two there.arrivals (posts_of n body) b c) before.now reply.arrives) in
      let is : all_answered (config_of core) (now_of core) (messages ++ message_with body refusal ∷ []) talk
      ≡ answered (config_of core) (now_of core) (message_with body refusal) there =
      all_answered_append (config_of core) (now_of core) messages (message_with body refusal ∷ []) talk in
      let written : left''
      ≡ left'
      ++ reply_to (now_of core) (state_by (config_of core) (there.arrivals ++ posts)).log (length (unsent there.link))
      (message_with body refusal) =
      reply.reply
      ∙ ap
      (λ (n : ℕ). left'
      ++ reply_to n (state_by (config_of one) (there.arrivals ++ posts_of n body)).log (length left')
      (message_with body refusal))
      before.now
      ∙ ap
      (λ (config : CoreConfig). left'
      ++ reply_to (now_of core) (state_by config (there.arrivals ++ posts)).log (length left')
      (message_with body refusal))
      before.arrives.config
      ∙ ap
      (λ (bs : List ℕ). left'
      ++ reply_to (now_of core) (state_by (config_of core) (there.arrivals ++ posts)).log (length bs)
      (message_with body refusal))
      before.left_is in
      record {
        more = before.more ++ posts;
        arrivals =
            ap (λ (t : Talk). t.arrivals) is ∙ ap (λ (arrivals : List Arrival). arrivals ++ posts) before.arrivals
            ∙ append_assoc talk.arrivals before.more posts;
        arrives = arrives_then core one two talk.arrivals before.more posts a b c before.arrives comes;
        now = reply.now ∙ before.now;
        left_is = written
            ∙ ap
            (λ (bs : List ℕ). bs
            ++ reply_to (now_of core) (state_by (config_of core) (there.arrivals ++ posts)).log
            (length (unsent there.link)) (message_with body refusal))
            before.left_is
            ∙ sym (unsent_with_reply
            (reply_to (now_of core) (state_by (config_of core) (there.arrivals ++ posts)).log
            (length (unsent there.link)) (message_with body refusal))
            there.link before.within)
            ∙ ap (λ (t : Talk). unsent t.link) (sym is);
        within = subst (λ (t : Talk). length t.link.taken ≤ length t.link.replies) (sym is)
            (within_with_reply
            (reply_to (now_of core) (state_by (config_of core) (there.arrivals ++ posts)).log
            (length (unsent there.link)) (message_with body refusal))
            there.link before.within);
      }

-- ---- the loop over the frames

-- the messages of the first frames, which have so many bytes, were answered
pub record SoFar (bytes : List ℕ) (taken : ℕ) (left left' : List ℕ) (core core' : Core)
    (patterns patterns' : PatternsReport) (old new : Reported) : Type 0 where
  pub messages : List Message
  pub frames : frames_of bytes ≡ map body_of messages ++ frames_of (drop taken bytes)
  pub rest : partial bytes ≡ partial (drop taken bytes)
  pub within : taken ≤ length bytes
  pub reported : AfterVerdicts patterns patterns' (map verdict_of messages)
  pub possible : (talk : Talk) → IsTalk core left talk → ArePossible (config_of core) (now_of core) messages talk
  pub answered : (talk : Talk) → IsTalk core left talk → Answered core core' left' old new messages talk

pub so_far_nothing : (bytes left : List ℕ) (core : Core) (patterns : PatternsReport) (old : Reported)
    → SoFar bytes 0 left left core core patterns patterns old old
so_far_nothing bytes left core patterns old = record {
  messages = [];
  frames = refl;
  rest = refl;
  within = omega arith;
  reported = no_verdicts patterns;
  possible = λ talk is. tt;
  answered = λ talk is. answered_nothing core left old talk is;
}

module _ (bytes : List ℕ) (taken : ℕ) (left left' left'' : List ℕ) (core one two : Core)
    (patterns patterns' patterns'' : PatternsReport) (a b c : Reported) where
  -- one message more
  pub so_far_more : (size : ℕ) → SoFar bytes taken left left' core one patterns patterns' a b
      → AnswersFirst (drop taken bytes) left' left'' one two patterns' patterns'' b c (Ok (Some size))
      → SoFar bytes (taken + size) left left'' core two patterns patterns'' a c
  so_far_more size so_far first =
      let rest : List ℕ = drop taken bytes in
      let has : HasFrame rest = first.0 in
      let answers : AnswersMessage (first_body rest) (length left') one two patterns' patterns'' left' left'' b c
      (Ok tt) =
      first.2 in
      let body : List ℕ = first_body rest in
      let message : Message = message_with body answers.refusal in
      let later : after_frame rest ≡ drop (taken + size) bytes =
      ap (λ (n : ℕ). drop n rest) (sym first.1) ∙ drop-drop size taken bytes in
      let long : length rest ≡ length bytes - taken = length-drop taken bytes in
      let whole = has.whole in
      let size_is = first.1 in
      let so_many = so_far.within in
      record {
        messages = so_far.messages ++ message ∷ [];
        frames =
            so_far.frames ∙ ap (λ (fs : List (List ℕ)). map body_of so_far.messages ++ fs) (frames_at_frame rest has)
            ∙ sym (append_assoc (map body_of so_far.messages) (body ∷ []) (frames_of (after_frame rest)))
            ∙ ap (λ (fs : List (List ℕ)). fs ++ frames_of (after_frame rest))
            (sym (map-append body_of so_far.messages (message ∷ [])))
            ∙ ap (λ (bs : List ℕ). map body_of (so_far.messages ++ message ∷ []) ++ frames_of bs) later;
        rest = so_far.rest ∙ partial_at_frame rest has ∙ ap partial later;
        within = omega arith;
        reported =
            subst (λ (vs : List (Option Refusal)). AfterVerdicts patterns patterns'' vs)
            (sym (map-append verdict_of so_far.messages (message ∷ [])))
            (more_verdicts (built_rule (now_of one) (length left') body) patterns patterns' patterns''
            (map verdict_of so_far.messages) answers.refusal so_far.reported answers.verdict);
        possible = λ talk is.
            let before = so_far.answered talk is in
            possible_append (config_of core) (now_of core) so_far.messages (message ∷ []) talk
            (so_far.possible talk is) (
              possible_there answers.refusal core one left' body
                  (all_answered (config_of core) (now_of core) so_far.messages talk) before.now before.left_is
                  answers.verdict.possible,
              tt,
            );
        answered =
            λ talk is. one_more core one two left left' left'' a b c so_far.messages body answers.refusal talk
            (so_far.answered talk is) answers.answered;
      }

  -- memory ran out at a message
  pub so_far_failed : {T : Type 0} (memory : Memory) → SoFar bytes taken left left' core one patterns patterns' a b
      → AnswersFirst (drop taken bytes) left' left'' one two patterns' patterns'' b c (Err memory)
      → AnswersFrames {T = T} bytes left left'' core two patterns patterns'' a c (Err memory)
  so_far_failed memory so_far first =
      let rest : List ℕ = drop taken bytes in
      let has : HasFrame rest = first.0 in
      let answers : AnswersMessage (first_body rest) (length left') one two patterns' patterns'' left' left'' b c
      (Err memory) =
      first.1 in
      let body : List ℕ = first_body rest in
      let later : List (List ℕ) = frames_of (after_frame rest) in
      let frames : frames_of bytes ≡ map body_of so_far.messages ++ (body ∷ later) =
      so_far.frames ∙ ap (λ (fs : List (List ℕ)). map body_of so_far.messages ++ fs) (frames_at_frame rest has) in
      let is : judged (frames_of bytes) (map verdict_of so_far.messages ++ answers.refusal ∷ [])
      ≡ so_far.messages ++ (message_with body answers.refusal ∷ judged later []) =
      ap (λ (fs : List (List ℕ)). judged fs (map verdict_of so_far.messages ++ answers.refusal ∷ [])) frames
      ∙ judged_more so_far.messages body later answers.refusal in
      record {
        verdicts = map verdict_of so_far.messages ++ answers.refusal ∷ [];
        few = rw frames (shorter so_far.messages body later answers.refusal);
        reported =
            more_verdicts (built_rule (now_of one) (length left') body) patterns patterns' patterns''
            (map verdict_of so_far.messages) answers.refusal so_far.reported answers.verdict;
        possible = λ talk is_talk.
            let before = so_far.answered talk is_talk in
            let there : Talk = all_answered (config_of core) (now_of core) so_far.messages talk in
            subst (λ (ms : List Message). ArePossible (config_of core) (now_of core) ms talk) (sym is)
            (possible_append (config_of core) (now_of core) so_far.messages
            (message_with body answers.refusal ∷ judged later []) talk (so_far.possible talk is_talk) (
              possible_there answers.refusal core one left' body there before.now before.left_is
                  answers.verdict.possible,
              none_refused (config_of core) (now_of core) later
                  (answered (config_of core) (now_of core) (message_with body answers.refusal) there),
            ));
        answered = tt;
      }
    where
      shorter : (messages : List Message) (body : List ℕ) (bodies : List (List ℕ)) (verdict : Option Refusal)
          → length (map verdict_of messages ++ verdict ∷ []) ≤ length (map body_of messages ++ (body ∷ bodies))
      shorter [] body bodies verdict = omega arith
      shorter (message ∷ messages) body bodies verdict = let h = shorter messages body bodies verdict in omega arith

module _ (bytes : List ℕ) (taken : ℕ) (left left' : List ℕ) (core one : Core) (patterns patterns' : PatternsReport)
    (a b : Reported) where
  -- no frame is left
  pub so_far_all : SoFar bytes taken left left' core one patterns patterns' a b → (HasFrame (drop taken bytes) → ⊥)
      → AnswersFrames bytes left left' core one patterns patterns' a b (Ok taken)
  so_far_all so_far bare =
      let frames : frames_of bytes ≡ map body_of so_far.messages =
      so_far.frames
      ∙ ap (λ (fs : List (List ℕ)). map body_of so_far.messages ++ fs) (frames_at_none (drop taken bytes) bare)
      ∙ append-nil (map body_of so_far.messages) in
      let is : judged (frames_of bytes) (map verdict_of so_far.messages) ≡ so_far.messages =
      ap (λ (fs : List (List ℕ)). judged fs (map verdict_of so_far.messages)) frames ∙ judged_all so_far.messages in
      record {
        verdicts = map verdict_of so_far.messages;
        few = rw frames (same_length so_far.messages);
        reported = so_far.reported;
        possible =
            λ talk is_talk. subst (λ (ms : List Message). ArePossible (config_of core) (now_of core) ms talk) (sym is)
            (so_far.possible talk is_talk);
        answered =
            λ talk is_talk.
            subst (λ (ms : List Message). Answered core one left' a b ms talk) (sym is) (so_far.answered talk is_talk);
      }
    where
      same_length : (messages : List Message) → length (map verdict_of messages) ≤ length (map body_of messages)
      same_length [] = omega arith
      same_length (message ∷ messages) = let h = same_length messages in omega arith

  -- and what is left begins no whole frame
  pub so_far_taken : SoFar bytes taken left left' core one patterns patterns' a b → (HasFrame (drop taken bytes) → ⊥)
      → AreTaken bytes taken
  so_far_taken so_far bare = record {
    within = so_far.within;
    rest = sym (partial_at_none (drop taken bytes) bare) ∙ sym so_far.rest;
  }

module _ (bytes : List ℕ) (taken : ℕ) (left left' left'' : List ℕ) (core one two : Core)
    (patterns patterns' patterns'' : PatternsReport) (a b c : Reported) where
  -- nothing came of the last look, after which no frame is left
  pub so_far_end : SoFar bytes taken left left' core one patterns patterns' a b
      → AnswersFirst (drop taken bytes) left' left'' one two patterns' patterns'' b c (Ok None)
      → AnswersFrames bytes left left'' core two patterns patterns'' a c (Ok taken)
  so_far_end so_far first =
      let same : IsSame left' left'' one two patterns' patterns'' b c = first.1 in
      rw (same.left_is, same.core_is, same.patterns_are, same.reported_is)
      (so_far_all bytes taken left left' core one patterns patterns' a b so_far first.0)

-- ---- the frames, with another answer

module _ {T U : Type 0} (bytes left left' : List ℕ) (core core' : Core) (patterns patterns' : PatternsReport)
    (old new : Reported) where
  -- memory ran out
  pub answers_failed : (result : Result T Memory) (memory : Memory)
      → AnswersFrames bytes left left' core core' patterns patterns' old new result
      → AnswersFrames {T = U} bytes left left' core core' patterns patterns' old new (Err memory)
  answers_failed result memory frames = record {
    verdicts = frames.verdicts;
    few = frames.few;
    reported = frames.reported;
    possible = frames.possible;
    answered = tt;
  }

-- there was no memory for the piece
pub answers_nothing : {T : Type 0} (bytes left : List ℕ) (core : Core) (patterns : PatternsReport) (old : Reported)
    (memory : Memory)
    → AnswersFrames {T = T} bytes left left core core patterns patterns old old (Err memory)
answers_nothing bytes left core patterns old memory = record {
  verdicts = [];
  few = omega arith;
  reported = no_verdicts patterns;
  possible = λ talk is. none_refused (config_of core) (now_of core) (frames_of bytes) talk;
  answered = tt;
}
