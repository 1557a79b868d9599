-- How the frames of a piece are answered in two parts.
use Rattle.std.proofs.Common.{◌≡◌, ℕ, ◌≤◌, ◌||◌, Bool, List, [], ◌∷◌, ◌++◌, length, map, take, drop, refl, ap, sym, ◌∙◌}
use Rattle.std.proofs.Common.{subst, arith, append_assoc, length-append}
use Rattle.std.specs.Prelude.{Option, None, Result, Ok, Err, option_map, option_to_list}
use Rattle.std.specs.List.{list_any}
use Rattle.std.proofs.lemmas.List.{take-append-drop}
use Rattle.msg_replies.specs.event_core.declared.arrivals.Core.{Core}
use Rattle.msg_replies.specs.event_core.Core.{CoreConfig, Represents, config_of, now_of}
use Rattle.framing.specs.Frames.{frames_of, partial}
use Rattle.framing.proofs.FrameLaws.{frames_append, partial_append}
use Rattle.list_laws.specs.declared.memory.Memory.{Memory}
use Rattle.stream_meaning.specs.Arrivals.{Arrival}
use Rattle.msg_replies.specs.hub_meaning.Legal.{ArePossible}
use Rattle.msg_replies.specs.hub_meaning.Links.{unsent}
use Rattle.msg_replies.specs.hub_meaning.Runs.{Talk, all_answered}
use Rattle.msg_replies.specs.hub_meaning.Verdicts.{AfterVerdicts, Message, PatternsReport, Refusal, is_refused, judged}
use Rattle.msg_replies.specs.hub_meaning.Verdicts.{refused_text, texts_refused}
use Rattle.msg_replies.specs.Arriving.{Arrives, Reported}
use Rattle.msg_replies.proofs.AnswerLaws.{arrives_then, on_ok}
use Rattle.msg_replies.proofs.VerdictLaws.{verdicts_then}
use Rattle.hub_link.specs.declared.link.HubLink.{HubLink}
use Rattle.hub_link.specs.Answering.{Answered, AnswersFrames, IsTalk}
use Rattle.hub_link.specs.Hearing.{KeepsRest}
use Rattle.hub_link.proofs.HearLaws.{all_answered_append, message_with, none_refused, possible_append, verdict_of}

-- ---- a verdict for each body, none refused where there was no verdict

abbrev all_verdicts : List (List ℕ) → List (Option Refusal) → List (Option Refusal)
all_verdicts bodies verdicts = map verdict_of (judged bodies verdicts)

all_many : (bodies : List (List ℕ)) (verdicts : List (Option Refusal))
    → length (all_verdicts bodies verdicts) ≡ length bodies
all_many [] verdicts = refl
all_many (body ∷ bodies) [] = let later = all_many bodies [] in omega arith
all_many (body ∷ bodies) (verdict ∷ verdicts) = let later = all_many bodies verdicts in omega arith

all_texts : (bodies : List (List ℕ)) (verdicts : List (Option Refusal)) → length verdicts ≤ length bodies
    → texts_refused (all_verdicts bodies verdicts) ≡ texts_refused verdicts
all_texts [] [] few = refl
all_texts [] (verdict ∷ verdicts) few = absurd (omega arith)
all_texts (body ∷ bodies) [] few = all_texts bodies [] (omega arith)
all_texts (body ∷ bodies) (verdict ∷ verdicts) few =
    ap (λ (texts : List (List ℕ)). option_to_list (option_map refused_text verdict) ++ texts)
    (all_texts bodies verdicts (omega arith))

all_any : (bodies : List (List ℕ)) (verdicts : List (Option Refusal)) → length verdicts ≤ length bodies
    → list_any is_refused (all_verdicts bodies verdicts) ≡ list_any is_refused verdicts
all_any [] [] few = refl
all_any [] (verdict ∷ verdicts) few = absurd (omega arith)
all_any (body ∷ bodies) [] few = all_any bodies [] (omega arith)
all_any (body ∷ bodies) (verdict ∷ verdicts) few =
    ap (λ (t : Bool). is_refused verdict || t) (all_any bodies verdicts (omega arith))

after_all : (old new : PatternsReport) (bodies : List (List ℕ)) (verdicts : List (Option Refusal))
    → length verdicts ≤ length bodies
    → AfterVerdicts old new verdicts → AfterVerdicts old new (all_verdicts bodies verdicts)
after_all old new bodies verdicts few after = record {
  reported = after.reported
      ∙ ap (λ (more : List (List ℕ)). option_map (λ (texts : List (List ℕ)). texts ++ more) old.refused)
      (sym (all_texts bodies verdicts few));
  never_falls = after.never_falls;
  rose = λ refused. after.rose (sym (all_any bodies verdicts few) ∙ refused);
  still = λ none. after.still (sym (all_any bodies verdicts few) ∙ none);
}

-- ---- the messages of two parts

judged_append : (first second : List (List ℕ)) (verdicts more : List (Option Refusal))
    → judged (first ++ second) (all_verdicts first verdicts ++ more) ≡ judged first verdicts ++ judged second more
judged_append [] second verdicts more = refl
judged_append (body ∷ first) second [] more =
    ap (λ (ms : List Message). message_with body None ∷ ms) (judged_append first second [] more)
judged_append (body ∷ first) second (verdict ∷ verdicts) more =
    ap (λ (ms : List Message). message_with body verdict ∷ ms) (judged_append first second verdicts more)

-- where there are no verdicts on the second part
judged_first : (first second : List (List ℕ)) (verdicts : List (Option Refusal)) → length verdicts ≤ length first
    → judged (first ++ second) verdicts ≡ judged first verdicts ++ judged second []
judged_first [] second [] few = refl
judged_first [] second (verdict ∷ verdicts) few = absurd (omega arith)
judged_first (body ∷ first) second [] few =
    ap (λ (ms : List Message). message_with body None ∷ ms) (judged_first first second [] (omega arith))
judged_first (body ∷ first) second (verdict ∷ verdicts) few =
    ap (λ (ms : List Message). message_with body verdict ∷ ms) (judged_first first second verdicts (omega arith))

module _ (core one : Core) (left' : List ℕ) (a b : Reported) (first second : List Message) (talk : Talk) where
  talk_then : Answered core one left' a b first talk
      → IsTalk one left' (all_answered (config_of core) (now_of core) first talk)
  talk_then before = record {
    arrivals = subst (Represents one) (sym before.arrivals) before.arrives.represents;
    left_is = before.left_is;
    within = before.within;
  }

  possible_then : Answered core one left' a b first talk → ArePossible (config_of core) (now_of core) first talk
      → ((there : Talk) → IsTalk one left' there → ArePossible (config_of one) (now_of one) second there)
      → ArePossible (config_of core) (now_of core) (first ++ second) talk
  possible_then before possible later =
      let there : Talk = all_answered (config_of core) (now_of core) first talk in
      possible_append (config_of core) (now_of core) first second talk possible
      (subst (λ (config : CoreConfig). ArePossible config (now_of core) second there) before.arrives.config
      (subst (λ (now : ℕ). ArePossible (config_of one) now second there) before.now (later there (talk_then before))))

  answered_then : (two : Core) (left'' : List ℕ) (c : Reported) → Answered core one left' a b first talk
      → Answered one two left'' b c second (all_answered (config_of core) (now_of core) first talk)
      → Answered core two left'' a c (first ++ second) talk
  answered_then two left'' c before after =
      let there : Talk = all_answered (config_of core) (now_of core) first talk in
      let is : all_answered (config_of core) (now_of core) (first ++ second) talk
      ≡ all_answered (config_of one) (now_of one) second there =
      all_answered_append (config_of core) (now_of core) first second talk
      ∙ ap (λ (config : CoreConfig). all_answered config (now_of core) second there) (sym before.arrives.config)
      ∙ ap (λ (now : ℕ). all_answered (config_of one) now second there) (sym before.now) in
      record {
        more = before.more ++ after.more;
        arrivals =
            ap (λ (t : Talk). t.arrivals) is ∙ after.arrivals
            ∙ ap (λ (arrivals : List Arrival). arrivals ++ after.more) before.arrivals
            ∙ append_assoc talk.arrivals before.more after.more;
        arrives = arrives_then core one two talk.arrivals before.more after.more a b c before.arrives
            (subst (λ (arrivals : List Arrival). Arrives one two arrivals after.more b c) before.arrivals
            after.arrives);
        now = after.now ∙ before.now;
        left_is = after.left_is ∙ ap (λ (t : Talk). unsent t.link) (sym is);
        within = subst (λ (t : Talk). length t.link.taken ≤ length t.link.replies) (sym is) after.within;
      }

-- ---- the frames of two parts

few_then : (verdicts more : List (Option Refusal)) (first second : List (List ℕ)) → length verdicts ≤ length first
    → length more ≤ length second
    → length (verdicts ++ more) ≤ length (first ++ second)
few_then verdicts more first second few few_more =
    omega (arith, length-append verdicts more, length-append first second)

module _ {T U : Type 0} (bytes more left left' left'' : List ℕ) (core one two : Core)
    (patterns patterns' patterns'' : PatternsReport) (a b c : Reported) where
  -- those of the bytes were answered, and then those of what they left and of more bytes
  answers_more : (taken : T) (result : Result U Memory)
      → AnswersFrames bytes left left' core one patterns patterns' a b (Ok taken)
      → AnswersFrames (partial bytes ++ more) left' left'' one two patterns' patterns'' b c result
      → AnswersFrames (bytes ++ more) left left'' core two patterns patterns'' a c result
  answers_more taken result before after =
      let later : List (List ℕ) = frames_of (partial bytes ++ more) in
      let verdicts : List (Option Refusal) = all_verdicts (frames_of bytes) before.verdicts in
      let first : List Message = judged (frames_of bytes) before.verdicts in
      let second : List Message = judged later after.verdicts in
      let many : length verdicts ≡ length (frames_of bytes) = all_many (frames_of bytes) before.verdicts in
      let is : judged (frames_of (bytes ++ more)) (verdicts ++ after.verdicts) ≡ first ++ second =
      ap (λ (fs : List (List ℕ)). judged fs (verdicts ++ after.verdicts)) (frames_append bytes more)
      ∙ judged_append (frames_of bytes) later before.verdicts after.verdicts in
      record {
        verdicts = verdicts ++ after.verdicts;
        few =
            rw (frames_append bytes more)
            (few_then verdicts after.verdicts (frames_of bytes) later (omega arith) after.few);
        reported = verdicts_then patterns patterns' patterns'' verdicts after.verdicts
            (after_all patterns patterns' (frames_of bytes) before.verdicts before.few before.reported) after.reported;
        possible =
            λ talk is_talk. subst (λ (ms : List Message). ArePossible (config_of core) (now_of core) ms talk) (sym is)
            (possible_then core one left' a b first second talk (before.answered talk is_talk)
            (before.possible talk is_talk) after.possible);
        answered = on_ok result (λ answers talk is_talk.
            let there : Talk = all_answered (config_of core) (now_of core) first talk in
            let so_far : Answered core one left' a b first talk = before.answered talk is_talk in
            subst (λ (ms : List Message). Answered core two left'' a c ms talk) (sym is)
            (answered_then core one left' a b first second talk two left'' c so_far
            (answers there (talk_then core one left' a b first second talk so_far)))) after.answered;
      }

module _ {T U : Type 0} (bytes more left left' : List ℕ) (core core' : Core) (patterns patterns' : PatternsReport)
    (old new : Reported) where
  -- memory ran out at those of the bytes
  answers_in_part : (result : Result T Memory) (memory : Memory)
      → AnswersFrames bytes left left' core core' patterns patterns' old new result
      → AnswersFrames {T = U} (bytes ++ more) left left' core core' patterns patterns' old new (Err memory)
  answers_in_part result memory before =
      let later : List (List ℕ) = frames_of (partial bytes ++ more) in
      let first : List Message = judged (frames_of bytes) before.verdicts in
      let few : length before.verdicts ≤ length (frames_of bytes) = before.few in
      let is : judged (frames_of (bytes ++ more)) before.verdicts ≡ first ++ judged later [] =
      ap (λ (fs : List (List ℕ)). judged fs before.verdicts) (frames_append bytes more)
      ∙ judged_first (frames_of bytes) later before.verdicts before.few in
      record {
        verdicts = before.verdicts;
        few = rw (frames_append bytes more) (omega (arith, length-append (frames_of bytes) later));
        reported = before.reported;
        possible =
            λ talk is_talk. subst (λ (ms : List Message). ArePossible (config_of core) (now_of core) ms talk) (sym is)
            (possible_append (config_of core) (now_of core) first (judged later []) talk (before.possible talk is_talk)
            (none_refused (config_of core) (now_of core) later
            (all_answered (config_of core) (now_of core) first talk)));
        answered = tt;
      }

-- ---- a piece in two parts

pub parts_are : (count : ℕ) (head rest piece : List ℕ) → head ≡ take count piece → rest ≡ drop count piece
    → head ++ rest ≡ piece
parts_are count head rest piece front back = rw (front, back) (take-append-drop count piece)

after_held : (held head rest piece : List ℕ) → head ++ rest ≡ piece → (held ++ head) ++ rest ≡ held ++ piece
after_held held head rest piece parts = append_assoc held head rest ∙ ap (λ (bytes : List ℕ). held ++ bytes) parts

module _ (head rest piece : List ℕ) (parts : head ++ rest ≡ piece) (link one two : HubLink) where
  pub keeps_then : KeepsRest head link one → KeepsRest rest one two → KeepsRest piece link two
  keeps_then before after = record {
    stage = after.stage ∙ before.stage;
    blocked = after.blocked ∙ before.blocked;
    input =
        after.input ∙ ap (λ (held : List ℕ). partial (held ++ rest)) before.input
        ∙ sym (partial_append (link.input ++ head) rest)
        ∙ ap partial (after_held link.input head rest piece parts);
  }

module _ {T U : Type 0} (head rest piece : List ℕ) (parts : head ++ rest ≡ piece) (link one two : HubLink)
    (core middle core' : Core)
    (patterns patterns' patterns'' : PatternsReport) (a b c : Reported) where
  -- both parts were read, or memory ran out at the second
  pub reads_then : (taken : T) (result : Result U Memory)
      → AnswersFrames (link.input ++ head) link.unsent one.unsent core middle patterns patterns' a b (Ok taken)
      → KeepsRest head link one
      → AnswersFrames (one.input ++ rest) one.unsent two.unsent middle core' patterns' patterns'' b c result
      → AnswersFrames (link.input ++ piece) link.unsent two.unsent core core' patterns patterns'' a c result
  reads_then taken result before keeps after =
      subst (λ (bytes : List ℕ). AnswersFrames bytes link.unsent two.unsent core core' patterns patterns'' a c result)
      (after_held link.input head rest piece parts)
      (answers_more (link.input ++ head) rest link.unsent one.unsent two.unsent core middle core' patterns patterns'
      patterns'' a b c taken result before
      (subst
      (λ (held : List ℕ).
      AnswersFrames (held ++ rest) one.unsent two.unsent middle core' patterns' patterns'' b c result)
      keeps.input after))

module _ {T U : Type 0} (head rest piece : List ℕ) (parts : head ++ rest ≡ piece) (link : HubLink) (left : List ℕ)
    (core core' : Core)
    (patterns patterns' : PatternsReport) (old new : Reported) where
  -- memory ran out at the first
  pub reads_in_part : (result : Result T Memory) (memory : Memory)
      → AnswersFrames (link.input ++ head) link.unsent left core core' patterns patterns' old new result
      → AnswersFrames {T = U} (link.input ++ piece) link.unsent left core core' patterns patterns' old new (Err memory)
  reads_in_part result memory before =
      let failed : Result U Memory = Err memory in
      subst (λ (bytes : List ℕ). AnswersFrames bytes link.unsent left core core' patterns patterns' old new failed)
      (after_held link.input head rest piece parts)
      (answers_in_part (link.input ++ head) rest link.unsent left core core' patterns patterns' old new result memory
      before)
