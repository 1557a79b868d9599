-- How a message is answered, put together from its steps.
use Rattle.std.proofs.Common.{◌≡◌, ◌≢◌, ℕ, ◌+◌, ◌<◌, Bool, true, false, cond, List, [], ◌∷◌, ◌++◌, drop, get_or, length}
use Rattle.std.proofs.Common.{map, set, take, refl, ap, sym, ◌∙◌, subst, arith, append-nil, append_assoc}
use Rattle.std.proofs.lemmas.List.{drop-set, drop-set-lt, map-append, set-get_or, take_more}
use Rattle.std.specs.Prelude.{Option, Some, None, Result, Ok, Err, OnOk, OnErr, option_and_then}
use Rattle.ev_types.specs.declared.event.Event.{Event}
use Rattle.ev_types.specs.declared.item.Notice.{Notice}
use Rattle.event_core.specs.declared.arrivals.Core.{Core}
use Rattle.event_core.specs.Core.{Heard, Receives, Represents, CoreConfig, now_of, notices_by, config_of, state_by}
use Rattle.index_log.specs.Live.{IndexLog}
use Rattle.list_laws.specs.declared.memory.Memory.{Memory}
use Rattle.packed_msg.specs.Sent.{sent_of}
use Rattle.pred_eval.specs.Tree.{Tree}
use Rattle.query_lang.specs.declared.fault.QueryFault.{QueryFault}
use Rattle.query_lang.specs.declared.fault.QueryFault.TheVariants.{TooLong, Refused as QueryRefused, TooDeep}
use Rattle.query_lang.specs.declared.fault.QueryFault.TheVariants.{Memory as NoMemory}
use Rattle.query_lang.specs.Answer.{query_of}
use Rattle.query_lang.specs.Queries.{Agrees}
use Rattle.riemann_msg.specs.declared.fault.MsgWhy.{MsgWhy}
use Rattle.riemann_msg.specs.declared.msg.Msg.{Msg}
use Rattle.riemann_msg.specs.Fault.{Fault, fault_at, first_fault}
use Rattle.riemann_msg.specs.Value.{message_of}
use Rattle.step_count.specs.Count.{StepCount}
use Rattle.stream_meaning.specs.Arrivals.{Arrival, Post}
use Rattle.hub_meaning.specs.Messages.{posts_of, reading_of, rule_of, rule_of_query, rule_read}
use Rattle.hub_meaning.specs.Replies.{accepted, answer_to_query, answer_to_text, framed, message_refusal, query_refusal}
use Rattle.hub_meaning.specs.Replies.{refused, reply_to}
use Rattle.hub_meaning.specs.Verdicts.{PatternsReport, Refusal, built_rule, is_busy}
use Rattle.msg_replies.specs.Arriving.{Arrives, Reported, reported}
use Rattle.msg_replies.specs.Answering.{AfterVerdict, AnswersMessage, AnswersQuery, asked_of}
use Rattle.msg_replies.proofs.VerdictLaws.{no_verdict}

pub on_ok : {T E : Type 0} {P Q : Type 0} (r : Result T E) → (P → Q) → OnOk r P → OnOk r Q
on_ok (Ok x) f p = f p
on_ok (Err e) f p = tt

pub on_error : {T E P : Type 0} (r : Result T E) → P → OnErr r P
on_error (Ok x) fact = tt
on_error (Err e) fact = fact

-- ---- arrivals, one after another

pub heard_nothing : (config : CoreConfig) (arrivals : List Arrival) (old : Reported)
    → Heard config arrivals [] old.notices old.forks old.notices old.forks
heard_nothing config arrivals old = record {
  made = [];
  reported = sym (append-nil old.notices);
  notices = ap (notices_by config) (append-nil arrivals) ∙ sym (append-nil (notices_by config arrivals));
  forks = rw (append-nil arrivals) refl;
}

pub heard_then : (config : CoreConfig) (arrivals first second : List Arrival) (a b c : Reported)
    → Heard config arrivals first a.notices a.forks b.notices b.forks
    → Heard config (arrivals ++ first) second b.notices b.forks c.notices c.forks
    → Heard config arrivals (first ++ second) a.notices a.forks c.notices c.forks
heard_then config arrivals first second a b c one two =
    let f = one.forks in
    let s = rw (append_assoc arrivals first second) at two.forks in
    record {
      made = one.made ++ two.made;
      reported = two.reported ∙ ap (λ out. out ++ two.made) one.reported ∙ append_assoc a.notices one.made two.made;
      notices =
          ap (notices_by config) (sym (append_assoc arrivals first second)) ∙ two.notices
          ∙ ap (λ out. out ++ two.made) one.notices
          ∙ append_assoc (notices_by config arrivals) one.made two.made;
      forks = omega arith;
    }

pub arrives_nothing : (core : Core) (arrivals : List Arrival) (old : Reported) → Represents core arrivals
    → Arrives core core arrivals [] old old
arrives_nothing core arrivals old holds = record {
  represents = rw (append-nil arrivals) holds;
  config = refl;
  heard = heard_nothing (config_of core) arrivals old;
}

pub arrives_then : (one two three : Core) (arrivals first second : List Arrival) (a b c : Reported)
    → Arrives one two arrivals first a b → Arrives two three (arrivals ++ first) second b c
    → Arrives one three arrivals (first ++ second) a c
arrives_then one two three arrivals first second a b c x y = record {
  represents = rw (← append_assoc arrivals first second) y.represents;
  config = y.config ∙ x.config;
  heard = heard_then (config_of one) arrivals first second a b c x.heard
      (subst (λ config. Heard config (arrivals ++ first) second b.notices b.forks c.notices c.forks) x.config y.heard);
}

-- what a core received has arrived
pub arrives_received : {G : Type 0} {more : List Arrival} {core core' : Core} {old new : List Notice}
    {before after : StepCount G}
    → Receives more core core' old new before after (Ok tt) → (arrivals : List Arrival) → Represents core arrivals
    → Arrives core core' arrivals more (reported old before.forks) (reported new after.forks)
arrives_received received arrivals holds = record {
  represents = received.represents arrivals holds;
  config = received.config;
  heard = received.heard arrivals holds;
}

-- ---- what a body is read as

reading_accepted : (now : ℕ) (body : List ℕ) (msg : Msg) → first_fault body ≡ None → msg ≡ message_of now body
    → reading_of now body ≡ Ok msg
unfolding reading_of
reading_accepted now body msg sound is = rw (sound, is) refl

reading_refused : (now : ℕ) (body : List ℕ) (fault : Fault) → first_fault body ≡ Some fault
    → reading_of now body ≡ Err fault
unfolding reading_of
reading_refused now body fault found = rw found refl

built_accepted : (busy : Bool) (now : ℕ) (body : List ℕ) (msg : Msg) → reading_of now body ≡ Ok msg
    → cond busy None (rule_of now body) ≡ cond busy None (option_and_then rule_of_query msg.query)
unfolding rule_of
built_accepted true now body msg is = refl
built_accepted false now body msg is = rw is refl

posts_accepted : (now : ℕ) (body : List ℕ) (msg : Msg) → reading_of now body ≡ Ok msg
    → posts_of now body ≡ map Post msg.events
unfolding posts_of
posts_accepted now body msg is = rw is refl

posts_refused : (now : ℕ) (body : List ℕ) (fault : Fault) → reading_of now body ≡ Err fault → posts_of now body ≡ []
unfolding posts_of
posts_refused now body fault is = rw is refl

reply_accepted : (now unsent : ℕ) (log : IndexLog) (body : List ℕ) (msg : Msg) (refusal : Option Refusal)
    → reading_of now body ≡ Ok msg
    → reply_to now log unsent (record { body = body; refusal = refusal })
    ≡ framed (answer_to_query log unsent refusal msg.query)
unfolding reply_to
reply_accepted now unsent log body msg refusal is = rw is refl

reply_refused : (now unsent : ℕ) (log : IndexLog) (body : List ℕ) (fault : Fault) (refusal : Option Refusal)
    → reading_of now body ≡ Err fault
    → reply_to now log unsent (record { body = body; refusal = refusal })
    ≡ framed (refused (message_refusal fault.place fault.why))
unfolding reply_to
reply_refused now unsent log body fault refusal is = rw is refl

-- ---- a message

pub answers_accepted : (body : List ℕ) (unsent : ℕ) (msg : Msg) (core posted : Core)
    (patterns patterns' : PatternsReport) (replies replies' : List ℕ) (old new : Reported)
    (result : Result (Unit {0}) Memory)
    → (first_fault body ≡ None) × (msg ≡ message_of (now_of core) body) → now_of posted ≡ now_of core
    → ((arrivals : List Arrival) → Represents core arrivals
    → Arrives core posted arrivals (map Post msg.events) old new)
    → AnswersQuery (asked_of unsent msg.query) posted patterns patterns' replies replies'
    (λ log refusal. answer_to_query log unsent refusal msg.query) result
    → AnswersMessage body unsent core posted patterns patterns' replies replies' old new result
answers_accepted body unsent msg core posted patterns patterns' replies replies' old new result read now arrives query =
    let is : reading_of (now_of core) body ≡ Ok msg = reading_accepted (now_of core) body msg read.0 read.1 in
    let posts = posts_accepted (now_of core) body msg is in
    record {
      refusal = query.refusal;
      verdict =
          subst (λ (rule : Option Tree). AfterVerdict rule query.refusal patterns patterns')
          (sym (built_accepted (is_busy unsent) (now_of core) body msg is)) query.verdict;
      answered = on_ok result (λ answered arrivals holds. let comes = arrives arrivals holds in record {
        arrives = rw posts comes;
        now = now;
        reply =
            rw (
              posts,
              reply_accepted (now_of core) unsent (state_by (config_of core) (arrivals ++ map Post msg.events)).log body
                  msg query.refusal is,
            )
            (subst
            (λ (config : CoreConfig). replies'
            ≡ replies
            ++ framed
            (answer_to_query (state_by config (arrivals ++ map Post msg.events)).log unsent query.refusal msg.query))
            comes.config
            (answered (arrivals ++ map Post msg.events) comes.represents));
      }) query.answered;
    }

-- out of memory when the query of a message was answered
pub answers_failed : (body : List ℕ) (unsent : ℕ) (msg : Msg) (core posted : Core) (patterns patterns' : PatternsReport)
    (replies replies' : List ℕ) (old new : Reported) (result : Result (Unit {0}) Memory) (memory : Memory)
    → (first_fault body ≡ None) × (msg ≡ message_of (now_of core) body)
    → AnswersQuery (asked_of unsent msg.query) posted patterns patterns' replies replies'
    (λ log refusal. answer_to_query log unsent refusal msg.query) result
    → AnswersMessage body unsent core posted patterns patterns' replies replies' old new (Err memory)
answers_failed body unsent msg core posted patterns patterns' replies replies' old new result memory read query =
    let is : reading_of (now_of core) body ≡ Ok msg = reading_accepted (now_of core) body msg read.0 read.1 in
    record {
      refusal = query.refusal;
      verdict =
          subst (λ (rule : Option Tree). AfterVerdict rule query.refusal patterns patterns')
          (sym (built_accepted (is_busy unsent) (now_of core) body msg is)) query.verdict;
      answered = tt;
    }

-- the core is as it was before its query was answered
pub answers_same : {body : List ℕ} {unsent : ℕ} {core posted posted' : Core} {patterns patterns' : PatternsReport}
    {replies replies' : List ℕ} {old new : Reported} {result : Result (Unit {0}) Memory}
    → posted' ≡ posted → AnswersMessage body unsent core posted patterns patterns' replies replies' old new result
    → AnswersMessage body unsent core posted' patterns patterns' replies replies' old new result
answers_same {body} {unsent} {core} {posted} {posted'} {patterns} {patterns'} {replies} {replies'} {old} {new} {result}
    same answered =
    subst
    (λ (core' : Core). AnswersMessage body unsent core core' patterns patterns' replies replies' old new result)
    (sym same) answered

pub answers_refused : (body : List ℕ) (unsent : ℕ) (core : Core) (patterns : PatternsReport) (replies replies' : List ℕ)
    (place : ℕ) (why : MsgWhy) (old : Reported) (result : Result (Unit {0}) Memory)
    → first_fault body ≡ Some (fault_at place why)
    → OnOk result (replies' ≡ replies ++ framed (refused (message_refusal place why)))
    → AnswersMessage body unsent core core patterns patterns replies replies' old old result
answers_refused body unsent core patterns replies replies' place why old result read step =
    let is : reading_of (now_of core) body ≡ Err (fault_at place why) =
    reading_refused (now_of core) body (fault_at place why) read in
    let posts = posts_refused (now_of core) body (fault_at place why) is in
    record {
      refusal = None;
      verdict = no_verdict (built_rule (now_of core) unsent body) patterns;
      answered = on_ok result (λ wrote arrivals holds. record {
        arrives = rw posts (arrives_nothing core arrivals old holds);
        now = refl;
        reply =
            wrote
            ∙ ap (λ more. replies ++ more)
            (sym (reply_refused (now_of core) unsent
            (state_by (config_of core) (arrivals ++ posts_of (now_of core) body)).log body (fault_at place why) None
            is));
      }) step;
    }

-- out of memory before anything was said of the message
pub answers_nothing : (body : List ℕ) (unsent : ℕ) (core core' : Core) (patterns : PatternsReport)
    (replies replies' : List ℕ) (old new : Reported) (memory : Memory)
    → AnswersMessage body unsent core core' patterns patterns replies replies' old new (Err memory)
answers_nothing body unsent core core' patterns replies replies' old new memory = record {
  refusal = None;
  verdict = no_verdict (built_rule (now_of core) unsent body) patterns;
  answered = tt;
}

-- a message that is nothing but events was accepted
pub answers_plain : (body : List ℕ) (unsent : ℕ) (events : List Event) (core core' : Core) (patterns : PatternsReport)
    (replies replies' : List ℕ) (old new : Reported) (result : Result (Unit {0}) Memory)
    → first_fault body ≡ None → message_of (now_of core) body ≡ sent_of events
    → OnOk result (now_of core' ≡ now_of core)
    → OnOk result ((arrivals : List Arrival) → Represents core arrivals
    → Arrives core core' arrivals (map Post events) old new)
    → OnOk result (replies' ≡ replies ++ framed accepted)
    → AnswersMessage body unsent core core' patterns patterns replies replies' old new result
answers_plain body unsent events core core' patterns replies replies' old new (Ok done) clean sent now arrives wrote =
    answers_accepted body unsent (sent_of events) core core' patterns patterns replies replies' old new (Ok done)
    (clean, sym sent) now arrives (record {
      refusal = None;
      verdict = no_verdict (asked_of unsent None) patterns;
      answered = λ arrivals holds. wrote;
    })
answers_plain body unsent events core core' patterns replies replies' old new (Err memory) clean sent now arrives wrote =
    answers_nothing body unsent core core' patterns replies replies' old new memory

-- ---- a query

says_fault : (fault : QueryFault) (answer : Result Tree QueryFault) → fault ≢ NoMemory → Agrees (Err fault) answer
    → answer ≡ Err fault
says_fault (TooLong size) answer other says = says
says_fault (QueryRefused place) answer other says = says
says_fault (TooDeep place) answer other says = says
says_fault NoMemory answer other says = absurd (other refl)

-- a text that is not a query is refused
pub answers_fault : (text : List ℕ) (fault : QueryFault) (core : Core) (patterns : PatternsReport)
    (replies replies' : List ℕ) (result : Result (Unit {0}) Memory)
    → Agrees (Err fault) (query_of text) → OnOk result (fault ≢ NoMemory)
    → OnOk result (replies' ≡ replies ++ framed (refused (query_refusal fault)))
    → AnswersQuery (rule_read (query_of text)) core patterns patterns replies replies'
    (λ log refusal. answer_to_text log refusal (query_of text)) result
answers_fault text fault core patterns replies replies' (Ok done) says other wrote = record {
  refusal = None;
  verdict = no_verdict (rule_read (query_of text)) patterns;
  answered = λ arrivals holds. rw (says_fault fault (query_of text) other says) wrote;
}
answers_fault text fault core patterns replies replies' (Err memory) says other wrote = record {
  refusal = None;
  verdict = no_verdict (rule_read (query_of text)) patterns;
  answered = tt;
}

-- one event more
pub posted_more : {G : Type 0} (one two three : Core) (arrivals : List Arrival) (events : List Event) (event : Event)
    (a : Reported) (old new : List Notice) (before after : StepCount G)
    → Receives (Post event ∷ []) two three old new before after (Ok tt)
    → Arrives one two arrivals (map Post events) a (reported old before.forks)
    → Arrives one three arrivals (map Post (events ++ event ∷ [])) a (reported new after.forks)
posted_more one two three arrivals events event a old new before after received arrived =
    subst (λ (more : List Arrival). Arrives one three arrivals more a (reported new after.forks))
    (sym (map-append Post events (event ∷ [])))
    (arrives_then one two three arrivals (map Post events) (Post event ∷ []) a (reported old before.forks)
    (reported new after.forks)
    arrived (arrives_received received (arrivals ++ map Post events) arrived.represents))

-- ---- an event that is posted from its place in a list

first-of : (a b : Event) (xs ys : List Event) → a ∷ xs ≡ b ∷ ys → a ≡ b
first-of a b xs ys same = ap (λ (list : List Event). get_or list 0 a) same

rest-of : (a b : Event) (xs ys : List Event) → a ∷ xs ≡ b ∷ ys → xs ≡ ys
rest-of a b xs ys same = ap (λ (list : List Event). drop 1 list) same

item-at : (xs : List Event) (i : ℕ) (x : Event) → i < length xs → drop i xs ≡ get_or xs i x ∷ drop (i + 1) xs
item-at xs i x within =
    ap (λ (list : List Event). drop i list) (sym (set-get_or xs i x)) ∙ drop-set xs i (get_or xs i x) within

-- `xs` is `ys` from `i` on, and its event `x` at `i` becomes `y`
pub posted-at : (xs ys : List Event) (i : ℕ) (x y : Event) → i < length ys → length xs ≡ length ys → x ≡ get_or xs i x
    → drop i xs ≡ drop i ys
    → (drop (i + 1) (set xs i y) ≡ drop (i + 1) ys) × (take (i + 1) ys ≡ take i ys ++ x ∷ [])
posted-at xs ys i x y within many is same =
    let within' : i < length xs = subst (λ (n : ℕ). i < n) (sym many) within in
    let both : get_or xs i x ∷ drop (i + 1) xs ≡ get_or ys i x ∷ drop (i + 1) ys =
    sym (item-at xs i x within') ∙ same ∙ item-at ys i x within in (
      drop-set-lt (i + 1) xs i y (omega arith)
          ∙ rest-of (get_or xs i x) (get_or ys i x) (drop (i + 1) xs) (drop (i + 1) ys) both,
      take_more ys i x within
          ∙ ap (λ (e : Event). take i ys ++ e ∷ [])
          (sym (is ∙ first-of (get_or xs i x) (get_or ys i x) (drop (i + 1) xs) (drop (i + 1) ys) both)),
    )
