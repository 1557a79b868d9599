-- What sends of a client do to the exchange.
use Rattle.std.proofs.Common.{◌≡◌, ℕ, ◌+◌, ◌-◌, ◌<◌, ◌≤◌, Bool, true, false, cond, not, ◌&&◌, List, []}
use Rattle.std.proofs.Common.{◌∷◌, ◌++◌, length, take, drop, Option, Some, None, refl, ap, sym, ◌∙◌, subst, arith}
use Rattle.std.proofs.Common.{length-append}
use Rattle.std.specs.Prelude.{nat_lt, is_some}
use Rattle.std.proofs.lemmas.Bool.{and_parts, ltb-true}
use Rattle.std.proofs.lemmas.List.{length-take-le, take_all}
use Rattle.ports.specs.Calls.{LinksReport}
use Rattle.ports.proofs.CallLemmas.{calls_then, no_calls}
use Rattle.ports.specs.Links.{IsWithin, send_entries}
use Rattle.ports.specs.declared.entry.Entry.{Entry}
use Rattle.ports.specs.declared.entry.Entry.TheVariants.{Listen, Next, Send, Close}
use Rattle.ports.specs.declared.links.SendAnswer.{SendAnswer}
use Rattle.ports.specs.declared.links.SendAnswer.TheVariants.{Took, Later, Failed, Memory}
use Rattle.riemann_client.specs.Client.{Represents, stream_of}
use Rattle.riemann_client.specs.Exchange.{Exchange, sent, unsent}
use Rattle.riemann_client.specs.Sending.{AreSends, KeepsReplies, MakesCalls, MaySend, Notes, NotesTaken, Sends}
use Rattle.riemann_client.specs.Sending.{SendsFrom, after_sends, link_to_send, sendable}
use Rattle.riemann_client.specs.declared.client.Client.{Client}
use Rattle.riemann_client.proofs.RequestLaws.{taken_more}

-- ---- calls, one part after another

pub makes_nothing : (report : LinksReport) (P : List Entry → Type 0) → P [] → MakesCalls report report P
makes_nothing report P holds = record { run = []; grew = no_calls report; no_fault = refl; holds = holds }

pub makes_then : (a b c : LinksReport) (P Q R : List Entry → Type 0) → MakesCalls a b P → MakesCalls b c Q
    → ((first second : List Entry) → P first → Q second → R (first ++ second)) → MakesCalls a c R
makes_then a b c P Q R one two both = record {
  run = one.run ++ two.run;
  grew = calls_then a b c one.run two.run one.grew two.grew;
  no_fault = two.no_fault ∙ one.no_fault;
  holds = both one.run two.run one.holds two.holds;
}

pub makes_weaken : (a b : LinksReport) (P Q : List Entry → Type 0) → ((run : List Entry) → P run → Q run)
    → MakesCalls a b P → MakesCalls a b Q
makes_weaken a b P Q f one =
    record { run = one.run; grew = one.grew; no_fault = one.no_fault; holds = f one.run one.holds }

-- ---- sends, one after another

pub after_append : (first second : List Entry) (exchange : Exchange)
    → after_sends second (after_sends first exchange) ≡ after_sends (first ++ second) exchange
after_append [] second exchange = refl
after_append (Listen address answer ∷ first) second exchange = after_append first second exchange
after_append (Next wants turn piece ∷ first) second exchange = after_append first second exchange
after_append (Send number bytes answer ∷ first) second exchange = after_append first second (sent bytes answer exchange)
after_append (Close number ∷ first) second exchange = after_append first second exchange

may_append : (stream : List ℕ) (first second : List Entry) (exchange : Exchange) → AreSends stream first exchange
    → AreSends stream second (after_sends first exchange)
    → AreSends stream (first ++ second) exchange
may_append stream [] second exchange before after = after
may_append stream (Listen address answer ∷ first) second exchange before after = absurd before
may_append stream (Next wants turn piece ∷ first) second exchange before after = absurd before
may_append stream (Send number bytes answer ∷ first) second exchange before after =
    (before.0, may_append stream first second (sent bytes answer exchange) before.1 after)
may_append stream (Close number ∷ first) second exchange before after = absurd before

pub keeps_nothing : (client : Client) → KeepsReplies client client
keeps_nothing client = record { stream = refl; link = refl; replies = refl }

pub keeps_then : (one two three : Client) → KeepsReplies one two → KeepsReplies two three → KeepsReplies one three
keeps_then one two three first second =
    record {
      stream = second.stream ∙ first.stream;
      link = second.link ∙ first.link;
      replies = second.replies ∙ first.replies;
    }

pub sends_nothing : (client : Client) → Sends client client []
sends_nothing client exchange is = record { may = tt; represents = is }

pub sends_then : (one two three : Client) (first second : List Entry) → KeepsReplies one two → Sends one two first
    → Sends two three second → Sends one three (first ++ second)
sends_then one two three first second keeps before after exchange is =
    let there : SendsFrom one two first exchange = before exchange is in
    let later : SendsFrom two three second (after_sends first exchange) =
    after (after_sends first exchange) there.represents in
    record {
      may = may_append (stream_of one) first second exchange there.may
          (subst (λ (stream : List ℕ). AreSends stream second (after_sends first exchange)) keeps.stream later.may);
      represents = subst (Represents three) (after_append first second exchange) later.represents;
    }

-- ---- the link that may be sent to

pub record MaySendTo (client : Client) (number : ℕ) : Type 0 where
  pub works : client.gone ≡ false
  pub free : client.blocked ≡ false
  pub some : 0 < length (drop client.requests.taken client.requests.stream)
  pub on : client.link ≡ Some number

abbrev pub may_send : Client → Bool
may_send client =
    not client.gone && (not client.blocked && nat_lt 0 (length (drop client.requests.taken client.requests.stream)))

not_true : (t : Bool) → not t ≡ true → t ≡ false
not_true true is = absurd (cc is)
not_true false is = refl

pub may_send_to : (client : Client) (number : ℕ) → link_to_send client ≡ Some number → MaySendTo client number
may_send_to client number is = by_test (may_send client) refl is
  where
    by_test : (t : Bool) → may_send client ≡ t → cond t client.link None ≡ Some number → MaySendTo client number
    by_test true test is =
        let outer =
        and_parts (not client.gone)
        (not client.blocked && nat_lt 0 (length (drop client.requests.taken client.requests.stream))) test in
        let inner =
        and_parts (not client.blocked) (nat_lt 0 (length (drop client.requests.taken client.requests.stream)))
        outer.1 in
        record {
          works = not_true client.gone outer.0;
          free = not_true client.blocked inner.0;
          some = ltb-true 0 (length (drop client.requests.taken client.requests.stream)) inner.1;
          on = is;
        }
    by_test false test is = absurd (cc is)

-- ---- one send

all_of : (bytes : List ℕ) → bytes ≡ take (length bytes) bytes
all_of bytes = sym (take_all (length bytes) bytes (let same : length bytes ≤ length bytes = omega arith in same))

unsent_as : (client : Client) (exchange : Exchange) → Represents client exchange
    → drop client.requests.taken client.requests.stream ≡ unsent (stream_of client) exchange
unsent_as client exchange is = ap (λ (n : ℕ). drop n client.requests.stream) is.count

may_send_all : (client : Client) (number : ℕ) (exchange : Exchange) → MaySendTo client number
    → Represents client exchange
    → MaySend (stream_of client) number (drop client.requests.taken client.requests.stream) exchange
may_send_all client number exchange may is = record {
  on = sym is.link ∙ may.on;
  works = sym is.gone ∙ may.works;
  free = sym is.blocked ∙ may.free;
  some = may.some;
  next = all_of (drop client.requests.taken client.requests.stream)
      ∙ ap (take (length (drop client.requests.taken client.requests.stream))) (unsent_as client exchange is);
}

-- what the client notes of an answer
noted_took : (client client' : Client) (count : ℕ) (exchange : Exchange)
    → count ≤ length (drop client.requests.taken client.requests.stream) → NotesTaken count client client'
    → Represents client exchange
    → Represents client' (sent (drop client.requests.taken client.requests.stream) (Took count) exchange)
noted_took client client' count exchange within notes is =
    let others = notes.others in
    let more : List ℕ = take count (drop client.requests.taken client.requests.stream) in
    let long : length more ≡ count = length-take-le count (drop client.requests.taken client.requests.stream) within in
    record {
      now = ap (λ (c : Client). c.clock) others ∙ is.now;
      link = ap (λ (c : Client). c.link) others ∙ is.link;
      blocked = ap (λ (c : Client). c.blocked) others;
      gone = ap (λ (c : Client). c.gone) others ∙ is.gone;
      taken =
          taken_more client.requests client'.requests count notes.stream notes.taken
          ∙ ap (λ (bytes : List ℕ). bytes ++ more) is.taken;
      count =
          notes.taken ∙ ap (λ (n : ℕ). n + count) is.count ∙ ap (λ (n : ℕ). length exchange.taken + n) (sym long)
          ∙ sym (length-append exchange.taken more);
      input = ap (λ (c : Client). c.input) others ∙ is.input;
      replies = ap (λ (c : Client). c.replies) others ∙ is.replies;
      accepted = is.accepted;
      answered = notes.answered (length exchange.replies) is.answered;
    }

noted_later : (client : Client) (exchange : Exchange) → Represents client exchange
    → Represents (record client { blocked = true }) (record exchange { blocked = true })
noted_later client exchange is = record {
  now = is.now;
  link = is.link;
  blocked = refl;
  gone = is.gone;
  taken = is.taken;
  count = is.count;
  input = is.input;
  replies = is.replies;
  accepted = is.accepted;
  answered = is.answered;
}

noted_failed : (client : Client) (exchange : Exchange) → Represents client exchange
    → Represents (record client { gone = true }) (record exchange { gone = true })
noted_failed client exchange is = record {
  now = is.now;
  link = is.link;
  blocked = is.blocked;
  gone = refl;
  taken = is.taken;
  count = is.count;
  input = is.input;
  replies = is.replies;
  accepted = is.accepted;
  answered = is.answered;
}

module _ (client client' : Client) (number : ℕ) where
  -- the bytes are all that is unsent
  sends_all : (answer : SendAnswer) → link_to_send client ≡ Some number
      → IsWithin (length (drop client.requests.taken client.requests.stream)) answer
      → Notes answer client client'
      → Sends client client' (send_entries number (drop client.requests.taken client.requests.stream) answer)
  sends_all (Took count) may within notes exchange is = record {
    may = (may_send_all client number exchange (may_send_to client number may) is, tt);
    represents = noted_took client client' count exchange within notes is;
  }
  sends_all Later may within notes exchange is = record {
    may = (may_send_all client number exchange (may_send_to client number may) is, tt);
    represents =
        subst (λ (c : Client). Represents c (record exchange { blocked = true })) (sym notes)
        (noted_later client exchange is);
  }
  sends_all Failed may within notes exchange is = record {
    may = (may_send_all client number exchange (may_send_to client number may) is, tt);
    represents =
        subst (λ (c : Client). Represents c (record exchange { gone = true })) (sym notes)
        (noted_failed client exchange is);
  }
  sends_all Memory may within notes exchange is =
      record { may = tt; represents = subst (λ (c : Client). Represents c exchange) (sym notes) is }

  pub sends_answered : (answer : SendAnswer) (bytes : List ℕ)
      → bytes ≡ drop client.requests.taken client.requests.stream → link_to_send client ≡ Some number
      → IsWithin (length (drop client.requests.taken client.requests.stream)) answer → Notes answer client client'
      → Sends client client' (send_entries number bytes answer)
  sends_answered answer bytes are may within notes =
      subst (λ (bs : List ℕ). Sends client client' (send_entries number bs answer)) (sym are)
      (sends_all answer may within notes)

-- ---- the measure of the loop that sends

abbrev left_over : Client → ℕ
left_over client = length (drop client.requests.taken client.requests.stream)

sendable_blocked : (client : Client) → client.blocked ≡ true → sendable client ≡ 0
sendable_blocked client is =
    ap
    (λ (t : Bool). cond (is_some (cond (not client.gone && (not t && nat_lt 0 (left_over client))) client.link None))
    (left_over client) 0)
    is
    ∙ none (not client.gone)
  where
    none : (t : Bool) → cond (is_some (cond (t && false) client.link None)) (left_over client) 0 ≡ 0
    none true = refl
    none false = refl

sendable_all : (client : Client) (number : ℕ) → link_to_send client ≡ Some number → sendable client ≡ left_over client
sendable_all client number is = ap (λ (link : Option ℕ). cond (is_some link) (left_over client) 0) is

sendable_within : (client : Client) → sendable client ≤ left_over client
sendable_within client = by_case (is_some (link_to_send client))
  where
    by_case : (t : Bool) → cond t (left_over client) 0 ≤ left_over client
    by_case true = omega arith
    by_case false = omega arith
