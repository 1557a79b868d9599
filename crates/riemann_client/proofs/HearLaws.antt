-- What a client is after what came in a turn.
use Rattle.std.proofs.Common.{◌≡◌, ℕ, ◌+◌, ◌≤◌, Bool, true, false, cond, not, ◌&&◌, ◌||◌, List, [], ◌∷◌, ◌++◌}
use Rattle.std.proofs.Common.{length, map, drop, Option, Some, None, refl, ap, sym, ◌∙◌, subst, arith, length-append}
use Rattle.std.specs.Prelude.{unwrap_or}
use Rattle.std.specs.Option.{option_or}
use Rattle.std.proofs.lemmas.Bool.Decides.{nat_tests}
use Rattle.std.proofs.lemmas.List.{drop_all, drop_at, length-map, map-append}
use Rattle.framing.specs.Frames.{IsOversized, frames_of, partial}
use Rattle.framing.proofs.FrameLaws.{frames_append, frames_of_nothing, partial_append, partial_of_nothing}
use Rattle.frame_link.specs.Held.{Held, pushed}
use Rattle.ports.specs.declared.links.Turn.{Turn}
use Rattle.riemann_msg.specs.Value.{message_of}
use Rattle.riemann_msg.specs.declared.msg.Msg.{Msg}
use Rattle.riemann_client.specs.Accepting.{AcceptsAll, EndsAs, HasNoneLeft}
use Rattle.riemann_client.specs.Client.{Represents}
use Rattle.ev_types.specs.Clock.{next_moment}
use Rattle.riemann_client.specs.Exchange.{Exchange, accepted_from, begun, fault_between, first_reply_fault, heard}
use Rattle.riemann_client.specs.Exchange.{heard_piece, is_link, is_on, is_over, is_oversized, lost, message_in}
use Rattle.riemann_client.specs.Exchange.{new_replies, passed, read_from, replies_come, reply_at, requests_sent}
use Rattle.riemann_client.specs.Exchange.{standing, unblocked}
use Rattle.riemann_client.specs.Requests.{HasAnswered, IsAsSent, Requested, sent_count, taken_of}
use Rattle.riemann_client.specs.Turning.{Hears, Occurs}
use Rattle.riemann_client.specs.declared.client.Client.{Client}
use Rattle.riemann_client.specs.declared.progress.Progress.{Progress}
use Rattle.riemann_client.proofs.AcceptLaws.{all_accepted, fault_is_no_more}

held_as : (held : Held) (bytes : List ℕ) → held.bytes ≡ bytes → held.stopped ≡ false
    → held ≡ record { bytes = bytes; stopped = false }
held_as held bytes one two =
    ap (λ (bs : List ℕ). record held { bytes = bs }) one ∙ ap (λ (t : Bool). record { bytes = bytes; stopped = t }) two

-- ---- a client of which nothing came

pub represents_begun : (client : Client) (start : ℕ) → client.clock ≡ start → client.link ≡ None
    → client.blocked ≡ false → client.gone ≡ false
    → client.requests.taken ≡ 0 → client.input.bytes ≡ [] → client.input.stopped ≡ false → client.replies ≡ []
    → HasAnswered client.requests 0
    → Represents client (begun start)
represents_begun client start clock link blocked gone taken bytes goes_on replies answered = record {
  now = clock;
  link = link;
  blocked = blocked;
  gone = gone;
  taken = ap (λ (n : ℕ). taken_of (record client.requests { taken = n })) taken;
  count = taken;
  input =
      held_as client.input [] bytes goes_on
      ∙ ap (λ (bs : List ℕ). record { bytes = bs; stopped = false }) (sym partial_of_nothing);
  replies = replies;
  accepted = ap length (sym frames_of_nothing);
  answered = answered;
}

-- ---- occurrences that bring no bytes

no_new_replies : (before after : Exchange) → after.came ≡ before.came → fault_between before after ≡ None
no_new_replies before after same =
    ap
    (λ (bytes : List ℕ). first_reply_fault (length (requests_sent before)) (length (replies_come before))
    (drop (length (replies_come before)) (frames_of bytes)))
    same
    ∙ ap (first_reply_fault (length (requests_sent before)) (length (replies_come before)))
    (drop_all (length (replies_come before)) (replies_come before)
    (let all : length (replies_come before) ≤ length (replies_come before) = omega arith in all))

pub occurs_silent : (client' : Client) (before after : Exchange) → after.came ≡ before.came → Represents client' after
    → Occurs client' before after None
occurs_silent client' before after same is = record {
  fault_is = sym (no_new_replies before after same);
  link = is.link;
  replies = is.replies;
  represents = λ none. is;
}

pub opens : (client : Client) (before : Exchange) (number : ℕ) → Represents client before
    → Represents (record client { link = option_or client.link (Some number) })
    (record before { link = option_or before.link (Some number) })
opens client before number is = record {
  now = is.now;
  link = ap (λ (link : Option ℕ). option_or link (Some number)) is.link;
  blocked = is.blocked;
  gone = is.gone;
  taken = is.taken;
  count = is.count;
  input = is.input;
  replies = is.replies;
  accepted = is.accepted;
  answered = is.answered;
}

pub loses : (client : Client) (before : Exchange) (number : ℕ) → Represents client before
    → Represents (record client { gone = is_link number client.link || client.gone }) (lost number before)
loses client before number is = record {
  now = is.now;
  link = is.link;
  blocked = is.blocked;
  gone =
      ap (λ (link : Option ℕ). is_link number link || client.gone) is.link
      ∙ ap (λ (gone : Bool). is_link number before.link || gone) is.gone;
  taken = is.taken;
  count = is.count;
  input = is.input;
  replies = is.replies;
  accepted = is.accepted;
  answered = is.answered;
}

pub unblocks : (client : Client) (before : Exchange) (number : ℕ) → Represents client before
    → Represents (record client { blocked = not (is_link number client.link) && client.blocked })
    (unblocked number before)
unblocks client before number is = record {
  now = is.now;
  link = is.link;
  blocked =
      ap (λ (link : Option ℕ). not (is_link number link) && client.blocked) is.link
      ∙ ap (λ (blocked : Bool). not (is_link number before.link) && blocked) is.blocked;
  gone = is.gone;
  taken = is.taken;
  count = is.count;
  input = is.input;
  replies = is.replies;
  accepted = is.accepted;
  answered = is.answered;
}

pub stops : (client : Client) (before : Exchange) → Represents client before
    → Represents (record client { gone = true }) (record before { gone = true })
stops client before is = record {
  now = is.now;
  link = is.link;
  blocked = is.blocked;
  gone = refl;
  taken = is.taken;
  count = is.count;
  input = is.input;
  replies = is.replies;
  accepted = is.accepted;
  answered = is.answered;
}

pub passes : (client : Client) (before : Exchange) (secs moment : ℕ) → moment ≡ next_moment client.clock secs
    → Represents client before
    → Represents (record client { clock = moment }) (passed secs before)
passes client before secs moment same is = record {
  now = same ∙ ap (λ (now : ℕ). next_moment now secs) is.now;
  link = is.link;
  blocked = is.blocked;
  gone = is.gone;
  taken = is.taken;
  count = is.count;
  input = is.input;
  replies = is.replies;
  accepted = is.accepted;
  answered = is.answered;
}

-- ---- a piece that came

-- of another link
pub reads_nothing : (client : Client) (before : Exchange) (number : ℕ) (piece : List ℕ)
    → is_link number client.link ≡ false → Represents client before
    → Occurs client before (read_from number piece before) None
reads_nothing client before number piece test is =
    let other : is_on number before ≡ false = ap (is_link number) (sym is.link) ∙ test in
    subst (λ (t : Bool). Occurs client before (cond t (heard_piece piece before) before) None) (sym other)
    (occurs_silent client before before refl is)

messages_at : (moment : ℕ) (bodies : List (List ℕ))
    → map message_in (map (reply_at moment) bodies) ≡ map (message_of moment) bodies
messages_at moment [] = refl
messages_at moment (body ∷ bodies) = ap (λ (ms : List Msg). message_of moment body ∷ ms) (messages_at moment bodies)

module _ (client client' : Client) (before : Exchange) (piece : List ℕ) (input : Held) (fault : Option Progress)
    (held : input ≡ record { bytes = partial before.came ++ piece; stopped = false }) (is : Represents client before)
  where
    news : new_replies before.came piece ≡ frames_of input.bytes
    news =
        ap (drop (length (replies_come before))) (frames_append before.came piece)
        ∙ drop_at (replies_come before) (frames_of (partial before.came ++ piece)) (length (replies_come before)) refl
        ∙ ap (λ (h : Held). frames_of h.bytes) (sym held)

    asked : sent_count client.requests ≡ length (requests_sent before)
    asked = ap (λ (bytes : List ℕ). length (frames_of bytes)) is.taken

    held_replies : length client.replies ≡ length before.replies
    held_replies = ap length is.replies ∙ length-map before.replies message_in

    number : length client.replies ≡ length (replies_come before)
    number = held_replies ∙ is.accepted

    pub answered_so : HasAnswered client.requests (length client.replies)
    answered_so = subst (HasAnswered client.requests) (sym held_replies) is.answered

    module _
        (all : AcceptsAll client.clock input client'.input client.requests client'.requests client.replies
        client'.replies
        fault)
      where
        fault_as : fault ≡ fault_between before (heard_piece piece before)
        fault_as =
            all.fault_is
            ∙ ap (λ (n : ℕ). first_reply_fault n (length client.replies) (frames_of input.bytes)) asked
            ∙ ap (λ (n : ℕ). first_reply_fault (length (requests_sent before)) n (frames_of input.bytes)) number
            ∙ ap (first_reply_fault (length (requests_sent before)) (length (replies_come before))) (sym news)

        accepted_as : accepted_from (sent_count client.requests) (length client.replies) (frames_of input.bytes)
            ≡ accepted_from (length (requests_sent before)) (length (replies_come before))
            (new_replies before.came piece)
        accepted_as =
            ap (λ (n : ℕ). accepted_from n (length client.replies) (frames_of input.bytes)) asked
            ∙ ap (λ (n : ℕ). accepted_from (length (requests_sent before)) n (frames_of input.bytes)) number
            ∙ ap (accepted_from (length (requests_sent before)) (length (replies_come before))) (sym news)

        replies_as : client'.replies ≡ map message_in (heard_piece piece before).replies
        replies_as =
            let bodies : List (List ℕ) =
            accepted_from (length (requests_sent before)) (length (replies_come before))
            (new_replies before.came piece) in
            all.replies_are
            ∙ ap
            (λ (ms : List Msg). ms
            ++ map (message_of client.clock)
            (accepted_from (sent_count client.requests) (length client.replies) (frames_of input.bytes)))
            is.replies
            ∙ ap
            (λ (n : ℕ). map message_in before.replies
            ++ map (message_of n)
            (accepted_from (sent_count client.requests) (length client.replies) (frames_of input.bytes)))
            is.now
            ∙ ap (λ (bs : List (List ℕ)). map message_in before.replies ++ map (message_of before.now) bs) accepted_as
            ∙ ap (λ (ms : List Msg). map message_in before.replies ++ ms) (sym (messages_at before.now bodies))
            ∙ sym (map-append message_in before.replies (map (reply_at before.now) bodies))

        count_after : fault ≡ None
            → length (heard_piece piece before).replies ≡ length (frames_of (before.came ++ piece))
        count_after none =
            let bodies : List (List ℕ) =
            accepted_from (length (requests_sent before)) (length (replies_come before))
            (new_replies before.came piece) in
            let every : bodies ≡ new_replies before.came piece =
            all_accepted (length (requests_sent before)) (length (replies_come before)) (new_replies before.came piece)
            (sym fault_as ∙ none) in
            length-append before.replies (map (reply_at before.now) bodies)
            ∙ ap (λ (n : ℕ). length before.replies + n) (length-map bodies (reply_at before.now))
            ∙ ap (λ (n : ℕ). n + length bodies) is.accepted
            ∙ ap (λ (bs : List (List ℕ)). length (replies_come before) + length bs)
            (every ∙ ap (drop (length (replies_come before))) (frames_append before.came piece)
            ∙ drop_at (replies_come before) (frames_of (partial before.came ++ piece)) (length (replies_come before))
            refl)
            ∙ sym (length-append (replies_come before) (frames_of (partial before.came ++ piece)))
            ∙ ap length (sym (frames_append before.came piece))

        represents_after : HasNoneLeft input client'.input client'.requests client'.replies → fault ≡ None
            → IsAsSent client.requests client'.requests → client'.clock ≡ client.clock
            → client'.link ≡ client.link → client'.blocked ≡ client.blocked → client'.gone ≡ client.gone
            → Represents client' (heard_piece piece before)
        represents_after ends none same clock link blocked gone = record {
          now = clock ∙ is.now;
          link = link ∙ is.link;
          blocked = blocked ∙ is.blocked;
          gone = gone ∙ is.gone;
          taken = taken_as client.requests client'.requests same ∙ is.taken;
          count = same.taken ∙ is.count;
          input = held_as client'.input (partial (before.came ++ piece))
              (sym ends.rest ∙ ap (λ (h : Held). partial h.bytes) held ∙ sym (partial_append before.came piece))
              (ends.goes_on (ap (λ (h : Held). h.stopped) held));
          replies = replies_as;
          accepted = count_after none;
          answered =
              subst (HasAnswered client'.requests)
              (ap length replies_as ∙ length-map (heard_piece piece before).replies message_in) ends.answered;
        }
          where
            taken_as : (old new : Requested) → IsAsSent old new → taken_of new ≡ taken_of old
            taken_as old new same = cc

        pub hears_piece : IsAsSent client.requests client'.requests → client'.clock ≡ client.clock
            → client'.link ≡ client.link → client'.blocked ≡ client.blocked → client'.gone ≡ client.gone
            → Occurs client' before (heard_piece piece before) fault
        hears_piece same clock link blocked gone = record {
          fault_is = fault_as;
          link = link ∙ is.link;
          replies = replies_as;
          represents =
              λ none.
              represents_after (subst (EndsAs input client'.input client'.requests client'.replies) none all.ends)
              none same clock link blocked gone;
        }

-- of the client's link
pub reads_piece : (client client' : Client) (before : Exchange) (number : ℕ) (piece : List ℕ) (input : Held)
    (fault : Option Progress)
    → is_link number client.link ≡ true
    → input ≡ pushed piece client.input
    → (HasAnswered client.requests (length client.replies)
    → AcceptsAll client.clock input client'.input client.requests client'.requests client.replies client'.replies fault)
    → IsAsSent client.requests client'.requests → client'.clock ≡ client.clock → client'.link ≡ client.link
    → client'.blocked ≡ client.blocked → client'.gone ≡ client.gone
    → Represents client before → Occurs client' before (read_from number piece before) fault
reads_piece client client' before number piece input fault test push accepts same clock link blocked gone is =
    let on : is_on number before ≡ true = ap (is_link number) (sym is.link) ∙ test in
    let held : input ≡ record { bytes = partial before.came ++ piece; stopped = false } =
    push ∙ ap (pushed piece) is.input in
    subst (λ (t : Bool). Occurs client' before (cond t (heard_piece piece before) before) fault) (sym on)
    (hears_piece client client' before piece input fault held is
    (accepts (answered_so client client' before piece input fault held is)) same clock link blocked gone)

-- ---- how the exchange stands

pub oversized_test : (bytes : List ℕ) → IsOversized bytes → is_oversized bytes ≡ true
unfolding is_oversized
oversized_test bytes large = let head = large.head in let over = large.over in grind (arith, nat_tests)

tells_oversized : (bytes : List ℕ) → is_oversized bytes ≡ true → IsOversized bytes
unfolding is_oversized
tells_oversized bytes test = record { head = grind (arith, nat_tests); over = grind (arith, nat_tests) }

pub not_oversized_test : (bytes : List ℕ) → (IsOversized bytes → ⊥) → is_oversized bytes ≡ false
not_oversized_test bytes small = by_test (is_oversized bytes) refl
  where
    by_test : (t : Bool) → is_oversized bytes ≡ t → is_oversized bytes ≡ false
    by_test true test = absurd (small (tells_oversized bytes test))
    by_test false test = test

pub over_as : (client : Client) (exchange : Exchange) → Represents client exchange
    → is_over exchange ≡ (client.gone || is_oversized client.input.bytes)
over_as client exchange is =
    ap (λ (gone : Bool). gone || is_oversized (partial exchange.came)) (sym is.gone)
    ∙ ap (λ (held : Held). client.gone || is_oversized held.bytes) (sym is.input)

-- ---- what a turn comes to

-- one is
pub hears_fault : (client' : Client) (stream : List ℕ) (before : Exchange) (turn : Turn) (piece : List ℕ)
    (fault : Progress)
    → Occurs client' (passed turn.secs before) (heard turn piece before) (Some fault)
    → Hears client' stream before (heard turn piece before) fault
hears_fault client' stream before turn piece fault occurs = record {
  is = ap (λ (f : Option Progress). unwrap_or f (standing stream (heard turn piece before))) occurs.fault_is;
  link = occurs.link;
  replies = occurs.replies;
  represents =
      λ more. absurd (fault_is_no_more (length (requests_sent before)) (length (replies_come before))
      (drop (length (replies_come before)) (replies_come (heard turn piece before)))
      (sym occurs.fault_is ∙ ap Some more));
}
