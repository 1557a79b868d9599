-- How a turn ends.
use Rattle.std.proofs.Common.{◌≡◌, ℕ, ◌<◌, inl, inr, Bool, true, false, cond, not, ◌&&◌, List, [], ◌∷◌, ◌++◌}
use Rattle.std.proofs.Common.{length, drop, Option, Some, None, refl, ap, sym, ◌∙◌, subst}
use Rattle.std.specs.Prelude.{nat_lt}
use Rattle.std.proofs.lemmas.Bool.{lt-ltb}
use Rattle.ports.specs.declared.entry.Entry.{Entry}
use Rattle.ports.specs.declared.links.Turn.{Turn}
use Rattle.ports.specs.declared.links.Want.{Want}
use Rattle.riemann_client.specs.Client.{Represents, stream_of}
use Rattle.riemann_client.specs.Exchange.{Exchange, heard, unsent, wants_on}
use Rattle.riemann_client.specs.Sending.{IsSettled, KeepsReplies, Sends, SendsFrom, after_sends, link_to_send}
use Rattle.riemann_client.specs.Turning.{Ends, GoesOn, GoesOnFrom, RunsOut, SettlesTo, TurnsFrom, TurnsTo}
use Rattle.riemann_client.specs.Turning.{closing}
use Rattle.riemann_client.specs.declared.client.Client.{Client}
use Rattle.riemann_client.specs.declared.progress.Progress.{Progress}
use Rattle.riemann_client.specs.declared.progress.Progress.TheVariants.{More, Whole, Unasked, Refused, Lost, Memory}

-- ---- all requests are sent that are taken

some_blocked : (gone blocked : Bool) (link : Option ℕ) (count number : ℕ)
    → cond (not gone && (not blocked && nat_lt 0 count)) link None ≡ None → gone ≡ false → link ≡ Some number
    → 0 < count → blocked ≡ true
some_blocked gone true link count number none works on some = refl
some_blocked true false link count number none works on some = absurd (cc works)
some_blocked false false link count number none works on some =
    let is : nat_lt 0 count ≡ true = lt-ltb 0 count some in
    let there : cond (nat_lt 0 count) link None ≡ link = ap (λ (t : Bool). cond t link None) is in
    absurd (cc (none, there, on))

settled_so : (client : Client) (exchange : Exchange) (stream : List ℕ) → stream_of client ≡ stream
    → link_to_send client ≡ None → client.gone ≡ false → Represents client exchange → IsSettled stream exchange
settled_so client exchange stream same none works is some number on =
    let left : drop client.requests.taken client.requests.stream ≡ unsent stream exchange =
    ap (λ (n : ℕ). drop n client.requests.stream) is.count ∙ ap (drop (length exchange.taken)) same in
    sym is.blocked
    ∙ some_blocked client.gone client.blocked client.link (length (drop client.requests.taken client.requests.stream))
    number none works (is.link ∙ on)
    (subst (λ (bytes : List ℕ). 0 < length bytes) (sym left) some)

-- a link that is noted for waiting changes nothing of the exchange
with_wants : (client : Client) (wants : List Want) (exchange : Exchange) → Represents client exchange
    → Represents (record client { wants = wants }) exchange
with_wants client wants exchange is = record {
  now = is.now;
  link = is.link;
  blocked = is.blocked;
  gone = is.gone;
  taken = is.taken;
  count = is.count;
  input = is.input;
  replies = is.replies;
  accepted = is.accepted;
  answered = is.answered;
}

all_nothing : (calls : List Entry) → calls ++ [] ≡ calls
all_nothing [] = refl
all_nothing (call ∷ calls) = ap (λ (cs : List Entry). call ∷ cs) (all_nothing calls)

module _ (client one client' : Client) (first second : List Entry) (keeps : KeepsReplies client one)
    (sends : Sends client one first) where
  -- the sends were made, and then the turn ended so
  pub turn_settles : (progress : Progress) → link_to_send one ≡ None → SettlesTo one client' progress second
      → GoesOnFrom client client' progress (first ++ second)
  turn_settles More none settles before after due is =
      let there : SendsFrom client one first after = sends after is in
      let calls : first ++ second ≡ first = ap (λ (cs : List Entry). first ++ cs) settles.none ∙ all_nothing first in
      let wants : List Want = wants_on (nat_lt 0 (length (drop one.requests.taken one.requests.stream))) one.link in
      let unsent_is : drop one.requests.taken one.requests.stream
      ≡ unsent (stream_of client) (after_sends first after) =
      ap (λ (n : ℕ). drop n one.requests.stream) there.represents.count
      ∙ ap (drop (length (after_sends first after).taken)) keeps.stream in
      subst (λ (cs : List Entry). GoesOn client' (stream_of client) before after cs) (sym calls) (record {
        due = due;
        may = there.may;
        represents =
            subst (λ (c : Client). Represents c (after_sends first after)) (sym settles.client_is)
            (with_wants one wants (after_sends first after) there.represents);
        works = sym there.represents.gone ∙ settles.works;
        settled =
            settled_so one (after_sends first after) (stream_of client) keeps.stream none settles.works
            there.represents;
        wants = ap (λ (c : Client). c.wants) settles.client_is
            ∙ ap (λ (bytes : List ℕ). wants_on (nat_lt 0 (length bytes)) one.link) unsent_is
            ∙ ap (wants_on (nat_lt 0 (length (unsent (stream_of client) (after_sends first after)))))
            there.represents.link;
      })
  turn_settles Whole none settles before after due is = absurd settles
  turn_settles (Unasked number) none settles before after due is = absurd settles
  turn_settles (Refused number place why) none settles before after due is = absurd settles
  turn_settles Lost none settles before after due is =
      let there : SendsFrom client one first after = sends after is in
      inr (record {
        due = due;
        sends = first;
        calls_are = ap (λ (cs : List Entry). first ++ cs) (settles.closed ∙ ap closing (keeps.link ∙ is.link));
        may = there.may;
        failed = sym there.represents.gone ∙ settles.failed;
        replies = ap (λ (c : Client). c.replies) settles.client_is ∙ keeps.replies ∙ is.replies;
      })
  turn_settles Memory none settles before after due is =
      let there : SendsFrom client one first after = sends after is in
      let calls : first ++ second ≡ first = ap (λ (cs : List Entry). first ++ cs) settles ∙ all_nothing first in
      subst (λ (cs : List Entry). RunsOut (stream_of client) before after cs) (sym calls)
      (record { may = there.may; none = λ other. absurd (other due) })

-- ---- whether it was the last turn is noted, which changes nothing else

with_ended : (client : Client) (ended : Bool) (exchange : Exchange) → Represents client exchange
    → Represents (record client { ended = ended }) exchange
with_ended client ended exchange is = record {
  now = is.now;
  link = is.link;
  blocked = is.blocked;
  gone = is.gone;
  taken = is.taken;
  count = is.count;
  input = is.input;
  replies = is.replies;
  accepted = is.accepted;
  answered = is.answered;
}

module _ (client' : Client) (ended : Bool) (stream : List ℕ) (before after : Exchange) where
  noted_end : (progress : Progress) (calls : List Entry) → Ends client' stream before after progress calls
      → Ends (record client' { ended = ended }) stream before after progress calls
  noted_end progress calls ends = record { is = ends.is; calls_are = ends.calls_are; replies = ends.replies }

  noted_as : (progress : Progress) (calls : List Entry) → TurnsTo client' stream before after progress calls
      → TurnsTo (record client' { ended = ended }) stream before after progress calls
  noted_as More calls on = record {
    due = on.due;
    may = on.may;
    represents = with_ended client' ended (after_sends calls after) on.represents;
    works = on.works;
    settled = on.settled;
    wants = on.wants;
  }
  noted_as Whole calls ends = noted_end Whole calls ends
  noted_as (Unasked number) calls ends = noted_end (Unasked number) calls ends
  noted_as (Refused number place why) calls ends = noted_end (Refused number place why) calls ends
  noted_as Lost calls (inl ends) = inl (noted_end Lost calls ends)
  noted_as Lost calls (inr fails) = inr (record {
    due = fails.due;
    sends = fails.sends;
    calls_are = fails.calls_are;
    may = fails.may;
    failed = fails.failed;
    replies = fails.replies;
  })
  noted_as Memory calls out = out

pub turn_noted : (client one : Client) (turn : Turn) (piece : List ℕ) (ended : Bool) (progress : Progress)
    (calls : List Entry)
    → TurnsFrom turn piece client one progress calls
    → TurnsFrom turn piece client (record one { ended = ended }) progress calls
turn_noted client one turn piece ended progress calls turns before is =
    noted_as one ended (stream_of client) before (heard turn piece before) progress calls (turns before is)
