-- What turns that went on say of the requests and the replies.
use Rattle.std.proofs.Common.{◌≡◌, ℕ, zero, suc, ◌+◌, ◌-◌, ◌<◌, ◌≤◌, ◌⊎◌, inl, inr, Bool, true, false, cond, List, []}
use Rattle.std.proofs.Common.{◌∷◌, ◌++◌, length, map, take, drop, Option, Some, None, refl, ap, sym, ◌∙◌, subst, arith}
use Rattle.std.proofs.Common.{append_assoc, append-nil, length-append, length-take}
use Rattle.std.specs.Prelude.{nat_lt, is_some, unwrap_or}
use Rattle.std.specs.Option.{option_map}
use Rattle.std.proofs.lemmas.Bool.{ltb-true}
use Rattle.std.proofs.lemmas.List.{drop_at, length-map, map-append, take-append-drop, take-take, take_at}
use Rattle.list_laws.specs.Prefix.{IsPrefix}
use Rattle.framing.specs.Frames.{frames_of, partial}
use Rattle.framing.proofs.FrameLaws.{frames_append, frames_of_nothing}
use Rattle.ports.specs.declared.entry.Entry.{Entry}
use Rattle.ports.specs.declared.entry.Entry.TheVariants.{Listen, Next, Send, Close}
use Rattle.ports.specs.declared.links.SendAnswer.TheVariants.{Took, Later, Failed, Memory}
use Rattle.ports.specs.declared.links.Turn.{Turn}
use Rattle.ports.specs.declared.links.What.{What}
use Rattle.ports.specs.declared.links.What.TheVariants as what
use Rattle.riemann_msg.specs.Fault.{Fault, first_fault}
use Rattle.riemann_client.specs.Exchange.{Exchange, Reply, accepted_from, begun, fault_between, heard, heard_piece}
use Rattle.riemann_client.specs.Exchange.{is_on, new_replies, occurred, passed, progress_of, refused, replies_come}
use Rattle.riemann_client.specs.Exchange.{reply_at, reply_fault, requests_sent, sent, standing, unsent}
use Rattle.riemann_client.specs.Run.{AreGoing, ClientTurn, IsGoing, IsPaired, LastIsSound, PairsReplies, SendsPrefix}
use Rattle.riemann_client.specs.Run.{TurnsAreSound, after_last, after_turn, body_of, exchange_after, exchange_from}
use Rattle.riemann_client.specs.Sending.{AreSends, MaySend, after_sends}
use Rattle.riemann_client.specs.declared.progress.Progress.{Progress}
use Rattle.riemann_client.specs.declared.progress.Progress.TheVariants.{More, Unasked}
use Rattle.riemann_client.proofs.AcceptLaws.{all_accepted, fault_is_no_more}

-- ---- what was taken

abbrev HasTaken : List ℕ → Exchange → Type 0
HasTaken stream exchange = stream ≡ exchange.taken ++ unsent stream exchange

taken_more : (stream bytes : List ℕ) (number count : ℕ) (exchange : Exchange) → MaySend stream number bytes exchange
    → HasTaken stream exchange
    → HasTaken stream (sent bytes (Took count) exchange)
taken_more stream bytes number count exchange may has =
    let front : List ℕ = exchange.taken ++ take count bytes in
    let rest : List ℕ = drop (length (take count bytes)) (unsent stream exchange) in
    let next : take count bytes ≡ take (length (take count bytes)) (unsent stream exchange) =
    first_of count bytes (unsent stream exchange) may.next in
    let split : stream ≡ front ++ rest =
    has
    ∙ ap (λ (bs : List ℕ). exchange.taken ++ bs)
    (sym (take-append-drop (length (take count bytes)) (unsent stream exchange))
    ∙ ap (λ (bs : List ℕ). bs ++ rest) (sym next))
    ∙ sym (append_assoc exchange.taken (take count bytes) rest) in
    split
    ∙ ap (λ (bs : List ℕ). front ++ bs)
    (sym (drop_at front rest (length front) refl) ∙ ap (drop (length front)) (sym split))
  where
    first_of : (count : ℕ) (bytes all : List ℕ) → bytes ≡ take (length bytes) all
        → take count bytes ≡ take (length (take count bytes)) all
    first_of count bytes all is =
        let short : length (take count bytes) ≤ length bytes = omega (arith, length-take count bytes) in
        sym (ap (take (length (take count bytes))) (sym (take-append-drop count bytes))
        ∙ take_at (take count bytes) (drop count bytes) (length (take count bytes)) refl)
        ∙ ap (take (length (take count bytes))) is ∙ take-take (length (take count bytes)) (length bytes) all short

-- a send takes bytes, and brings none
pub record SameReplies (old new : Exchange) : Type 0 where
  pub came : new.came ≡ old.came
  pub replies : new.replies ≡ old.replies

sends_take : (stream : List ℕ) (calls : List Entry) (exchange : Exchange) → AreSends stream calls exchange
    → HasTaken stream exchange → HasTaken stream (after_sends calls exchange)
sends_take stream [] exchange may has = has
sends_take stream (Listen address answer ∷ calls) exchange may has = absurd may
sends_take stream (Next wants turn piece ∷ calls) exchange may has = absurd may
sends_take stream (Send number bytes (Took count) ∷ calls) exchange may has =
    sends_take stream calls (sent bytes (Took count) exchange) may.1
    (taken_more stream bytes number count exchange may.0 has)
sends_take stream (Send number bytes Later ∷ calls) exchange may has =
    sends_take stream calls (sent bytes Later exchange) may.1 has
sends_take stream (Send number bytes Failed ∷ calls) exchange may has =
    sends_take stream calls (sent bytes Failed exchange) may.1 has
sends_take stream (Send number bytes Memory ∷ calls) exchange may has =
    sends_take stream calls (sent bytes Memory exchange) may.1 has
sends_take stream (Close number ∷ calls) exchange may has = absurd may

pub sends_bring : (calls : List Entry) (exchange : Exchange) → SameReplies exchange (after_sends calls exchange)
sends_bring [] exchange = record { came = refl; replies = refl }
sends_bring (Listen address answer ∷ calls) exchange = sends_bring calls exchange
sends_bring (Next wants turn piece ∷ calls) exchange = sends_bring calls exchange
sends_bring (Send number bytes (Took count) ∷ calls) exchange =
    let later = sends_bring calls (sent bytes (Took count) exchange) in
    record { came = later.came; replies = later.replies }
sends_bring (Send number bytes Later ∷ calls) exchange =
    let later = sends_bring calls (sent bytes Later exchange) in record { came = later.came; replies = later.replies }
sends_bring (Send number bytes Failed ∷ calls) exchange =
    let later = sends_bring calls (sent bytes Failed exchange) in record { came = later.came; replies = later.replies }
sends_bring (Send number bytes Memory ∷ calls) exchange =
    let later = sends_bring calls (sent bytes Memory exchange) in record { came = later.came; replies = later.replies }
sends_bring (Close number ∷ calls) exchange = sends_bring calls exchange

-- what came takes nothing
occurs_takes : (what : What) (piece : List ℕ) (exchange : Exchange)
    → (occurred what piece exchange).taken ≡ exchange.taken
occurs_takes what.Idle piece exchange = refl
occurs_takes (what.Opened number) piece exchange = refl
occurs_takes (what.Read number count) piece exchange = by_test (is_on number exchange)
  where
    by_test : (t : Bool) → (cond t (heard_piece piece exchange) exchange).taken ≡ exchange.taken
    by_test true = refl
    by_test false = refl
occurs_takes (what.Ended number) piece exchange = refl
occurs_takes (what.Broken number) piece exchange = refl
occurs_takes (what.Room number) piece exchange = refl
occurs_takes what.Stopped piece exchange = refl
occurs_takes what.Failed piece exchange = refl
occurs_takes what.Memory piece exchange = refl

turn_takes : (stream : List ℕ) (exchange : Exchange) (taken : ClientTurn) → IsGoing stream exchange taken
    → HasTaken stream exchange → HasTaken stream (after_turn exchange taken)
turn_takes stream exchange taken going has =
    sends_take stream taken.calls (heard taken.turn taken.piece exchange) going.may
    (subst (λ (bytes : List ℕ). stream ≡ bytes ++ drop (length bytes) stream)
    (sym (occurs_takes taken.turn.what taken.piece (passed taken.turn.secs exchange))) has)

turns_take : (stream : List ℕ) (exchange : Exchange) (turns : List ClientTurn) → AreGoing stream exchange turns
    → HasTaken stream exchange → HasTaken stream (exchange_from exchange turns)
turns_take stream exchange [] going has = has
turns_take stream exchange (taken ∷ turns) going has =
    turns_take stream (after_turn exchange taken) turns going.1 (turn_takes stream exchange taken going.0 has)

sends_prefix : (stream : List ℕ) (exchange : Exchange) → HasTaken stream exchange → SendsPrefix stream exchange
sends_prefix stream exchange has = record {
  bytes = (unsent stream exchange, has);
  requests = (
    frames_of (partial exchange.taken ++ unsent stream exchange),
    ap frames_of has ∙ frames_append exchange.taken (unsent stream exchange),
  );
}

last_takes : (stream : List ℕ) (start : ℕ) (turns : List ClientTurn) (last : ClientTurn) (sends : List Entry)
    → AreGoing stream (begun start) turns
    → AreSends stream sends (heard last.turn last.piece (exchange_after start turns))
    → HasTaken stream (after_last start turns last sends)
last_takes stream start turns last sends going may =
    sends_take stream sends (heard last.turn last.piece (exchange_after start turns)) may
    (subst (λ (bytes : List ℕ). stream ≡ bytes ++ drop (length bytes) stream)
    (sym (occurs_takes last.turn.what last.piece (passed last.turn.secs (exchange_after start turns))))
    (turns_take stream (begun start) turns going refl))

-- ---- replies

-- only a request that was sent whole has a reply that is accepted
accepted_asked : (asked number : ℕ) (bodies : List (List ℕ)) (i : ℕ) → i < length (accepted_from asked number bodies)
    → number + i < asked
accepted_asked asked number [] i less = absurd (omega arith)
accepted_asked asked number (body ∷ bodies) i less =
    by_test (accepted_asked asked (number + 1) bodies) (nat_lt number asked) (first_fault body) refl less
  where
    at_place : ((j : ℕ) → j < length (accepted_from asked (number + 1) bodies) → number + 1 + j < asked) → (i : ℕ)
        → i < length (body ∷ accepted_from asked (number + 1) bodies) → number < asked → number + i < asked
    at_place later zero less here = omega arith
    at_place later (suc j) less here = let there = later j (omega arith) in omega arith

    by_test : ((j : ℕ) → j < length (accepted_from asked (number + 1) bodies) → number + 1 + j < asked)
        → (t : Bool) (fault : Option Fault) → nat_lt number asked ≡ t
        → i
        < length (cond (is_some (cond t (option_map (refused number) fault) (Some (Unasked number)))) []
        (body ∷ accepted_from asked (number + 1) bodies))
        → number + i < asked
    by_test later true None test less = at_place later i less (ltb-true number asked test)
    by_test later true (Some fault) test less = absurd (omega arith)
    by_test later false None test less = absurd (omega arith)
    by_test later false (Some fault) test less = absurd (omega arith)

accepted_first : (asked number : ℕ) (bodies : List (List ℕ)) → IsPrefix (accepted_from asked number bodies) bodies
accepted_first asked number [] = ([], refl)
accepted_first asked number (body ∷ bodies) =
    by_fault (accepted_first asked (number + 1) bodies) (reply_fault asked number body)
  where
    by_fault : IsPrefix (accepted_from asked (number + 1) bodies) bodies → (fault : Option Progress)
        → IsPrefix (cond (is_some fault) [] (body ∷ accepted_from asked (number + 1) bodies)) (body ∷ bodies)
    by_fault later None = (later.0, ap (λ (bs : List (List ℕ)). body ∷ bs) later.1)
    by_fault later (Some fault) = (body ∷ bodies, refl)

-- an exchange in which each reply that came was accepted
abbrev AllAccepted : Exchange → Type 0
AllAccepted exchange = map body_of exchange.replies ≡ replies_come exchange

-- what one turn adds to the replies, after others that were all accepted
pub record AddsReplies (before after : Exchange) : Type 0 where
  pub first : IsPrefix (map body_of after.replies) (replies_come after)
  pub paired : (number : ℕ) → number < length after.replies → (number < length before.replies)
      ⊎ ((number < length (requests_sent before)) × (length (replies_come before) ≤ number)
      × (number < length (replies_come after)))
  pub all : fault_between before after ≡ None → AllAccepted after

bodies_at : (moment : ℕ) (bodies : List (List ℕ)) → map body_of (map (reply_at moment) bodies) ≡ bodies
bodies_at moment [] = refl
bodies_at moment (body ∷ bodies) = ap (λ (bs : List (List ℕ)). body ∷ bs) (bodies_at moment bodies)

adds_nothing : (before after : Exchange) → after.came ≡ before.came → after.replies ≡ before.replies
    → AllAccepted before → AddsReplies before after
adds_nothing before after came replies all = record {
  first = ([], sym (append-nil (map body_of after.replies) ∙ ap (map body_of) replies ∙ all ∙ ap frames_of (sym came)));
  paired = λ number less. inl (subst (λ (rs : List Reply). number < length rs) replies less);
  all = λ none. ap (map body_of) replies ∙ all ∙ ap frames_of (sym came);
}

module _ (before : Exchange) (piece : List ℕ) (all : AllAccepted before) where
  adds_piece : AddsReplies before (heard_piece piece before)
  adds_piece =
      let asked : ℕ = length (requests_sent before) in
      let number : ℕ = length (replies_come before) in
      let news : List (List ℕ) = new_replies before.came piece in
      let good : List (List ℕ) = accepted_from asked number news in
      let later : List (List ℕ) = frames_of (partial before.came ++ piece) in
      let come : frames_of (before.came ++ piece) ≡ replies_come before ++ news =
      frames_append before.came piece ∙ ap (λ (bs : List (List ℕ)). replies_come before ++ bs)
      (sym (ap (drop number) (frames_append before.came piece) ∙ drop_at (replies_come before) later number refl)) in
      let bodies : map body_of (before.replies ++ map (reply_at before.now) good) ≡ replies_come before ++ good =
      map-append body_of before.replies (map (reply_at before.now) good)
      ∙ ap (λ (bs : List (List ℕ)). map body_of before.replies ++ bs) (bodies_at before.now good)
      ∙ ap (λ (bs : List (List ℕ)). bs ++ good) all in
      let rest = accepted_first asked number news in
      let held : length before.replies ≡ number = sym (length-map before.replies body_of) ∙ ap length all in
      let count : length (before.replies ++ map (reply_at before.now) good) ≡ number + length good =
      length-append before.replies (map (reply_at before.now) good)
      ∙ ap (λ (n : ℕ). length before.replies + n) (length-map good (reply_at before.now))
      ∙ ap (λ (n : ℕ). n + length good) held in
      let few : length news ≡ length good + length rest.0 = ap length rest.1 ∙ length-append good rest.0 in
      let total : length (frames_of (before.came ++ piece)) ≡ number + length news =
      ap length come ∙ length-append (replies_come before) news in
      record {
        first = (
          rest.0,
          come ∙ ap (λ (bs : List (List ℕ)). replies_come before ++ bs) rest.1
              ∙ sym (append_assoc (replies_come before) good rest.0)
              ∙ ap (λ (bs : List (List ℕ)). bs ++ rest.0) (sym bodies),
        );
        paired =
            λ j less. place j less number good asked count held total rest.0 few (accepted_asked asked number news);
        all =
            λ none. bodies
            ∙ ap (λ (bs : List (List ℕ)). replies_come before ++ bs) (all_accepted asked number news none) ∙ sym come;
      }
    where
      place : (j : ℕ) → j < length (heard_piece piece before).replies → (number : ℕ) (good : List (List ℕ)) (asked : ℕ)
          → length (heard_piece piece before).replies ≡ number + length good
          → length before.replies ≡ number
          → length (frames_of (before.came ++ piece)) ≡ number + length (new_replies before.came piece)
          → (rest : List (List ℕ)) → length (new_replies before.came piece) ≡ length good + length rest
          → ((i : ℕ) → i < length good → number + i < asked)
          → (j < length before.replies) ⊎ ((j < asked) × (number ≤ j) × (j < length (frames_of (before.came ++ piece))))
      place j less number good asked count held total rest few asked_at =
          let side : (j < number) ⊎ (number ≤ j) = grind arith in
          elim side [
            | inl below ↦ inl (omega arith)
            | inr above ↦ (let there = asked_at (j - number) (omega arith) in inr (omega arith, above, omega arith))
          ]

turn_adds : (what : What) (piece : List ℕ) (before : Exchange) → AllAccepted before
    → AddsReplies before (occurred what piece before)
turn_adds what.Idle piece before all = adds_nothing before before refl refl all
turn_adds (what.Opened number) piece before all =
    adds_nothing before (occurred (what.Opened number) piece before) refl refl all
turn_adds (what.Read number count) piece before all = by_test (is_on number before)
  where
    by_test : (t : Bool) → AddsReplies before (cond t (heard_piece piece before) before)
    by_test true = adds_piece before piece all
    by_test false = adds_nothing before before refl refl all
turn_adds (what.Ended number) piece before all =
    adds_nothing before (occurred (what.Ended number) piece before) refl refl all
turn_adds (what.Broken number) piece before all =
    adds_nothing before (occurred (what.Broken number) piece before) refl refl all
turn_adds (what.Room number) piece before all =
    adds_nothing before (occurred (what.Room number) piece before) refl refl all
turn_adds what.Stopped piece before all = adds_nothing before (occurred what.Stopped piece before) refl refl all
turn_adds what.Failed piece before all = adds_nothing before before refl refl all
turn_adds what.Memory piece before all = adds_nothing before before refl refl all

heard_adds : (turn : Turn) (piece : List ℕ) (before : Exchange) → AllAccepted before
    → AddsReplies before (heard turn piece before)
heard_adds turn piece before all =
    let there = turn_adds turn.what piece (passed turn.secs before) all in
    record { first = there.first; paired = there.paired; all = there.all }

-- a turn after which the exchange goes on has no fault
no_fault : (stream : List ℕ) (before after : Exchange) → progress_of stream before after ≡ More
    → fault_between before after ≡ None
no_fault stream before after more = by_fault (fault_between before after) refl more
  where
    by_fault : (fault : Option Progress) → fault_between before after ≡ fault
        → unwrap_or fault (standing stream after) ≡ More → fault_between before after ≡ None
    by_fault None is more = is
    by_fault (Some fault) is more =
        absurd (fault_is_no_more (length (requests_sent before)) (length (replies_come before))
        (drop (length (replies_come before)) (replies_come after)) (is ∙ ap Some more))

going_accepted : (stream : List ℕ) (before : Exchange) (taken : ClientTurn) → IsGoing stream before taken
    → AllAccepted before → AllAccepted (after_turn before taken)
going_accepted stream before taken going all =
    let there = heard_adds taken.turn taken.piece before all in
    let same = sends_bring taken.calls (heard taken.turn taken.piece before) in
    ap (map body_of) same.replies ∙ there.all (no_fault stream before (heard taken.turn taken.piece before) going.going)
    ∙ ap frames_of (sym same.came)

-- the reply became whole in one of these turns, after those that led to an exchange
pub record PairedFrom (exchange : Exchange) (turns : List ClientTurn) (number : ℕ) : Type 0 where
  pub before : List ClientTurn
  pub taken : ClientTurn
  pub after : List ClientTurn
  pub are : turns ≡ before ++ taken ∷ after
  pub asked : number < length (requests_sent (exchange_from exchange before))
  pub not_before : length (replies_come (exchange_from exchange before)) ≤ number
  pub whole : number < length (replies_come (heard taken.turn taken.piece (exchange_from exchange before)))

pairs_from : (stream : List ℕ) (exchange : Exchange) (turns : List ClientTurn) (last : ClientTurn)
    → AreGoing stream exchange turns → AllAccepted exchange
    → (number : ℕ) → number < length (heard last.turn last.piece (exchange_from exchange turns)).replies
    → (number < length exchange.replies) ⊎ PairedFrom exchange (turns ++ last ∷ []) number
pairs_from stream exchange [] last going all number less =
    let there = (heard_adds last.turn last.piece exchange all).paired number less in
    elim there [
      | inl old ↦ inl old
      | inr new ↦
          inr (record {
            before = [];
            taken = last;
            after = [];
            are = refl;
            asked = new.0;
            not_before = new.1;
            whole = new.2;
          })
    ]
pairs_from stream exchange (taken ∷ turns) last going all number less =
    let later =
    pairs_from stream (after_turn exchange taken) turns last going.1 (going_accepted stream exchange taken going.0 all)
    number less in
    let same = sends_bring taken.calls (heard taken.turn taken.piece exchange) in
    elim later [
      | inl old ↦
          (let here =
          (heard_adds taken.turn taken.piece exchange all).paired number
          (subst (λ (rs : List Reply). number < length rs) same.replies old) in
          elim here [
            | inl older ↦ inl older
            | inr new ↦
                inr (record {
                  before = [];
                  taken = taken;
                  after = turns ++ last ∷ [];
                  are = refl;
                  asked = new.0;
                  not_before = new.1;
                  whole = new.2;
                })
          ])
      | inr paired ↦ inr (record {
        before = taken ∷ paired.before;
        taken = paired.taken;
        after = paired.after;
        are = ap (λ (ts : List ClientTurn). taken ∷ ts) paired.are;
        asked = paired.asked;
        not_before = paired.not_before;
        whole = paired.whole;
      })
    ]

pairs_within : (stream : List ℕ) (exchange : Exchange) (turns : List ClientTurn) → AreGoing stream exchange turns
    → AllAccepted exchange
    → (number : ℕ) → number < length (exchange_from exchange turns).replies
    → (number < length exchange.replies) ⊎ PairedFrom exchange turns number
pairs_within stream exchange [] going all number less = inl less
pairs_within stream exchange (taken ∷ turns) going all number less =
    let later =
    pairs_within stream (after_turn exchange taken) turns going.1 (going_accepted stream exchange taken going.0 all)
    number less in
    let same = sends_bring taken.calls (heard taken.turn taken.piece exchange) in
    elim later [
      | inl old ↦
          (let here =
          (heard_adds taken.turn taken.piece exchange all).paired number
          (subst (λ (rs : List Reply). number < length rs) same.replies old) in
          elim here [
            | inl older ↦ inl older
            | inr new ↦
                inr (record {
                  before = [];
                  taken = taken;
                  after = turns;
                  are = refl;
                  asked = new.0;
                  not_before = new.1;
                  whole = new.2;
                })
          ])
      | inr paired ↦ inr (record {
        before = taken ∷ paired.before;
        taken = paired.taken;
        after = paired.after;
        are = ap (λ (ts : List ClientTurn). taken ∷ ts) paired.are;
        asked = paired.asked;
        not_before = paired.not_before;
        whole = paired.whole;
      })
    ]

all_from : (stream : List ℕ) (exchange : Exchange) (turns : List ClientTurn) → AreGoing stream exchange turns
    → AllAccepted exchange → AllAccepted (exchange_from exchange turns)
all_from stream exchange [] going all = all
all_from stream exchange (taken ∷ turns) going all =
    all_from stream (after_turn exchange taken) turns going.1 (going_accepted stream exchange taken going.0 all)

last_pairs : (stream : List ℕ) (start : ℕ) (turns : List ClientTurn) (last : ClientTurn)
    → AreGoing stream (begun start) turns
    → PairsReplies start (turns ++ last ∷ []) (heard last.turn last.piece (exchange_after start turns))
last_pairs stream start turns last going =
    let none : AllAccepted (begun start) = sym frames_of_nothing in
    let all : AllAccepted (exchange_after start turns) = all_from stream (begun start) turns going none in
    record {
      first = (heard_adds last.turn last.piece (exchange_after start turns) all).first;
      paired = λ number less. elim (pairs_from stream (begun start) turns last going none number less) [
        | inl old ↦ absurd (omega arith)
        | inr paired ↦ record {
          before = paired.before;
          taken = paired.taken;
          after = paired.after;
          are = paired.are;
          asked = paired.asked;
          not_before = paired.not_before;
          whole = paired.whole;
        }
      ];
    }

-- sends bring no reply
pairs_same : (start : ℕ) (turns : List ClientTurn) (old new : Exchange) → SameReplies old new
    → PairsReplies start turns old → PairsReplies start turns new
pairs_same start turns old new same pairs = record {
  first = (
    pairs.first.0,
    ap frames_of same.came ∙ pairs.first.1
        ∙ ap (λ (rs : List Reply). map body_of rs ++ pairs.first.0) (sym same.replies),
  );
  paired = λ number less. pairs.paired number (subst (λ (rs : List Reply). number < length rs) same.replies less);
}

-- the same at the end of a turn
pairs_of_turns : (stream : List ℕ) (start : ℕ) (turns : List ClientTurn) → AreGoing stream (begun start) turns
    → PairsReplies start turns (exchange_after start turns)
pairs_of_turns stream start turns going =
    let none : AllAccepted (begun start) = sym frames_of_nothing in
    let all : AllAccepted (exchange_after start turns) = all_from stream (begun start) turns going none in
    record {
      first = ([], sym (append-nil (map body_of (exchange_after start turns).replies) ∙ all));
      paired = λ number less. paired_so number less;
    }
  where
    paired_so : (number : ℕ) → number < length (exchange_after start turns).replies → IsPaired start turns number
    paired_so number less = elim (pairs_within stream (begun start) turns going (sym frames_of_nothing) number less) [
      | inl old ↦ absurd (omega arith)
      | inr paired ↦ record {
        before = paired.before;
        taken = paired.taken;
        after = paired.after;
        are = paired.are;
        asked = paired.asked;
        not_before = paired.not_before;
        whole = paired.whole;
      }
    ]

-- ---- both

pub turns_lem : TurnsAreSound
turns_lem stream start turns going = record {
  sent = sends_prefix stream (exchange_after start turns) (turns_take stream (begun start) turns going refl);
  paired = pairs_of_turns stream start turns going;
}

pub last_lem : LastIsSound
last_lem stream start turns last sends going may = record {
  sent = sends_prefix stream (after_last start turns last sends) (last_takes stream start turns last sends going may);
  paired =
      pairs_same start (turns ++ last ∷ []) (heard last.turn last.piece (exchange_after start turns))
      (after_last start turns last sends)
      (sends_bring sends (heard last.turn last.piece (exchange_after start turns)))
      (last_pairs stream start turns last going);
}
