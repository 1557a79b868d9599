-- What sends to one link do to the state of a run.
use Rattle.std.proofs.Common.{◌≡◌, ℕ, zero, suc, ◌+◌, ◌-◌, ◌<◌, ◌≤◌, ◌==◌, Bool, true, false, cond, not, ◌&&◌, ◌||◌}
use Rattle.std.proofs.Common.{List, [], ◌∷◌, ◌++◌, length, take, drop, refl, ap, sym, ◌∙◌, subst, arith, length-append}
use Rattle.std.proofs.Common.{length-drop, length-take}
use Rattle.std.specs.Prelude.{Some, nat_lt}
use Rattle.std.proofs.lemmas.Bool.{eqb-true, eq-eqb, lt-ltb, ltb-true, and_parts}
use Rattle.std.proofs.lemmas.List.{drop-drop, length-take-le, take-take}
use Rattle.msg_replies.specs.event_core.Core.{CoreConfig}
use Rattle.ports.specs.declared.entry.Entry.{Entry}
use Rattle.ports.specs.declared.entry.Entry.TheVariants.{Listen, Next, Send, Close}
use Rattle.ports.specs.declared.links.SendAnswer.{SendAnswer}
use Rattle.ports.specs.declared.links.SendAnswer.TheVariants.{Took, Later, Failed, Memory}
use Rattle.ports.specs.Links.{send_entries, IsWithin}
use Rattle.msg_replies.specs.hub_meaning.Legal.{IsLegalFrom, IsSettledAs, MayCloseAs, MaySend}
use Rattle.msg_replies.specs.hub_meaning.Links.{Link, changed, find_link, has_number, is_open_stage}
use Rattle.msg_replies.specs.hub_meaning.Links.{is_read_closed_stage, sent, unsent, with_stage}
use Rattle.msg_replies.specs.hub_meaning.declared.stage.Stage.{Stage}
use Rattle.msg_replies.specs.hub_meaning.declared.stage.Stage.TheVariants.{Open, ReadClosed, Closing, Closed}
use Rattle.msg_replies.specs.hub_meaning.Runs.{RunState, Step, plain, state_from, with_links}
use Rattle.msg_replies.proofs.HubMeaningLinkLaws.{KeepsNumber}
use Rattle.msg_replies.proofs.HubMeaningRunLaws.{legal_append, state_append}
use Rattle.hub_link.specs.declared.link.HubLink.{HubLink}
use Rattle.hub_link.specs.HubLink.{RepresentsLink, number_of}
use Rattle.hub_link.specs.Sending.{AreSendsTo, IsOf, IsSent, Sends, after_sends, can_send, sendable}

-- ---- links by their numbers

found_after_change : (number : ℕ) (f : Link → Link) → KeepsNumber number f → (links : List Link) (link : Link)
    → find_link number links ≡ Some link
    → find_link number (changed number f links) ≡ Some (f link)
found_after_change number f keeps [] link found = absurd (cc found)
found_after_change number f keeps (first ∷ links) link found =
    at_first (has_number number first) refl (λ later. found_after_change number f keeps links link later) found
  where
    at_first : (t : Bool) → has_number number first ≡ t
        → (find_link number links ≡ Some link → find_link number (changed number f links) ≡ Some (f link))
        → cond t (Some first) (find_link number links) ≡ Some link
        → find_link number (cond t (f first) first ∷ changed number f links) ≡ Some (f link)
    at_first true test later same =
        let one : first ≡ link = cc in
        let kept : has_number number (f first) ≡ true =
        eq-eqb (f first).number number
        (keeps first (eqb-true first.number number test) ∙ eqb-true first.number number test) in
        subst (λ (t : Bool). cond t (Some (f first)) (find_link number (changed number f links)) ≡ Some (f link))
        (sym kept) (ap (λ (l : Link). Some (f l)) one)
    at_first false test later same =
        subst (λ (t : Bool). cond t (Some first) (find_link number (changed number f links)) ≡ Some (f link)) (sym test)
        (later same)

changed_twice : (number : ℕ) (f g : Link → Link) → KeepsNumber number f → (links : List Link)
    → changed number g (changed number f links) ≡ changed number (λ link. g (f link)) links
changed_twice number f g keeps [] = refl
changed_twice number f g keeps (first ∷ links) =
    ap (λ (l : Link). l ∷ changed number g (changed number f links)) (at_first (has_number number first) refl)
    ∙ ap (λ (ls : List Link). cond (has_number number first) (g (f first)) first ∷ ls)
    (changed_twice number f g keeps links)
  where
    at_first : (t : Bool) → has_number number first ≡ t
        → cond (has_number number (cond t (f first) first)) (g (cond t (f first) first)) (cond t (f first) first)
        ≡ cond t (g (f first)) first
    at_first true test =
        let kept : has_number number (f first) ≡ true =
        eq-eqb (f first).number number
        (keeps first (eqb-true first.number number test) ∙ eqb-true first.number number test) in
        ap (λ (t : Bool). cond t (g (f first)) (f first)) kept
    at_first false test = ap (λ (t : Bool). cond t (g first) first) test

changed_same : (number : ℕ) (f g : Link → Link) → ((link : Link) → f link ≡ g link) → (links : List Link)
    → changed number f links ≡ changed number g links
changed_same number f g same [] = refl
changed_same number f g same (first ∷ links) =
    ap (λ (l : Link). cond (has_number number first) l first ∷ changed number f links) (same first)
    ∙ ap (λ (ls : List Link). cond (has_number number first) (g first) first ∷ ls) (changed_same number f g same links)

changed_nothing : (number : ℕ) (links : List Link) → links ≡ changed number (λ link. link) links
changed_nothing number [] = refl
changed_nothing number (first ∷ links) =
    ap (λ (l : Link). l ∷ links) (at_first (has_number number first))
    ∙ ap (λ (ls : List Link). cond (has_number number first) first first ∷ ls) (changed_nothing number links)
  where
    at_first : (t : Bool) → first ≡ cond t first first
    at_first true = refl
    at_first false = refl

-- ---- sends, one after another

sent_number : (bytes : List ℕ) (answer : SendAnswer) (link : Link) → (sent bytes answer link).number ≡ link.number
sent_number bytes (Took count) link = refl
sent_number bytes Later link = refl
sent_number bytes Failed link = refl
sent_number bytes Memory link = refl

after_sends_number : (run : List Entry) (link : Link) → (after_sends run link).number ≡ link.number
after_sends_number [] link = refl
after_sends_number (Listen address answer ∷ run) link = after_sends_number run link
after_sends_number (Next wants turn piece ∷ run) link = after_sends_number run link
after_sends_number (Send number bytes answer ∷ run) link =
    after_sends_number run (sent bytes answer link) ∙ sent_number bytes answer link
after_sends_number (Close number ∷ run) link = after_sends_number run link

after_sends_append : (first second : List Entry) (link : Link)
    → after_sends second (after_sends first link) ≡ after_sends (first ++ second) link
after_sends_append [] second link = refl
after_sends_append (Listen address answer ∷ first) second link = after_sends_append first second link
after_sends_append (Next wants turn piece ∷ first) second link = after_sends_append first second link
after_sends_append (Send number bytes answer ∷ first) second link =
    after_sends_append first second (sent bytes answer link)
after_sends_append (Close number ∷ first) second link = after_sends_append first second link

plain_append : (first second : List Entry) → plain (first ++ second) ≡ plain first ++ plain second
plain_append [] second = refl
plain_append (entry ∷ first) second =
    ap (λ (steps : List Step). record { entry = entry; verdicts = [] } ∷ steps) (plain_append first second)

pub sends_nothing : (link link' : HubLink) → ((meant : Link) → RepresentsLink link meant → RepresentsLink link' meant)
    → Sends link link' []
sends_nothing link link' same = record {
  only = tt;
  legal = λ config state meant is. tt;
  leads =
      λ config state meant is.
      ap (λ (ls : List Link). with_links ls state) (changed_nothing (number_of link) state.links);
  represents = same;
}

-- the state after the first sends has the link too
is_of_after : (one two : HubLink) (first : List Entry) → Sends one two first → number_of two ≡ number_of one
    → (config : CoreConfig) (state : RunState) (meant : Link) → IsOf one state meant
    → IsOf two (with_links (changed (number_of one) (after_sends first) state.links) state) (after_sends first meant)
is_of_after one two first sends number config state meant is = record {
  found =
      subst
      (λ (n : ℕ).
      find_link n (changed (number_of one) (after_sends first) state.links) ≡ Some (after_sends first meant))
      (sym number)
      (found_after_change (number_of one) (after_sends first) (λ link _. after_sends_number first link) state.links
      meant is.found);
  represents = sends.represents meant is.represents;
}

sends_append : (number : ℕ) (first second : List Entry) → AreSendsTo number first → AreSendsTo number second
    → AreSendsTo number (first ++ second)
sends_append number [] second before after = after
sends_append number (Listen address answer ∷ first) second before after = absurd before
sends_append number (Next wants turn piece ∷ first) second before after = absurd before
sends_append number (Send other bytes answer ∷ first) second before after =
    (before.0, sends_append number first second before.1 after)
sends_append number (Close other ∷ first) second before after = absurd before

pub sends_then : (one two three : HubLink) (first second : List Entry) → number_of two ≡ number_of one
    → Sends one two first → Sends two three second → Sends one three (first ++ second)
sends_then one two three first second number before after = record {
  only =
      sends_append (number_of one) first second before.only (subst (λ (n : ℕ). AreSendsTo n second) number after.only);
  legal = λ config state meant is.
      subst (λ (steps : List Step). IsLegalFrom config steps state) (sym (plain_append first second))
      (legal_append config (plain first) (plain second) state (before.legal config state meant is)
      (subst (λ (s : RunState). IsLegalFrom config (plain second) s) (sym (before.leads config state meant is))
      (after.legal config (with_links (changed (number_of one) (after_sends first) state.links) state)
      (after_sends first meant) (is_of_after one two first before number config state meant is))));
  leads = λ config state meant is.
      ap (λ (steps : List Step). state_from config steps state) (plain_append first second)
      ∙ state_append config (plain first) (plain second) state
      ∙ ap (state_from config (plain second)) (before.leads config state meant is)
      ∙ after.leads config (with_links (changed (number_of one) (after_sends first) state.links) state)
      (after_sends first meant) (is_of_after one two first before number config state meant is)
      ∙ ap
      (λ (n : ℕ).
      with_links (changed n (after_sends second) (changed (number_of one) (after_sends first) state.links)) state)
      number
      ∙ ap (λ (ls : List Link). with_links ls state)
      (changed_twice (number_of one) (after_sends first) (after_sends second) (λ link _. after_sends_number first link)
      state.links
      ∙ changed_same (number_of one) (λ link. after_sends second (after_sends first link))
      (after_sends (first ++ second)) (after_sends_append first second) state.links);
  represents =
      λ meant is. subst (λ (m : Link). RepresentsLink three m) (after_sends_append first second meant)
      (after.represents (after_sends first meant) (before.represents meant is));
}

-- ---- one send

may_send : (link : HubLink) (bytes : List ℕ) (meant : Link) → can_send link ≡ true
    → bytes ≡ take (length bytes) link.unsent → 0 < length bytes → RepresentsLink link meant → MaySend bytes meant
may_send link bytes meant can next some is =
    let outer =
    and_parts (is_open_stage link.stage || is_read_closed_stage link.stage)
    (not link.blocked && nat_lt 0 (length link.unsent)) can in
    let inner = and_parts (not link.blocked) (nat_lt 0 (length link.unsent)) outer.1 in
    record {
      connected = ap (λ (s : Stage). is_open_stage s || is_read_closed_stage s) (sym is.stage) ∙ outer.0;
      free = sym is.blocked ∙ not_true link.blocked inner.0;
      some = some;
      next = next ∙ ap (take (length bytes)) is.unsent;
    }
  where
    not_true : (t : Bool) → not t ≡ true → t ≡ false
    not_true true is = absurd (cc is)
    not_true false is = refl

pub some_left : (link : HubLink) → can_send link ≡ true → 0 < length link.unsent
some_left link can =
    let outer =
    and_parts (is_open_stage link.stage || is_read_closed_stage link.stage)
    (not link.blocked && nat_lt 0 (length link.unsent)) can in
    ltb-true 0 (length link.unsent) (and_parts (not link.blocked) (nat_lt 0 (length link.unsent)) outer.1).1

-- a send of the first bytes takes what a send of all would take
sent_first : (bytes all : List ℕ) (answer : SendAnswer) (meant : Link) → bytes ≡ take (length bytes) all
    → IsWithin (length bytes) answer → sent all answer meant ≡ sent bytes answer meant
sent_first bytes all (Took count) meant next within =
    let same : take count bytes ≡ take count all = ap (take count) next ∙ take-take count (length bytes) all within in
    ap (λ (taken : List ℕ). record meant { taken = meant.taken ++ taken; blocked = count == 0 }) (sym same)
sent_first bytes all Later meant next within = refl
sent_first bytes all Failed meant next within = refl
sent_first bytes all Memory meant next within = refl

pub within_all : (bytes all : List ℕ) (answer : SendAnswer) → bytes ≡ take (length bytes) all
    → IsWithin (length bytes) answer → IsWithin (length all) answer
within_all bytes all (Took count) next within =
    let short : length bytes ≤ length all = omega (arith, ap length next, length-take (length bytes) all) in omega arith
within_all bytes all Later next within = tt
within_all bytes all Failed next within = tt
within_all bytes all Memory next within = tt

sends_once : (link link' : HubLink) (bytes : List ℕ) (answer : SendAnswer) → can_send link ≡ true
    → bytes ≡ take (length bytes) link.unsent → 0 < length bytes → IsWithin (length bytes) answer
    → ((meant : Link) → RepresentsLink link meant → RepresentsLink link' (sent link.unsent answer meant))
    → Sends link link' (Send (number_of link) bytes answer ∷ [])
sends_once link link' bytes answer can next some within follows = record {
  only = (refl, tt);
  legal =
      λ config state meant is. ((refl, (meant, is.found, may_send link bytes meant can next some is.represents)), tt);
  leads = λ config state meant is. refl;
  represents =
      λ meant is. subst (λ (m : Link). RepresentsLink link' m) (sent_first bytes link.unsent answer meant next within)
      (follows meant is);
}

-- a send that was answered, out of memory too
pub sends_answered : (link link' : HubLink) (bytes : List ℕ) (answer : SendAnswer) → can_send link ≡ true
    → bytes ≡ take (length bytes) link.unsent → 0 < length bytes → IsWithin (length bytes) answer
    → ((meant : Link) → RepresentsLink link meant → RepresentsLink link' (sent link.unsent answer meant))
    → Sends link link' (send_entries (number_of link) bytes answer)
sends_answered link link' bytes (Took count) can next some within follows =
    sends_once link link' bytes (Took count) can next some within follows
sends_answered link link' bytes Later can next some within follows =
    sends_once link link' bytes Later can next some within follows
sends_answered link link' bytes Failed can next some within follows =
    sends_once link link' bytes Failed can next some within follows
sends_answered link link' bytes Memory can next some within follows = sends_nothing link link' follows

-- ---- what a link notes of an answer

-- the first bytes were taken
pub notes_took : (link link' : HubLink) (count : ℕ) → count ≤ length link.unsent → link'.number ≡ link.number
    → link'.stage ≡ link.stage → link'.blocked ≡ (count == 0) → link'.input ≡ link.input
    → link'.unsent ≡ drop count link.unsent → (meant : Link) → RepresentsLink link meant
    → RepresentsLink link' (sent link.unsent (Took count) meant)
notes_took link link' count within number stage blocked input unsent_is meant is =
    let left : length link.unsent ≡ length meant.replies - length meant.taken =
    ap length is.unsent ∙ length-drop (length meant.taken) meant.replies in
    let all : length (take count link.unsent) ≡ count = length-take-le count link.unsent within in
    let long : length (meant.taken ++ take count link.unsent) ≡ length meant.taken + count =
    length-append meant.taken (take count link.unsent) ∙ ap (λ (n : ℕ). length meant.taken + n) all in
    let before = is.within in
    record {
      number = number ∙ is.number;
      stage = stage ∙ is.stage;
      blocked = blocked;
      input = λ opened. input ∙ is.input opened;
      unsent =
          unsent_is ∙ ap (drop count) is.unsent ∙ drop-drop count (length meant.taken) meant.replies
          ∙ ap (λ (n : ℕ). drop n meant.replies) (sym long);
      within = omega arith;
    }

-- nothing is taken now
pub notes_later : (link link' : HubLink) → link'.number ≡ link.number → link'.stage ≡ link.stage → link'.blocked ≡ true
    → link'.input ≡ link.input → link'.unsent ≡ link.unsent
    → (meant : Link) → RepresentsLink link meant → RepresentsLink link' (sent link.unsent Later meant)
notes_later link link' number stage blocked input unsent_is meant is = record {
  number = number ∙ is.number;
  stage = stage ∙ is.stage;
  blocked = blocked;
  input = λ opened. input ∙ is.input opened;
  unsent = unsent_is ∙ is.unsent;
  within = is.within;
}

-- the link is to be closed
pub closes : (link link' : HubLink) → link'.number ≡ link.number → link'.stage ≡ Closing → link'.blocked ≡ link.blocked
    → link'.unsent ≡ link.unsent
    → (meant : Link) → RepresentsLink link meant → RepresentsLink link' (with_stage Closing meant)
closes link link' number stage blocked unsent_is meant is = record {
  number = number ∙ is.number;
  stage = stage;
  blocked = blocked ∙ is.blocked;
  input = λ opened. absurd (cc opened);
  unsent = unsent_is ∙ is.unsent;
  within = is.within;
}

-- ---- nothing more can be sent

some_or_none : (bytes : List ℕ) → (bytes ≡ [] → ⊥) → 0 < length bytes
some_or_none [] other = absurd (other refl)
some_or_none (byte ∷ bytes) other = omega arith

blocked_where : (blocked : Bool) (count : ℕ) → 0 < count → (not blocked && nat_lt 0 count) ≡ false → blocked ≡ true
blocked_where true count some test = refl
blocked_where false count some test = let is : nat_lt 0 count ≡ true = lt-ltb 0 count some in absurd (cc (is, test))

settled_as : (meant : Link) (stage : Stage)
    → ((is_open_stage stage || is_read_closed_stage stage) && (not meant.blocked && nat_lt 0 (length (unsent meant))))
    ≡ false
    → (MayCloseAs meant stage → ⊥) → IsSettledAs meant stage
settled_as meant Open test stays = λ some. blocked_where meant.blocked (length (unsent meant)) some test
settled_as meant ReadClosed test stays =
    let some = some_or_none (unsent meant) stays in
    (some, blocked_where meant.blocked (length (unsent meant)) some test)
settled_as meant Closing test stays = absurd (stays tt)
settled_as meant Closed test stays = tt

pub all_sent : (link : HubLink) → can_send link ≡ false → IsSent link
all_sent link done meant is stays =
    settled_as meant meant.stage
    (ap
    (λ (s : Stage).
    (is_open_stage s || is_read_closed_stage s) && (not meant.blocked && nat_lt 0 (length (unsent meant))))
    (sym is.stage)
    ∙ ap
    (λ (t : Bool).
    (is_open_stage link.stage || is_read_closed_stage link.stage) && (not t && nat_lt 0 (length (unsent meant))))
    (sym is.blocked)
    ∙ ap
    (λ (bs : List ℕ).
    (is_open_stage link.stage || is_read_closed_stage link.stage) && (not link.blocked && nat_lt 0 (length bs)))
    (sym is.unsent)
    ∙ done) stays

-- ---- the measure of the loop that sends

pub sendable_blocked : (link : HubLink) → link.blocked ≡ true → sendable link ≡ 0
sendable_blocked link is =
    ap
    (λ (t : Bool). cond
    ((is_open_stage link.stage || is_read_closed_stage link.stage) && (not t && nat_lt 0 (length link.unsent)))
    (length link.unsent) 0)
    is
    ∙ none (is_open_stage link.stage || is_read_closed_stage link.stage)
  where
    none : (t : Bool) → cond (t && false) (length link.unsent) 0 ≡ 0
    none true = refl
    none false = refl

pub sendable_closing : (link : HubLink) → link.stage ≡ Closing → sendable link ≡ 0
sendable_closing link is =
    ap
    (λ (s : Stage). cond
    ((is_open_stage s || is_read_closed_stage s) && (not link.blocked && nat_lt 0 (length link.unsent)))
    (length link.unsent) 0)
    is

pub sendable_all : (link : HubLink) → can_send link ≡ true → sendable link ≡ length link.unsent
sendable_all link can = ap (λ (t : Bool). cond t (length link.unsent) 0) can

pub sendable_within : (link : HubLink) → sendable link ≤ length link.unsent
sendable_within link = by_case (can_send link)
  where
    by_case : (t : Bool) → cond t (length link.unsent) 0 ≤ length link.unsent
    by_case true = omega arith
    by_case false = omega arith

-- fewer bytes are sendable once some were taken, or none was
pub less_after_took : (link link' : HubLink) (count : ℕ) → can_send link ≡ true → count ≤ length link.unsent
    → link'.blocked ≡ (count == 0) → link'.unsent ≡ drop count link.unsent → sendable link' < sendable link
less_after_took link link' zero can within blocked left =
    let none : sendable link' ≡ 0 = sendable_blocked link' blocked in
    let all = sendable_all link can in
    let some = some_left link can in
    omega arith
less_after_took link link' (suc n) can within blocked left =
    let most = sendable_within link' in
    let all = sendable_all link can in
    let fewer : length link'.unsent ≡ length link.unsent - suc n = ap length left ∙ length-drop (suc n) link.unsent in
    omega arith

-- nothing is sendable of a link that takes nothing now, or is to be closed
pub less_blocked : (link link' : HubLink) → can_send link ≡ true → link'.blocked ≡ true → sendable link' < sendable link
less_blocked link link' can blocked =
    let none : sendable link' ≡ 0 = sendable_blocked link' blocked in
    let all = sendable_all link can in
    let some = some_left link can in
    omega arith

pub less_closing : (link link' : HubLink) → can_send link ≡ true → link'.stage ≡ Closing
    → sendable link' < sendable link
less_closing link link' can closing =
    let none : sendable link' ≡ 0 = sendable_closing link' closing in
    let all = sendable_all link can in
    let some = some_left link can in
    omega arith

-- what was answered, as the link has it
pub noted_as : (link link' : HubLink) (given answer : SendAnswer) → given ≡ answer
    → ((meant : Link) → RepresentsLink link meant → RepresentsLink link' (sent link.unsent answer meant))
    → (meant : Link) → RepresentsLink link meant → RepresentsLink link' (sent link.unsent given meant)
noted_as link link' given answer same follows meant is =
    subst (λ (a : SendAnswer). RepresentsLink link' (sent link.unsent a meant)) (sym same) (follows meant is)
