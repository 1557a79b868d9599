-- How the calls of a script go on, one after another.
use Rattle.std.proofs.Common.{◌≡◌, ℕ, ◌≤◌, ◌==◌, Bool, true, false, cond, List, [], ◌∷◌, ◌++◌, length, drop, fold}
use Rattle.std.proofs.Common.{filter, Some, refl, sym, ◌∙◌, ap, append-nil, subst, lit<, arith}
use Rattle.std.proofs.lemmas.List.Sums.{fold-append}
use Rattle.std.proofs.lemmas.List.Elements.{filter-append}
use Rattle.std.proofs.lemmas.List.Concat.{flat_map-append}
use Rattle.ports.specs.Playing.{AreAnswered, IsAnswered, IsScriptedRun, Playing, SendRules, begun, bytes_taken}
use Rattle.ports.specs.Playing.{first_turn, is_turn_answer, Plays, played, playing, rule_after, rules_at_turn}
use Rattle.ports.specs.Playing.{send_answer, succeeded, taken_by, taken_by_send, with_rule}
use Rattle.ports.specs.ScriptLinks.{IsPlaying}
use Rattle.ports.specs.declared.entry.Entry.{Entry}
use Rattle.ports.specs.declared.entry.Entry.TheVariants.{Listen, Next, Send, Close}
use Rattle.ports.specs.declared.links.ListenAnswer as listen_answer
use Rattle.ports.specs.declared.links.ListenAnswer.TheVariants as listen
use Rattle.ports.specs.declared.links.SendAnswer.{SendAnswer}
use Rattle.ports.specs.declared.links.Turn.{Turn}
use Rattle.ports.specs.declared.links.Want.{Want}
use Rattle.ports.specs.declared.links.What.{What}
use Rattle.ports.specs.declared.links.What.TheVariants as what
use Rattle.ports.specs.Links.{HasListenCause, HasNextCause, entries_of_turn, piece_of}
use Rattle.ports.specs.declared.script.Script.{Script}

answered_more : (state : Playing) (entries : List Entry) (entry : Entry) → AreAnswered state entries
    → IsAnswered (fold played state entries) entry → AreAnswered state (entries ++ entry ∷ [])
answered_more state [] entry all one = (one, tt)
answered_more state (first ∷ entries) entry all one =
    (all.0, answered_more (played state first) entries entry all.1 one)

filter_one : (entry : Entry) → succeeded entry ≡ true → filter succeeded (entry ∷ []) ≡ entry ∷ []
filter_one entry h = ap (λ b. cond b (entry ∷ []) []) h

filter_none : (entry : Entry) → succeeded entry ≡ false → filter succeeded (entry ∷ []) ≡ []
filter_none entry h = ap (λ b. cond b (entry ∷ []) []) h

kept_more : (entries : List Entry) (entry : Entry) → succeeded entry ≡ true
    → filter succeeded (entries ++ entry ∷ []) ≡ filter succeeded entries ++ entry ∷ []
kept_more entries entry h =
    filter-append succeeded entries (entry ∷ []) ∙ ap (λ xs. filter succeeded entries ++ xs) (filter_one entry h)

kept_same : (entries : List Entry) (entry : Entry) → succeeded entry ≡ false
    → filter succeeded (entries ++ entry ∷ []) ≡ filter succeeded entries
kept_same entries entry h =
    filter-append succeeded entries (entry ∷ [])
    ∙ (ap (λ xs. filter succeeded entries ++ xs) (filter_none entry h) ∙ append-nil (filter succeeded entries))

-- a call that is answered as the script says
pub run_more : (script : Script) (log : List Entry) (entry : Entry) → succeeded entry ≡ true → IsScriptedRun script log
    → IsAnswered (playing script log) entry → IsScriptedRun script (log ++ entry ∷ [])
run_more script log entry h run one =
    rw (kept_more log entry h) (answered_more (begun script) (filter succeeded log) entry run one)

pub playing_more : (script : Script) (log : List Entry) (entry : Entry) → succeeded entry ≡ true
    → playing script (log ++ entry ∷ []) ≡ played (playing script log) entry
playing_more script log entry h =
    ap (fold played (begun script)) (kept_more log entry h)
    ∙ fold-append played (begun script) (filter succeeded log) (entry ∷ [])

-- a call that failed
pub run_same : (script : Script) (log : List Entry) (entry : Entry) → succeeded entry ≡ false → IsScriptedRun script log
    → IsScriptedRun script (log ++ entry ∷ [])
run_same script log entry h run = rw (kept_same log entry h) run

pub playing_same : (script : Script) (log : List Entry) (entry : Entry) → succeeded entry ≡ false
    → playing script (log ++ entry ∷ []) ≡ playing script log
playing_same script log entry h = ap (fold played (begun script)) (kept_same log entry h)

bytes_more : (link : ℕ) (log : List Entry) (entry : Entry)
    → bytes_taken link (log ++ entry ∷ []) ≡ bytes_taken link log ++ taken_by link entry
bytes_more link log entry =
    flat_map-append (taken_by link) log (entry ∷ [])
    ∙ ap (λ xs. bytes_taken link log ++ xs) (append-nil (taken_by link entry))

bytes_same : (link : ℕ) (log : List Entry) (entry : Entry) → taken_by link entry ≡ []
    → bytes_taken link (log ++ entry ∷ []) ≡ bytes_taken link log
bytes_same link log entry none =
    bytes_more link log entry
    ∙ (ap (λ xs. bytes_taken link log ++ xs) none ∙ append-nil (bytes_taken link log))

-- memory ran out
pub playing_poisoned : (script : Script) (log : List Entry) (next secs : ℕ) (rules : SendRules) (taken : ℕ → List ℕ)
    (nothing : List ℕ) (poisoned : Bool) → IsPlaying script log next secs rules taken nothing poisoned
    → (next' secs' : ℕ) (rules' : SendRules) (taken' : ℕ → List ℕ) → next' ≤ length script.steps
    → ((link : ℕ) → taken' link ≡ taken link) → IsPlaying script log next' secs' rules' taken' nothing true
playing_poisoned script log next secs rules taken nothing poisoned was next' secs' rules' taken' within same = record {
  run = was.run;
  within = within;
  bytes = λ link. same link ∙ was.bytes link;
  no_bytes = was.no_bytes;
  place = λ h. cc;
}

pub playing_listened : (script : Script) (log : List Entry) (next secs : ℕ) (rules : SendRules) (taken : ℕ → List ℕ)
    (nothing : List ℕ) (poisoned : Bool) → IsPlaying script log next secs rules taken nothing poisoned
    → poisoned ≡ false → (address : List ℕ)
    → IsPlaying script (log ++ Listen address (listen.Ready secs) ∷ []) next secs rules taken nothing poisoned
playing_listened script log next secs rules taken nothing poisoned was alive address =
    let entry = Listen address (listen.Ready secs) in
    record {
      run = run_more script log entry refl was.run (ap (λ s. listen.Ready s.secs) (sym (was.place alive)));
      within = was.within;
      bytes = λ link. was.bytes link ∙ sym (bytes_same link log entry refl);
      no_bytes = was.no_bytes;
      place = λ h. playing_more script log entry refl ∙ was.place alive;
    }

pub playing_closed : (script : Script) (log : List Entry) (next secs : ℕ) (rules : SendRules) (taken : ℕ → List ℕ)
    (nothing : List ℕ) (poisoned : Bool) → IsPlaying script log next secs rules taken nothing poisoned → (link : ℕ)
    → IsPlaying script (log ++ Close link ∷ []) next secs rules taken nothing poisoned
playing_closed script log next secs rules taken nothing poisoned was link = record {
  run = run_more script log (Close link) refl was.run tt;
  within = was.within;
  bytes = λ other. was.bytes other ∙ sym (bytes_same other log (Close link) refl);
  no_bytes = was.no_bytes;
  place = λ alive. playing_more script log (Close link) refl ∙ was.place alive;
}

playing_failed : (script : Script) (log : List Entry) (next secs : ℕ) (rules : SendRules) (taken : ℕ → List ℕ)
    (nothing : List ℕ) (poisoned : Bool) → IsPlaying script log next secs rules taken nothing poisoned → (entry : Entry)
    → succeeded entry ≡ false → ((link : ℕ) → taken_by link entry ≡ [])
    → IsPlaying script (log ++ entry ∷ []) next secs rules taken nothing poisoned
playing_failed script log next secs rules taken nothing poisoned was entry failed none = record {
  run = run_same script log entry failed was.run;
  within = was.within;
  bytes = λ link. was.bytes link ∙ sym (bytes_same link log entry (none link));
  no_bytes = was.no_bytes;
  place = λ alive. playing_same script log entry failed ∙ was.place alive;
}

pub playing_failed_listen : (script : Script) (log : List Entry) (next secs : ℕ) (rules : SendRules)
    (taken : ℕ → List ℕ) (nothing : List ℕ) (poisoned : Bool)
    → IsPlaying script log next secs rules taken nothing poisoned → (address : List ℕ)
    → IsPlaying script (log ++ Listen address listen.Failed ∷ []) next secs rules taken nothing poisoned
playing_failed_listen script log next secs rules taken nothing poisoned was address =
    playing_failed script log next secs rules taken nothing poisoned was (Listen address listen.Failed) refl
    (λ link. refl)

pub playing_failed_turn : (script : Script) (log : List Entry) (next secs : ℕ) (rules : SendRules)
    (taken : ℕ → List ℕ) (nothing : List ℕ) (poisoned : Bool)
    → IsPlaying script log next secs rules taken nothing poisoned → (wants : List Want) (turn : Turn) (piece : List ℕ)
    → is_turn_answer turn.what ≡ false
    → IsPlaying script (log ++ Next wants turn piece ∷ []) next secs rules taken nothing poisoned
playing_failed_turn script log next secs rules taken nothing poisoned was wants turn piece failed =
    playing_failed script log next secs rules taken nothing poisoned was (Next wants turn piece) failed (λ link. refl)

pub playing_turned : (script : Script) (log : List Entry) (next secs : ℕ) (rules : SendRules) (taken : ℕ → List ℕ)
    (nothing : List ℕ) (poisoned : Bool) → IsPlaying script log next secs rules taken nothing poisoned
    → poisoned ≡ false → (wants : List Want) (turn : Turn) (piece : List ℕ) (next' secs' : ℕ) (rules' : SendRules)
    → is_turn_answer turn.what ≡ true → turn ≡ (first_turn (drop next script.steps) secs).turn
    → piece ≡ (first_turn (drop next script.steps) secs).piece → next' ≤ length script.steps
    → drop next' script.steps ≡ (first_turn (drop next script.steps) secs).rest → secs' ≡ turn.secs
    → rules' ≡ rules_at_turn (drop next script.steps) rules
    → IsPlaying script (log ++ Next wants turn piece ∷ []) next' secs' rules' taken nothing false
playing_turned script log next secs rules taken nothing poisoned was alive wants turn piece next' secs' rules' reported
    turn_is piece_is within rest secs_is rules_is =
    let entry = Next wants turn piece in
    let place = was.place alive in
    let kept : succeeded entry ≡ true = reported in
    record {
      run = run_more script log entry kept was.run (
        turn_is ∙ ap (λ s. (first_turn s.steps s.secs).turn) (sym place),
        piece_is ∙ ap (λ s. (first_turn s.steps s.secs).piece) (sym place),
      );
      within = within;
      bytes = λ link. was.bytes link ∙ sym (bytes_same link log entry refl);
      no_bytes = was.no_bytes;
      place = λ h. playing_more script log entry kept
          ∙ (ap (λ s. played s entry) place
          ∙ (ap (λ x. record { steps = x; secs = turn.secs; rules = rules_at_turn (drop next script.steps) rules })
          (sym rest)
          ∙ (ap
          (λ x.
          record { steps = drop next' script.steps; secs = x; rules = rules_at_turn (drop next script.steps) rules })
          (sym secs_is)
          ∙ ap (λ x. record { steps = drop next' script.steps; secs = secs'; rules = x }) (sym rules_is))));
    }

taken_if : (link other : ℕ) (bytes : List ℕ) (answer : SendAnswer) (xs : List ℕ) → xs ≡ taken_by_send bytes answer
    → cond (link == other) xs [] ≡ taken_by other (Send link bytes answer)
taken_if link other bytes answer xs is = ap (λ x. cond (link == other) x []) is

pub playing_sent : (script : Script) (log : List Entry) (next secs : ℕ) (rules : SendRules) (taken : ℕ → List ℕ)
    (nothing : List ℕ) (poisoned : Bool) → IsPlaying script log next secs rules taken nothing poisoned
    → poisoned ≡ false → (link : ℕ) (bytes : List ℕ) (answer : SendAnswer) (piece : List ℕ) (rules' : SendRules)
    (taken' : ℕ → List ℕ) → answer ≡ send_answer (rules link) (length bytes) → piece ≡ taken_by_send bytes answer
    → rules' ≡ with_rule link (rule_after (rules link) (length bytes)) rules
    → ((other : ℕ) → taken' other ≡ taken other ++ cond (link == other) piece [])
    → IsPlaying script (log ++ Send link bytes answer ∷ []) next secs rules' taken' nothing false
playing_sent script log next secs rules taken nothing poisoned was alive link bytes answer piece rules' taken' answer_is
    piece_is rules_is more =
    let entry = Send link bytes answer in
    let place = was.place alive in
    record {
      run = run_more script log entry refl was.run
          (answer_is ∙ ap (λ s. send_answer (s.rules link) (length bytes)) (sym place));
      within = was.within;
      bytes = λ other. more other
          ∙ (ap (λ xs. xs ++ cond (link == other) piece []) (was.bytes other)
          ∙ (ap (λ xs. bytes_taken other log ++ xs) (taken_if link other bytes answer piece piece_is)
          ∙ sym (bytes_more other log entry)));
      no_bytes = was.no_bytes;
      place = λ h. playing_more script log entry refl
          ∙ (ap (λ s. played s entry) place
          ∙ ap (λ x. record { steps = drop next script.steps; secs = secs; rules = x }) (sym rules_is));
    }

pub plays_some : (script : Script) (log : List Entry) → IsScriptedRun script log → Plays (Some script) (Some log)
plays_some script log run other same_script entries same_log =
    let p : script ≡ other = cc in
    let q : log ≡ entries = cc in
    subst (λ (s : Script). IsScriptedRun s entries) p (subst (λ (l : List Entry). IsScriptedRun script l) q run)

-- a turn adds one entry
pub turn_adds : (wants : List Want) (buf : List ℕ) (turn : Turn) (answer : What) → is_turn_answer answer ≡ true
    → entries_of_turn wants buf turn answer ≡ Next wants turn (piece_of answer buf) ∷ []
turn_adds wants buf turn what.Idle h = refl
turn_adds wants buf turn (what.Opened link) h = refl
turn_adds wants buf turn (what.Read link count) h = refl
turn_adds wants buf turn (what.Ended link) h = refl
turn_adds wants buf turn (what.Broken link) h = refl
turn_adds wants buf turn (what.Room link) h = refl
turn_adds wants buf turn what.Stopped h = refl
turn_adds wants buf turn what.Failed h = refl
turn_adds wants buf turn what.Memory h = cc

-- links that never fail count nothing, so that another count stays too
pub listen_counts : (faults : ℕ) (answer : listen_answer.ListenAnswer) → HasListenCause 0 0 answer
    → HasListenCause faults faults answer
listen_counts faults (listen.Ready secs) h = refl
listen_counts faults listen.Failed h = absurd (omega (arith, h (lit< tt)))
listen_counts faults listen.Memory h = refl

pub next_counts : (faults : ℕ) (answer : What) → HasNextCause 0 0 answer → HasNextCause faults faults answer
next_counts faults what.Idle h = refl
next_counts faults (what.Opened link) h = refl
next_counts faults (what.Read link count) h = refl
next_counts faults (what.Ended link) h = refl
next_counts faults (what.Broken link) h = refl
next_counts faults (what.Room link) h = refl
next_counts faults what.Stopped h = refl
next_counts faults what.Failed h = absurd (omega (arith, h (lit< tt)))
next_counts faults what.Memory h = refl
