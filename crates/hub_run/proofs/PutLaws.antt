-- What becomes of the lines of turns, of which the first are quiet.
use Rattle.std.proofs.Common.{◌≡◌, ℕ, zero, suc, ◌+◌, Bool, true, false, ◌<◌, List, [], ◌∷◌, ◌++◌, length, take, refl}
use Rattle.std.proofs.Common.{ap, sym, ◌∙◌, subst, arith, append-nil, append_assoc, length-append}
use Rattle.std.specs.Prelude.{Option, Some, None, nat_lt, option_map}
use Rattle.std.proofs.Math.Seq.{take-nil}
use Rattle.std.proofs.lemmas.Bool.{lt-ltb, ltb-false, ltb-true}
use Rattle.std.proofs.lemmas.Grind.{flat_map-append}
use Rattle.std.proofs.lemmas.List.{take-append-le, take_all}
use Rattle.conn_core.proofs.LineLaws.{counted_nothing, first_nothing, got_nothing, got_then}
use Rattle.conn_core.specs.Turning.{CountedPuts, GotFirstLines, GotLines, puts_after}
use Rattle.conn_core.specs.event_core.Core.{CoreConfig}
use Rattle.conn_core.specs.hub_meaning.Runs.{notices_after}
use Rattle.ev_types.specs.declared.item.Notice.{Notice}
use Rattle.notice_sink.specs.Lines.{lines_of, notice_line}
use Rattle.ports.specs.Counts.{count_after}
use Rattle.ports.specs.Writing.{Got, SinkReport}
use Rattle.hub_run.specs.Runs.{PutsLines}
use Rattle.hub_run.specs.Taken.{TakenTurn, steps_of}
use Rattle.hub_run.specs.Taking.{GoTo}

-- ---- lines after lines

puts_more : (i j count : ℕ) → puts_after j (puts_after i count) ≡ puts_after (i + j) count
puts_more i zero count = let is : i ≡ i + zero = omega arith in ap (λ (n : ℕ). puts_after n count) is
puts_more i (suc j) count =
    let is : suc (i + j) ≡ i + suc j = omega arith in
    ap (λ (n : ℕ). count_after n 1) (puts_more i j count) ∙ ap (λ (n : ℕ). puts_after n count) is

puts_both : (puts : Option ℕ) (i j : ℕ)
    → option_map (puts_after j) (option_map (puts_after i) puts) ≡ option_map (puts_after (i + j)) puts
puts_both None i j = refl
puts_both (Some count) i j = ap Some (puts_more i j count)

puts_then : (a b c : Option ℕ) (i j : ℕ) → CountedPuts a i b → CountedPuts b j c → CountedPuts a (i + j) c
puts_then a b c i j one two = two ∙ ap (option_map (puts_after j)) one ∙ puts_both a i j

pub lines_then : (a b c : SinkReport) (first second : List Notice) → GotLines a first b → GotLines b second c
    → GotLines a (first ++ second) c
lines_then a b c first second one two = record {
  text = subst (λ (bytes : List ℕ). Got a.text bytes c.text) (sym (flat_map-append notice_line first second))
      (got_then a.text b.text c.text (lines_of first) (lines_of second) one.text two.text);
  puts = subst (λ (n : ℕ). CountedPuts a.puts n c.puts) (sym (length-append first second))
      (puts_then a.puts b.puts c.puts (length first) (length second) one.puts two.puts);
}

-- ---- where the lines of a turn went

-- so it is of the sink of a turn that is not quiet
loud : (P : SinkReport → SinkReport → Type 0) (old new into into' : SinkReport) → (old ≡ into) × (new ≡ into')
    → P into into' → P old new
loud P old new into into' same fact =
    subst (λ (sink : SinkReport). P sink new) (sym same.0) (subst (P into) (sym same.1) fact)

pub first_lines : (t : Bool) (made : List Notice) (old new into into' : SinkReport) → GoTo t old new into into'
    → GotFirstLines into made into' → GotFirstLines old made new
first_lines true made old new into into' same first = subst (GotFirstLines old made) (sym same) (first_nothing old made)
first_lines false made old new into into' same first =
    loud (λ (a b : SinkReport). GotFirstLines a made b) old new into into' same first

pub stays_quiet : (n quiet : ℕ) (old new into into' : SinkReport) → GoTo (nat_lt n quiet) old new into into'
    → n < quiet → new ≡ old
stays_quiet n quiet old new into into' goes less =
    subst (λ (t : Bool). GoTo t old new into into') (lt-ltb n quiet less) goes

-- ---- the lines of turns

nothing_more : {X : Type 0} (xs ys : List X) → xs ≡ xs ++ ys → ys ≡ []
nothing_more xs [] is = refl
nothing_more xs (y ∷ ys) is = absurd (omega (arith, ap length is, length-append xs (y ∷ ys)))

module _ (config : CoreConfig) (quiet : ℕ) where
  pub puts_nothing : (sink : SinkReport) → PutsLines config quiet [] sink sink
  puts_nothing sink = record {
    put = [];
    notices = sym (ap (λ (turns : List TakenTurn). notices_after config (steps_of turns) ++ []) (take-nil quiet)
        ∙ append-nil (notices_after config (steps_of [])));
    got = record { text = got_nothing sink.text; puts = counted_nothing sink.puts };
    still = λ _. refl;
  }

  module _ (turns : List TakenTurn) (made : List Notice) (old mid new into into' : SinkReport)
      (before : PutsLines config quiet turns old mid) where
    -- nothing was put while all turns are quiet
    none_put : length turns < quiet → before.put ≡ []
    none_put within =
        let whole : take quiet turns ≡ turns = take_all quiet turns (omega (arith, within)) in
        nothing_more (notices_after config (steps_of turns)) before.put
        (before.notices ∙ ap (λ (ts : List TakenTurn). notices_after config (steps_of ts) ++ before.put) whole)

    pub puts_step : (last : TakenTurn)
        → notices_after config (steps_of (turns ++ last ∷ [])) ≡ notices_after config (steps_of turns) ++ made
        → (t : Bool) → nat_lt (length turns) quiet ≡ t → GoTo t mid new into into' → GotLines into made into'
        → PutsLines config quiet (turns ++ last ∷ []) old new
    puts_step last made_are true is same lines =
        let within = ltb-true (length turns) quiet is in
        let whole : take quiet (turns ++ last ∷ []) ≡ turns ++ last ∷ [] =
        take_all quiet (turns ++ last ∷ []) (omega (arith, within, length-append turns (last ∷ []))) in
        record {
          put = before.put;
          notices = sym (ap (λ (ts : List TakenTurn). notices_after config (steps_of ts) ++ before.put) whole
              ∙ ap (λ (more : List Notice). notices_after config (steps_of (turns ++ last ∷ [])) ++ more)
              (none_put within)
              ∙ append-nil (notices_after config (steps_of (turns ++ last ∷ []))));
          got = subst (λ (sink : SinkReport). GotLines old before.put sink) (sym same) before.got;
          still = λ _. same ∙ before.still (omega (arith, within));
        }
    puts_step last made_are false is same lines =
        let beyond = ltb-false (length turns) quiet is in
        let kept : take quiet (turns ++ last ∷ []) ≡ take quiet turns = take-append-le quiet turns (last ∷ []) beyond in
        record {
          put = before.put ++ made;
          notices = made_are ∙ ap (λ (ns : List Notice). ns ++ made) before.notices
              ∙ append_assoc (notices_after config (steps_of (take quiet turns))) before.put made
              ∙ sym (ap (λ (ts : List TakenTurn). notices_after config (steps_of ts) ++ (before.put ++ made)) kept);
          got = lines_then old mid new before.put made before.got
              (loud (λ (a b : SinkReport). GotLines a made b) mid new into into' same lines);
          still = λ all. absurd (omega (arith, beyond, all, length-append turns (last ∷ [])));
        }
