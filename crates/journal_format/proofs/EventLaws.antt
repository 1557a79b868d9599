-- An event that is read is the one that was written, and what was written is read again.
use Rattle.std.proofs.Common.{◌≡◌, ℕ, ◌^◌, ◌<◌, ◌≤◌, true, false, cond, eqb, ltb, leb, List, [], ◌∷◌, ◌++◌, length}
use Rattle.std.proofs.Common.{take, drop, Some, None, refl, sym, ap, subst, ◌∙◌, append_assoc, arith, inl, inr}
use Rattle.std.specs.Int.{w32, w64, to_be_bytes}
use Rattle.std.proofs.lemmas.Bool.{eqb-true, ltb-true, leb-true, lt-ltb, le-leb}
use Rattle.std.proofs.lemmas.List.{take_at, drop_at, take-append-drop, length-append, length-take}
use Rattle.journal_format.specs.Limits.{piece_limit}
use Rattle.journal_format.specs.Spelling.{IsEvent, IsPiece, IsWord, event_bytes}
use Rattle.journal_format.specs.Reading.{◌>>=◌, event_at, link_event, link_event_at, number_at, piece_at}
use Rattle.journal_format.specs.declared.turn_record.TurnEvent.{TurnEvent}
use Rattle.journal_format.specs.declared.turn_record.TurnEvent.TheVariants.{Listen, Idle, Opened, Read, Ended, Broken}
use Rattle.journal_format.specs.declared.turn_record.TurnEvent.TheVariants.{Room}
use Rattle.journal_format.proofs.NumberLaws.{IsBytes, IsBytes-drop, IsBytes-rest, Takes, Takes-then, bind_some, chosen}
use Rattle.journal_format.proofs.NumberLaws.{passed, some_is, wide32, wide64, number_takes, number_again}

-- an event that was read, with what follows its kind
abbrev IsReadAs : List ℕ → TurnEvent × List ℕ → Type 0
IsReadAs bytes x = Takes bytes (event_bytes x.0) x.1 × IsEvent x.0

piece_takes : (link : ℕ) (bytes : List ℕ) (x : TurnEvent × List ℕ) → IsWord link → IsBytes bytes
    → piece_at link bytes ≡ Some x
    → (piece : List ℕ) × (x.0 ≡ Read link piece) × IsPiece piece
    × Takes bytes (to_be_bytes w32 (length piece) ++ piece) x.1
unfolding piece_at
piece_takes link bytes x word fits e =
    let made = λ (count : ℕ × List ℕ). Some (Read link (take count.0 count.1), drop count.0 count.1) in
    let a =
    bind_some (number_at w32 bytes)
    (λ count. cond (ltb 0 count.0)
    (cond (leb count.0 piece_limit) (cond (leb count.0 (length count.1)) (made count) None) None) None) x e in
    let count = a.0.0 in
    let rest = a.0.1 in
    let some =
    passed (ltb 0 count) (cond (leb count piece_limit) (cond (leb count (length rest)) (made a.0) None) None) x a.2 in
    let within = passed (leb count piece_limit) (cond (leb count (length rest)) (made a.0) None) x some.1 in
    let there = passed (leb count (length rest)) (made a.0) x within.1 in
    let t = number_takes w32 (2 ^ 32) wide32 bytes count rest fits a.1 in
    let size : length (take count rest) ≡ count = omega (arith, length-take count rest, leb-true _ _ there.0) in
    let second : Takes rest (take count rest) (drop count rest) =
    record { parts = sym (take-append-drop count rest); rest_fits = IsBytes-drop count rest t.0.rest_fits } in
    let both = Takes-then bytes (to_be_bytes w32 count) rest (take count rest) (drop count rest) t.0 second in
    let whole : Takes bytes (to_be_bytes w32 (length (take count rest)) ++ take count rest) (drop count rest) =
    subst (λ (k : ℕ). Takes bytes (to_be_bytes w32 k ++ take count rest) (drop count rest)) (sym size) both in
    let is : (Read link (take count rest), drop count rest) ≡ x =
    some_is (Read link (take count rest), drop count rest) x there.1 in
    let positive : 0 < length (take count rest) = omega (arith, size, ltb-true _ _ some.0) in
    let small : length (take count rest) ≤ piece_limit = omega (arith, size, leb-true _ _ within.0) in (
      take count rest,
      sym (ap (λ (y : TurnEvent × List ℕ). y.0) is),
      (positive, small),
      subst
          (λ (y : TurnEvent × List ℕ). Takes bytes (to_be_bytes w32 (length (take count rest)) ++ take count rest) y.1)
          is whole,
    )

-- the events of a link alone
link_event_is : (kind link : ℕ) (event : TurnEvent) → IsWord link → link_event kind link ≡ Some event
    → (event_bytes event ≡ kind ∷ to_be_bytes w64 link) × IsEvent event
unfolding link_event
link_event_is kind link event word e =
    elim (chosen (eqb kind 2) (Some (Opened link))
    (cond (eqb kind 4) (Some (Ended link))
    (cond (eqb kind 5) (Some (Broken link)) (cond (eqb kind 6) (Some (Room link)) None))) (Some event) e) [
      | inl opened ↦ subst P (some_is (Opened link) event opened.1) (of_kind 2 (eqb-true _ _ opened.0), word)
      | inr not_opened ↦
          elim (chosen (eqb kind 4) (Some (Ended link))
          (cond (eqb kind 5) (Some (Broken link)) (cond (eqb kind 6) (Some (Room link)) None)) (Some event)
          not_opened.1) [
            | inl ended ↦ subst P (some_is (Ended link) event ended.1) (of_kind 4 (eqb-true _ _ ended.0), word)
            | inr not_ended ↦
                elim (chosen (eqb kind 5) (Some (Broken link)) (cond (eqb kind 6) (Some (Room link)) None) (Some event)
                not_ended.1) [
                  | inl broken ↦
                      subst P (some_is (Broken link) event broken.1) (of_kind 5 (eqb-true _ _ broken.0), word)
                  | inr not_broken ↦
                      let room = passed (eqb kind 6) (Some (Room link)) event not_broken.1 in
                      subst P (some_is (Room link) event room.1) (of_kind 6 (eqb-true _ _ room.0), word)
                ]
          ]
    ]
  where
    P : TurnEvent → Type 0
    P made = (event_bytes made ≡ kind ∷ to_be_bytes w64 link) × IsEvent made

    of_kind : (number : ℕ) → kind ≡ number → number ∷ to_be_bytes w64 link ≡ kind ∷ to_be_bytes w64 link
    of_kind number is = ap (λ (k : ℕ). k ∷ to_be_bytes w64 link) (sym is)

under_kind : (kind : ℕ) (bytes text rest : List ℕ) → Takes bytes text rest → Takes (kind ∷ bytes) (kind ∷ text) rest
under_kind kind bytes text rest takes =
    record { parts = ap (λ (t : List ℕ). kind ∷ t) takes.parts; rest_fits = takes.rest_fits }

link_event_takes : (kind : ℕ) (bytes : List ℕ) (x : TurnEvent × List ℕ) → IsBytes bytes
    → link_event_at kind bytes ≡ Some x → IsReadAs (kind ∷ bytes) x
unfolding link_event_at
link_event_takes kind bytes x fits e =
    let other = λ (link : ℕ × List ℕ). link_event kind link.0 >>= λ event. Some (event, link.1) in
    let a = bind_some (number_at w64 bytes) (λ link. cond (eqb kind 3) (piece_at link.0 link.1) (other link)) x e in
    let t = number_takes w64 (2 ^ 64) wide64 bytes a.0.0 a.0.1 fits a.1 in
    elim (chosen (eqb kind 3) (piece_at a.0.0 a.0.1) (other a.0) (Some x) a.2) [
      | inl read ↦
          let p = piece_takes a.0.0 a.0.1 x t.1 t.0.rest_fits read.1 in
          let both = Takes-then bytes (to_be_bytes w64 a.0.0) a.0.1 (to_be_bytes w32 (length p.0) ++ p.0) x.1 t.0 p.3 in
          let three : kind ≡ 3 = eqb-true _ _ read.0 in
          let whole : Takes (kind ∷ bytes) (event_bytes (Read a.0.0 p.0)) x.1 =
          subst
          (λ (k : ℕ). Takes (kind ∷ bytes) (k ∷ (to_be_bytes w64 a.0.0 ++ (to_be_bytes w32 (length p.0) ++ p.0))) x.1)
          three (under_kind kind bytes (to_be_bytes w64 a.0.0 ++ (to_be_bytes w32 (length p.0) ++ p.0)) x.1 both) in
          subst (λ (event : TurnEvent). Takes (kind ∷ bytes) (event_bytes event) x.1 × IsEvent event) (sym p.1)
          (whole, (t.1, p.2))
      | inr not_read ↦
          let b = bind_some (link_event kind a.0.0) (λ event. Some (event, a.0.1)) x not_read.1 in
          let is = link_event_is kind a.0.0 b.0 t.1 b.1 in
          let whole : Takes (kind ∷ bytes) (event_bytes b.0) a.0.1 =
          subst (λ (text : List ℕ). Takes (kind ∷ bytes) text a.0.1) (sym is.0)
          (under_kind kind bytes (to_be_bytes w64 a.0.0) a.0.1 t.0) in
          subst (IsReadAs (kind ∷ bytes)) (some_is (b.0, a.0.1) x b.2) (whole, is.1)
    ]

pub event_takes : (bytes : List ℕ) (x : TurnEvent × List ℕ) → IsBytes bytes → event_at bytes ≡ Some x
    → Takes bytes (event_bytes x.0) x.1 × IsEvent x.0
unfolding event_at
event_takes [] x fits e = absurd cc
event_takes (kind ∷ rest) x fits e =
    let rest_fits = IsBytes-rest kind rest fits in
    elim (chosen (eqb kind 0) (Some (Listen, rest)) (cond (eqb kind 1) (Some (Idle, rest)) (link_event_at kind rest))
    (Some x) e) [
      | inl listen ↦
          subst (IsReadAs (kind ∷ rest)) (some_is (Listen, rest) x listen.1)
          (record { parts = ap (λ (k : ℕ). k ∷ rest) (eqb-true kind 0 listen.0); rest_fits = rest_fits }, tt)
      | inr not_listen ↦
          elim (chosen (eqb kind 1) (Some (Idle, rest)) (link_event_at kind rest) (Some x) not_listen.1) [
            | inl idle ↦
                subst (IsReadAs (kind ∷ rest)) (some_is (Idle, rest) x idle.1)
                (record { parts = ap (λ (k : ℕ). k ∷ rest) (eqb-true kind 1 idle.0); rest_fits = rest_fits }, tt)
            | inr other ↦ link_event_takes kind rest x rest_fits other.1
          ]
    ]

piece_again : (link : ℕ) (piece rest : List ℕ) → IsPiece piece
    → piece_at link (to_be_bytes w32 (length piece) ++ (piece ++ rest)) ≡ Some (Read link piece, rest)
unfolding piece_at
piece_again link piece rest fits =
    let some : ltb 0 (length piece) ≡ true = lt-ltb _ _ fits.0 in
    let within : leb (length piece) piece_limit ≡ true = le-leb _ _ fits.1 in
    let there : leb (length piece) (length (piece ++ rest)) ≡ true =
    le-leb _ _ (omega (arith, length-append piece rest)) in
    rw (
      number_again w32 (2 ^ 32) wide32 (length piece) (piece ++ rest) (omega (arith, fits.1)),
      some,
      within,
      there,
      take_at piece rest (length piece) refl,
      drop_at piece rest (length piece) refl,
    ) refl

alone_again : (kind link : ℕ) (event : TurnEvent) (rest : List ℕ) → IsWord link → eqb kind 3 ≡ false
    → link_event kind link ≡ Some event → link_event_at kind (to_be_bytes w64 link ++ rest) ≡ Some (event, rest)
unfolding link_event_at
alone_again kind link event rest word other is = rw (number_again w64 (2 ^ 64) wide64 link rest word, other, is) refl

read_again : (link : ℕ) (piece rest : List ℕ) → IsWord link → IsPiece piece
    → link_event_at 3 (to_be_bytes w64 link ++ (to_be_bytes w32 (length piece) ++ (piece ++ rest)))
    ≡ Some (Read link piece, rest)
unfolding link_event_at
read_again link piece rest word fits =
    rw (number_again w64 (2 ^ 64) wide64 link (to_be_bytes w32 (length piece) ++ (piece ++ rest)) word)
    (piece_again link piece rest fits)

pub event_again : (event : TurnEvent) (rest : List ℕ) → IsEvent event
    → event_at (event_bytes event ++ rest) ≡ Some (event, rest)
unfolding event_at link_event
event_again Listen rest fits = refl
event_again Idle rest fits = refl
event_again (Opened link) rest fits = alone_again 2 link (Opened link) rest fits refl refl
event_again (Read link piece) rest fits =
    let a = to_be_bytes w64 link in
    let b = to_be_bytes w32 (length piece) in
    let regrouped : (a ++ (b ++ piece)) ++ rest ≡ a ++ (b ++ (piece ++ rest)) =
    append_assoc a (b ++ piece) rest ∙ ap (λ (t : List ℕ). a ++ t) (append_assoc b piece rest) in
    ap (link_event_at 3) regrouped ∙ read_again link piece rest fits.0 fits.1
event_again (Ended link) rest fits = alone_again 4 link (Ended link) rest fits refl refl
event_again (Broken link) rest fits = alone_again 5 link (Broken link) rest fits refl refl
event_again (Room link) rest fits = alone_again 6 link (Room link) rest fits refl refl
