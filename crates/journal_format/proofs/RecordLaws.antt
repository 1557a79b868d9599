-- The two laws of records: what is read is spelled so, and what is spelled so is read.
use Rattle.std.proofs.Common.{◌≡◌, ℕ, zero, suc, ◌^◌, ◌≤◌, true, cond, eqb, leb, List, [], ◌∷◌, ◌++◌, length, Some}
use Rattle.std.proofs.Common.{None, refl, sym, ap, subst, ◌∙◌, append_assoc, arith, inl, inr}
use Rattle.std.specs.Int.{w16, w64, to_be_bytes}
use Rattle.std.specs.List.{AllByRecursion, flat_map}
use Rattle.std.proofs.lemmas.Bool.{eqb-true, leb-true, le-leb}
use Rattle.std.proofs.lemmas.List.Concat.{flat_map-cons}
use Rattle.journal_format.specs.Limits.{summary_limit}
use Rattle.journal_format.specs.Spelling.{AreWords, IsRecord, are_distinct, end_byte, event_bytes, record_bytes}
use Rattle.journal_format.specs.Spelling.{summary_bytes}
use Rattle.journal_format.specs.Reading.{◌>>=◌, counted_at, end_at, end_of, event_at, number_at, record_at}
use Rattle.journal_format.specs.Reading.{summaries_at, summary_at}
use Rattle.journal_format.specs.declared.turn_record.SendEnd.{SendEnd}
use Rattle.journal_format.specs.declared.turn_record.SendEnd.TheVariants.{Took, Later, Failed}
use Rattle.journal_format.specs.declared.turn_record.Summary.{Summary}
use Rattle.journal_format.specs.declared.turn_record.TurnRecord.{TurnRecord}
use Rattle.journal_format.proofs.NumberLaws.{IsBytes, IsBytes-rest, Takes, Takes-then, bind_some, chosen, passed}
use Rattle.journal_format.proofs.NumberLaws.{some_is, wide16, wide64, number_takes, number_again}
use Rattle.journal_format.proofs.EventLaws.{event_takes, event_again}

end_of_is : (byte : ℕ) (end : SendEnd) → end_of byte ≡ Some end → byte ≡ end_byte end
unfolding end_of
end_of_is byte end e =
    elim (chosen (eqb byte 0) (Some Took) (cond (eqb byte 1) (Some Later) (cond (eqb byte 2) (Some Failed) None))
    (Some end) e) [
      | inl took ↦ subst P (some_is Took end took.1) (eqb-true _ _ took.0)
      | inr not_took ↦
          elim (chosen (eqb byte 1) (Some Later) (cond (eqb byte 2) (Some Failed) None) (Some end) not_took.1) [
            | inl later ↦ subst P (some_is Later end later.1) (eqb-true _ _ later.0)
            | inr not_later ↦
                let failed = passed (eqb byte 2) (Some Failed) end not_later.1 in
                subst P (some_is Failed end failed.1) (eqb-true _ _ failed.0)
          ]
    ]
  where
    P : SendEnd → Type 0
    P made = byte ≡ end_byte made

end_takes : (bytes : List ℕ) (x : SendEnd × List ℕ) → IsBytes bytes → end_at bytes ≡ Some x
    → Takes bytes (end_byte x.0 ∷ []) x.1
unfolding end_at
end_takes [] x fits e = absurd cc
end_takes (byte ∷ rest) x fits e =
    let a = bind_some (end_of byte) (λ end. Some (end, rest)) x e in
    subst (λ (y : SendEnd × List ℕ). Takes (byte ∷ rest) (end_byte y.0 ∷ []) y.1) (some_is (a.0, rest) x a.2)
    (record { parts = ap (λ (b : ℕ). b ∷ rest) (end_of_is byte a.0 a.1); rest_fits = IsBytes-rest byte rest fits })

end_again : (end : SendEnd) (rest : List ℕ) → end_at (end_byte end ∷ rest) ≡ Some (end, rest)
unfolding end_at end_of
end_again Took rest = refl
end_again Later rest = refl
end_again Failed rest = refl

summary_takes : (bytes : List ℕ) (x : Summary × List ℕ) → IsBytes bytes → summary_at bytes ≡ Some x
    → Takes bytes (summary_bytes x.0) x.1 × AreWords x.0
unfolding summary_at
summary_takes bytes x fits e =
    let a =
    bind_some (number_at w64 bytes)
    (λ link. number_at w64 link.1
    >>= λ taken. end_at taken.1 >>= λ end. Some (record { link = link.0; taken = taken.0; end = end.0 }, end.1)) x e in
    let b =
    bind_some (number_at w64 a.0.1)
    (λ taken. end_at taken.1 >>= λ end. Some (record { link = a.0.0; taken = taken.0; end = end.0 }, end.1)) x a.2 in
    let c = bind_some (end_at b.0.1) (λ end. Some (record { link = a.0.0; taken = b.0.0; end = end.0 }, end.1)) x b.2 in
    let t0 = number_takes w64 (2 ^ 64) wide64 bytes a.0.0 a.0.1 fits a.1 in
    let t1 = number_takes w64 (2 ^ 64) wide64 a.0.1 b.0.0 b.0.1 t0.0.rest_fits b.1 in
    let t2 = end_takes b.0.1 c.0 t1.0.rest_fits c.1 in
    let e12 = Takes-then a.0.1 (to_be_bytes w64 b.0.0) b.0.1 (end_byte c.0.0 ∷ []) c.0.1 t1.0 t2 in
    let e02 =
    Takes-then bytes (to_be_bytes w64 a.0.0) a.0.1 (to_be_bytes w64 b.0.0 ++ end_byte c.0.0 ∷ []) c.0.1 t0.0 e12 in
    let made : Summary × List ℕ = (record { link = a.0.0; taken = b.0.0; end = c.0.0 }, c.0.1) in
    subst (λ (y : Summary × List ℕ). Takes bytes (summary_bytes y.0) y.1 × AreWords y.0) (some_is made x c.2)
    (e02, record { link = t0.1; taken = t1.1 })

summary_again : (s : Summary) (rest : List ℕ) → AreWords s → summary_at (summary_bytes s ++ rest) ≡ Some (s, rest)
unfolding summary_at
summary_again s rest fits =
    let a = to_be_bytes w64 s.link in
    let b = to_be_bytes w64 s.taken in
    let regrouped : summary_bytes s ++ rest ≡ a ++ (b ++ (end_byte s.end ∷ rest)) =
    append_assoc a (b ++ end_byte s.end ∷ []) rest
    ∙ ap (λ (t : List ℕ). a ++ t) (append_assoc b (end_byte s.end ∷ []) rest) in
    ap summary_at regrouped
    ∙ rw (
      number_again w64 (2 ^ 64) wide64 s.link (b ++ (end_byte s.end ∷ rest)) fits.link,
      number_again w64 (2 ^ 64) wide64 s.taken (end_byte s.end ∷ rest) fits.taken,
      end_again s.end rest,
    ) refl

summaries_take : (n : ℕ) (bytes : List ℕ) (x : List Summary × List ℕ) → IsBytes bytes → summaries_at n bytes ≡ Some x
    → Takes bytes (flat_map summary_bytes x.0) x.1 × (length x.0 ≡ n) × AllByRecursion AreWords x.0
unfolding summaries_at
summaries_take zero bytes x fits e =
    subst
    (λ (y : List Summary × List ℕ). Takes bytes (flat_map summary_bytes y.0) y.1 × (length y.0 ≡ 0)
    × AllByRecursion AreWords y.0) (some_is ([], bytes) x e) (record { parts = refl; rest_fits = fits }, refl, tt)
summaries_take (suc n) bytes x fits e =
    let a =
    bind_some (summary_at bytes) (λ first. summaries_at n first.1 >>= λ others. Some (first.0 ∷ others.0, others.1))
    x e in
    let b = bind_some (summaries_at n a.0.1) (λ others. Some (a.0.0 ∷ others.0, others.1)) x a.2 in
    let first = summary_takes bytes a.0 fits a.1 in
    let second = summaries_take n a.0.1 b.0 first.0.rest_fits b.1 in
    let both = Takes-then bytes (summary_bytes a.0.0) a.0.1 (flat_map summary_bytes b.0.0) b.0.1 first.0 second.0 in
    let made : List Summary × List ℕ = (a.0.0 ∷ b.0.0, b.0.1) in
    subst
    (λ (y : List Summary × List ℕ). Takes bytes (flat_map summary_bytes y.0) y.1 × (length y.0 ≡ suc n)
    × AllByRecursion AreWords y.0) (some_is made x b.2) (rw flat_map-cons both, ap suc second.1, (first.1, second.2))

summaries_again : (ss : List Summary) (rest : List ℕ) → AllByRecursion AreWords ss
    → summaries_at (length ss) (flat_map summary_bytes ss ++ rest) ≡ Some (ss, rest)
unfolding summaries_at
summaries_again [] rest fits = refl
summaries_again (s ∷ ss) rest fits =
    let regrouped : flat_map summary_bytes (s ∷ ss) ++ rest ≡ summary_bytes s ++ (flat_map summary_bytes ss ++ rest) =
    ap (λ (x : List ℕ). x ++ rest) (flat_map-cons summary_bytes s ss)
    ∙ append_assoc (summary_bytes s) (flat_map summary_bytes ss) rest in
    ap (summaries_at (suc (length ss))) regrouped
    ∙ rw (summary_again s (flat_map summary_bytes ss ++ rest) fits.0, summaries_again ss rest fits.1) refl

-- summaries that were read by their count
record AreCounted (count : ℕ) (bytes : List ℕ) (x : List Summary × List ℕ) : Type 0 where
  takes : Takes bytes (flat_map summary_bytes x.0) x.1
  size : length x.0 ≡ count
  few : count ≤ summary_limit
  words : AllByRecursion AreWords x.0
  distinct : are_distinct x.0 ≡ true

counted_take : (count : ℕ) (bytes : List ℕ) (x : List Summary × List ℕ) → IsBytes bytes
    → counted_at count bytes ≡ Some x → AreCounted count bytes x
unfolding counted_at
counted_take count bytes x fits e =
    let few =
    passed (leb count summary_limit)
    (summaries_at count bytes >>= λ found. cond (are_distinct found.0) (Some found) None) x e in
    let a = bind_some (summaries_at count bytes) (λ found. cond (are_distinct found.0) (Some found) None) x few.1 in
    let distinct = passed (are_distinct a.0.0) (Some a.0) x a.2 in
    let t = summaries_take count bytes a.0 fits a.1 in
    subst (AreCounted count bytes) (some_is a.0 x distinct.1)
    (record { takes = t.0; size = t.1; few = leb-true _ _ few.0; words = t.2; distinct = distinct.0 })

counted_again : (ss : List Summary) (rest : List ℕ) → length ss ≤ summary_limit → AllByRecursion AreWords ss
    → are_distinct ss ≡ true → counted_at (length ss) (flat_map summary_bytes ss ++ rest) ≡ Some (ss, rest)
unfolding counted_at
counted_again ss rest few words distinct =
    let within : leb (length ss) summary_limit ≡ true = le-leb _ _ few in
    rw (within, summaries_again ss rest words, distinct) refl

pub record_takes : (bytes : List ℕ) (x : TurnRecord × List ℕ) → IsBytes bytes → record_at bytes ≡ Some x
    → Takes bytes (record_bytes x.0) x.1 × IsRecord x.0
unfolding record_at
record_takes bytes x fits e =
    let a =
    bind_some (number_at w16 bytes)
    (λ count. counted_at count.0 count.1
    >>= λ summaries. number_at w64 summaries.1
    >>= λ secs. event_at secs.1
    >>= λ event. Some (record { summaries = summaries.0; secs = secs.0; event = event.0 }, event.1)) x e in
    let b =
    bind_some (counted_at a.0.0 a.0.1)
    (λ summaries. number_at w64 summaries.1
    >>= λ secs. event_at secs.1
    >>= λ event. Some (record { summaries = summaries.0; secs = secs.0; event = event.0 }, event.1)) x a.2 in
    let c =
    bind_some (number_at w64 b.0.1)
    (λ secs. event_at secs.1 >>= λ event. Some (record { summaries = b.0.0; secs = secs.0; event = event.0 }, event.1))
    x b.2 in
    let d =
    bind_some (event_at c.0.1) (λ event. Some (record { summaries = b.0.0; secs = c.0.0; event = event.0 }, event.1))
    x c.2 in
    let t0 = number_takes w16 (2 ^ 16) wide16 bytes a.0.0 a.0.1 fits a.1 in
    let t1 = counted_take a.0.0 a.0.1 b.0 t0.0.rest_fits b.1 in
    let t2 = number_takes w64 (2 ^ 64) wide64 b.0.1 c.0.0 c.0.1 t1.takes.rest_fits c.1 in
    let t3 = event_takes c.0.1 d.0 t2.0.rest_fits d.1 in
    let e23 = Takes-then b.0.1 (to_be_bytes w64 c.0.0) c.0.1 (event_bytes d.0.0) d.0.1 t2.0 t3.0 in
    let e13 =
    Takes-then a.0.1 (flat_map summary_bytes b.0.0) b.0.1 (to_be_bytes w64 c.0.0 ++ event_bytes d.0.0)
    d.0.1 t1.takes e23 in
    let e03 =
    Takes-then bytes (to_be_bytes w16 a.0.0) a.0.1
    (flat_map summary_bytes b.0.0 ++ (to_be_bytes w64 c.0.0 ++ event_bytes d.0.0)) d.0.1 t0.0 e13 in
    let made : TurnRecord × List ℕ = (record { summaries = b.0.0; secs = c.0.0; event = d.0.0 }, d.0.1) in
    let whole : Takes bytes (record_bytes made.0) made.1 =
    subst
    (λ (n : ℕ). Takes bytes
    (to_be_bytes w16 n ++ (flat_map summary_bytes b.0.0 ++ (to_be_bytes w64 c.0.0 ++ event_bytes d.0.0))) d.0.1)
    (sym t1.size) e03 in
    let few : length b.0.0 ≤ summary_limit = omega (arith, t1.few, t1.size) in
    subst (λ (y : TurnRecord × List ℕ). Takes bytes (record_bytes y.0) y.1 × IsRecord y.0) (some_is made x d.2)
    (whole, record { few = few; summaries = t1.words; distinct = t1.distinct; secs = t2.1; event = t3.1 })

pub record_again : (entry : TurnRecord) (rest : List ℕ) → IsRecord entry
    → record_at (record_bytes entry ++ rest) ≡ Some (entry, rest)
unfolding record_at
record_again entry rest fits =
    let a = to_be_bytes w16 (length entry.summaries) in
    let b = flat_map summary_bytes entry.summaries in
    let c = to_be_bytes w64 entry.secs in
    let d = event_bytes entry.event in
    let regrouped : record_bytes entry ++ rest ≡ a ++ (b ++ (c ++ (d ++ rest))) =
    append_assoc a (b ++ (c ++ d)) rest
    ∙ ap (λ (t : List ℕ). a ++ t)
    (append_assoc b (c ++ d) rest ∙ ap (λ (t : List ℕ). b ++ t) (append_assoc c d rest)) in
    ap record_at regrouped
    ∙ rw (
      number_again w16 (2 ^ 16) wide16 (length entry.summaries) (b ++ (c ++ (d ++ rest))) (omega (arith, fits.few)),
      counted_again entry.summaries (c ++ (d ++ rest)) fits.few fits.summaries fits.distinct,
      number_again w64 (2 ^ 64) wide64 entry.secs (d ++ rest) fits.secs,
      event_again entry.event rest fits.event,
    ) refl
