-- What a change of numbers and events makes of the event of each key.
use Rattle.std.proofs.Common.{◌≡◌, ◌≢◌, ℕ, Bool, true, false, cond, eqb, Option, None, Some, refl, sym, ap, ◌∙◌}
use mathlib.Core.Bool.{true≢false}
use Rattle.std.specs.declared.cmp.Ordering.{Ordering}
use Rattle.std.specs.declared.cmp.Ordering.TheVariants.{Less, Equal, Greater}
use Rattle.std.specs.Ordering.{is_eq}
use Rattle.std.specs.Option.{option_map}
use Rattle.std.specs.BTreeMap.{is_at}
use Rattle.std.specs.Cmp.{IsTotalOrder}
use Rattle.std.proofs.lemmas.Bool.{eqb-true, eqb-false}
use Rattle.std.proofs.lemmas.Cmp.{on_total, then_total, tied_itself}
use Rattle.std.proofs.lemmas.Map.Lookups.{CmpEqualImpliesEq, exact_bytes, exact_pairs}
use Rattle.ev_types.specs.declared.event.Event.{Event}
use Rattle.index_log.specs.IndexKey.{text_cmp}
use Rattle.key_map.specs.Keys.{IndexKey, key_cmp}
use Rattle.key_map.proofs.ServiceLaws.{text_total, present-cmp}
use Rattle.live_index.specs.Slots.{key_of}

-- ---- keys that compare as equal are equal

pub exact-text : CmpEqualImpliesEq text_cmp
exact-text None None h = refl
exact-text None (Some u) h = absurd (cc)
exact-text (Some t) None h = absurd (cc)
exact-text (Some t) (Some u) h = ap Some (exact_bytes t u (sym (present-cmp t u) ∙ h))

pub key_total : IsTotalOrder key_cmp
key_total =
    then_total (on_total (λ (key : IndexKey). key.0) text_total) (on_total (λ (key : IndexKey). key.1) text_total)

pub exact-key : CmpEqualImpliesEq key_cmp
exact-key = exact_pairs text_cmp text_cmp exact-text exact-text

abbrev pub same : IndexKey → IndexKey → Bool
same key = is_at (key_cmp key)

pub equal-is : (o : Ordering) → is_eq o ≡ true → o ≡ Equal
equal-is Less h = absurd (true≢false (sym h))
equal-is Equal h = refl
equal-is Greater h = absurd (true≢false (sym h))

pub same-is : (k q : IndexKey) → same k q ≡ true → k ≡ q
same-is k q h = exact-key k q (equal-is (key_cmp k q) h)

pub same-self : (k : IndexKey) → same k k ≡ true
same-self k = ap is_eq (tied_itself key_total k)

-- ---- numbers of keys, and events under numbers

abbrev pub Numbering : Type 0
Numbering = IndexKey → Option ℕ

abbrev pub Slots : Type 0
Slots = ℕ → Option Event

abbrev pub Found : Numbering → Slots → Type 0
Found F T = (k : IndexKey) (n : ℕ) → F k ≡ Some n → option_map key_of (T n) ≡ Some k

abbrev pub Placed : Numbering → Slots → Type 0
Placed F T = (n : ℕ) (e : Event) → T n ≡ Some e → F (key_of e) ≡ Some n

abbrev pub in_slot : Slots → Option ℕ → Option Event
in_slot T None = None
in_slot T (Some n) = T n

-- two keys of one number are the same key
pub one_key : (F : Numbering) (T : Slots) → Found F T → (k q : IndexKey) (n : ℕ) → F k ≡ Some n → F q ≡ Some n → k ≡ q
one_key F T found k q n h g = let e : Some k ≡ Some q = sym (found k n h) ∙ found q n g in cc

-- ---- the event of the key k, which has the number n, is removed
module _ (F F' : Numbering) (T T' : Slots) (k : IndexKey) (n : ℕ) (at : F k ≡ Some n) (found : Found F T)
    (placed : Placed F T)
    (keys : (q : IndexKey) → F' q ≡ cond (same k q) None (F q)) (gone : T' n ≡ None)
    (others : (m : ℕ) → m ≢ n → T' m ≡ T m) where
  -- another key keeps its number, which is another one
  end-other : (q : IndexKey) (m : ℕ) → same k q ≡ false → F q ≡ Some m → m ≢ n
  end-other q m apart h is =
      let k_is : k ≡ q = one_key F T found k q n at (h ∙ ap Some is) in
      let no : same k q ≡ true = ap (same k) (sym k_is) ∙ same-self k in absurd (true≢false (sym no ∙ apart))

  end-kept : (q : IndexKey) → same k q ≡ false → F' q ≡ F q
  end-kept q apart = keys q ∙ ap (λ b. cond b None (F q)) apart

  end-gone : (q : IndexKey) → same k q ≡ true → F' q ≡ None
  end-gone q is = keys q ∙ ap (λ b. cond b None (F q)) is

  pub end-found : Found F' T'
  end-found q m h = found_by (same k q) refl
    where
      found_by : (b : Bool) → same k q ≡ b → option_map key_of (T' m) ≡ Some q
      found_by true is = absurd (let no : None ≡ Some m = sym (end-gone q is) ∙ h in cc)
      found_by false apart =
          let before : F q ≡ Some m = sym (end-kept q apart) ∙ h in
          ap (option_map key_of) (others m (end-other q m apart before)) ∙ found q m before

  pub end-placed : Placed F' T'
  end-placed m e h = placed_by (same k (key_of e)) refl
    where
      apart_from : m ≢ n
      apart_from is = absurd (let no : None ≡ Some e = sym gone ∙ ap T' (sym is) ∙ h in cc)

      before : F (key_of e) ≡ Some m
      before = placed m e (sym (others m apart_from) ∙ h)

      placed_by : (b : Bool) → same k (key_of e) ≡ b → F' (key_of e) ≡ Some m
      placed_by true is =
          absurd (apart_from (let e' : Some m ≡ Some n = sym before ∙ ap F (sym (same-is k (key_of e) is)) ∙ at in cc))
      placed_by false apart = end-kept (key_of e) apart ∙ before

  pub end-puts : (q : IndexKey) → in_slot T' (F' q) ≡ cond (same k q) None (in_slot T (F q))
  end-puts q = puts_by (same k q) refl
    where
      kept_by : (r : Option ℕ) → F q ≡ r → same k q ≡ false → in_slot T' r ≡ in_slot T r
      kept_by None h apart = refl
      kept_by (Some m) h apart = others m (end-other q m apart h)

      puts_by : (b : Bool) → same k q ≡ b → in_slot T' (F' q) ≡ cond (same k q) None (in_slot T (F q))
      puts_by true is = ap (in_slot T') (end-gone q is) ∙ sym (ap (λ b. cond b None (in_slot T (F q))) is)
      puts_by false apart =
          ap (in_slot T') (end-kept q apart) ∙ kept_by (F q) refl apart
          ∙ sym (ap (λ b. cond b None (in_slot T (F q))) apart)

-- ---- an event is put under the number n, which has none, where its key has none
module _ (F F' : Numbering) (T T' : Slots) (event : Event) (n : ℕ) (none : F (key_of event) ≡ None)
    (vacant : T n ≡ None) (found : Found F T) (placed : Placed F T)
    (keys : (q : IndexKey) → F' q ≡ cond (same (key_of event) q) (Some n) (F q)) (put : T' n ≡ Some event)
    (others : (m : ℕ) → m ≢ n → T' m ≡ T m) where
  put-other : (q : IndexKey) (m : ℕ) → F q ≡ Some m → m ≢ n
  put-other q m h is =
      absurd (let no : None ≡ Some q =
      sym (ap (option_map key_of) vacant) ∙ ap (λ m. option_map key_of (T m)) (sym is) ∙ found q m h in
      cc)

  put-kept : (q : IndexKey) → same (key_of event) q ≡ false → F' q ≡ F q
  put-kept q apart = keys q ∙ ap (λ b. cond b (Some n) (F q)) apart

  put-new : (q : IndexKey) → same (key_of event) q ≡ true → F' q ≡ Some n
  put-new q is = keys q ∙ ap (λ b. cond b (Some n) (F q)) is

  pub put-found : Found F' T'
  put-found q m h = found_by (same (key_of event) q) refl
    where
      found_by : (b : Bool) → same (key_of event) q ≡ b → option_map key_of (T' m) ≡ Some q
      found_by true is =
          let m_is : Some n ≡ Some m = sym (put-new q is) ∙ h in
          let number : n ≡ m = cc in
          ap (λ m. option_map key_of (T' m)) (sym number) ∙ ap (option_map key_of) put
          ∙ ap Some (same-is (key_of event) q is)
      found_by false apart =
          let before : F q ≡ Some m = sym (put-kept q apart) ∙ h in
          ap (option_map key_of) (others m (put-other q m before)) ∙ found q m before

  pub put-placed : Placed F' T'
  put-placed m e h = number_by (eqb m n) refl
    where
      placed_by : (b : Bool) → same (key_of event) (key_of e) ≡ b → F (key_of e) ≡ Some m → F' (key_of e) ≡ Some m
      placed_by true is before =
          absurd (let no : None ≡ Some m = sym none ∙ ap F (same-is (key_of event) (key_of e) is) ∙ before in cc)
      placed_by false apart before = put-kept (key_of e) apart ∙ before

      number_by : (b : Bool) → eqb m n ≡ b → F' (key_of e) ≡ Some m
      number_by true is =
          let number : m ≡ n = eqb-true m n is in
          let event_is : Some event ≡ Some e = sym put ∙ ap T' (sym number) ∙ h in
          let same_event : event ≡ e = cc in
          put-new (key_of e) (ap (λ e. same (key_of event) (key_of e)) (sym same_event) ∙ same-self (key_of event))
          ∙ ap Some (sym number)
      number_by false apart =
          placed_by (same (key_of event) (key_of e)) refl (placed m e (sym (others m (eqb-false m n apart)) ∙ h))

  pub put-puts : (q : IndexKey) → in_slot T' (F' q) ≡ cond (same (key_of event) q) (Some event) (in_slot T (F q))
  put-puts q = puts_by (same (key_of event) q) refl
    where
      kept_by : (r : Option ℕ) → F q ≡ r → in_slot T' r ≡ in_slot T r
      kept_by None h = refl
      kept_by (Some m) h = others m (put-other q m h)

      puts_by : (b : Bool) → same (key_of event) q ≡ b
          → in_slot T' (F' q) ≡ cond (same (key_of event) q) (Some event) (in_slot T (F q))
      puts_by true is = ap (in_slot T') (put-new q is) ∙ put ∙ sym (ap (λ b. cond b (Some event) (in_slot T (F q))) is)
      puts_by false apart =
          ap (in_slot T') (put-kept q apart) ∙ kept_by (F q) refl
          ∙ sym (ap (λ b. cond b (Some event) (in_slot T (F q))) apart)

-- ---- an event is put under the number n of its key
module _ (F : Numbering) (T T' : Slots) (event : Event) (n : ℕ) (at : F (key_of event) ≡ Some n) (found : Found F T)
    (placed : Placed F T) (put : T' n ≡ Some event) (others : (m : ℕ) → m ≢ n → T' m ≡ T m) where
  pub replace-found : Found F T'
  replace-found q m h = found_by (eqb m n) refl
    where
      found_by : (b : Bool) → eqb m n ≡ b → option_map key_of (T' m) ≡ Some q
      found_by true is =
          let number : m ≡ n = eqb-true m n is in
          ap (λ m. option_map key_of (T' m)) number ∙ ap (option_map key_of) put
          ∙ ap Some (one_key F T found (key_of event) q n at (h ∙ ap Some number))
      found_by false apart = ap (option_map key_of) (others m (eqb-false m n apart)) ∙ found q m h

  pub replace-placed : Placed F T'
  replace-placed m e h = placed_by (eqb m n) refl
    where
      placed_by : (b : Bool) → eqb m n ≡ b → F (key_of e) ≡ Some m
      placed_by true is =
          let number : m ≡ n = eqb-true m n is in
          let event_is : Some event ≡ Some e = sym put ∙ ap T' (sym number) ∙ h in
          let same_event : event ≡ e = cc in
          ap (λ e. F (key_of e)) (sym same_event) ∙ at ∙ ap Some (sym number)
      placed_by false apart = placed m e (sym (others m (eqb-false m n apart)) ∙ h)

  pub replace-puts : (q : IndexKey) → in_slot T' (F q) ≡ cond (same (key_of event) q) (Some event) (in_slot T (F q))
  replace-puts q = puts_by (same (key_of event) q) refl
    where
      kept_by : (r : Option ℕ) → F q ≡ r → same (key_of event) q ≡ false → in_slot T' r ≡ in_slot T r
      kept_by None h apart = refl
      kept_by (Some m) h apart =
          others m (λ is.
          let key_is : key_of event ≡ q = one_key F T found (key_of event) q n at (h ∙ ap Some is) in
          let no : same (key_of event) q ≡ true = ap (same (key_of event)) (sym key_is) ∙ same-self (key_of event) in
          absurd (true≢false (sym no ∙ apart)))

      puts_by : (b : Bool) → same (key_of event) q ≡ b
          → in_slot T' (F q) ≡ cond (same (key_of event) q) (Some event) (in_slot T (F q))
      puts_by true is =
          ap (in_slot T') (ap F (sym (same-is (key_of event) q is)) ∙ at) ∙ put
          ∙ sym (ap (λ b. cond b (Some event) (in_slot T (F q))) is)
      puts_by false apart = kept_by (F q) refl apart ∙ sym (ap (λ b. cond b (Some event) (in_slot T (F q))) apart)
