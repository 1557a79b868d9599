-- The events under one more number are taken out.
use Rattle.std.proofs.Common.{◌≡◌, ℕ, Bool, true, false, ◌||◌, cond, eqb, List, [], ◌∷◌, ◌++◌, Option, None, Some, refl}
use Rattle.std.proofs.Common.{sym, ap, ◌∙◌, subst}
use mathlib.Core.Bool.{true≢false}
use Rattle.std.specs.List.Sorted.{IsStrictlySortedBy}
use Rattle.std.proofs.lemmas.Bool.{eqb-true, eq-eqb}
use Rattle.ev_types.specs.declared.event.Event.{Event}
use Rattle.index_log.specs.IndexKey.{index_key_cmp}
use Rattle.index_log.proofs.Rising.{nothing_rises}
use Rattle.key_map.specs.Keys.{IndexKey, Numbers, number_at}
use Rattle.linked_slots.specs.Table.{value_at}
use Rattle.live_index.specs.Slots.{key_of, slot_at, event_of, is_among, has_number, IsLinked, IsTaking, Puts}
use Rattle.live_index.proofs.LinkLaws.{same, same-is, same-self, one_key}
use Rattle.live_index.proofs.RowLaws.{find_key}

among-push : (m n : ℕ) (gone : List ℕ) → is_among m (gone ++ n ∷ []) ≡ is_among m gone || is_among m (n ∷ [])
among-push m n [] = refl
among-push m n (g ∷ gone) = either (eqb m g) (among-push m n gone)
  where
    either : (b : Bool) → is_among m (gone ++ n ∷ []) ≡ is_among m gone || is_among m (n ∷ [])
        → (b || is_among m (gone ++ n ∷ [])) ≡ ((b || is_among m gone) || is_among m (n ∷ []))
    either true ih = refl
    either false ih = ih

has-push : (r : Option ℕ) (n : ℕ) (gone : List ℕ)
    → has_number r (gone ++ n ∷ []) ≡ has_number r gone || has_number r (n ∷ [])
has-push None n gone = refl
has-push (Some m) n gone = among-push m n gone

or-true : (b : Bool) → b || true ≡ true
or-true true = refl
or-true false = refl

or-false : (b : Bool) → b || false ≡ b
or-false true = refl
or-false false = refl

-- without what either test finds
out-either : (a b : Bool) (x : Option Event) → cond b None (cond a None x) ≡ cond (a || b) None x
out-either true true x = refl
out-either true false x = refl
out-either false true x = refl
out-either false false x = refl

module _ (gone : List ℕ) (n : ℕ) (numbers now now' : Numbers) (table tab tab' : List (Option Event))
    (es es' : List Event) (taking : IsTaking gone numbers table now tab es) where
  slots-next : ((m : ℕ) → value_at tab' m ≡ cond (eqb m n) None (value_at tab m)) → (m : ℕ)
      → value_at tab' m ≡ cond (is_among m (gone ++ n ∷ [])) None (value_at table m)
  slots-next slots m =
      slots m ∙ ap (λ r. cond (eqb m n) None r) (taking.slots m)
      ∙ out-either (is_among m gone) (eqb m n) (value_at table m)
      ∙ ap (λ b. cond b None (value_at table m))
      (sym (among-push m n gone ∙ ap (λ b. is_among m gone || b) (or-false (eqb m n))))

  -- ---- the number has an event
  module _ (e : Event) (at : value_at tab n ≡ Some e) where
    was-at_by : (b : Bool) → is_among n gone ≡ b → value_at table n ≡ Some e
    was-at_by true is =
        absurd
        (let no : None ≡ Some e = sym (ap (λ b. cond b None (value_at table n)) is) ∙ sym (taking.slots n) ∙ at in cc)
    was-at_by false apart = sym (ap (λ b. cond b None (value_at table n)) apart) ∙ sym (taking.slots n) ∙ at

    was-at : value_at table n ≡ Some e
    was-at = was-at_by (is_among n gone) refl

    key-at : number_at (key_of e) numbers ≡ Some n
    key-at = taking.origin.placed n e was-at

    other-number : (q : IndexKey) (m : ℕ) → number_at q numbers ≡ Some m → same (key_of e) q ≡ false → (b : Bool)
        → eqb m n ≡ b → false ≡ (b || false)
    other-number q m h apart true is =
        absurd (let keys : key_of e ≡ q =
        one_key (λ q. number_at q numbers) (value_at table) taking.origin.found (key_of e) q n key-at
        (h ∙ ap Some (eqb-true m n is)) in
        true≢false (sym (ap (same (key_of e)) (sym keys) ∙ same-self (key_of e)) ∙ apart))
    other-number q m h apart false off = refl

    other-key : (q : IndexKey) (r : Option ℕ) → number_at q numbers ≡ r → same (key_of e) q ≡ false
        → false ≡ has_number r (n ∷ [])
    other-key q None h apart = refl
    other-key q (Some m) h apart = other-number q m h apart (eqb m n) refl

    -- the key of the event is the one that has the number
    key-same_by : (q : IndexKey) (b : Bool) → same (key_of e) q ≡ b
        → same (key_of e) q ≡ has_number (number_at q numbers) (n ∷ [])
    key-same_by q true is =
        is
        ∙ sym (ap (λ r. has_number r (n ∷ [])) (ap (λ k. number_at k numbers) (sym (same-is (key_of e) q is)) ∙ key-at)
        ∙ ap (λ b. b || false) (eq-eqb n n refl))
    key-same_by q false apart = apart ∙ other-key q (number_at q numbers) refl apart

    key-same : (q : IndexKey) → same (key_of e) q ≡ has_number (number_at q numbers) (n ∷ [])
    key-same q = key-same_by q (same (key_of e) q) refl

    kept-next : Puts (key_of e) None now tab now' tab' → (q : IndexKey)
        → event_of q now' tab'
        ≡ cond (has_number (number_at q numbers) (gone ++ n ∷ [])) None (event_of q numbers table)
    kept-next puts q =
        puts q ∙ ap (λ b. cond b None (event_of q now tab)) (key-same q)
        ∙ ap (λ r. cond (has_number (number_at q numbers) (n ∷ [])) None r) (taking.kept q)
        ∙ out-either (has_number (number_at q numbers) gone) (has_number (number_at q numbers) (n ∷ []))
        (event_of q numbers table)
        ∙ ap (λ b. cond b None (event_of q numbers table)) (sym (has-push (number_at q numbers) n gone))

    taken-by : (q : IndexKey) (b : Bool) → same (key_of e) q ≡ b
        → cond (same (key_of e) q) (Some e) (find_key q es)
        ≡ cond (has_number (number_at q numbers) gone || has_number (number_at q numbers) (n ∷ []))
        (event_of q numbers table) None
    taken-by q true is =
        ap (λ b. cond b (Some e) (find_key q es)) is
        ∙ sym was-at ∙ sym (ap (slot_at table) (ap (λ k. number_at k numbers) (sym (same-is (key_of e) q is)) ∙ key-at))
        ∙ sym (ap (λ b. cond b (event_of q numbers table) None)
        (ap (λ b. has_number (number_at q numbers) gone || b) (sym (key-same q) ∙ is)
        ∙ or-true (has_number (number_at q numbers) gone)))
    taken-by q false apart =
        ap (λ b. cond b (Some e) (find_key q es)) apart ∙ taking.taken.taken q
        ∙ sym (ap (λ b. cond b (event_of q numbers table) None)
        (ap (λ b. has_number (number_at q numbers) gone || b) (sym (key-same q) ∙ apart)
        ∙ or-false (has_number (number_at q numbers) gone)))

    taken-next : ((q : IndexKey) → find_key q es' ≡ cond (same (key_of e) q) (Some e) (find_key q es)) → (q : IndexKey)
        → find_key q es' ≡ cond (has_number (number_at q numbers) (gone ++ n ∷ [])) (event_of q numbers table) None
    taken-next finds q =
        finds q ∙ taken-by q (same (key_of e) q) refl
        ∙ ap (λ b. cond b (event_of q numbers table) None) (sym (has-push (number_at q numbers) n gone))

    pub taking-some : IsLinked now' tab' → ((m : ℕ) → value_at tab' m ≡ cond (eqb m n) None (value_at tab m))
        → Puts (key_of e) None now tab now' tab'
        → IsStrictlySortedBy index_key_cmp es'
        → ((q : IndexKey) → find_key q es' ≡ cond (same (key_of e) q) (Some e) (find_key q es))
        → IsTaking (gone ++ n ∷ []) numbers table now' tab' es'
    taking-some linked slots puts rising finds = record {
      origin = taking.origin;
      linked = linked;
      slots = slots-next slots;
      kept = kept-next puts;
      taken = record { rising = rising; taken = taken-next finds };
    }

  -- ---- it has none
  module _ (none : value_at tab n ≡ None) where
    -- what the number of the key has, where it is not gone, is nothing
    out-more : (r : Option ℕ) (a : Bool) → has_number r gone ≡ a → (b : Bool) → has_number r (n ∷ []) ≡ b
        → (x : Option Event) → slot_at table r ≡ x → cond a None x ≡ cond (a || b) None x
    out-more r true h b k x at = refl
    out-more r false h false k x at = refl
    out-more None false h true k x at = absurd (true≢false (sym k))
    out-more (Some m) false h true k x at =
        let number : m ≡ n = eqb-true m n (sym (or-false (eqb m n)) ∙ k) in
        sym at ∙ ap (λ b. cond b None (value_at table m)) (sym h) ∙ sym (taking.slots m) ∙ ap (value_at tab) number
        ∙ none

    in-more : (r : Option ℕ) (a : Bool) → has_number r gone ≡ a → (b : Bool) → has_number r (n ∷ []) ≡ b
        → (x : Option Event) → slot_at table r ≡ x → cond a x None ≡ cond (a || b) x None
    in-more r true h b k x at = refl
    in-more r false h false k x at = refl
    in-more None false h true k x at = absurd (true≢false (sym k))
    in-more (Some m) false h true k x at =
        let number : m ≡ n = eqb-true m n (sym (or-false (eqb m n)) ∙ k) in
        sym (sym at ∙ ap (λ b. cond b None (value_at table m)) (sym h) ∙ sym (taking.slots m) ∙ ap (value_at tab) number
        ∙ none)

    none-by : (m : ℕ) (b : Bool) → eqb m n ≡ b
        → value_at tab m ≡ cond (eqb m n) None (cond (is_among m gone) None (value_at table m))
    none-by m true is =
        ap (value_at tab) (eqb-true m n is) ∙ none
        ∙ sym (ap (λ b. cond b None (cond (is_among m gone) None (value_at table m))) is)
    none-by m false apart =
        taking.slots m ∙ sym (ap (λ b. cond b None (cond (is_among m gone) None (value_at table m))) apart)

    none-slots : (m : ℕ) → value_at tab m ≡ cond (is_among m (gone ++ n ∷ [])) None (value_at table m)
    none-slots m =
        none-by m (eqb m n) refl
        ∙ out-either (is_among m gone) (eqb m n) (value_at table m)
        ∙ ap (λ b. cond b None (value_at table m))
        (sym (among-push m n gone ∙ ap (λ b. is_among m gone || b) (or-false (eqb m n))))

    pub taking-none : IsTaking (gone ++ n ∷ []) numbers table now tab es
    taking-none = record {
      origin = taking.origin;
      linked = taking.linked;
      slots = none-slots;
      kept =
          λ q. taking.kept q
          ∙ out-more (number_at q numbers) (has_number (number_at q numbers) gone) refl
          (has_number (number_at q numbers) (n ∷ [])) refl (event_of q numbers table) refl
          ∙ ap (λ b. cond b None (event_of q numbers table)) (sym (has-push (number_at q numbers) n gone));
      taken = record {
        rising = taking.taken.rising;
        taken =
            λ q. taking.taken.taken q
            ∙ in-more (number_at q numbers) (has_number (number_at q numbers) gone) refl
            (has_number (number_at q numbers) (n ∷ [])) refl (event_of q numbers table) refl
            ∙ ap (λ b. cond b (event_of q numbers table) None) (sym (has-push (number_at q numbers) n gone));
      };
    }

has-none : (r : Option ℕ) → has_number r [] ≡ false
has-none None = refl
has-none (Some m) = refl

-- nothing is taken out at first
pub taking-start : (numbers : Numbers) (table : List (Option Event)) (es : List Event) → es ≡ []
    → IsLinked numbers table → IsTaking [] numbers table numbers table es
taking-start numbers table es none linked = record {
  origin = linked;
  linked = linked;
  slots = λ m. refl;
  kept = λ q. sym (ap (λ b. cond b None (event_of q numbers table)) (has-none (number_at q numbers)));
  taken = record {
    rising = subst (IsStrictlySortedBy index_key_cmp) (sym none) nothing_rises;
    taken =
        λ q.
        ap (find_key q) none ∙ sym (ap (λ b. cond b (event_of q numbers table) None) (has-none (number_at q numbers)));
  };
}
