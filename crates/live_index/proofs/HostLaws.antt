-- The events of one host that pass a test are all that pass it, where the test passes events of this host alone.
use Rattle.std.proofs.Common.{◌≡◌, ℕ, ℤ, suc, Bool, true, false, cond, List, [], ◌∷◌, filter, length, Option, None}
use Rattle.std.proofs.Common.{Some, IfSome, refl, sym, ap, ◌∙◌}
use mathlib.Core.Bool.{true≢false}
use Rattle.std.specs.Ordering.{is_eq}
use Rattle.std.specs.Option.{option_map}
use Rattle.std.specs.Map.{values_of}
use Rattle.std.specs.List.{AllByRecursion}
use Rattle.std.specs.BTreeMap.{is_at}
use Rattle.std.specs.Bool.{Decides}
use Rattle.std.proofs.lemmas.Bool.Decides.{same_from_decides}
use Rattle.std.proofs.lemmas.Cmp.{tied_itself}
use Rattle.std.proofs.lemmas.List.Elements.{All-from_recursion}
use Rattle.ev_types.specs.declared.event.Event.{Event}
use Rattle.ev_types.specs.declared.value.Value.{Value}
use Rattle.ev_types.specs.declared.value.Value.TheVariants.{Nil, Number, Text}
use Rattle.ev_types.specs.Field.{text_value}
use Rattle.ev_types.specs.Value.{same_value}
use Rattle.ev_types.proofs.Values.{same_value_decides}
use Rattle.index_log.specs.IndexKey.{text_cmp}
use Rattle.key_map.specs.Keys.{IndexKey, Numbers, of_host}
use Rattle.key_map.proofs.ServiceLaws.{text_total}
use Rattle.linked_slots.specs.Table.{value_at, IsLive}
use Rattle.live_index.specs.Index.{is_of_value, of_value}
use Rattle.live_index.specs.Slots.{key_of, also, events_at, events_in, is_of_host, numbers_of_value, AreLive, IsLinked}
use Rattle.live_index.proofs.CopyLaws.{all_live, live_among}
use Rattle.live_index.proofs.LinkLaws.{equal-is, exact-text}
use Rattle.live_index.proofs.RowLaws.{HasKey, all_found, length-events, length-values}

module _ (h : Option (List ℕ)) (p : Event → Bool) (only : (e : Event) → p e ≡ true → e.host ≡ h) where
  -- an event of another host does not pass
  not-passed : (e : Event) → is_at (text_cmp h) e.host ≡ false → (b : Bool) → p e ≡ b → p e ≡ false
  not-passed e off true is =
      absurd
      (true≢false (sym (ap (λ host. is_at (text_cmp h) host) (only e is) ∙ ap is_eq (tied_itself text_total h)) ∙ off))
  not-passed e off false is = is

  host-also : (slot : Option Event) (entry : IndexKey × ℕ) (table : List (Option Event)) (rest : Numbers)
      → value_at table entry.1 ≡ slot → option_map key_of slot ≡ Some entry.0
      → filter p (events_at table (values_of (of_host h rest))) ≡ filter p (events_in rest table) → (t : Bool)
      → is_at (text_cmp h) (entry.0).0 ≡ t
      → filter p (events_at table (values_of (cond t (entry ∷ of_host h rest) (of_host h rest))))
      ≡ filter p (also slot (events_in rest table))
  host-also None entry table rest at key ih t is = absurd (cc)
  host-also (Some e) entry table rest at key ih true is =
      ap (λ slot. filter p (also slot (events_at table (values_of (of_host h rest))))) at
      ∙ ap (λ r. cond (p e) (e ∷ r) r) ih
  host-also (Some e) entry table rest at key ih false off =
      let keys : key_of e ≡ entry.0 = cc in
      let host : is_at (text_cmp h) e.host ≡ false = ap (λ (k : IndexKey). is_at (text_cmp h) k.0) keys ∙ off in
      ih
      ∙ sym (ap (λ b. cond b (e ∷ filter p (events_in rest table)) (filter p (events_in rest table)))
      (not-passed e host (p e) refl))

  host-rest : (table : List (Option Event)) (rest : Numbers) → AllByRecursion (HasKey table) rest
      → filter p (events_at table (values_of (of_host h rest))) ≡ filter p (events_in rest table)
  host-rest table [] all = refl
  host-rest table (entry ∷ rest) all =
      host-also (value_at table entry.1) entry table rest refl all.0 (host-rest table rest all.1)
      (is_at (text_cmp h) (entry.0).0) refl

  pub host-search : (numbers : Numbers) (table : List (Option Event)) → IsLinked numbers table
      → filter p (events_at table (values_of (of_host h numbers))) ≡ filter p (events_in numbers table)
  host-search numbers table linked = host-rest table numbers (all_found numbers table linked)

-- ---- how many there are

count-also : (h : Option (List ℕ)) (slot : Option Event) (entry : IndexKey × ℕ) (rest : Numbers) (es : List Event)
    → option_map key_of slot ≡ Some entry.0
    → length (of_host h rest) ≡ length (filter (is_of_host h) es)
    → length (cond (is_at (text_cmp h) (entry.0).0) (entry ∷ of_host h rest) (of_host h rest))
    ≡ length (filter (is_of_host h) (also slot es))
count-also h None entry rest es key ih = absurd (cc)
count-also h (Some e) entry rest es key ih =
    let keys : key_of e ≡ entry.0 = cc in
    ap (λ (k : IndexKey). length (cond (is_at (text_cmp h) k.0) (entry ∷ of_host h rest) (of_host h rest))) (sym keys)
    ∙ count_by (is_at (text_cmp h) e.host)
  where
    count_by : (t : Bool)
        → length (cond t (entry ∷ of_host h rest) (of_host h rest))
        ≡ length (cond t (e ∷ filter (is_of_host h) es) (filter (is_of_host h) es))
    count_by true = ap suc ih
    count_by false = ih

count-rest : (h : Option (List ℕ)) (table : List (Option Event)) (rest : Numbers) → AllByRecursion (HasKey table) rest
    → length (of_host h rest) ≡ length (filter (is_of_host h) (events_in rest table))
count-rest h table [] all = refl
count-rest h table (entry ∷ rest) all =
    count-also h (value_at table entry.1) entry rest (events_in rest table) all.0 (count-rest h table rest all.1)

pub host-count : (h : Option (List ℕ)) (numbers : Numbers) (table : List (Option Event)) → IsLinked numbers table
    → length (of_host h numbers) ≡ length (filter (is_of_host h) (events_in numbers table))
host-count h numbers table linked = count-rest h table numbers (all_found numbers table linked)

-- ---- the host that a value is

text_value-one : (a b : Option (List ℕ)) → text_value a ≡ text_value b → a ≡ b
text_value-one None None e = refl
text_value-one None (Some t) e = absurd (cc)
text_value-one (Some s) None e = absurd (cc)
text_value-one (Some s) (Some t) e = let same : s ≡ t = cc in ap Some same

-- no host is a number
no_number : (host : Option (List ℕ)) (n : ℤ) (b : Bool) → same_value (text_value host) (Number n) ≡ b → b ≡ false
no_number host n false h = refl
no_number host n true h = not_text host ((same_value_decides (text_value host) (Number n)).0 h)
  where
    not_text : (host : Option (List ℕ)) → text_value host ≡ Number n → true ≡ false
    not_text None e = absurd (cc)
    not_text (Some t) e = absurd (cc)

by_host : (h : Option (List ℕ)) (e : Event) → Decides (is_of_host h e) (e.host ≡ h)
by_host h e = (
  λ met. sym (exact-text h e.host (equal-is (text_cmp h e.host) met)),
  λ same. ap (is_at (text_cmp h)) same ∙ ap is_eq (tied_itself text_total h),
)

by_value : (h : Option (List ℕ)) (e : Event) → Decides (is_of_value (text_value h) e) (e.host ≡ h)
by_value h e = (
  λ met. text_value-one e.host h ((same_value_decides (text_value e.host) (text_value h)).0 met),
  λ same. (same_value_decides (text_value e.host) (text_value h)).1 (ap text_value same),
)

host-is : (h : Option (List ℕ)) (e : Event) → is_of_host h e ≡ is_of_value (text_value h) e
host-is h e = same_from_decides (is_of_host h e) (is_of_value (text_value h) e) (by_host h e) (by_value h e)

-- nothing passes
none-pass : (p : Event → Bool) → ((e : Event) → p e ≡ false) → (es : List Event) → filter p es ≡ []
none-pass p fails [] = refl
none-pass p fails (e ∷ es) = ap (λ b. cond b (e ∷ filter p es) (filter p es)) (fails e) ∙ none-pass p fails es

-- each event that passes has the host that is the value, where there is one
abbrev pub AllNeed : (Event → Bool) → Option Value → Type 0
AllNeed p asked = IfSome asked (λ value. (e : Event) → p e ≡ true → same_value (text_value e.host) value ≡ true)

number-fails : (p : Event → Bool) (n : ℤ) → AllNeed p (Some (Number n)) → (e : Event) → p e ≡ false
number-fails p n need e = fails (p e) refl
  where
    fails : (b : Bool) → p e ≡ b → p e ≡ false
    fails true is = absurd (true≢false (no_number e.host n true (need e is)))
    fails false is = is

module _ (numbers : Numbers) (table : List (Option Event)) (linked : IsLinked numbers table) where
  pub asked-search : (p : Event → Bool) (asked : Option Value) → AllNeed p asked
      → filter p (events_at table (values_of (numbers_of_value asked numbers))) ≡ filter p (events_in numbers table)
  asked-search p None need = refl
  asked-search p (Some Nil) need = host-search None p (λ e met. (by_value None e).0 (need e met)) numbers table linked
  asked-search p (Some (Number n)) need = sym (none-pass p (number-fails p n need) (events_in numbers table))
  asked-search p (Some (Text t)) need =
      host-search (Some t) p (λ e met. (by_value (Some t) e).0 (need e met)) numbers table linked

  host-visits : (h : Option (List ℕ))
      → length (values_of (of_host h numbers)) ≡ length (filter (is_of_value (text_value h)) (events_in numbers table))
  host-visits h =
      length-values (of_host h numbers) ∙ host-count h numbers table linked
      ∙ (λ i. length (filter (λ e. host-is h e i) (events_in numbers table)))

  asked-visits : (asked : Option Value)
      → length (values_of (numbers_of_value asked numbers)) ≡ length (of_value asked (events_in numbers table))
  asked-visits None = length-values numbers ∙ sym (length-events numbers table linked)
  asked-visits (Some Nil) = host-visits None
  asked-visits (Some (Number n)) =
      sym (ap length (none-pass (is_of_value (Number n)) (λ e. no_number e.host n (is_of_value (Number n) e) refl)
      (events_in numbers table)))
  asked-visits (Some (Text t)) = host-visits (Some t)

  pub asked-count : (asked : Option Value) (numbers' : List ℕ) → numbers' ≡ values_of (numbers_of_value asked numbers)
      → length numbers' ≡ length (of_value asked (events_in numbers table))
  asked-count asked numbers' is = ap length is ∙ asked-visits asked

  pub asked-live : (asked : Option Value) → AreLive table (values_of (numbers_of_value asked numbers))
  asked-live None = all_live numbers table linked
  asked-live (Some Nil) = live_among (λ entry. is_at (text_cmp None) (entry.0).0) numbers table linked
  asked-live (Some (Number n)) = All-from_recursion (IsLive table) [] tt
  asked-live (Some (Text t)) = live_among (λ entry. is_at (text_cmp (Some t)) (entry.0).0) numbers table linked
