-- One more key to keep adds its attribute, where none of that key was kept.
use Rattle.std.proofs.Common.{◌≡◌, ℕ, Bool, true, false, not, ◌&&◌, ◌||◌, cond, List, [], ◌∷◌, ◌++◌, Option, Some, None}
use Rattle.std.proofs.Common.{is_some, refl, sym, ap, ◌∙◌}
use Rattle.std.specs.Prelude.{option_map, option_to_list}
use Rattle.std.specs.List.{filter, filter_map, cons_option}
use Rattle.std.specs.Str.{bytes_eq}
use Rattle.std.specs.Cmp.Lexicographic.{nat_list_eq_equiv}
use Rattle.std.proofs.lemmas.List.{append-nil}
use Rattle.std.proofs.lemmas.List.Elements.{filter-append, filter_map-append}
use Rattle.std.proofs.lemmas.Slice.Eq.{bytes_eq-Decides}
use Rattle.ev_types.specs.declared.event.Event.{Event}
use Rattle.ev_types.specs.declared.event.Attr.{Attr}
use Rattle.ev_types.specs.declared.settings.KeepKey.{KeepKey}
use Rattle.ev_types.specs.Field.{attribute_text}
use Rattle.ev_types.specs.Set.{has_text}
use Rattle.ev_types.specs.Rebirth.{each_once, kept_attribute, kept_attributes, attribute_key, has_key, with_kept}
use Rattle.ev_types.specs.Rebirth.{with_key}

abbrev without : List ℕ → List (List ℕ) → List (List ℕ)
without text = filter (λ other. not (bytes_eq other text))

-- of a list without the last text (h) or with it, where the first one is that text (t)
once_step : (h t : Bool) (text last : List ℕ) (rest : List (List ℕ)) → bytes_eq last text ≡ t →
    text ∷ without text (cond h rest (rest ++ last ∷ []))
    ≡ cond (t || h) (text ∷ without text rest) (text ∷ (without text rest ++ last ∷ []))
once_step true true text last rest e = refl
once_step true false text last rest e = refl
once_step false true text last rest e =
    ap (λ l. text ∷ l) (filter-append (λ other. not (bytes_eq other text)) rest (last ∷ [])
    ∙ ap (λ b. without text rest ++ cond (not b) (last ∷ []) []) e ∙ append-nil (without text rest))
once_step false false text last rest e =
    ap (λ l. text ∷ l) (filter-append (λ other. not (bytes_eq other text)) rest (last ∷ [])
    ∙ ap (λ b. without text rest ++ cond (not b) (last ∷ []) []) e)

each_once-append : (texts : List (List ℕ)) (last : List ℕ)
    → each_once (texts ++ last ∷ []) ≡ cond (has_text last texts) (each_once texts) (each_once texts ++ last ∷ [])
each_once-append [] last = refl
each_once-append (text ∷ texts) last =
    ap (λ l. text ∷ without text l) (each_once-append texts last)
    ∙ once_step (has_text last texts) (bytes_eq text last) text last (each_once texts)
    (nat_list_eq_equiv.symm last text)

-- a text that is not the one left out (t) is there as before
left_step : (s t : Bool) (text wanted other : List ℕ) (rest : List (List ℕ)) → bytes_eq other wanted ≡ s →
    bytes_eq other text ≡ t → bytes_eq text wanted ≡ false →
    has_text wanted (without text rest) ≡ has_text wanted rest →
    has_text wanted (cond (not t) (other ∷ without text rest) (without text rest)) ≡ s || has_text wanted rest
left_step s false text wanted other rest e f g ih =
    ap (λ b. b || has_text wanted (without text rest)) e ∙ ap (λ b. s || b) ih
left_step false true text wanted other rest e f g ih = ih
left_step true true text wanted other rest e f g ih = cc (sym g, nat_list_eq_equiv.congr other text wanted f, e)

has_text-without : (text wanted : List ℕ) (texts : List (List ℕ)) → bytes_eq text wanted ≡ false
    → has_text wanted (without text texts) ≡ has_text wanted texts
has_text-without text wanted [] g = refl
has_text-without text wanted (other ∷ rest) g =
    left_step (bytes_eq other wanted) (bytes_eq other text) text wanted other rest refl refl g
    (has_text-without text wanted rest g)

there_step : (t : Bool) (text wanted : List ℕ) (once texts : List (List ℕ)) → bytes_eq text wanted ≡ t →
    has_text wanted once ≡ has_text wanted texts →
    t || has_text wanted (without text once) ≡ t || has_text wanted texts
there_step true text wanted once texts e ih = refl
there_step false text wanted once texts e ih = has_text-without text wanted once e ∙ ih

has_text-each_once : (wanted : List ℕ) (texts : List (List ℕ))
    → has_text wanted (each_once texts) ≡ has_text wanted texts
has_text-each_once wanted [] = refl
has_text-each_once wanted (text ∷ texts) =
    there_step (bytes_eq text wanted) text wanted (each_once texts) texts refl (has_text-each_once wanted texts)

and_false : (b : Bool) → b && false ≡ false
and_false true = refl
and_false false = refl

-- whether the event has a value under the key
abbrev has_value : Event → List ℕ → Bool
has_value event key = is_some (attribute_text key event.attributes)

-- of a text that is the key or not (t), under which the event holds something or nothing (held)
kept_step : (t : Bool) (held : Option (List ℕ)) (event : Event) (text key : List ℕ) (rest : List (List ℕ)) →
    attribute_text text event.attributes ≡ held → bytes_eq text key ≡ t →
    has_key key (filter_map (kept_attribute event) rest) ≡ has_text key rest && has_value event key →
    has_key key (cons_option (option_map (λ value. record { key = text; value = Some value }) held)
    (filter_map (kept_attribute event) rest))
    ≡ (t || has_text key rest) && has_value event key
kept_step false None event text key rest e f ih = ih
kept_step false (Some value) event text key rest e f ih =
    ap (λ b. b || has_key key (filter_map (kept_attribute event) rest)) f ∙ ih
kept_step true None event text key rest e f ih =
    let same : text ≡ key = (bytes_eq-Decides text key).0 f in
    let nothing : has_value event key ≡ false = ap (has_value event) (sym same) ∙ ap is_some e in
    ih ∙ ap (λ b. has_text key rest && b) nothing ∙ and_false (has_text key rest) ∙ sym nothing
kept_step true (Some value) event text key rest e f ih =
    let same : text ≡ key = (bytes_eq-Decides text key).0 f in
    ap (λ b. b || has_key key (filter_map (kept_attribute event) rest)) f
    ∙ sym (ap (has_value event) (sym same) ∙ ap is_some e)

has_key-kept : (event : Event) (key : List ℕ) (texts : List (List ℕ))
    → has_key key (filter_map (kept_attribute event) texts) ≡ has_text key texts && has_value event key
has_key-kept event key [] = refl
has_key-kept event key (text ∷ rest) =
    kept_step (bytes_eq text key) (attribute_text text event.attributes) event text key rest refl refl
    (has_key-kept event key rest)

-- of a key that was named before (h), under which the event holds something or nothing (held)
more_step : (h : Bool) (held : Option (List ℕ)) (event : Event) (key : List ℕ) (once : List (List ℕ)) →
    let kept : Option (List ℕ) → List Attr =
    λ held. option_to_list (option_map (λ value. record { key = key; value = Some value }) held) in
    cond (h && is_some held) (filter_map (kept_attribute event) once)
    (filter_map (kept_attribute event) once ++ kept held)
    ≡ cond h (filter_map (kept_attribute event) once) (filter_map (kept_attribute event) once ++ kept held)
more_step true None event key once = append-nil (filter_map (kept_attribute event) once)
more_step true (Some value) event key once = refl
more_step false held event key once = refl

filter_map-cond : (h : Bool) (event : Event) (once more : List (List ℕ))
    → filter_map (kept_attribute event) (cond h once more)
    ≡ cond h (filter_map (kept_attribute event) once) (filter_map (kept_attribute event) more)
filter_map-cond true event once more = refl
filter_map-cond false event once more = refl

cons_to_list : (event : Event) (key : List ℕ) (held : Option Attr) → cons_option held [] ≡ option_to_list held
cons_to_list event key None = refl
cons_to_list event key (Some attribute) = refl

with_kept-more : (event : Event) (key : List ℕ) (texts : List (List ℕ)) →
    with_kept event key (filter_map (kept_attribute event) (each_once texts))
    ≡ filter_map (kept_attribute event) (each_once (texts ++ key ∷ []))
with_kept-more event key texts =
    let once : List (List ℕ) = each_once texts in
    let kept : List Attr = filter_map (kept_attribute event) once in
    let added : List Attr = kept ++ option_to_list (kept_attribute event key) in
    ap (λ b. cond b kept added)
    (has_key-kept event key once ∙ ap (λ b. b && has_value event key) (has_text-each_once key texts))
    ∙ more_step (has_text key texts) (attribute_text key event.attributes) event key once
    ∙ ap (cond (has_text key texts) kept)
    (ap (λ l. kept ++ l) (sym (cons_to_list event key (kept_attribute event key)))
    ∙ sym (filter_map-append (kept_attribute event) once (key ∷ [])))
    ∙ sym (filter_map-cond (has_text key texts) event once (once ++ key ∷ []))
    ∙ ap (filter_map (kept_attribute event)) (sym (each_once-append texts key))

named_step : (named : Option (List ℕ)) (event : Event) (texts : List (List ℕ)) →
    with_key event named (filter_map (kept_attribute event) (each_once texts))
    ≡ filter_map (kept_attribute event) (each_once (texts ++ cons_option named []))
named_step None event texts = ap (λ l. filter_map (kept_attribute event) (each_once l)) (sym (append-nil texts))
named_step (Some key) event texts = with_kept-more event key texts

pub kept_attributes-append : (event : Event) (keep : List KeepKey) (last : KeepKey)
    → with_key event (attribute_key last) (kept_attributes keep event) ≡ kept_attributes (keep ++ last ∷ []) event
kept_attributes-append event keep last =
    named_step (attribute_key last) event (filter_map attribute_key keep)
    ∙ ap (λ l. filter_map (kept_attribute event) (each_once l)) (sym (filter_map-append attribute_key keep (last ∷ [])))
