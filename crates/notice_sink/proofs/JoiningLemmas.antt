-- How parts are joined with single spaces between them.
use Rattle.std.proofs.Common.{◌≡◌, ℕ, ◌+◌, ◌<◌, List, [], ◌∷◌, ◌++◌, length, map, take, get_or, codes, decimal, refl}
use Rattle.std.proofs.Common.{sym, ◌∙◌, ap, append_assoc, append-nil, length-append, arith}
use Rattle.std.specs.List.{flat_map, join_with_byte}
use Rattle.std.proofs.lemmas.List.{take_more}
use Rattle.std.proofs.lemmas.List.Concat.{flat_map-append}
use Rattle.std.proofs.Math.Seq.{take-length}
use Rattle.ev_types.specs.declared.event.Attr.{Attr}
use Rattle.ev_types.specs.declared.event.Event.{Event}
use Rattle.ev_types.specs.declared.item.Notice.{Notice}
use Rattle.notice_sink.specs.Joining.{ended, led}
use Rattle.notice_sink.specs.Lines.{attribute_text, event_text, first_parts, item_text, last_parts, notice_line}
use Rattle.notice_sink.specs.Lines.{tags_part, time_text}
use Rattle.notice_sink.specs.Quoting.{quoted}

join_led : (first : List ℕ) (rest : List (List ℕ)) → join_with_byte 32 (first ∷ rest) ≡ first ++ led rest
join_led first [] = sym (append-nil first)
join_led first (next ∷ rest) = ap (λ xs. first ++ (32 ∷ xs)) (join_led next rest)

join_more : (first : List ℕ) (parts : List (List ℕ)) (middle : List ℕ) (rest : List (List ℕ))
    → join_with_byte 32 (first ∷ (parts ++ middle ∷ rest)) ≡ first ++ (32 ∷ join_with_byte 32 (parts ++ middle ∷ rest))
join_more first [] middle rest = refl
join_more first (part ∷ parts) middle rest = refl

join_ended : (parts : List (List ℕ)) (middle : List ℕ) (rest : List (List ℕ))
    → join_with_byte 32 (parts ++ middle ∷ rest) ≡ ended parts ++ (middle ++ led rest)
join_ended [] middle rest = join_led middle rest
join_ended (part ∷ parts) middle rest =
    join_more part parts middle rest
    ∙ (ap (λ xs. part ++ (32 ∷ xs)) (join_ended parts middle rest)
    ∙ (sym (append_assoc part (32 ∷ []) (ended parts ++ (middle ++ led rest)))
    ∙ sym (append_assoc (part ++ 32 ∷ []) (ended parts) (middle ++ led rest))))

pub event_written : (out : List ℕ) (event : Event)
    → ((((out ++ 123 ∷ []) ++ ended (first_parts event)) ++ time_text event) ++ led (last_parts event)) ++ 125 ∷ []
    ≡ out ++ event_text event
event_written out event =
    let a = ended (first_parts event) in
    let t = time_text event in
    let b = led (last_parts event) in
    append_assoc (((out ++ 123 ∷ []) ++ a) ++ t) b (125 ∷ [])
    ∙ (append_assoc ((out ++ 123 ∷ []) ++ a) t (b ++ 125 ∷ [])
    ∙ (append_assoc (out ++ 123 ∷ []) a (t ++ (b ++ 125 ∷ []))
    ∙ (append_assoc out (123 ∷ []) (a ++ (t ++ (b ++ 125 ∷ [])))
    ∙ ap (λ xs. out ++ (123 ∷ xs))
    (ap (λ xs. a ++ xs) (sym (append_assoc t b (125 ∷ [])))
    ∙ (sym (append_assoc a (t ++ b) (125 ∷ []))
    ∙ ap (λ xs. xs ++ 125 ∷ []) (sym (join_ended (first_parts event) t (last_parts event))))))))

four : (f : List ℕ → List ℕ) (out : List ℕ) (a b c d : List (List ℕ))
    → (((out ++ flat_map f a) ++ flat_map f b) ++ flat_map f c) ++ flat_map f d
    ≡ out ++ flat_map f (a ++ (b ++ (c ++ d)))
four f out a b c d =
    append_assoc ((out ++ flat_map f a) ++ flat_map f b) (flat_map f c) (flat_map f d)
    ∙ (append_assoc (out ++ flat_map f a) (flat_map f b) (flat_map f c ++ flat_map f d)
    ∙ (append_assoc out (flat_map f a) (flat_map f b ++ (flat_map f c ++ flat_map f d))
    ∙ ap (λ xs. out ++ xs)
    (ap (λ xs. flat_map f a ++ (flat_map f b ++ xs)) (sym (flat_map-append f c d))
    ∙ (ap (λ xs. flat_map f a ++ xs) (sym (flat_map-append f b (c ++ d)))
    ∙ sym (flat_map-append f a (b ++ (c ++ d)))))))

pub ended_four : (out : List ℕ) (a b c d : List (List ℕ))
    → (((out ++ ended a) ++ ended b) ++ ended c) ++ ended d ≡ out ++ ended (a ++ (b ++ (c ++ d)))
ended_four out a b c d = four (λ part. part ++ 32 ∷ []) out a b c d

pub led_four : (out : List ℕ) (a b c d : List (List ℕ))
    → (((out ++ led a) ++ led b) ++ led c) ++ led d ≡ out ++ led (a ++ (b ++ (c ++ d)))
led_four out a b c d = four (λ part. 32 ∷ part) out a b c d

pub events_written : (out : List ℕ) (first : Event) (rest : List Event)
    → (out ++ event_text first) ++ led (map event_text rest) ≡ out ++ join_with_byte 32 (map event_text (first ∷ rest))
events_written out first rest =
    append_assoc out (event_text first) (led (map event_text rest))
    ∙ ap (λ xs. out ++ xs) (sym (join_led (event_text first) (map event_text rest)))

pub tags_written : (out tag : List ℕ) (tags : List (List ℕ))
    → (((out ++ codes " tags=[") ++ quoted tag) ++ led (map quoted tags)) ++ 93 ∷ []
    ≡ out ++ led (tags_part (tag ∷ tags))
tags_written out tag tags =
    let b = led (map quoted tags) in
    append_assoc ((out ++ codes " tags=[") ++ quoted tag) b (93 ∷ [])
    ∙ (append_assoc (out ++ codes " tags=[") (quoted tag) (b ++ 93 ∷ [])
    ∙ (append_assoc out (codes " tags=[") (quoted tag ++ (b ++ 93 ∷ []))
    ∙ ap (λ xs. out ++ xs)
    (ap (λ xs. codes " tags=[" ++ xs) (sym (append_assoc (quoted tag) b (93 ∷ [])))
    ∙ (ap (λ xs. codes " tags=[" ++ (xs ++ 93 ∷ [])) (sym (join_led (quoted tag) (map quoted tags)))
    ∙ sym (append-nil (32 ∷ (codes "tags=[" ++ (join_with_byte 32 (map quoted (tag ∷ tags)) ++ 93 ∷ []))))))))

map_append : {A : Type 0} (f : A → List ℕ) (xs ys : List A) → map f (xs ++ ys) ≡ map f xs ++ map f ys
map_append f [] ys = refl
map_append f (x ∷ xs) ys = ap (λ zs. f x ∷ zs) (map_append f xs ys)

step : {A : Type 0} (f : A → List ℕ) (out : List ℕ) (xs : List A) (i : ℕ) (x : A) → i < length xs → x ≡ get_or xs i x
    → ((out ++ led (map f (take i xs))) ++ 32 ∷ []) ++ f x ≡ out ++ led (map f (take (i + 1) xs))
step f out xs i x below is =
    let so_far = led (map f (take i xs)) in
    let longer : take (i + 1) xs ≡ take i xs ++ x ∷ [] =
    take_more xs i x below ∙ ap (λ y. take i xs ++ y ∷ []) (sym is) in
    append_assoc (out ++ so_far) (32 ∷ []) (f x)
    ∙ (append_assoc out so_far (32 ∷ f x)
    ∙ ap (λ ys. out ++ ys)
    (ap (λ ys. so_far ++ ys) (sym (append-nil (32 ∷ f x)))
    ∙ (sym (flat_map-append (λ part. 32 ∷ part) (map f (take i xs)) (f x ∷ []))
    ∙ ap led (sym (map_append f (take i xs) (x ∷ [])) ∙ ap (map f) (sym longer)))))

pub events_step : (out : List ℕ) (events : List Event) (i : ℕ) (event : Event) → i < length events
    → event ≡ get_or events i event
    → ((out ++ led (map event_text (take i events))) ++ 32 ∷ []) ++ event_text event
    ≡ out ++ led (map event_text (take (i + 1) events))
events_step = step event_text

pub events_all : (events : List Event)
    → led (map event_text (take (length events) events)) ≡ led (map event_text events)
events_all events = ap (λ xs. led (map event_text xs)) (take-length events)

pub tags_step : (out : List ℕ) (tags : List (List ℕ)) (i : ℕ) (tag : List ℕ) → i < length tags → tag ≡ get_or tags i tag
    → ((out ++ led (map quoted (take i tags))) ++ 32 ∷ []) ++ quoted tag ≡ out ++ led (map quoted (take (i + 1) tags))
tags_step = step quoted

pub tags_all : (tags : List (List ℕ)) → led (map quoted (take (length tags) tags)) ≡ led (map quoted tags)
tags_all tags = ap (λ xs. led (map quoted xs)) (take-length tags)

pub attributes_step : (out : List ℕ) (attributes : List Attr) (i : ℕ) (attribute : Attr) → i < length attributes
    → attribute ≡ get_or attributes i attribute
    → ((out ++ led (map attribute_text (take i attributes))) ++ 32 ∷ []) ++ attribute_text attribute
    ≡ out ++ led (map attribute_text (take (i + 1) attributes))
attributes_step = step attribute_text

pub attributes_all : (attributes : List Attr)
    → led (map attribute_text (take (length attributes) attributes)) ≡ led (map attribute_text attributes)
attributes_all attributes = ap (λ xs. led (map attribute_text xs)) (take-length attributes)

pub line_written : (out : List ℕ) (notice : Notice)
    → (((((out ++ decimal notice.moment) ++ 32 ∷ []) ++ quoted notice.name) ++ 32 ∷ []) ++ item_text notice.item) ++ 10
    ∷ []
    ≡ out ++ notice_line notice
line_written out notice =
    let d = decimal notice.moment in
    let q = quoted notice.name in
    let t = item_text notice.item in
    append_assoc ((((out ++ d) ++ 32 ∷ []) ++ q) ++ 32 ∷ []) t (10 ∷ [])
    ∙ (append_assoc (((out ++ d) ++ 32 ∷ []) ++ q) (32 ∷ []) (t ++ 10 ∷ [])
    ∙ (append_assoc ((out ++ d) ++ 32 ∷ []) q (32 ∷ (t ++ 10 ∷ []))
    ∙ (append_assoc (out ++ d) (32 ∷ []) (q ++ (32 ∷ (t ++ 10 ∷ [])))
    ∙ append_assoc out d (32 ∷ (q ++ (32 ∷ (t ++ 10 ∷ [])))))))

pub line_is_some : (notice : Notice) → 0 < length (notice_line notice)
line_is_some notice =
    let d = decimal notice.moment in
    omega (arith, length-append d (32 ∷ (quoted notice.name ++ (32 ∷ (item_text notice.item ++ 10 ∷ [])))))

pub number_written : (out name digits : List ℕ) → (out ++ (32 ∷ name)) ++ digits ≡ out ++ led ((name ++ digits) ∷ [])
number_written out name digits =
    append_assoc out (32 ∷ name) digits ∙ ap (λ xs. out ++ xs) (sym (append-nil (32 ∷ (name ++ digits))))

pub number_led : (out name digits : List ℕ) → out ++ ((32 ∷ name) ++ digits) ≡ out ++ led ((name ++ digits) ∷ [])
number_led out name digits = ap (λ xs. out ++ xs) (sym (append-nil (32 ∷ (name ++ digits))))

pub text_written : (out name text : List ℕ)
    → ((out ++ name) ++ quoted text) ++ 32 ∷ [] ≡ out ++ ended ((name ++ quoted text) ∷ [])
text_written out name text =
    ap (λ xs. xs ++ 32 ∷ []) (append_assoc out name (quoted text))
    ∙ (append_assoc out (name ++ quoted text) (32 ∷ [])
    ∙ ap (λ xs. out ++ xs) (sym (append-nil ((name ++ quoted text) ++ 32 ∷ []))))
