-- The test of items decides whether they are equal.
use Rattle.std.proofs.Common.{◌≡◌, ℕ, ℤ, Bool, nat_eq, List, Option, ap, sym, subst, ◌∙◌, rules}
use Rattle.std.specs.Bool.{Decides}
use Rattle.std.specs.Cmp.Lexicographic.{pointwise, pointwise_decides}
use Rattle.std.specs.Option.{option_eq}
use Rattle.std.specs.Ordering.{int_eq}
use Rattle.std.specs.Str.{bytes_eq}
use Rattle.std.proofs.lemmas.Bool.{false≢true}
use Rattle.std.proofs.lemmas.Bool.Decides.{Decides-and, Decides-at, Decides-like}
use Rattle.ev_types.specs.declared.event.Attr.{Attr}
use Rattle.ev_types.specs.declared.event.Event.{Event}
use Rattle.ev_types.specs.declared.item.Item.{Item}
use Rattle.ev_types.specs.declared.item.Item.TheVariants.{One, Many}
use Rattle.stream_tests.specs.Same.{same_texts, same_times, same_metrics, same_attribute, same_event, same_item}

bytes : (a b : List ℕ) → Decides (bytes_eq a b) (a ≡ b)
bytes a b = search rules

texts : (a b : Option (List ℕ)) → Decides (option_eq bytes_eq a b) (a ≡ b)
texts a b = search rules

ints : (a b : Option ℤ) → Decides (option_eq int_eq a b) (a ≡ b)
ints a b = search rules

nats : (a b : Option ℕ) → Decides (option_eq nat_eq a b) (a ≡ b)
nats a b = search rules

int : (a b : ℤ) → Decides (int_eq a b) (a ≡ b)
int a b = search rules

-- ---- attributes

attribute_is : (a b : Attr) → (a.key ≡ b.key) × (a.value ≡ b.value) → a ≡ b
attribute_is a b parts = λ i. record { key = parts.0 i; value = parts.1 i }

attribute_parts : (a b : Attr) → a ≡ b → (a.key ≡ b.key) × (a.value ≡ b.value)
attribute_parts a b e = (ap (λ (x : Attr). x.key) e, ap (λ (x : Attr). x.value) e)

same_attribute_decides : (a b : Attr) → Decides (same_attribute a b) (a ≡ b)
same_attribute_decides a b =
    Decides-like (same_attribute a b) (attribute_is a b) (attribute_parts a b)
    (Decides-and (bytes_eq a.key b.key) (option_eq bytes_eq a.value b.value) (bytes a.key b.key)
    (texts a.value b.value))

-- ---- events

abbrev Texts : Event → Event → Type 0
Texts a b = (a.host ≡ b.host) × ((a.service ≡ b.service) × ((a.state ≡ b.state) × (a.description ≡ b.description)))

texts_decide : (a b : Event) → Decides (same_texts a b) (Texts a b)
texts_decide a b =
    Decides-and _ _ (texts a.host b.host)
    (Decides-and _ _ (texts a.service b.service)
    (Decides-and _ _ (texts a.state b.state) (texts a.description b.description)))

abbrev Times : Event → Event → Type 0
Times a b = (a.time ≡ b.time) × ((a.time_micros ≡ b.time_micros) × (a.ttl ≡ b.ttl))

times_decide : (a b : Event) → Decides (same_times a b) (Times a b)
times_decide a b =
    Decides-and _ _ (int a.time b.time) (Decides-and _ _ (ints a.time_micros b.time_micros) (nats a.ttl b.ttl))

abbrev Metrics : Event → Event → Type 0
Metrics a b = (a.metric ≡ b.metric) × ((a.raw_d ≡ b.raw_d) × (a.raw_f ≡ b.raw_f))

metrics_decide : (a b : Event) → Decides (same_metrics a b) (Metrics a b)
metrics_decide a b =
    Decides-and _ _ (ints a.metric b.metric) (Decides-and _ _ (nats a.raw_d b.raw_d) (nats a.raw_f b.raw_f))

abbrev Parts : Event → Event → Type 0
Parts a b = Texts a b × (Times a b × (Metrics a b × ((a.tags ≡ b.tags) × (a.attributes ≡ b.attributes))))

event_is : (a b : Event) → Parts a b → a ≡ b
event_is a b parts = λ i. record {
  host = parts.0.0 i;
  service = parts.0.1.0 i;
  state = parts.0.1.1.0 i;
  description = parts.0.1.1.1 i;
  tags = parts.1.1.1.0 i;
  time = parts.1.0.0 i;
  time_micros = parts.1.0.1.0 i;
  ttl = parts.1.0.1.1 i;
  metric = parts.1.1.0.0 i;
  raw_d = parts.1.1.0.1.0 i;
  raw_f = parts.1.1.0.1.1 i;
  attributes = parts.1.1.1.1 i;
}

event_parts : (a b : Event) → a ≡ b → Parts a b
event_parts a b e = (
  (
    ap (λ (x : Event). x.host) e,
    (ap (λ (x : Event). x.service) e, (ap (λ (x : Event). x.state) e, ap (λ (x : Event). x.description) e)),
  ),
  (
    (ap (λ (x : Event). x.time) e, (ap (λ (x : Event). x.time_micros) e, ap (λ (x : Event). x.ttl) e)),
    (
      (ap (λ (x : Event). x.metric) e, (ap (λ (x : Event). x.raw_d) e, ap (λ (x : Event). x.raw_f) e)),
      (ap (λ (x : Event). x.tags) e, ap (λ (x : Event). x.attributes) e),
    ),
  ),
)

same_event_decides : (a b : Event) → Decides (same_event a b) (a ≡ b)
same_event_decides a b =
    Decides-like (same_event a b) (event_is a b) (event_parts a b)
    (Decides-and (same_texts a b) _ (texts_decide a b)
    (Decides-and (same_times a b) _ (times_decide a b)
    (Decides-and (same_metrics a b) _ (metrics_decide a b)
    (Decides-and (pointwise bytes_eq a.tags b.tags) (pointwise same_attribute a.attributes b.attributes)
    (pointwise_decides bytes a.tags b.tags) (pointwise_decides same_attribute_decides a.attributes b.attributes)))))

-- ---- items

one_is : (a b : Event) → One a ≡ One b → a ≡ b
one_is a b e = cc

many_are : (a b : List Event) → Many a ≡ Many b → a ≡ b
many_are a b e = cc

pub same_item_decides : (a b : Item) → Decides (same_item a b) (a ≡ b)
same_item_decides (One a) (One b) = Decides-like (same_event a b) (λ e. ap One e) (one_is a b) (same_event_decides a b)
same_item_decides (Many a) (Many b) =
    Decides-like (pointwise same_event a b) (λ e. ap Many e) (many_are a b) (pointwise_decides same_event_decides a b)
same_item_decides (One a) (Many b) = (λ e. absurd (false≢true e), λ e. cc)
same_item_decides (Many a) (One b) = (λ e. absurd (false≢true e), λ e. cc)

-- ---- items of which it is known what they are

pub one_decides : (a b : Item) (x y : Event) (test : Bool) → a ≡ One x → b ≡ One y → test ≡ same_event x y
    → Decides test (a ≡ b)
one_decides a b x y test first second is =
    subst (λ (i : Item). Decides test (i ≡ b)) (sym first)
    (subst (λ (j : Item). Decides test (One x ≡ j)) (sym second)
    (Decides-at test (same_event x y) is (same_item_decides (One x) (One y))))

pub many_decides : (a b : Item) (x y lent borrowed : List Event) (test : Bool) → a ≡ Many x → b ≡ Many y → lent ≡ x
    → borrowed ≡ y → test ≡ pointwise same_event lent borrowed → Decides test (a ≡ b)
many_decides a b x y lent borrowed test first second from other is =
    subst (λ (i : Item). Decides test (i ≡ b)) (sym first) (subst (λ (j : Item). Decides test (Many x ≡ j)) (sym second)
    (Decides-at test (pointwise same_event x y)
    (is ∙ ap (λ (l : List Event). pointwise same_event l borrowed) from
    ∙ ap (λ (l : List Event). pointwise same_event x l) other)
    (same_item_decides (Many x) (Many y))))
