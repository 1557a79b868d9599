-- What the loops keep that look for a tag, or for the last attribute with a key, among those that are read.
use Rattle.std.proofs.Common.{◌≡◌, ℕ, ◌≤◌, Bool, true, false, ◌||◌, if◌then◌else◌, List, [], ◌∷◌, ◌++◌, length, Option}
use Rattle.std.proofs.Common.{Some, None, reverse, refl, sym, ap, ◌∙◌}
use Rattle.std.specs.List.{find, list_any}
use Rattle.std.specs.Option.{option_and_then}
use Rattle.std.specs.Str.{bytes_eq}
use Rattle.std.proofs.lemmas.List.{reverse-append}
use Rattle.std.proofs.lemmas.List.Folds.{list_any-append}
use Rattle.ev_types.specs.Field.{attribute_text}
use Rattle.ev_types.specs.declared.event.Attr.{Attr}
use Rattle.packed_event.specs.Reading.{after_tag, attribute_part, bytes_part, repeated}
use Rattle.packed_event.proofs.Parts.{done}
use Rattle.packed_event.proofs.Taken.{Takes, takes_ends, takes_fails, takes_more}

-- ---- a text among those that are read

-- the texts before the rest do not pass the test
pub record Seeks (test : List ℕ → Bool) (tag : ℕ) (bytes rest : List ℕ) : Type 0 where
  pub front : List (List ℕ)
  pub takes : Takes tag bytes_part bytes [] rest front
  pub none : list_any test front ≡ false

one_after : (test : List ℕ → Bool) (front : List (List ℕ)) (text : List ℕ) (b : Bool) → list_any test front ≡ false
    → test text ≡ b → list_any test (front ++ text ∷ []) ≡ b
one_after test front text true none is = list_any-append test front (text ∷ []) ∙ rw (none, is) refl
one_after test front text false none is = list_any-append test front (text ∷ []) ∙ rw (none, is) refl

pub seeks_more : (test : List ℕ → Bool) (tag : ℕ) (bytes rest item after text : List ℕ) → Seeks test tag bytes rest
    → after_tag tag rest ≡ Some item → bytes_part item ≡ done (text, after) → length after ≤ length item
    → test text ≡ false → Seeks test tag bytes after
seeks_more test tag bytes rest item after text seeks tagged given less is = record {
  front = seeks.front ++ text ∷ [];
  takes = takes_more tag bytes_part bytes [] rest item after text seeks.front seeks.takes tagged given less;
  none = one_after test seeks.front text false seeks.none is;
}

pub seeks_found : (test : List ℕ → Bool) (tag : ℕ) (bytes rest item after text : List ℕ) → Seeks test tag bytes rest
    → after_tag tag rest ≡ Some item → bytes_part item ≡ done (text, after) → length after ≤ length item
    → test text ≡ true → (read : List (List ℕ) × List ℕ) → repeated tag bytes_part bytes ≡ Some read
    → true ≡ list_any test read.0
seeks_found test tag bytes rest item after text seeks tagged given less is read e =
    let takes = takes_more tag bytes_part bytes [] rest item after text seeks.front seeks.takes tagged given less in
    let left = takes.rests read.0 read.1 e in
    sym (ap (list_any test) left.whole ∙ list_any-append test (seeks.front ++ text ∷ []) left.more
    ∙ ap (λ b. b || list_any test left.more) (one_after test seeks.front text true seeks.none is))

pub seeks_ends : (test : List ℕ → Bool) (tag : ℕ) (bytes rest : List ℕ) → Seeks test tag bytes rest
    → after_tag tag rest ≡ None → (read : List (List ℕ) × List ℕ) → repeated tag bytes_part bytes ≡ Some read
    → false ≡ list_any test read.0
seeks_ends test tag bytes rest seeks other read e =
    let all = takes_ends tag bytes_part bytes [] rest seeks.front seeks.takes other read e in
    sym seeks.none ∙ ap (list_any test) all.1

pub seeks_fails : (test : List ℕ → Bool) (tag : ℕ) (bytes rest item : List ℕ) → Seeks test tag bytes rest
    → after_tag tag rest ≡ Some item → bytes_part item ≡ None → (read : List (List ℕ) × List ℕ)
    → repeated tag bytes_part bytes ≡ Some read → ⊥
seeks_fails test tag bytes rest item seeks tagged none read e =
    takes_fails tag bytes_part bytes [] rest item seeks.front seeks.takes tagged none read e

-- ---- the last attribute with a key

-- the attributes before the rest hold this under the key
pub record Latest (key : List ℕ) (tag : ℕ) (bytes rest : List ℕ) (held : Option (List ℕ)) : Type 0 where
  pub front : List Attr
  pub takes : Takes tag attribute_part bytes [] rest front
  pub is : held ≡ attribute_text key front

abbrev value_of : Attr → Option (List ℕ)
value_of attribute = attribute.value

found_first : (test : Attr → Bool) (attribute : Attr) (others : List Attr)
    → option_and_then value_of (find test (attribute ∷ others))
    ≡ (if test attribute then attribute.value else option_and_then value_of (find test others))
found_first test attribute others = by_test (test attribute) refl
  where
    by_test : (b : Bool) → test attribute ≡ b
        → option_and_then value_of (find test (attribute ∷ others))
        ≡ (if b then attribute.value else option_and_then value_of (find test others))
    by_test true is = rw is refl
    by_test false is = rw is refl

held_after : (key : List ℕ) (front : List Attr) (attribute : Attr)
    → attribute_text key (front ++ attribute ∷ [])
    ≡ (if bytes_eq attribute.key key then attribute.value else attribute_text key front)
held_after key front attribute =
    ap (λ list. option_and_then value_of (find (λ (a : Attr). bytes_eq a.key key) list))
    (reverse-append front (attribute ∷ []))
    ∙ found_first (λ (a : Attr). bytes_eq a.key key) attribute (reverse front)

pub latest_more : (key : List ℕ) (tag : ℕ) (bytes rest item after : List ℕ) (attribute : Attr)
    (held held' : Option (List ℕ))
    → Latest key tag bytes rest held → after_tag tag rest ≡ Some item
    → attribute_part item ≡ done (attribute, after) → length after ≤ length item
    → held' ≡ (if bytes_eq attribute.key key then attribute.value else held) → Latest key tag bytes after held'
latest_more key tag bytes rest item after attribute held held' latest tagged given less is = record {
  front = latest.front ++ attribute ∷ [];
  takes = takes_more tag attribute_part bytes [] rest item after attribute latest.front latest.takes tagged given less;
  is =
      is ∙ ap (λ (old : Option (List ℕ)). if bytes_eq attribute.key key then attribute.value else old) latest.is
      ∙ sym (held_after key latest.front attribute);
}

pub latest_ends : (key : List ℕ) (tag : ℕ) (bytes rest : List ℕ) (held : Option (List ℕ))
    → Latest key tag bytes rest held → after_tag tag rest ≡ None → (read : List Attr × List ℕ)
    → repeated tag attribute_part bytes ≡ Some read → held ≡ attribute_text key read.0
latest_ends key tag bytes rest held latest other read e =
    let all = takes_ends tag attribute_part bytes [] rest latest.front latest.takes other read e in
    latest.is ∙ ap (attribute_text key) all.1

pub latest_fails : (key : List ℕ) (tag : ℕ) (bytes rest item : List ℕ) (held : Option (List ℕ))
    → Latest key tag bytes rest held → after_tag tag rest ≡ Some item → attribute_part item ≡ None
    → (read : List Attr × List ℕ) → repeated tag attribute_part bytes ≡ Some read → ⊥
latest_fails key tag bytes rest item held latest tagged none read e =
    takes_fails tag attribute_part bytes [] rest item latest.front latest.takes tagged none read e
