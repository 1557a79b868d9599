-- A list of links, cut at one of them.
use Rattle.std.proofs.Common.{◌≡◌, ◌≢◌, ℕ, zero, suc, ◌<◌, Bool, true, false, cond, ◌&&◌, List, [], ◌∷◌, ◌++◌, length}
use Rattle.std.proofs.Common.{map, take, drop, get_or, refl, ap, sym, ◌∙◌, subst, arith}
use Rattle.std.specs.Prelude.{Some, nat_lt}
use Rattle.std.specs.List.{AllByRecursion}
use Rattle.std.proofs.lemmas.Bool.{eq-eqb, ne_eqb}
use Rattle.std.proofs.lemmas.List.{map-append}
use Rattle.std.proofs.lemmas.List.Elements.{filter-append}
use Rattle.hub_link.specs.hub_meaning.Laws.{AreAbove, AreRising}
use Rattle.hub_link.specs.hub_meaning.Legal.{AreSettled}
use Rattle.hub_link.specs.hub_meaning.Links.{Link, changed, connected, find_link, is_above, is_connected, want_of}
use Rattle.hub_link.specs.hub_meaning.Links.{wants_of}
use Rattle.hub_link.specs.declared.link.HubLink.{HubLink}
use Rattle.hub_link.specs.HubLink.{RepresentsLink}
use Rattle.conn_core.specs.Keeping.{AreBeside}

-- ---- what holds of each link

pub settled_append : (xs ys : List Link) → AreSettled xs → AreSettled ys → AreSettled (xs ++ ys)
settled_append [] ys first second = second
settled_append (x ∷ xs) ys first second = (first.0, settled_append xs ys first.1 second)

pub settled_first : (xs ys : List Link) → AreSettled (xs ++ ys) → AreSettled xs
settled_first [] ys all = tt
settled_first (x ∷ xs) ys all = (all.0, settled_first xs ys all.1)

pub settled_second : (xs ys : List Link) → AreSettled (xs ++ ys) → AreSettled ys
settled_second [] ys all = all
settled_second (x ∷ xs) ys all = settled_second xs ys all.1

all_middle : (P : Link → Type 0) (xs ys : List Link) (y : Link) → AllByRecursion P (xs ++ y ∷ ys) → P y
all_middle P [] ys y all = all.0
all_middle P (x ∷ xs) ys y all = all_middle P xs ys y all.1

-- ---- the numbers rise

-- no link has this number
abbrev pub AreOther : ℕ → List Link → Type 0
AreOther number links = AllByRecursion (λ link. link.number ≢ number) links

above_other : (number : ℕ) (links : List Link) → AreAbove number links → AreOther number links
above_other number [] all = tt
above_other number (link ∷ links) all = let less = all.0 in (λ same. omega arith, above_other number links all.1)

pub others_before : (first last : List Link) (meant : Link) → AreRising (first ++ meant ∷ last)
    → AreOther meant.number first
others_before [] last meant rising = tt
others_before (link ∷ first) last meant rising =
    let less : link.number < meant.number =
    all_middle (λ other. link.number < other.number) first last meant rising.0 in
    (λ same. omega arith, others_before first last meant rising.1)

pub others_after : (first last : List Link) (meant : Link) → AreRising (first ++ meant ∷ last)
    → AreOther meant.number last
others_after [] last meant rising = above_other meant.number last rising.0
others_after (link ∷ first) last meant rising = others_after first last meant rising.1

-- ---- a change of one link

pub changed_other : (number : ℕ) (f : Link → Link) (links : List Link) → AreOther number links
    → changed number f links ≡ links
changed_other number f [] others = refl
changed_other number f (link ∷ links) others =
    ap (λ (t : Bool). cond t (f link) link ∷ changed number f links) (ne_eqb link.number number others.0)
    ∙ ap (λ (ls : List Link). link ∷ ls) (changed_other number f links others.1)

pub changed_at : (number : ℕ) (f : Link → Link) (first last : List Link) (meant : Link) → meant.number ≡ number
    → AreOther number first → AreOther number last
    → changed number f (first ++ meant ∷ last) ≡ first ++ f meant ∷ last
changed_at number f [] last meant is before after =
    ap (λ (t : Bool). cond t (f meant) meant ∷ changed number f last) (eq-eqb meant.number number is)
    ∙ ap (λ (ls : List Link). f meant ∷ ls) (changed_other number f last after)
changed_at number f (link ∷ first) last meant is before after =
    ap (λ (t : Bool). cond t (f link) link ∷ changed number f (first ++ meant ∷ last))
    (ne_eqb link.number number before.0)
    ∙ ap (λ (ls : List Link). link ∷ ls) (changed_at number f first last meant is before.1 after)

pub found_at : (number : ℕ) (first last : List Link) (meant : Link) → meant.number ≡ number → AreOther number first
    → find_link number (first ++ meant ∷ last) ≡ Some meant
found_at number [] last meant is before =
    ap (λ (t : Bool). cond t (Some meant) (find_link number last)) (eq-eqb meant.number number is)
found_at number (link ∷ first) last meant is before =
    ap (λ (t : Bool). cond t (Some link) (find_link number (first ++ meant ∷ last)))
    (ne_eqb link.number number before.0)
    ∙ found_at number first last meant is before.1

-- a change that keeps the number of a link
pub above_at : (other : ℕ) (first last : List Link) (meant new : Link) → new.number ≡ meant.number
    → is_above other (first ++ new ∷ last) ≡ is_above other (first ++ meant ∷ last)
above_at other [] last meant new same = ap (λ (n : ℕ). nat_lt n other && is_above other last) same
above_at other (link ∷ first) last meant new same =
    ap (λ (t : Bool). nat_lt link.number other && t) (above_at other first last meant new same)

all_at : (least : ℕ) (first last : List Link) (meant new : Link) → new.number ≡ meant.number
    → AreAbove least (first ++ meant ∷ last) → AreAbove least (first ++ new ∷ last)
all_at least [] last meant new same all = (subst (λ (n : ℕ). least < n) (sym same) all.0, all.1)
all_at least (link ∷ first) last meant new same all = (all.0, all_at least first last meant new same all.1)

pub rising_at : (first last : List Link) (meant new : Link) → new.number ≡ meant.number
    → AreRising (first ++ meant ∷ last) → AreRising (first ++ new ∷ last)
rising_at [] last meant new same rising = (subst (λ (n : ℕ). AreAbove n last) (sym same) rising.0, rising.1)
rising_at (link ∷ first) last meant new same rising =
    (all_at link.number first last meant new same rising.0, rising_at first last meant new same rising.1)

-- ---- the connected links

pub connected_append : (xs ys : List Link) → connected (xs ++ ys) ≡ connected xs ++ connected ys
connected_append xs ys = filter-append is_connected xs ys

pub wants_append : (xs ys : List Link) → wants_of (xs ++ ys) ≡ wants_of xs ++ wants_of ys
wants_append xs ys = ap (map want_of) (connected_append xs ys) ∙ map-append want_of (connected xs) (connected ys)

pub connected_yes : (link : Link) (links : List Link) → is_connected link ≡ true
    → connected (link ∷ links) ≡ link ∷ connected links
connected_yes link links is = ap (λ (t : Bool). cond t (link ∷ connected links) (connected links)) is

pub connected_no : (link : Link) (links : List Link) → is_connected link ≡ false
    → connected (link ∷ links) ≡ connected links
connected_no link links is = ap (λ (t : Bool). cond t (link ∷ connected links) (connected links)) is

-- all links, cut at the connected one where those that are connected are cut
pub record CutAt (links first last : List Link) (meant : Link) : Type 0 where
  pub firsts : List Link
  pub lasts : List Link
  pub are : links ≡ firsts ++ meant ∷ lasts
  pub unclosed : is_connected meant ≡ true
  pub before : connected firsts ≡ first
  pub after : connected lasts ≡ last

pub connected_cut : (links first last : List Link) (meant : Link) → connected links ≡ first ++ meant ∷ last
    → CutAt links first last meant
connected_cut [] [] last meant is = absurd (cc is)
connected_cut [] (other ∷ first) last meant is = absurd (cc is)
connected_cut (link ∷ links) first last meant is =
    at_first (is_connected link) refl is (λ (others : List Link) same. connected_cut links others last meant same)
  where
    more : (first : List Link) → is_connected link ≡ true
        → ((others : List Link) → connected links ≡ others ++ meant ∷ last → CutAt links others last meant)
        → link ∷ connected links ≡ first ++ meant ∷ last → CutAt (link ∷ links) first last meant
    more [] test rest same =
        let head : link ≡ meant = cc in
        let tail : connected links ≡ last = cc in
        record {
          firsts = [];
          lasts = links;
          are = ap (λ (l : Link). l ∷ links) head;
          unclosed = subst (λ (l : Link). is_connected l ≡ true) head test;
          before = refl;
          after = tail;
        }
    more (other ∷ first) test rest same =
        let head : link ≡ other = cc in
        let tail : connected links ≡ first ++ meant ∷ last = cc in
        let cut = rest first tail in
        record {
          firsts = link ∷ cut.firsts;
          lasts = cut.lasts;
          are = ap (λ (ls : List Link). link ∷ ls) cut.are;
          unclosed = cut.unclosed;
          before =
              connected_yes link cut.firsts test ∙ ap (λ (ls : List Link). link ∷ ls) cut.before
              ∙ ap (λ (l : Link). l ∷ first) head;
          after = cut.after;
        }

    at_first : (t : Bool) → is_connected link ≡ t
        → cond t (link ∷ connected links) (connected links) ≡ first ++ meant ∷ last
        → ((others : List Link) → connected links ≡ others ++ meant ∷ last → CutAt links others last meant)
        → CutAt (link ∷ links) first last meant
    at_first true test same rest = more first test rest same
    at_first false test same rest =
        let cut = rest first same in
        record {
          firsts = link ∷ cut.firsts;
          lasts = cut.lasts;
          are = ap (λ (ls : List Link). link ∷ ls) cut.are;
          unclosed = cut.unclosed;
          before = connected_no link cut.firsts test ∙ cut.before;
          after = cut.after;
        }

-- ---- values beside links

pub beside_append : (vs ws : List HubLink) (xs ys : List Link) → AreBeside vs xs → AreBeside ws ys
    → AreBeside (vs ++ ws) (xs ++ ys)
beside_append [] ws [] ys first second = second
beside_append [] ws (x ∷ xs) ys first second = absurd first
beside_append (v ∷ vs) ws [] ys first second = absurd first
beside_append (v ∷ vs) ws (x ∷ xs) ys first second = (first.0, beside_append vs ws xs ys first.1 second)

pub beside_length : (vs : List HubLink) (xs : List Link) → AreBeside vs xs → length vs ≡ length xs
beside_length [] [] beside = refl
beside_length [] (x ∷ xs) beside = absurd beside
beside_length (v ∷ vs) [] beside = absurd beside
beside_length (v ∷ vs) (x ∷ xs) beside = ap suc (beside_length vs xs beside.1)

pub record CutBeside (values : List HubLink) (links : List Link) (place : ℕ) : Type 0 where
  pub first : List Link
  pub meant : Link
  pub last : List Link
  pub are : links ≡ first ++ meant ∷ last
  pub count : length first ≡ place
  pub before : AreBeside (take place values) first
  pub value : (value : HubLink) → RepresentsLink (get_or values place value) meant
  pub after : AreBeside (drop (suc place) values) last

pub beside_cut : (values : List HubLink) (links : List Link) (place : ℕ) → AreBeside values links
    → place < length values → CutBeside values links place
beside_cut [] links place beside within = absurd (omega (arith, within))
beside_cut (v ∷ vs) [] place beside within = absurd beside
beside_cut (v ∷ vs) (x ∷ xs) zero beside within =
    record {
      first = [];
      meant = x;
      last = xs;
      are = refl;
      count = refl;
      before = tt;
      value = λ value. beside.0;
      after = beside.1;
    }
beside_cut (v ∷ vs) (x ∷ xs) (suc place) beside within =
    let cut = beside_cut vs xs place beside.1 (omega (arith, within)) in
    record {
      first = x ∷ cut.first;
      meant = cut.meant;
      last = cut.last;
      are = ap (λ (ls : List Link). x ∷ ls) cut.are;
      count = ap suc cut.count;
      before = (beside.0, cut.before);
      value = λ value. cut.value value;
      after = cut.after;
    }
