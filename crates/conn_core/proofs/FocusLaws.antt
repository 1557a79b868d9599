-- How one link of a table is looked at, and how the table is afterwards.
use Rattle.std.proofs.Common.{◌≡◌, ◌≢◌, ℕ, zero, suc, ◌<◌, true, false, ◌||◌, List, [], ◌∷◌, ◌++◌, length, map, take}
use Rattle.std.proofs.Common.{drop, get_or, set, refl, ap, sym, ◌∙◌, subst, arith}
use Rattle.std.specs.Prelude.{Some}
use Rattle.std.specs.List.{remove}
use Rattle.std.proofs.lemmas.List.{drop-set-lt, get_or-set_same, map-append, take-set, set_split, length-set}
use Rattle.std.proofs.lemmas.List.{length-map}
use Rattle.hub_link.specs.hub_meaning.Laws.{AreRising}
use Rattle.hub_link.specs.hub_meaning.Legal.{AreSettled, IsSettled}
use Rattle.hub_link.specs.hub_meaning.declared.stage.Stage.{Stage}
use Rattle.hub_link.specs.hub_meaning.declared.stage.Stage.TheVariants.{Closed}
use Rattle.hub_link.specs.hub_meaning.Links.{Link, changed, closed, connected, find_link, is_above, is_connected}
use Rattle.hub_link.specs.hub_meaning.Links.{is_open_stage, is_read_closed_stage, want_of, wants_of}
use Rattle.hub_link.specs.declared.link.HubLink.{HubLink}
use Rattle.hub_link.specs.HubLink.{RepresentsLink}
use Rattle.conn_core.specs.Kept.{Kept, IsAt, is_newer, number_at}
use Rattle.ports.specs.declared.links.Want.{Want}
use Rattle.conn_core.specs.Keeping.{AreBeside, Keeps}
use Rattle.conn_core.specs.Reaching.{Focus}
use Rattle.conn_core.proofs.Splits.{AreOther, beside_append, beside_cut, changed_at, connected_append, connected_cut}
use Rattle.conn_core.proofs.Splits.{connected_yes, found_at, above_at, others_after, others_before, rising_at}
use Rattle.conn_core.proofs.Splits.{settled_append, settled_first, settled_second, wants_append}

-- ---- lists

module _ {X : Type 0} where
  take_seam : (xs ys : List X) (n : ℕ) → length xs ≡ n → take n (xs ++ ys) ≡ xs
  take_seam [] ys zero is = refl
  take_seam [] ys (suc n) is = absurd (omega arith)
  take_seam (x ∷ xs) ys zero is = absurd (omega (arith, is))
  take_seam (x ∷ xs) ys (suc n) is = ap (λ (l : List X). x ∷ l) (take_seam xs ys n (omega (arith, is)))

  drop_seam : (xs ys : List X) (y : X) (n : ℕ) → length xs ≡ n → drop (suc n) (xs ++ y ∷ ys) ≡ ys
  drop_seam [] ys y zero is = refl
  drop_seam [] ys y (suc n) is = absurd (omega arith)
  drop_seam (x ∷ xs) ys y zero is = absurd (omega (arith, is))
  drop_seam (x ∷ xs) ys y (suc n) is = drop_seam xs ys y n (omega (arith, is))

  get_seam : (xs ys : List X) (y d : X) (n : ℕ) → length xs ≡ n → get_or (xs ++ y ∷ ys) n d ≡ y
  get_seam [] ys y d zero is = refl
  get_seam [] ys y d (suc n) is = absurd (omega arith)
  get_seam (x ∷ xs) ys y d zero is = absurd (omega (arith, is))
  get_seam (x ∷ xs) ys y d (suc n) is = get_seam xs ys y d n (omega (arith, is))

-- ---- what a connected link is

pub connected_unclosed : (link : Link) → is_connected link ≡ true → link.stage ≢ Closed
connected_unclosed link is same =
    let none : is_connected link ≡ false = ap (λ (s : Stage). is_open_stage s || is_read_closed_stage s) same in
    absurd (cc (is, none))

-- ---- the link of a number

pub record Found (table : Kept HubLink) (number place : ℕ) (links : List Link) : Type 0 where
  pub meant : Link
  pub found : find_link number links ≡ Some meant
  pub unclosed : is_connected meant ≡ true
  pub focus : Focus table number place links meant

pub focus_found : (table : Kept HubLink) (number place : ℕ) (links : List Link) → Keeps table links → AreSettled links
    → IsAt number table place → Found table number place links
focus_found table number place links keeps settled at =
    let cut = beside_cut table.values (connected links) place keeps.values at.within in
    let all = connected_cut links cut.first cut.last cut.meant cut.are in
    let number_is : cut.meant.number ≡ number =
    same_number cut.first cut.last cut.meant (keeps.wants ∙ ap (map want_of) cut.are) cut.count at.is in
    let rising : AreRising (all.firsts ++ cut.meant ∷ all.lasts) = subst AreRising all.are keeps.rising in
    let before =
    subst (λ (n : ℕ). AreOther n all.firsts) number_is (others_before all.firsts all.lasts cut.meant rising) in
    record {
      meant = cut.meant;
      found = ap (find_link number) all.are ∙ found_at number all.firsts all.lasts cut.meant number_is before;
      unclosed = all.unclosed;
      focus = record {
        first = all.firsts;
        last = all.lasts;
        are = all.are;
        number_is = number_is;
        unclosed = connected_unclosed cut.meant all.unclosed;
        rising = keeps.rising;
        free = keeps.free;
        within = at.within;
        beside = at.beside;
        has_number = at.is;
        wants_first = ap (take place) (wants_are cut.first cut.last cut.meant keeps.wants cut.are)
            ∙ take_seam (map want_of cut.first) (want_of cut.meant ∷ map want_of cut.last) place
            (length-map cut.first want_of ∙ cut.count)
            ∙ ap (map want_of) (sym all.before);
        wants_last = ap (drop (suc place)) (wants_are cut.first cut.last cut.meant keeps.wants cut.are)
            ∙ drop_seam (map want_of cut.first) (map want_of cut.last) (want_of cut.meant) place
            (length-map cut.first want_of ∙ cut.count)
            ∙ ap (map want_of) (sym all.after);
        values_first = subst (AreBeside (take place table.values)) (sym all.before) cut.before;
        value = cut.value;
        values_last = subst (AreBeside (drop (suc place) table.values)) (sym all.after) cut.after;
        settled_first = settled_first all.firsts (cut.meant ∷ all.lasts) (subst AreSettled all.are settled);
        settled_last = (settled_second all.firsts (cut.meant ∷ all.lasts) (subst AreSettled all.are settled)).1;
      };
    }
  where
    wants_are : (first last : List Link) (meant : Link) → table.wants ≡ wants_of links
        → connected links ≡ first ++ meant ∷ last
        → table.wants ≡ map want_of first ++ want_of meant ∷ map want_of last
    wants_are first last meant is are = is ∙ ap (map want_of) are ∙ map-append want_of first (meant ∷ last)

    same_number : (first last : List Link) (meant : Link) → table.wants ≡ map want_of (first ++ meant ∷ last)
        → length first ≡ place
        → number_at table.wants place ≡ number → meant.number ≡ number
    same_number first last meant is count at =
        sym (ap (λ (ws : List Want). number_at ws place) (is ∙ map-append want_of first (meant ∷ last))
        ∙ ap (λ (want : Want). want.link)
        (get_seam (map want_of first) (map want_of last) (want_of meant)
        (record { link = 0; read = false; room = false }) place (length-map first want_of ∙ count)))
        ∙ at

-- a list of values, put together again at a place
beside_whole : (values : List HubLink) (place : ℕ) → place < length values → (first last : List Link)
    → AreBeside (take place values) first
    → ((value : HubLink) → AreBeside (get_or values place value ∷ drop (suc place) values) last)
    → AreBeside values (first ++ last)
beside_whole [] place within first last before after = absurd (omega (arith, within))
beside_whole (v ∷ vs) zero within [] last before after = after v
beside_whole (v ∷ vs) zero within (x ∷ first) last before after = absurd before
beside_whole (v ∷ vs) (suc place) within [] last before after = absurd before
beside_whole (v ∷ vs) (suc place) within (x ∷ first) last before after =
    (before.0, beside_whole vs place (omega (arith, within)) first last before.1 after)

-- ---- the focus

module _ (table : Kept HubLink) (number place : ℕ) (links : List Link) (meant : Link)
    (focus : Focus table number place links meant) where
  seen : AreRising (focus.first ++ meant ∷ focus.last)
  seen = subst AreRising focus.are focus.rising

  pub focus_before : AreOther number focus.first
  focus_before =
      subst (λ (n : ℕ). AreOther n focus.first) focus.number_is (others_before focus.first focus.last meant seen)

  pub focus_after : AreOther number focus.last
  focus_after =
      subst (λ (n : ℕ). AreOther n focus.last) focus.number_is (others_after focus.first focus.last meant seen)

  pub focus_find : find_link number links ≡ Some meant
  focus_find =
      ap (find_link number) focus.are ∙ found_at number focus.first focus.last meant focus.number_is focus_before

  pub focus_change : (f : Link → Link) → changed number f links ≡ focus.first ++ f meant ∷ focus.last
  focus_change f =
      ap (changed number f) focus.are
      ∙ changed_at number f focus.first focus.last meant focus.number_is focus_before focus_after

  -- the link is changed, and so is the value beside it
  pub focus_changed : (f : Link → Link) (value : HubLink) → (f meant).number ≡ meant.number → (f meant).stage ≢ Closed
      → RepresentsLink value (f meant)
      → Focus (record table { values = set table.values place value }) number place (changed number f links) (f meant)
  focus_changed f value same unclosed represents = record {
    first = focus.first;
    last = focus.last;
    are = focus_change f;
    number_is = same ∙ focus.number_is;
    unclosed = unclosed;
    rising = subst AreRising (sym (focus_change f)) (rising_at focus.first focus.last meant (f meant) same seen);
    free =
        λ other. ap (is_above other) (focus_change f) ∙ above_at other focus.first focus.last meant (f meant) same
        ∙ ap (is_above other) (sym focus.are) ∙ focus.free other;
    within = subst (λ (n : ℕ). place < n) (sym (length-set table.values place value)) focus.within;
    beside = focus.beside ∙ sym (length-set table.values place value);
    has_number = focus.has_number;
    wants_first = focus.wants_first;
    wants_last = focus.wants_last;
    values_first =
        subst (λ (vs : List HubLink). AreBeside vs (connected focus.first)) (sym (take-set table.values place value))
        focus.values_first;
    value =
        λ other. subst (λ (v : HubLink). RepresentsLink v (f meant))
        (sym (get_or-set_same table.values place value other focus.within)) represents;
    values_last =
        subst (λ (vs : List HubLink). AreBeside vs (connected focus.last))
        (sym (drop-set-lt (suc place) table.values place value (omega arith))) focus.values_last;
    settled_first = focus.settled_first;
    settled_last = focus.settled_last;
  }

  within_wants : place < length table.wants
  within_wants = subst (λ (n : ℕ). place < n) (sym focus.beside) focus.within

  -- what is wanted of the link is up to date
  pub focus_kept : (new : Kept HubLink) → is_connected meant ≡ true → IsSettled meant
      → new.wants ≡ set table.wants place (want_of meant)
      → new.values ≡ table.values → new.newest ≡ table.newest → Keeps new links × AreSettled links
  focus_kept new unclosed settled wants values newest = (
    record {
      wants = wants
          ∙ set_split table.wants place (want_of meant) within_wants
          ∙ ap (λ (ws : List Want). ws ++ want_of meant ∷ drop (suc place) table.wants) focus.wants_first
          ∙ ap (λ (ws : List Want). wants_of focus.first ++ want_of meant ∷ ws) focus.wants_last
          ∙ ap (λ (ls : List Link). wants_of focus.first ++ map want_of ls)
          (sym (connected_yes meant focus.last unclosed))
          ∙ sym (wants_append focus.first (meant ∷ focus.last))
          ∙ ap wants_of (sym focus.are);
      values = subst (λ (vs : List HubLink). AreBeside vs (connected links)) (sym values)
          (subst (AreBeside table.values)
          (sym (ap connected focus.are ∙ connected_append focus.first (meant ∷ focus.last)))
          (beside_whole table.values place focus.within (connected focus.first) (connected (meant ∷ focus.last))
          focus.values_first
          (λ value. subst (AreBeside (get_or table.values place value ∷ drop (suc place) table.values))
          (sym (connected_yes meant focus.last unclosed))
          (focus.value value, focus.values_last))));
      free = λ other. focus.free other ∙ ap (is_newer other) (sym newest);
      rising = focus.rising;
    },
    subst AreSettled (sym focus.are)
        (settled_append focus.first (meant ∷ focus.last) focus.settled_first (settled, focus.settled_last)),
  )

  -- the link was closed, and its place is removed
  pub focus_removed : (new : Kept HubLink) → new.wants ≡ remove table.wants place
      → new.values ≡ remove table.values place → new.newest ≡ table.newest
      → Keeps new (changed number closed links) × AreSettled (changed number closed links)
  focus_removed new wants values newest = (
    record {
      wants = wants
          ∙ ap (λ (ws : List Want). ws ++ drop (suc place) table.wants) focus.wants_first
          ∙ ap (λ (ws : List Want). wants_of focus.first ++ ws) focus.wants_last
          ∙ sym (wants_append focus.first (closed meant ∷ focus.last))
          ∙ ap wants_of (sym (focus_change closed));
      values = subst (λ (vs : List HubLink). AreBeside vs (connected (changed number closed links))) (sym values)
          (subst (AreBeside (remove table.values place))
          (sym (ap connected (focus_change closed) ∙ connected_append focus.first (closed meant ∷ focus.last)))
          (beside_append (take place table.values) (drop (suc place) table.values) (connected focus.first)
          (connected focus.last) focus.values_first focus.values_last));
      free =
          λ other. ap (is_above other) (focus_change closed)
          ∙ above_at other focus.first focus.last meant (closed meant) refl ∙ ap (is_above other) (sym focus.are)
          ∙ focus.free other ∙ ap (is_newer other) (sym newest);
      rising =
          subst AreRising (sym (focus_change closed)) (rising_at focus.first focus.last meant (closed meant) refl seen);
    },
    subst AreSettled (sym (focus_change closed))
        (settled_append focus.first (closed meant ∷ focus.last) focus.settled_first (tt, focus.settled_last)),
  )
