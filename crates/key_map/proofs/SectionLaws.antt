-- What a look-up finds among the numbers of all hosts.
use Rattle.std.proofs.Common.{◌≡◌, ℕ, Bool, true, false, ◌&&◌, cond, List, [], ◌∷◌, ◌++◌, Option, None, Some, refl, sym}
use Rattle.std.proofs.Common.{ap, ◌∙◌}
use mathlib.Core.Bool.{true≢false}
use Rattle.std.specs.declared.cmp.Ordering.{Ordering}
use Rattle.std.specs.declared.cmp.Ordering.TheVariants.{Less, Equal, Greater}
use Rattle.std.specs.Ordering.{is_eq, ordering_then}
use Rattle.std.specs.BTreeMap.{is_at}
use Rattle.std.specs.Map.{lookup, keys_of, values_of}
use Rattle.std.specs.List.{AllByRecursion, flat_map}
use Rattle.std.specs.List.Sorted.{IsStrictlySortedBy}
use Rattle.std.proofs.lemmas.Cmp.{nat_list_cmp_total}
use Rattle.index_log.specs.IndexKey.{text_cmp}
use Rattle.key_map.specs.Keys.{IndexKey, key_cmp, Numbers, number_at, Sets, of_host}
use Rattle.std.proofs.lemmas.Map.Lookups.{exact_bytes}
use Rattle.key_map.specs.Sections.{Services, service_at, SetsService, services_at, service_in, host_at, SetsIn, SameIn}
use Rattle.key_map.specs.Sections.{with_host, by_key, numbers_of}
use Rattle.key_map.proofs.ServiceLaws.{bytes_cmp, present-cmp}

then-same : (o p : Ordering) → is_eq o ≡ true → is_eq (ordering_then o p) ≡ is_eq p
then-same Less p h = absurd (true≢false (sym h))
then-same Equal p h = refl
then-same Greater p h = absurd (true≢false (sym h))

then-apart : (o p : Ordering) → is_eq o ≡ false → is_eq (ordering_then o p) ≡ false
then-apart Less p h = refl
then-apart Equal p h = absurd (true≢false h)
then-apart Greater p h = refl

then-and : (o p : Ordering) → is_eq (ordering_then o p) ≡ is_eq o && is_eq p
then-and Less p = refl
then-and Equal p = refl
then-and Greater p = refl

equal-is : (o : Ordering) → is_eq o ≡ true → o ≡ Equal
equal-is Less h = absurd (true≢false (sym h))
equal-is Equal h = refl
equal-is Greater h = absurd (true≢false (sym h))

with-same : (h s h' : Option (List ℕ)) (ss : Services) → is_eq (text_cmp h h') ≡ true
    → number_at (h, s) (with_host h' ss) ≡ service_at s ss
with-same h s h' [] e = refl
with-same h s h' (a ∷ ss) e =
    ap (λ b. cond b (Some a.1) (number_at (h, s) (with_host h' ss))) (then-same (text_cmp h h') (text_cmp s a.0) e)
    ∙ ap (λ r. cond (is_eq (text_cmp s a.0)) (Some a.1) r) (with-same h s h' ss e)

with-apart : (h s h' : Option (List ℕ)) (ss : Services) → is_eq (text_cmp h h') ≡ false
    → number_at (h, s) (with_host h' ss) ≡ None
with-apart h s h' [] e = refl
with-apart h s h' (a ∷ ss) e =
    ap (λ b. cond b (Some a.1) (number_at (h, s) (with_host h' ss))) (then-apart (text_cmp h h') (text_cmp s a.0) e)
    ∙ with-apart h s h' ss e

module _ (test : IndexKey → Bool) where
  first-none : (xs ys : Numbers) → lookup test xs ≡ None → lookup test (xs ++ ys) ≡ lookup test ys
  first-none [] ys h = refl
  first-none (x ∷ xs) ys h = first_by (test x.0) refl (first-none xs ys)
    where
      first_by : (b : Bool) → test x.0 ≡ b → (lookup test xs ≡ None → lookup test (xs ++ ys) ≡ lookup test ys)
          → cond (test x.0) (Some x.1) (lookup test (xs ++ ys)) ≡ lookup test ys
      first_by true e ih =
          absurd (let some : Some x.1 ≡ None = sym (ap (λ b. cond b (Some x.1) (lookup test xs)) e) ∙ h in cc)
      first_by false e ih =
          ap (λ b. cond b (Some x.1) (lookup test (xs ++ ys))) e
          ∙ ih (sym (ap (λ b. cond b (Some x.1) (lookup test xs)) e) ∙ h)

  second-none : (xs ys : Numbers) → lookup test ys ≡ None → lookup test (xs ++ ys) ≡ lookup test xs
  second-none [] ys h = h
  second-none (x ∷ xs) ys h = ap (λ r. cond (test x.0) (Some x.1) r) (second-none xs ys h)

-- no key of these hosts is equal to the key
none-after : (k h : List ℕ) (s : Option (List ℕ)) (hosts : List (List ℕ × Services)) → bytes_cmp h k ≡ Equal
    → AllByRecursion (λ y. bytes_cmp k y ≡ Less) (keys_of hosts) → number_at (Some h, s) (by_key hosts) ≡ None
none-after k h s [] e a = refl
none-after k h s (x ∷ hosts) e a =
    first-none (is_at (key_cmp (Some h, s))) (with_host (Some x.0) x.1) (by_key hosts)
    (with-apart (Some h) s (Some x.0) x.1 (ap is_eq (present-cmp h x.0 ∙ nat_list_cmp_total.congr h k x.0 e ∙ a.0)))
    ∙ none-after k h s hosts e a.1

key-at : (h : List ℕ) (s : Option (List ℕ)) (hosts : List (List ℕ × Services))
    → IsStrictlySortedBy bytes_cmp (keys_of hosts) → number_at (Some h, s) (by_key hosts) ≡ host_at h s hosts
unfolding IsStrictlySortedBy
key-at h s [] k = refl
key-at h s (x ∷ hosts) k = key_by (is_eq (bytes_cmp h x.0)) refl (key-at h s hosts k.1)
  where
    key_by : (b : Bool) → is_eq (bytes_cmp h x.0) ≡ b → number_at (Some h, s) (by_key hosts) ≡ host_at h s hosts
        → number_at (Some h, s) (with_host (Some x.0) x.1 ++ by_key hosts)
        ≡ service_in s (cond (is_eq (bytes_cmp h x.0)) (Some x.1) (services_at h hosts))
    key_by true e ih =
        second-none (is_at (key_cmp (Some h, s))) (with_host (Some x.0) x.1) (by_key hosts)
        (none-after x.0 h s hosts (equal-is (bytes_cmp h x.0) e) k.0)
        ∙ with-same (Some h) s (Some x.0) x.1 (ap is_eq (present-cmp h x.0) ∙ e)
        ∙ sym (ap (λ b. service_in s (cond b (Some x.1) (services_at h hosts))) e)
    key_by false e ih =
        first-none (is_at (key_cmp (Some h, s))) (with_host (Some x.0) x.1) (by_key hosts)
        (with-apart (Some h) s (Some x.0) x.1 (ap is_eq (present-cmp h x.0) ∙ e))
        ∙ ih
        ∙ sym (ap (λ b. service_in s (cond b (Some x.1) (services_at h hosts))) e)

none-absent : (s : Option (List ℕ)) (hosts : List (List ℕ × Services)) → number_at (None, s) (by_key hosts) ≡ None
none-absent s [] = refl
none-absent s (x ∷ hosts) =
    first-none (is_at (key_cmp (None, s))) (with_host (Some x.0) x.1) (by_key hosts)
    (with-apart None s (Some x.0) x.1 refl)
    ∙ none-absent s hosts

pub at-absent : (w : Services) (hosts : List (List ℕ × Services)) (s : Option (List ℕ))
    → number_at (None, s) (numbers_of w hosts) ≡ service_at s w
at-absent w hosts s =
    second-none (is_at (key_cmp (None, s))) (with_host None w) (by_key hosts) (none-absent s hosts)
    ∙ with-same None s None w refl

pub at-host : (w : Services) (hosts : List (List ℕ × Services)) (h : List ℕ) (s : Option (List ℕ))
    → IsStrictlySortedBy bytes_cmp (keys_of hosts) → number_at (Some h, s) (numbers_of w hosts) ≡ host_at h s hosts
at-host w hosts h s k =
    first-none (is_at (key_cmp (Some h, s))) (with_host None w) (by_key hosts) (with-apart (Some h) s None w refl)
    ∙ key-at h s hosts k

-- ---- the map after a change

sets_host-at : (w : Services) (hosts hosts' : List (List ℕ × Services)) (h : List ℕ) (s : Option (List ℕ))
    (v : Option ℕ)
    → IsStrictlySortedBy bytes_cmp (keys_of hosts) → IsStrictlySortedBy bytes_cmp (keys_of hosts')
    → SetsIn hosts hosts' h s v
    → (o q : Option (List ℕ))
    → number_at (o, q) (numbers_of w hosts')
    ≡ cond (is_at (key_cmp (Some h, s)) (o, q)) v (number_at (o, q) (numbers_of w hosts))
sets_host-at w hosts hosts' h s v k k' sets None q = at-absent w hosts' q ∙ sym (at-absent w hosts q)
sets_host-at w hosts hosts' h s v k k' sets (Some o) q =
    at-host w hosts' o q k' ∙ sets o q
    ∙ sym (ap (λ b. cond b v (number_at (Some o, q) (numbers_of w hosts)))
    (then-and (text_cmp (Some h) (Some o)) (text_cmp s q) ∙ ap (λ r. is_eq r && is_eq (text_cmp s q)) (present-cmp h o))
    ∙ ap (λ r. cond (is_eq (bytes_cmp h o) && is_eq (text_cmp s q)) v r) (at-host w hosts o q k))

pub sets-host : (w : Services) (hosts hosts' : List (List ℕ × Services)) (h : List ℕ) (s : Option (List ℕ))
    (v : Option ℕ)
    → IsStrictlySortedBy bytes_cmp (keys_of hosts) → IsStrictlySortedBy bytes_cmp (keys_of hosts')
    → SetsIn hosts hosts' h s v
    → Sets (numbers_of w hosts) (numbers_of w hosts') (Some h, s) v
sets-host w hosts hosts' h s v k k' sets other = sets_host-at w hosts hosts' h s v k k' sets other.0 other.1

sets_absent-at : (w w' : Services) (hosts : List (List ℕ × Services)) (s : Option (List ℕ)) (v : Option ℕ)
    → IsStrictlySortedBy bytes_cmp (keys_of hosts) → SetsService w w' s v
    → (o q : Option (List ℕ))
    → number_at (o, q) (numbers_of w' hosts)
    ≡ cond (is_at (key_cmp (None, s)) (o, q)) v (number_at (o, q) (numbers_of w hosts))
sets_absent-at w w' hosts s v k sets None q =
    at-absent w' hosts q ∙ sets q ∙ sym (ap (λ r. cond (is_eq (text_cmp s q)) v r) (at-absent w hosts q))
sets_absent-at w w' hosts s v k sets (Some o) q = at-host w' hosts o q k ∙ sym (at-host w hosts o q k)

pub sets-absent : (w w' : Services) (hosts : List (List ℕ × Services)) (s : Option (List ℕ)) (v : Option ℕ)
    → IsStrictlySortedBy bytes_cmp (keys_of hosts) → SetsService w w' s v
    → Sets (numbers_of w hosts) (numbers_of w' hosts) (None, s) v
sets-absent w w' hosts s v k sets other = sets_absent-at w w' hosts s v k sets other.0 other.1

-- ---- the numbers of a host, and of all hosts

pub values-with : (h : Option (List ℕ)) (ss : Services) → values_of (with_host h ss) ≡ values_of ss
values-with h [] = refl
values-with h (a ∷ ss) = ap (λ ns. a.1 ∷ ns) (values-with h ss)

pub values-append : (xs ys : Numbers) → values_of (xs ++ ys) ≡ values_of xs ++ values_of ys
values-append [] ys = refl
values-append (x ∷ xs) ys = ap (λ ns. x.1 ∷ ns) (values-append xs ys)

pub values-hosts : (hosts : List (List ℕ × Services)) → values_of (by_key hosts) ≡ flat_map values_of (values_of hosts)
values-hosts [] = refl
values-hosts (x ∷ hosts) =
    values-append (with_host (Some x.0) x.1) (by_key hosts)
    ∙ ap (λ ns. ns ++ values_of (by_key hosts)) (values-with (Some x.0) x.1)
    ∙ ap (λ ns. values_of x.1 ++ ns) (values-hosts hosts)

pub values-all : (w : Services) (hosts : List (List ℕ × Services))
    → values_of (numbers_of w hosts) ≡ values_of w ++ values_of (by_key hosts)
values-all w hosts =
    values-append (with_host None w) (by_key hosts) ∙ ap (λ ns. ns ++ values_of (by_key hosts)) (values-with None w)

host-append : (h : Option (List ℕ)) (xs ys : Numbers) → of_host h (xs ++ ys) ≡ of_host h xs ++ of_host h ys
host-append h [] ys = refl
host-append h (x ∷ xs) ys = append_by (is_at (text_cmp h) (x.0).0) (host-append h xs ys)
  where
    append_by : (b : Bool) → of_host h (xs ++ ys) ≡ of_host h xs ++ of_host h ys
        → cond b (x ∷ of_host h (xs ++ ys)) (of_host h (xs ++ ys))
        ≡ cond b (x ∷ of_host h xs) (of_host h xs) ++ of_host h ys
    append_by true ih = ap (λ r. x ∷ r) ih
    append_by false ih = ih

host-same : (h h' : Option (List ℕ)) (ss : Services) → is_eq (text_cmp h h') ≡ true
    → of_host h (with_host h' ss) ≡ with_host h' ss
host-same h h' [] e = refl
host-same h h' (a ∷ ss) e =
    ap (λ b. cond b (((h', a.0), a.1) ∷ of_host h (with_host h' ss)) (of_host h (with_host h' ss))) e
    ∙ ap (λ r. ((h', a.0), a.1) ∷ r) (host-same h h' ss e)

host-apart : (h h' : Option (List ℕ)) (ss : Services) → is_eq (text_cmp h h') ≡ false → of_host h (with_host h' ss) ≡ []
host-apart h h' [] e = refl
host-apart h h' (a ∷ ss) e =
    ap (λ b. cond b (((h', a.0), a.1) ∷ of_host h (with_host h' ss)) (of_host h (with_host h' ss))) e
    ∙ host-apart h h' ss e

host-none_after : (k h : List ℕ) (hosts : List (List ℕ × Services)) → bytes_cmp h k ≡ Equal
    → AllByRecursion (λ y. bytes_cmp k y ≡ Less) (keys_of hosts) → of_host (Some h) (by_key hosts) ≡ []
host-none_after k h [] e a = refl
host-none_after k h (x ∷ hosts) e a =
    host-append (Some h) (with_host (Some x.0) x.1) (by_key hosts)
    ∙ ap (λ r. r ++ of_host (Some h) (by_key hosts))
    (host-apart (Some h) (Some x.0) x.1 (ap is_eq (present-cmp h x.0 ∙ nat_list_cmp_total.congr h k x.0 e ∙ a.0)))
    ∙ host-none_after k h hosts e a.1

abbrev pub values_in : Option Services → List ℕ
values_in None = []
values_in (Some services) = values_of services

pub host-numbers : (h : List ℕ) (hosts : List (List ℕ × Services)) → IsStrictlySortedBy bytes_cmp (keys_of hosts)
    → values_of (of_host (Some h) (by_key hosts)) ≡ values_in (services_at h hosts)
unfolding IsStrictlySortedBy
host-numbers h [] k = refl
host-numbers h (x ∷ hosts) k =
    ap values_of (host-append (Some h) (with_host (Some x.0) x.1) (by_key hosts))
    ∙ values-append (of_host (Some h) (with_host (Some x.0) x.1)) (of_host (Some h) (by_key hosts))
    ∙ host_by (is_eq (bytes_cmp h x.0)) refl (host-numbers h hosts k.1)
  where
    append-nil : (ns : List ℕ) → ns ++ [] ≡ ns
    append-nil [] = refl
    append-nil (n ∷ ns) = ap (λ r. n ∷ r) (append-nil ns)

    host_by : (b : Bool) → is_eq (bytes_cmp h x.0) ≡ b
        → values_of (of_host (Some h) (by_key hosts)) ≡ values_in (services_at h hosts)
        → values_of (of_host (Some h) (with_host (Some x.0) x.1)) ++ values_of (of_host (Some h) (by_key hosts))
        ≡ values_in (cond (is_eq (bytes_cmp h x.0)) (Some x.1) (services_at h hosts))
    host_by true e ih =
        ap (λ r. values_of (of_host (Some h) (with_host (Some x.0) x.1)) ++ values_of r)
        (host-none_after x.0 h hosts (equal-is (bytes_cmp h x.0) e) k.0)
        ∙ append-nil (values_of (of_host (Some h) (with_host (Some x.0) x.1)))
        ∙ ap values_of (host-same (Some h) (Some x.0) x.1 (ap is_eq (present-cmp h x.0) ∙ e))
        ∙ values-with (Some x.0) x.1
        ∙ sym (ap (λ b. values_in (cond b (Some x.1) (services_at h hosts))) e)
    host_by false e ih =
        ap (λ r. values_of r ++ values_of (of_host (Some h) (by_key hosts)))
        (host-apart (Some h) (Some x.0) x.1 (ap is_eq (present-cmp h x.0) ∙ e))
        ∙ ih
        ∙ sym (ap (λ b. values_in (cond b (Some x.1) (services_at h hosts))) e)

host-none_absent : (hosts : List (List ℕ × Services)) → of_host None (by_key hosts) ≡ []
host-none_absent [] = refl
host-none_absent (x ∷ hosts) =
    host-append None (with_host (Some x.0) x.1) (by_key hosts)
    ∙ ap (λ r. r ++ of_host None (by_key hosts)) (host-apart None (Some x.0) x.1 refl) ∙ host-none_absent hosts

pub values-of_host : (w : Services) (hosts : List (List ℕ × Services)) (h : List ℕ)
    → values_of (of_host (Some h) (numbers_of w hosts)) ≡ values_of (of_host (Some h) (by_key hosts))
values-of_host w hosts h =
    ap values_of (host-append (Some h) (with_host None w) (by_key hosts)
    ∙ ap (λ r. r ++ of_host (Some h) (by_key hosts)) (host-apart (Some h) None w refl))

pub values-of_absent : (w : Services) (hosts : List (List ℕ × Services))
    → values_of (of_host None (numbers_of w hosts)) ≡ values_of w
values-of_absent w hosts =
    ap values_of (host-append None (with_host None w) (by_key hosts)
    ∙ ap (λ r. r ++ of_host None (by_key hosts)) (host-same None None w refl)
    ∙ ap (λ r. with_host None w ++ r) (host-none_absent hosts))
    ∙ values-append (with_host None w) []
    ∙ append-nil (values_of (with_host None w))
    ∙ values-with None w
  where
    append-nil : (ns : List ℕ) → ns ++ [] ≡ ns
    append-nil [] = refl
    append-nil (n ∷ ns) = ap (λ r. n ∷ r) (append-nil ns)

-- ---- the services of one host after a change

-- the host has these services now, and every other host has what it had
abbrev pub SetsHost : List (List ℕ × Services) → List (List ℕ × Services) → List ℕ → Option Services → Type 0
SetsHost hosts hosts' host slot =
    (q : List ℕ) → services_at q hosts' ≡ cond (is_at (bytes_cmp host) q) slot (services_at q hosts)

pub host-is : (host q : List ℕ) → is_at (bytes_cmp host) q ≡ true → host ≡ q
host-is host q h = exact_bytes host q (equal-is (bytes_cmp host q) h)

pub sets-in : (hosts hosts' : List (List ℕ × Services)) (host : List ℕ) (slot : Option Services) (s : Option (List ℕ))
    (v : Option ℕ)
    → SetsHost hosts hosts' host slot
    → ((q : Option (List ℕ)) → service_in q slot ≡ cond (is_at (text_cmp s) q) v (host_at host q hosts))
    → SetsIn hosts hosts' host s v
sets-in hosts hosts' host slot s v sets change other q =
    ap (service_in q) (sets other) ∙ by_host (is_at (bytes_cmp host) other) refl
  where
    by_host : (b : Bool) → is_at (bytes_cmp host) other ≡ b
        → service_in q (cond (is_at (bytes_cmp host) other) slot (services_at other hosts))
        ≡ cond (is_at (bytes_cmp host) other && is_at (text_cmp s) q) v (host_at other q hosts)
    by_host true is =
        ap (λ b. service_in q (cond b slot (services_at other hosts))) is ∙ change q
        ∙ ap (λ h. cond (is_at (text_cmp s) q) v (host_at h q hosts)) (host-is host other is)
        ∙ sym (ap (λ b. cond (b && is_at (text_cmp s) q) v (host_at other q hosts)) is)
    by_host false apart =
        ap (λ b. service_in q (cond b slot (services_at other hosts))) apart
        ∙ sym (ap (λ b. cond (b && is_at (text_cmp s) q) v (host_at other q hosts)) apart)

-- the host without services is removed
pub same-in : (hosts hosts' : List (List ℕ × Services)) (host : List ℕ) → SetsHost hosts hosts' host None
    → services_at host hosts ≡ Some [] → SameIn hosts hosts'
same-in hosts hosts' host sets empty other q =
    ap (service_in q) (sets other) ∙ by_host (is_at (bytes_cmp host) other) refl
  where
    by_host : (b : Bool) → is_at (bytes_cmp host) other ≡ b
        → service_in q (cond (is_at (bytes_cmp host) other) None (services_at other hosts)) ≡ host_at other q hosts
    by_host true is =
        ap (λ b. service_in q (cond b None (services_at other hosts))) is
        ∙ sym (ap (λ h. host_at h q hosts) (sym (host-is host other is)) ∙ ap (service_in q) empty)
    by_host false apart = ap (λ b. service_in q (cond b None (services_at other hosts))) apart

-- changes in what a look-up of the host found, which is `old`
pub lent-sets : (hosts hosts' : List (List ℕ × Services)) (host : List ℕ) (old new : Services) (s : Option (List ℕ))
    (v : Option ℕ)
    → services_at host hosts ≡ Some old → SetsHost hosts hosts' host (Some new) → SetsService old new s v
    → SetsIn hosts hosts' host s v
lent-sets hosts hosts' host old new s v at sets change =
    sets-in hosts hosts' host (Some new) s v sets
    (λ q. change q ∙ ap (λ r. cond (is_at (text_cmp s) q) v r) (sym (ap (service_in q) at)))

-- services of a host that was not there
pub new-sets : (hosts hosts' : List (List ℕ × Services)) (host : List ℕ) (new : Services) (s : Option (List ℕ))
    (v : Option ℕ)
    → services_at host hosts ≡ None → SetsHost hosts hosts' host (Some new) → SetsService [] new s v
    → SetsIn hosts hosts' host s v
new-sets hosts hosts' host new s v at sets change =
    sets-in hosts hosts' host (Some new) s v sets
    (λ q. change q ∙ ap (λ r. cond (is_at (text_cmp s) q) v r) (sym (ap (service_in q) at)))

either-same : (b : Bool) (r : Option ℕ) → r ≡ cond b r r
either-same true r = refl
either-same false r = refl

-- nothing is removed where the host is not there
pub absent-sets : (hosts : List (List ℕ × Services)) (host : List ℕ) (s : Option (List ℕ))
    → services_at host hosts ≡ None → SetsIn hosts hosts host s None
absent-sets hosts host s at =
    sets-in hosts hosts host None s None (λ q. same_by q (is_at (bytes_cmp host) q) refl)
    (λ q.
    either-same (is_at (text_cmp s) q) None ∙ ap (λ r. cond (is_at (text_cmp s) q) None r) (sym (ap (service_in q) at)))
  where
    same_by : (q : List ℕ) (b : Bool) → is_at (bytes_cmp host) q ≡ b
        → services_at q hosts ≡ cond (is_at (bytes_cmp host) q) None (services_at q hosts)
    same_by q true is =
        ap (λ h. services_at h hosts) (sym (host-is host q is)) ∙ at
        ∙ sym (ap (λ b. cond b None (services_at q hosts)) is)
    same_by q false apart = sym (ap (λ b. cond b None (services_at q hosts)) apart)
