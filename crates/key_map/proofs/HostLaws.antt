-- Every host that is kept has a service, and so a key.
use Rattle.std.proofs.Common.{◌≡◌, ◌≢◌, ℕ, Bool, true, false, cond, List, [], ◌∷◌, Option, None, Some, IsSome, Result}
use Rattle.std.proofs.Common.{Ok, Err, OnOk, OnErr, refl, sym, ap, ◌∙◌, subst}
use mathlib.Core.Bool.{true≢false}
use Rattle.std.specs.List.{Contains}
use Rattle.std.specs.List.Sorted.{IsStrictlySortedBy}
use Rattle.std.specs.Map.{keys_of}
use Rattle.std.specs.Ordering.{is_eq}
use Rattle.std.specs.BTreeMap.{is_at}
use Rattle.std.proofs.lemmas.Cmp.{eq_by_cmp_equiv, nat_list_cmp_total, tied_itself}
use Rattle.std.proofs.lemmas.Map.Views.{Contains-keys_from_lookup, IsSome-lookup_from_Contains}
use Rattle.index_log.specs.IndexKey.{text_cmp}
use Rattle.key_map.specs.Keys.{number_at}
use Rattle.key_map.specs.Sections.{Services, service_at, SetsService, services_at, service_in, HaveServices}
use Rattle.key_map.specs.Sections.{OthersHaveServices, numbers_of}
use Rattle.key_map.proofs.ServiceLaws.{bytes_cmp, text_total}
use Rattle.key_map.proofs.SectionLaws.{at-host, host-is, SetsHost}

service-self : (s : Option (List ℕ)) → is_at (text_cmp s) s ≡ true
service-self s = ap is_eq (tied_itself text_total s)

-- services in which one was set are some
pub set-some : (old new : Services) (s : Option (List ℕ)) (v : ℕ) → SetsService old new s (Some v) → new ≢ []
set-some old new s v sets none =
    let at : service_at s new ≡ Some v = sets s ∙ ap (λ b. cond b (Some v) (service_at s old)) (service-self s) in
    let no : None ≡ Some v = sym (ap (service_at s) none) ∙ at in cc

-- they stay some where one is set, or nothing changes
pub still-some : {T E : Type 0} (r : Result T E) (old new : Services) (s : Option (List ℕ)) (v : ℕ)
    → OnOk r (SetsService old new s (Some v)) → OnErr r (new ≡ old) → old ≢ [] → new ≢ []
still-some (Ok _) old new s v ok err some = set-some old new s v ok
still-some (Err _) old new s v ok err some = λ none. some (sym err ∙ none)

-- the host has services now
pub full-set : (hosts hosts' : List (List ℕ × Services)) (host : List ℕ) (services : Services)
    → SetsHost hosts hosts' host (Some services) → services ≢ [] → HaveServices hosts → HaveServices hosts'
full-set hosts hosts' host services sets some full other none = by_host (is_at (bytes_cmp host) other) refl
  where
    by_host : (b : Bool) → is_at (bytes_cmp host) other ≡ b → ⊥
    by_host true is =
        some (let e : Some services ≡ Some [] =
        sym (sets other ∙ ap (λ b. cond b (Some services) (services_at other hosts)) is) ∙ none in
        cc)
    by_host false apart =
        full other (sym (sets other ∙ ap (λ b. cond b (Some services) (services_at other hosts)) apart) ∙ none)

-- the host is not kept
pub full-without : (hosts hosts' : List (List ℕ × Services)) (host : List ℕ) → SetsHost hosts hosts' host None
    → OthersHaveServices host hosts → HaveServices hosts'
full-without hosts hosts' host sets others other none = by_host (is_at (bytes_cmp host) other) refl
  where
    by_host : (b : Bool) → is_at (bytes_cmp host) other ≡ b → ⊥
    by_host true is =
        let e : None ≡ Some [] = sym (sets other ∙ ap (λ b. cond b None (services_at other hosts)) is) ∙ none in cc
    by_host false apart =
        others other apart (sym (sets other ∙ ap (λ b. cond b None (services_at other hosts)) apart) ∙ none)

-- the host is not there without services
pub full-at : (hosts : List (List ℕ × Services)) (host : List ℕ) → services_at host hosts ≢ Some []
    → OthersHaveServices host hosts → HaveServices hosts
full-at hosts host here others other none = by_host (is_at (bytes_cmp host) other) refl
  where
    by_host : (b : Bool) → is_at (bytes_cmp host) other ≡ b → ⊥
    by_host true is = here (ap (λ h. services_at h hosts) (host-is host other is) ∙ none)
    by_host false apart = others other apart none

-- ---- a host is kept exactly where it has a key

some-in : (slot : Option Services) → IsSome slot → slot ≢ Some []
    → (service : Option (List ℕ)) × IsSome (service_in service slot)
some-in None some full = absurd (true≢false (sym some))
some-in (Some []) some full = absurd (full refl)
some-in (Some (x ∷ services)) some full =
    (x.0, subst IsSome (sym (ap (λ b. cond b (Some x.1) (service_at x.0 services)) (service-self x.0))) refl)

from-some : (slot : Option Services) (service : Option (List ℕ)) → IsSome (service_in service slot) → IsSome slot
from-some None service some = absurd (true≢false (sym some))
from-some (Some services) service some = refl

pub has-key : (w : Services) (hosts : List (List ℕ × Services)) → IsStrictlySortedBy bytes_cmp (keys_of hosts)
    → HaveServices hosts → (host : List ℕ) → Contains (keys_of hosts) host
    → (service : Option (List ℕ)) × IsSome (number_at (Some host, service) (numbers_of w hosts))
has-key w hosts rising full host listed =
    let found =
    some-in (services_at host hosts)
    (IsSome-lookup_from_Contains {eq = λ a b. is_at (bytes_cmp a) b} (eq_by_cmp_equiv nat_list_cmp_total) host hosts
    listed)
    (full host) in
    (found.0, subst IsSome (sym (at-host w hosts host found.0 rising)) found.1)

pub is-kept : (w : Services) (hosts : List (List ℕ × Services)) → IsStrictlySortedBy bytes_cmp (keys_of hosts)
    → (host : List ℕ) (service : Option (List ℕ))
    → IsSome (number_at (Some host, service) (numbers_of w hosts)) → Contains (keys_of hosts) host
is-kept w hosts rising host service some =
    Contains-keys_from_lookup {eq = λ a b. is_at (bytes_cmp a) b} host-is host hosts
    (from-some (services_at host hosts) service (subst IsSome (at-host w hosts host service rising) some))
