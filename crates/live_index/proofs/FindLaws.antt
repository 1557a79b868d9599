-- The first event of a host and a service is the one of that key.
use Rattle.std.proofs.Common.{◌≡◌, ℕ, ◌&&◌, cond, List, [], ◌∷◌, Option, Some, refl, sym, ap, ◌∙◌}
use Rattle.std.specs.declared.cmp.Ordering.{Ordering}
use Rattle.std.specs.declared.cmp.Ordering.TheVariants.{Less, Equal, Greater}
use Rattle.std.specs.Ordering.{is_eq, ordering_then}
use Rattle.std.proofs.lemmas.Cmp.{eq_by_cmp_equiv}
use Rattle.ev_types.specs.declared.event.Event.{Event}
use Rattle.index_log.specs.IndexKey.{text_cmp}
use Rattle.live_index.specs.Index.{is_at, event_at}
use Rattle.live_index.specs.Slots.{key_of}
use Rattle.live_index.proofs.LinkLaws.{key_total, same}
use Rattle.live_index.proofs.RowLaws.{find_key}

then-and : (o p : Ordering) → is_eq (ordering_then o p) ≡ is_eq o && is_eq p
then-and Less p = refl
then-and Equal p = refl
then-and Greater p = refl

is-at : (host service : Option (List ℕ)) (event : Event)
    → is_at host service event ≡ same (host, service) (key_of event)
is-at host service event =
    sym (then-and (text_cmp event.host host) (text_cmp event.service service))
    ∙ (eq_by_cmp_equiv key_total).symm (key_of event) (host, service)

pub find-at : (host service : Option (List ℕ)) (es : List Event)
    → event_at host service es ≡ find_key (host, service) es
find-at host service [] = refl
find-at host service (e ∷ es) =
    ap (λ b. cond b (Some e) (event_at host service es)) (is-at host service e)
    ∙ ap (λ r. cond (same (host, service) (key_of e)) (Some e) r) (find-at host service es)
