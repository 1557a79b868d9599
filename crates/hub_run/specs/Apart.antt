-- Each key has notices of its own. A key is what an event holds in some fields, as the host, or the host and the
-- service.
use Rattle.std.specs.Prelude.{◌≡◌, IsTrue, List, filter}
use Rattle.std.specs.List.{AllByRecursion}
use Rattle.conn_core.specs.event_core.Core.{CoreConfig, notices_by}
use Rattle.ev_types.specs.declared.field.Field.{Field}
use Rattle.ev_types.specs.declared.item.Notice.{Notice}
use Rattle.ev_types.specs.declared.value.Value.{Value}
use Rattle.key_laws.specs.Apart.{keys_apart}
use Rattle.key_laws.specs.Laws.{IsOfOneKey, arrivals_of}
use Rattle.stream_meaning.specs.Arrivals.{Arrival}
use Rattle.stream_meaning.specs.Keys.{notice_has}

-- Each of the notices is of one key. Those of a key are what the seconds and the posted events of this key alone give:
-- events of other keys add none, take none away and change none.
pub record NoticesAreApart (fields : List Field) (config : CoreConfig) (arrivals : List Arrival)
    (notices : List Notice) : Type 0 where
  pub one : AllByRecursion (IsOfOneKey fields) notices
  pub own : (key : List Value)
      → filter (notice_has fields key) notices ≡ notices_by config (arrivals_of fields key arrivals)

-- so it is for all fields whose keys the configuration keeps apart
abbrev pub KeysHaveTheirOwn : CoreConfig → List Arrival → List Notice → Type 0
KeysHaveTheirOwn config arrivals notices =
    (fields : List Field) → IsTrue (keys_apart fields config.plan config.expiry)
    → NoticesAreApart fields config arrivals notices
