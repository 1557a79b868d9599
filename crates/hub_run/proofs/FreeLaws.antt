-- Links of which every send is taken whole are never blocked, and closed only when all was taken.
use Rattle.std.proofs.Common.{◌≡◌, ℕ, ◌<◌, Bool, true, false, cond, ◌||◌, List, [], ◌∷◌, ◌++◌, length, refl, sym, subst}
use Rattle.std.proofs.Common.{arith}
use Rattle.std.specs.Prelude.{Option, Some, None, nat_lt}
use Rattle.std.specs.List.{AllByRecursion, list_all}
use Rattle.std.proofs.lemmas.Bool.{le-ltb, ne_eqb, and_left}
use Rattle.conn_core.specs.event_core.Core.{CoreConfig}
use Rattle.framing.specs.Frames.{length_at, partial}
use Rattle.ports.specs.declared.links.SendAnswer.TheVariants.{Took}
use Rattle.ports.specs.declared.links.What.{What}
use Rattle.ports.specs.declared.links.What.TheVariants as what
use Rattle.conn_core.specs.hub_meaning.Legal.{IsSettledAs, AreSettled, MayClose, MayCloseAs, MaySend}
use Rattle.conn_core.specs.hub_meaning.declared.stage.Stage.{Stage}
use Rattle.conn_core.specs.hub_meaning.declared.stage.Stage.TheVariants.{Open, ReadClosed, Closing, Closed}
use Rattle.conn_core.specs.hub_meaning.Links.{Link, changed, closed, ended, find_link, is_above, is_connected, is_open}
use Rattle.conn_core.specs.hub_meaning.Links.{is_open_stage, is_read_closed_stage, new_link, opened, sent, unblocked}
use Rattle.conn_core.specs.hub_meaning.Links.{unsent, with_stage}
use Rattle.conn_core.specs.hub_meaning.Replies.{reply_to_oversized}
use Rattle.conn_core.specs.hub_meaning.Runs.{RunState, Talk, all_answered, answered, cut_off, is_oversized, messages_in}
use Rattle.conn_core.specs.hub_meaning.Runs.{occurred, read_by, read_from, talk_of, with_reply, with_talk}
use Rattle.conn_core.specs.hub_meaning.Verdicts.{Message, Refusal}
use Rattle.conn_core.proofs.HubMeaningLinkLaws.{all_changed, all_found, all_replaced}
use Rattle.conn_core.specs.hub_meaning.Laws.{AreRising}

abbrev pub IsWholeAs : List ℕ → Stage → Type 0
IsWholeAs left Open = Unit {0}
IsWholeAs left ReadClosed = Unit {0}
IsWholeAs left Closing = ⊥
IsWholeAs left Closed = left ≡ []

-- a link that is not blocked, works, and was not closed while bytes were unsent
pub record IsFree (link : Link) : Type 0 where
  pub free : link.blocked ≡ false
  pub whole : IsWholeAs (unsent link) link.stage

choice : (t : Bool) (a b : Link) → IsFree a → IsFree b → IsFree (cond t a b)
choice true a b first second = first
choice false a b first second = second

-- ---- one link

open_is : (s : Stage) → is_open_stage s ≡ true → s ≡ Open
open_is Open is = refl
open_is ReadClosed is = absurd (cc is)
open_is Closing is = absurd (cc is)
open_is Closed is = absurd (cc is)

open_free : (link : Link) → link.blocked ≡ false → link.stage ≡ Open → IsFree link
open_free link free is = record { free = free; whole = subst (IsWholeAs (unsent link)) (sym is) tt }

connected_whole : (left : List ℕ) (s : Stage) → (is_open_stage s || is_read_closed_stage s) ≡ true → IsWholeAs left s
connected_whole left Open is = tt
connected_whole left ReadClosed is = tt
connected_whole left Closing is = absurd (cc is)
connected_whole left Closed is = absurd (cc is)

closed_whole : (link : Link) (s : Stage) → IsWholeAs (unsent link) s → MayCloseAs link s → unsent link ≡ []
closed_whole link Open whole may = absurd may
closed_whole link ReadClosed whole may = may
closed_whole link Closing whole may = absurd whole
closed_whole link Closed whole may = whole

free_ended : (link : Link) → IsFree link → IsFree (ended link)
free_ended link old =
    choice (is_open link) (with_stage ReadClosed link) link (record { free = old.free; whole = tt }) old

free_unblocked : (link : Link) → IsFree link → IsFree (unblocked link)
free_unblocked link old =
    choice (is_connected link) (record link { blocked = false }) link (record { free = refl; whole = old.whole }) old

free_sent : (bytes : List ℕ) (link : Link) → MaySend bytes link → IsFree (sent bytes (Took (length bytes)) link)
free_sent bytes link may = record {
  free = ne_eqb (length bytes) 0 (λ none. omega (arith, may.some, none));
  whole = connected_whole (unsent (sent bytes (Took (length bytes)) link)) link.stage may.connected;
}

free_closed : (link : Link) → MayClose link → IsFree link → IsFree (closed link)
free_closed link may old = record { free = old.free; whole = closed_whole link link.stage old.whole may }

-- ---- what happens in a turn

-- no link breaks, and none is opened but link 0
abbrev pub IsGentle : What → Type 0
IsGentle what.Idle = Unit {0}
IsGentle (what.Opened number) = number ≡ 0
IsGentle (what.Read number count) = Unit {0}
IsGentle (what.Ended number) = Unit {0}
IsGentle (what.Broken number) = ⊥
IsGentle (what.Room number) = Unit {0}
IsGentle what.Stopped = Unit {0}
IsGentle what.Failed = Unit {0}
IsGentle what.Memory = Unit {0}

abbrev pub AreFree : List Link → Type 0
AreFree links = AllByRecursion IsFree links

free_opened : (links : List Link) → AreFree links → AreFree (opened 0 links)
free_opened [] all = (record { free = refl; whole = tt }, tt)
free_opened (link ∷ links) all =
    let below : nat_lt link.number 0 ≡ false = le-ltb link.number 0 (omega arith) in
    let other : is_above 0 (link ∷ links) ≡ false =
    and_left (nat_lt link.number 0) (list_all (λ l. nat_lt l.number 0) links) below in
    subst (λ (t : Bool). AreFree (cond t ((link ∷ links) ++ new_link 0 (link ∷ links) ∷ []) (link ∷ links))) (sym other)
    all

answered_free : (config : CoreConfig) (now : ℕ) (messages : List Message) (talk : Talk) → talk.link.blocked ≡ false
    → talk.link.stage ≡ Open
    → ((all_answered config now messages talk).link.blocked ≡ false)
    × ((all_answered config now messages talk).link.stage ≡ Open)
answered_free config now [] talk free is = (free, is)
answered_free config now (message ∷ messages) talk free is =
    answered_free config now messages (answered config now message talk) free is

cut_free : (link : Link) → link.blocked ≡ false → link.stage ≡ Open → IsFree (cut_off link)
cut_free link free is =
    choice (is_oversized (partial link.came))
    (with_stage ReadClosed (with_reply (reply_to_oversized (length_at (partial link.came))) link)) link
    (record { free = free; whole = tt }) (open_free link free is)

free_read : (config : CoreConfig) (piece : List ℕ) (verdicts : List (Option Refusal)) (state : RunState) (link : Link)
    → IsFree link → AreFree state.links
    → AreFree (read_from config piece verdicts state link).links
free_read config piece verdicts state link one all = by (is_open link) (open_is link.stage)
  where
    talk : Talk
    talk = all_answered config state.now (messages_in piece verdicts link) (talk_of piece state link)

    by : (t : Bool) → (t ≡ true → link.stage ≡ Open) → AreFree (cond t (with_talk state talk) state).links
    by true is =
        let still =
        answered_free config state.now (messages_in piece verdicts link) (talk_of piece state link) one.free
        (is refl) in
        all_changed IsFree talk.link.number (λ _. cut_off talk.link) (λ other _ old. cut_free talk.link still.0 still.1)
        state.links all
    by false is = all

free_read_by : (config : CoreConfig) (piece : List ℕ) (verdicts : List (Option Refusal)) (state : RunState)
    (found : Option Link)
    → ((link : Link) → found ≡ Some link → IsFree link)
    → AreFree state.links → AreFree (read_by config piece verdicts state found).links
free_read_by config piece verdicts state None one all = all
free_read_by config piece verdicts state (Some link) one all =
    free_read config piece verdicts state link (one link refl) all

pub free_occurred : (config : CoreConfig) (occurrence : What) (piece : List ℕ) (verdicts : List (Option Refusal))
    (state : RunState)
    → IsGentle occurrence → AreFree state.links
    → AreFree (occurred config occurrence piece verdicts state).links
free_occurred config what.Idle piece verdicts state gentle all = all
free_occurred config (what.Opened number) piece verdicts state gentle all =
    subst (λ (n : ℕ). AreFree (opened n state.links)) (sym gentle) (free_opened state.links all)
free_occurred config (what.Read number count) piece verdicts state gentle all =
    free_read_by config piece verdicts state (find_link number state.links)
    (λ link found. all_found IsFree number state.links link found all) all
free_occurred config (what.Ended number) piece verdicts state gentle all =
    all_changed IsFree number ended (λ link _ old. free_ended link old) state.links all
free_occurred config (what.Broken number) piece verdicts state gentle all = absurd gentle
free_occurred config (what.Room number) piece verdicts state gentle all =
    all_changed IsFree number unblocked (λ link _ old. free_unblocked link old) state.links all
free_occurred config what.Stopped piece verdicts state gentle all = all
free_occurred config what.Failed piece verdicts state gentle all = all
free_occurred config what.Memory piece verdicts state gentle all = all

-- ---- sends and closes

pub free_after_send : (number : ℕ) (bytes : List ℕ) (links : List Link) (link : Link) → AreRising links
    → find_link number links ≡ Some link → MaySend bytes link
    → AreFree links → AreFree (changed number (sent bytes (Took (length bytes))) links)
free_after_send number bytes links link rising found may all =
    all_replaced IsFree number (sent bytes (Took (length bytes))) links link rising found (free_sent bytes link may) all

pub free_after_close : (number : ℕ) (links : List Link) (link : Link) → AreRising links
    → find_link number links ≡ Some link → MayClose link
    → AreFree links → AreFree (changed number closed links)
free_after_close number links link rising found may all =
    all_replaced IsFree number closed links link rising found
    (free_closed link may (all_found IsFree number links link found all)) all

-- ---- once all links are settled

nothing : (bytes : List ℕ) → (0 < length bytes → ⊥) → bytes ≡ []
nothing [] none = refl
nothing (byte ∷ bytes) none = absurd (none (omega arith))

settled_as : (link : Link) (s : Stage) → link.blocked ≡ false → IsWholeAs (unsent link) s → IsSettledAs link s
    → unsent link ≡ []
settled_as link Open free whole settled = nothing (unsent link) (λ some. cc (settled some, free))
settled_as link ReadClosed free whole settled = absurd (cc (settled.1, free))
settled_as link Closing free whole settled = absurd settled
settled_as link Closed free whole settled = whole

abbrev pub IsAllSent : Link → Type 0
IsAllSent link = unsent link ≡ []

pub settled_sent : (links : List Link) → AreFree links → AreSettled links → AllByRecursion IsAllSent links
settled_sent [] all settled = tt
settled_sent (link ∷ links) all settled =
    (settled_as link link.stage all.0.free all.0.whole settled.0, settled_sent links all.1 settled.1)
