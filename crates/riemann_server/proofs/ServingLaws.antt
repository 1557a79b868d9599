-- What `serve` promises, of objects that report all.
use Rattle.std.proofs.Common.{◌≡◌, ℕ, List, [], ◌∷◌, ◌++◌, inl, inr, sym, ap, subst, ◌∙◌}
use Rattle.std.specs.Prelude.{Some, Result, Ok, Err, IfOk}
use Rattle.command_io.specs.Reports.{IsIdle, Reports}
use Rattle.command_io.specs.Endings.{status_of}
use Rattle.command_io.specs.declared.ending.Ending.{Ending}
use Rattle.command_io.specs.declared.ending.Ending.TheVariants.{Finished, ConfigRefused, Unread, OverLimit, BytesLeft}
use Rattle.command_io.specs.declared.ending.Ending.TheVariants.{WriteFailed, LinksFailed, ScriptRefused, OutOfMemory}
use Rattle.command_io.specs.declared.status.Status.{Status}
use Rattle.command_serve.specs.Serves.{RanOn, ServeEnds, Serves}
use Rattle.command_setup.specs.Setups.{SetsUp, run_report_of}
use Rattle.command_setup.specs.conn_core.declared.hub.Hub.{Hub}
use Rattle.command_setup.specs.hub_run.Runs.{RunsTo}
use Rattle.command_setup.specs.hub_run.declared.fault.RunFault.{RunFault}
use Rattle.command_setup.specs.hub_run.declared.fault.RunFault.TheVariants as fault
use Rattle.command_setup.specs.hub_run.declared.setup.Setup.{Setup}
use Rattle.ports.specs.Calls.{LinksReport}
use Rattle.ports.specs.Writing.{SinkReport}
use Rattle.riemann_commands.specs.Promises.{IsNoOption, help_words, version_words}
use Rattle.riemann_commands.specs.Words.{IsServe, serve_turns_words, serve_words}
use Rattle.riemann_server.specs.Serving.{HasServed, IsFresh, IsRunOf, IsUncalled}

run_of : (config : List ℕ) (turns : ℕ) (old new : Reports) (setup : Setup) (result : Result Hub RunFault) → IsFresh old
    → SetsUp config old.store new.store setup → RanOn setup turns old new result
    → IsRunOf config turns old new result
run_of config turns old new setup result fresh sets ran = record {
  text = sets.0;
  gave = rw fresh.gave at sets.1.gave;
  setup = setup;
  sets = (sets.2.1.0, sets.2.1.1, sets.2.1.2.0, sets.2.1.2.1);
  calls = ran.run;
  log = rw fresh.log at ran.grew.log;
  ran = subst (λ (sink : SinkReport). RunsTo setup turns (run_report_of old sink) (run_report_of new new.out) result
      ran.run) fresh.out ran.holds;
}

uncalled : (old new : Reports) → IsFresh old → IsIdle old new → IsUncalled new
uncalled old new fresh idle = record {
  log = ap (λ (links : LinksReport). links.log) idle.0 ∙ fresh.log;
  out = idle.1 ∙ fresh.out;
}

served : (config : List ℕ) (turns : ℕ) (old new : Reports) (ending : Ending) → IsFresh old
    → ServeEnds config turns old new ending → HasServed config turns old new (status_of ending)
served config turns old new Finished fresh (setup, sets, (hub, ran)) =
    (hub, run_of config turns old new setup (Ok hub) fresh sets ran)
served config turns old new LinksFailed fresh (setup, sets, ran, rose) =
    run_of config turns old new setup (Err fault.Links) fresh sets ran
served config turns old new WriteFailed fresh (setup, sets, ran, rose) =
    run_of config turns old new setup (Err fault.Sink) fresh sets ran
served config turns old new OutOfMemory fresh (inl refused) = inl (uncalled old new fresh refused.1)
served config turns old new OutOfMemory fresh (inr (setup, sets, ran, links_quiet, out_quiet)) =
    inr (run_of config turns old new setup (Err fault.Memory) fresh sets ran)
served config turns old new (ConfigRefused refusal) fresh refused = uncalled old new fresh refused.1
served config turns old new (Unread unread) fresh refused = uncalled old new fresh refused.1
served config turns old new (OverLimit over limit) fresh refused = uncalled old new fresh refused.1
served config turns old new (BytesLeft count) fresh refused = uncalled old new fresh refused.1
served config turns old new (ScriptRefused line) fresh refused = uncalled old new fresh refused.1

pub has_served : (config : List ℕ) (turns : ℕ) (old new : Reports) (Unasked : Type 0) (status : Status) → IsFresh old
    → Serves config turns old new Unasked status → HasServed config turns old new status
has_served config turns old new Unasked status fresh serves =
    subst (λ (s : Status). HasServed config turns old new s) (sym serves.ended)
    (served config turns old new serves.ending fresh serves.ends)

-- the arguments of `serve` are no option
pub serve_no_option : (words : List (List ℕ)) (config : List ℕ) (turns : ℕ) → IsServe words config turns
    → IsNoOption words
serve_no_option words config turns (inl (are, most)) = (
  λ help. let both : serve_words config ≡ help_words = sym are ∙ help in cc,
  λ version. let both : serve_words config ≡ version_words = sym are ∙ version in cc,
)
serve_no_option words config turns (inr (number, are, is)) = (
  λ help. let both : serve_turns_words config number ≡ help_words = sym are ∙ help in cc,
  λ version. let both : serve_turns_words config number ≡ version_words = sym are ∙ version in cc,
)

pub if_ok : {T E : Type 0} (P Q : T → Type 0) (answer : Result T E) → IfOk answer P
    → ((value : T) → P value → Q value) → IfOk answer Q
if_ok P Q (Ok value) fact step = step value fact
if_ok P Q (Err error) fact step = tt
