-- The command that is carried out is the one of the arguments.
use Rattle.std.specs.Option.{option_and_then, option_map}
use Rattle.std.proofs.Common.{◌≡◌, ℕ, List, [], ◌∷◌, Option, Some, None, ap, refl, sym, ◌∙◌, subst, inl, inr}
use Rattle.std.specs.Prelude.{codes, if◌then◌else◌, true, false}
use Rattle.std.specs.Str.{bytes_eq}
use Rattle.command_io.specs.Endings.{GotLineOf}
use Rattle.command_io.specs.Lines.{usage_line}
use Rattle.command_io.specs.Reports.{Reports}
use Rattle.command_io.specs.declared.status.Status.{Status}
use Rattle.command_io.specs.declared.status.Status.TheVariants.{Usage}
use Rattle.disk_port.specs.Calls.{DiskReport}
use Rattle.ports.specs.Counts.{greatest}
use Rattle.script_text.specs.Words.{number_of}
use Rattle.riemann_commands.specs.declared.command.Command.{Command}
use Rattle.riemann_commands.specs.declared.command.Command.TheVariants.{Feed, Check, Replay, Serve, Load, Graphite}
use Rattle.riemann_commands.specs.declared.command.Command.TheVariants.{Test, Send, Query, Record, Resume}
use Rattle.riemann_commands.specs.Commands.{IsCommandOf}
use Rattle.riemann_commands.specs.Promises.{Promises, Sameness}
use Rattle.riemann_commands.specs.Words.{IsGraphite, IsLoad, IsQuery, IsSend, IsServe, IsUsage}
use Rattle.riemann_commands.specs.Carrying.{CarriesOut, IsWithinLimits, Named, PromiseOf, named_by}
use Rattle.riemann_commands.specs.Carrying.{feed, check, replay, serve, load, graphite, test, send, query, recording, resume}
use Rattle.riemann_commands.proofs.CommandLaws.{host_part_within, not_of_none}

-- ---- the arguments give one command

-- the command that the arguments may be of, by their number and the name
abbrev named : List (List ℕ) → Option Named
named (name ∷ (first ∷ [])) =
    if bytes_eq name (codes "check") then Some (check first)
    else if bytes_eq name (codes "serve") then Some (serve first greatest)
    else if bytes_eq name (codes "graphite") then Some (graphite first None)
    else Some (resume first)
named (name ∷ (first ∷ (second ∷ []))) =
    if bytes_eq name (codes "feed") then Some (feed first second)
    else if bytes_eq name (codes "replay") then Some (replay first second)
    else if bytes_eq name (codes "test") then Some (test first second)
    else if bytes_eq name (codes "send") then Some (send first second greatest)
    else if bytes_eq name (codes "query") then Some (query first second greatest)
    else Some (recording first second)
named (name ∷ (first ∷ (second ∷ (third ∷ [])))) =
    if bytes_eq name (codes "serve") then option_map (serve first) (number_of third)
    else if bytes_eq name (codes "graphite") then option_map (λ part. graphite first (Some part)) (number_of third)
    else option_and_then (λ count. option_map (load first count) (number_of third)) (number_of second)
named (name ∷ (first ∷ (second ∷ (option ∷ (number ∷ []))))) =
    if bytes_eq name (codes "send") then option_map (send first second) (number_of number)
    else option_map (query first second) (number_of number)
named words = None

is_serve : (words : List (List ℕ)) (config : List ℕ) (turns : ℕ) → IsServe words config turns
    → named words ≡ Some (serve config turns)
is_serve words config turns (inl (are, most)) = ap named are ∙ ap (λ n. Some (serve config n)) (sym most)
is_serve words config turns (inr (number, are, is)) = ap named are ∙ ap (option_map (serve config)) is

is_load : (words : List (List ℕ)) (config : List ℕ) (count start : ℕ) → IsLoad words config count start
    → named words ≡ Some (load config count start)
is_load words config count start is =
    ap named is.are ∙ rw (is.counts, is.starts) refl

is_graphite : (words : List (List ℕ)) (file : List ℕ) (host_part : Option ℕ) → IsGraphite words file host_part
    → named words ≡ Some (graphite file host_part)
is_graphite words file host_part (inl (are, none)) = ap named are ∙ ap (λ part. Some (graphite file part)) (sym none)
is_graphite words file host_part (inr (number, part, are, is, some)) =
    ap named are ∙ ap (option_map (λ n. graphite file (Some n))) is.digits
    ∙ ap (λ part. Some (graphite file part)) (sym some)

is_send : (words : List (List ℕ)) (address file : List ℕ) (turns : ℕ) → IsSend words address file turns
    → named words ≡ Some (send address file turns)
is_send words address file turns (inl (are, most)) = ap named are ∙ ap (λ n. Some (send address file n)) (sym most)
is_send words address file turns (inr (number, are, is)) = ap named are ∙ ap (option_map (send address file)) is

is_query : (words : List (List ℕ)) (address text : List ℕ) (turns : ℕ) → IsQuery words address text turns
    → named words ≡ Some (query address text turns)
is_query words address text turns (short, inl (are, most)) =
    ap named are ∙ ap (λ n. Some (query address text n)) (sym most)
is_query words address text turns (short, inr (number, are, is)) =
    ap named are ∙ ap (option_map (query address text)) is

is_named : (words : List (List ℕ)) (command : Command) → IsCommandOf words command
    → named words ≡ Some (named_by command)
is_named words (Serve config turns) is = is_serve words config.now turns is
is_named words (Load config count start) is = is_load words config.now count start is
is_named words (Graphite file host_part) is = is_graphite words file.now host_part is
is_named words (Send address file turns) is = is_send words address.now file.now turns is
is_named words (Query address text turns) is = is_query words address.now text.now turns is
is_named words _ is = ap named is

pub within_limits : (words : List (List ℕ)) (command : Command) → IsCommandOf words command → IsWithinLimits command
within_limits words (Load config count start) is = is.few
within_limits words (Graphite file host_part) is = host_part_within words file.now host_part is
within_limits words (Query address text turns) is = is.0
within_limits words _ is = tt

-- ---- all that is promised of the arguments

pub keeps_promises : (words : List (List ℕ)) (command : Command) (old new : Reports) (disk disk' : DiskReport)
    (same : Sameness) (status : Status)
    → IsCommandOf words command
    → CarriesOut words command old new disk disk' same status → Promises words old new disk disk' same status
keeps_promises words command old new disk disk' same status is carried = record {
  usage = (λ e. absurd (carried.not_usage e), λ usage. absurd (not_of_none words command is usage));
  command = λ not_usage. (command, is);
  idle = λ e. absurd (carried.not_usage e);
  untouched = carried.untouched;
  memory =
      λ e no_replay no_serve no_test no_record no_resume.
      carried.memory e (no_replay, no_serve, no_test, no_record, no_resume);
  no_line = λ quiet no_feed no_graphite. carried.no_line quiet (no_feed, no_graphite);
  done = carried.done;
  read_fault = carried.read_fault;
  sink_fault = carried.sink_fault;
  link_fault = carried.link_fault;
  disk_fault = carried.disk_fault;
  uncalled = λ no_record no_resume. carried.uncalled (no_record, no_resume);
  feed = λ config file are. promised (feed config file) (ap named are);
  check = λ config are. promised (check config) (ap named are);
  replay = λ config script are. promised (replay config script) (ap named are);
  serve = λ config turns are. promised (serve config turns) (is_serve words config turns are);
  load = λ config count start are. promised (load config count start) (is_load words config count start are);
  graphite = λ file host_part are. promised (graphite file host_part) (is_graphite words file host_part are);
  test = λ config tests are. promised (test config tests) (ap named are);
  send = λ address file turns are. promised (send address file turns) (is_send words address file turns are);
  query = λ address text turns are. promised (query address text turns) (is_query words address text turns are);
  records = λ config journal are. promised (recording config journal) (ap named are);
  resumes = λ journal are. promised (resume journal) (ap named are);
}
  where
    promised : (other : Named) → named words ≡ Some other → PromiseOf other old new disk disk' same status
    promised other are =
        let both : Some (named_by command) ≡ Some other = sym (is_named words command is) ∙ are in
        let one : named_by command ≡ other = cc in
        subst (λ (n : Named). PromiseOf n old new disk disk' same status) one carried.promise

pub refuses_usage : (words : List (List ℕ)) (old new : Reports) (disk disk' : DiskReport) (same : Sameness)
    → IsUsage words → same.Store → same.Links → same.Disk → same.Out → same.Patterns → same.Steps
    → GotLineOf usage_line old.err new.err → Promises words old new disk disk' same Usage
refuses_usage words old new disk disk' same usage store links uncalled out patterns steps line = record {
  usage = (λ e. usage, λ none. refl);
  command = λ not_usage. absurd (not_usage refl);
  idle = λ e. (store, links, uncalled, patterns, steps, line);
  untouched = λ refused. ((λ not_test. out), links);
  memory = λ e not_replay not_serve not_test not_record not_resume. out;
  no_line = λ quiet. absurd quiet;
  done = λ e. absurd cc;
  read_fault = λ e. absurd cc;
  sink_fault = λ e. absurd cc;
  link_fault = λ e. absurd cc;
  disk_fault = λ e. absurd cc;
  uncalled = λ not_record not_resume. uncalled;
  feed = λ config file is. absurd (usage.0 config file is);
  check = λ config is. absurd (usage.1 config is);
  replay = λ config script is. absurd (usage.2 config script is);
  serve = λ config turns is. absurd (usage.3 config turns is);
  load = λ config count start is. absurd (usage.4 config count start is);
  graphite = λ file host_part is. absurd (usage.5 file host_part is);
  test = λ config tests is. absurd (usage.6 config tests is);
  send = λ address file turns is. absurd (usage.7 address file turns is);
  query = λ address text turns is. absurd (usage.8 address text turns is);
  records = λ config journal is. absurd (usage.9 config journal is);
  resumes = λ journal is. absurd (usage.10 journal is);
}
