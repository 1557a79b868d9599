use Rattle.std.proofs.Common.{inl, inr, refl}
use Rattle.command_setup.proofs.SetupLaws.{refused_rose}
use Rattle.command_record.proofs.CauseLaws.{refused_causes}
use Rattle.command_record.proofs.RecordLaws.{recorded_reads, refused_not_complete}
use Rattle.command_record.proofs.record_command.record_config.Goals as goal

pub returns-in-Ok-clause-ends : goal.returns-in-Ok-clause-ends
returns-in-Ok-clause-ends g c = λ err err'. inr (record {
  text = c.in-Ok.fetched.0;
  setup = c.in-Ok.fetched.1;
  has = c.in-Ok.ensures.text;
  sets = c.in-Ok.ensures.setup;
  ends = rw (c.in-Ok.ensures.same, c.as_slice-text.ensures) at c.record_run.ensures.ends;
})

pub returns-in-Ok-clause-reads : goal.returns-in-Ok-clause-reads
returns-in-Ok-clause-reads g c =
    recorded_reads c.args.config.now _ _ c.record_run.result c.record_run.ensures.not_read c.in-Ok.ensures.read

pub returns-in-Ok-clause-read_fault : goal.returns-in-Ok-clause-read_fault
returns-in-Ok-clause-read_fault g c = λ e. absurd (c.record_run.ensures.not_read e)

pub returns-in-Ok-clause-unasked : goal.returns-in-Ok-clause-unasked
returns-in-Ok-clause-unasked g c = λ none. absurd (c.record_run.ensures.configured none)

pub returns-in-Err-clause-ends : goal.returns-in-Err-clause-ends
returns-in-Err-clause-ends g c = λ err err'. inl (record {
  shared = c.in-Err.ending;
  ended = refl;
  refuses = c.in-Err.ensures.fault;
  idle = (refl, refl, refl);
  uncalled = refl;
})

pub returns-in-Err-clause-causes : goal.returns-in-Err-clause-causes
returns-in-Err-clause-causes g c =
    refused_causes c.args.config.now (g.S.Store.report c.args.store.now) (g.S.Store.report c.fetch_text.new.store)
    (g.P.Patterns.report c.args.patterns.now) (g.P.Patterns.report c.fetch_text.new.patterns) c.in-Err.ending _ _ _
    c.in-Err.ensures.fault

pub returns-in-Err-clause-read_fault : goal.returns-in-Err-clause-read_fault
returns-in-Err-clause-read_fault g c = λ e.
    refused_rose c.args.config.now (g.S.Store.report c.args.store.now) (g.S.Store.report c.fetch_text.new.store)
    (g.P.Patterns.report c.args.patterns.now)
    (g.P.Patterns.report c.fetch_text.new.patterns) c.in-Err.ending c.in-Err.ensures.fault e

pub returns-in-Err-clause-quiet : goal.returns-in-Err-clause-quiet
returns-in-Err-clause-quiet g c =
    λ complete. absurd (refused_not_complete c.args.config.now (g.S.Store.report c.args.store.now)
    (g.S.Store.report c.fetch_text.new.store)
    (g.P.Patterns.report c.args.patterns.now) (g.P.Patterns.report c.fetch_text.new.patterns) c.in-Err.ending
    c.in-Err.ensures.fault complete)
