use Rattle.std.proofs.Common.{inl, refl}
use Rattle.command_files.proofs.OtherLaws.{both_read}
use Rattle.command_files.proofs.FeedLaws.{feed_ended}
use Rattle.command_files.proofs.feed_command.feed_files.Goals as goal

pub returns-in-Ok-clause-ends : goal.returns-in-Ok-clause-ends
returns-in-Ok-clause-ends g c = λ links.
    feed_ended c.args.config.now c.args.file.now c.in-Ok.setup
    (g.S.Store.report c.args.store.now)
    (g.S.Store.report c.fetch_setup.new.store)
    (g.S.Store.report c.feed_file.new.store)
    links _ _ _ _ _
    (g.P.Patterns.report c.fetch_setup.new.patterns) _ _ _ _ c.feed_file.result
    c.in-Ok.ensures.setup c.in-Ok.ensures.same
    (both_read (g.S.Store.report c.args.store.now).reads (g.S.Store.report c.fetch_setup.new.store).reads
    (g.S.Store.report c.feed_file.new.store).reads
    c.args.config.now c.args.file.now c.feed_file.result c.in-Ok.ensures.read c.feed_file.ensures.reads)
    (c.feed_file.ensures.ends links)

pub returns-in-Err-clause-ends : goal.returns-in-Err-clause-ends
returns-in-Err-clause-ends g c = λ links.
    inl (c.in-Err.ensures.fault, refl, (refl, refl, refl), (c.in-Err.ensures.reads, c.in-Err.ensures.unasked))
