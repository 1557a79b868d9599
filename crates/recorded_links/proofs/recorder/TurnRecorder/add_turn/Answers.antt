use Rattle.std.proofs.Common.{◌≡◌, refl, rules}
use Rattle.journal_format.specs.Spelling.{record_bytes}
use Rattle.recorded_links.specs.Keeping.{entry_of, kept_of}
use Rattle.recorded_links.proofs.KeepLaws.{bytes_short, turn_allowed, turn_next, untouched}
use Rattle.recorded_links.proofs.recorder.TurnRecorder.add_turn.Goals as goal

pub add-requires-clause-next : goal.add-requires-clause-next
add-requires-clause-next g c =
    let is : c.fill_turn.new.bytes.items ≡ record_bytes
    (entry_of c.args.self.now.sends.now.summaries.items c.args.turn c.args.piece.now) = search rules in
    turn_next c.args.self.now.sends.now.summaries.items c.args.turn c.args.piece.now c.fill_turn.new.bytes.items
    c.args.self.now.journal.has_record
    (turn_allowed c.args.self.now.sends.now.summaries.items c.args.turn c.args.piece.now c.args.self.now.sends.now.few
    c.args.self.now.sends.now.words c.args.self.now.sends.now.distinct c.fill_turn.ensures.fits.0
    c.fill_turn.ensures.fits.1 c.requires.piece) is c.requires.begun

pub add-requires-clause-short : goal.add-requires-clause-short
add-requires-clause-short g c =
    let is : c.fill_turn.new.bytes.items ≡ record_bytes
    (entry_of c.args.self.now.sends.now.summaries.items c.args.turn c.args.piece.now) = search rules in
    bytes_short (entry_of c.args.self.now.sends.now.summaries.items c.args.turn c.args.piece.now)
    c.fill_turn.new.bytes.items
    (turn_allowed c.args.self.now.sends.now.summaries.items c.args.turn c.args.piece.now c.args.self.now.sends.now.few
    c.args.self.now.sends.now.words c.args.self.now.sends.now.distinct c.fill_turn.ensures.fits.0
    c.fill_turn.ensures.fits.1 c.requires.piece) is

pub returns-in-Err-clause-records : goal.returns-in-Err-clause-records
returns-in-Err-clause-records g c =
    untouched (record_bytes (entry_of c.args.self.now.sends.now.summaries.items c.args.turn c.args.piece.now))
    (kept_of (g.D.Disk.report c.args.self.now.journal.disk.now).past c.args.self.now.journal.gate
    c.args.self.now.journal.has_record) (kept_of (g.D.Disk.report c.args.self.now.journal.disk.now).past
    c.args.self.now.journal.gate c.args.self.now.journal.has_record) refl

pub returns-in-Ok-clause-allowed : goal.returns-in-Ok-clause-allowed
returns-in-Ok-clause-allowed g c =
    turn_allowed c.args.self.now.sends.now.summaries.items c.args.turn c.args.piece.now c.args.self.now.sends.now.few
    c.args.self.now.sends.now.words c.args.self.now.sends.now.distinct c.fill_turn.ensures.fits.0
    c.fill_turn.ensures.fits.1 c.requires.piece

pub returns-in-Err-clause-allowed : goal.returns-in-Err-clause-allowed
returns-in-Err-clause-allowed g c =
    turn_allowed c.args.self.now.sends.now.summaries.items c.args.turn c.args.piece.now c.args.self.now.sends.now.few
    c.args.self.now.sends.now.words c.args.self.now.sends.now.distinct c.fill_turn.ensures.fits.0
    c.fill_turn.ensures.fits.1 c.requires.piece
