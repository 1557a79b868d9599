use Rattle.std.proofs.Common.{sym, inl, inr}
use Rattle.script_text.proofs.PieceLemmas.{piece_of_ok, piece_of_err}
use Rattle.script_text.proofs.word.decode_piece.Goals as goal

pub returns-in-Ok : goal.returns-in-Ok
returns-in-Ok c =
    let made = rw c.from_vec.ensures at c.from_blob.ensures in
    piece_of_ok c.args.word.now c.in-Ok.bytes.items c.from_blob.result c.requires.some c.requires.within
    c.in-Ok.ensures.ok made

pub returns-in_default : goal.returns-in_default
returns-in_default c = elim c.in-Err.ensures.err [
  | inl memory ↦ absurd (c.in_default.not-OutOfMemory memory)
  | inr refused ↦ sym (piece_of_err c.args.word.now c.in-Err.fault refused)
]
