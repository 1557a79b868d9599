use Rattle.std.proofs.Common.{◌≡◌, ℕ, List, ◌++◌, Result, Ok, Err, IfOk, ap, subst, ◌∙◌, arith}
use Rattle.journal_format.specs.Spelling.{IsRecord, record_bytes}
use Rattle.journal_format.specs.Reading.{Gives, record_at}
use Rattle.journal_format.specs.declared.turn_record.TurnRecord.{TurnRecord}
use Rattle.journal_format.specs.declared.unread.Unread.{Unread}
use Rattle.journal_format.proofs.NumberLaws.{IsBytes}
use Rattle.journal_format.proofs.RecordLaws.{record_takes, record_again}
use Rattle.journal_format.proofs.reader.read_record.Goals as goal

is_found : {X : Type 0} (view : X → TurnRecord × List ℕ) (bytes : List ℕ) (read : Result X Unread) → IsBytes bytes
    → Gives view read (record_at bytes)
    → IfOk read (λ x. IsRecord (view x).0 × (bytes ≡ record_bytes (view x).0 ++ (view x).1))
is_found view bytes (Ok x) fits given = let t = record_takes bytes (view x) fits given in (t.1, t.0.parts)
is_found view bytes (Err why) fits given = tt

pub returns-clause-found : goal.returns-clause-found
returns-clause-found c =
    is_found (λ read. (read.0, read.1.now)) c.args.bytes.now c.record_at.result (λ i. omega (arith, c.type_inv.bytes i))
    c.record_at.ensures

pub returns-clause-only : goal.returns-clause-only
returns-clause-only c =
    λ entry rest fits e. subst (λ f. Gives (λ read. (read.0, read.1.now)) c.record_at.result f)
    (ap record_at e ∙ record_again entry rest fits) c.record_at.ensures
