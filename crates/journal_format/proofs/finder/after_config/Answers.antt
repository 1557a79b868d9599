use Rattle.std.proofs.Common.{◌≡◌, Some, inr, refl, sym, subst, arith, rules}
use Rattle.std.specs.Int.{w32}
use Rattle.journal_format.specs.Reading.{number_at}
use Rattle.journal_format.specs.Finding.{IsHead}
use Rattle.journal_format.proofs.FindLaws.{ends_in_config, is_head}
use Rattle.journal_format.proofs.finder.after_config.Goals as goal

pub returns-then-size-rest : goal.returns-then-size-rest
returns-then-size-rest c =
    let read : number_at w32 c.args.bytes.now ≡ Some (c.in-Ok.size, c.in-Ok.rest.now) = search rules in
    inr (
      refl,
      ends_in_config c.args.bytes.now c.in-Ok.size c.in-Ok.rest.now (λ i. omega (arith, c.type_inv.bytes i)) read
          (omega arith) (omega arith),
    )

pub returns : goal.returns
returns c =
    let read : number_at w32 c.args.bytes.now ≡ Some (c.in-Ok.size, c.in-Ok.rest.now) = search rules in
    subst (IsHead c.args.bytes.now) (sym c.split_at.ensures.back)
    (is_head c.args.bytes.now c.in-Ok.size c.in-Ok.rest.now (λ i. omega (arith, c.type_inv.bytes i)) read (omega arith)
    (omega arith))
