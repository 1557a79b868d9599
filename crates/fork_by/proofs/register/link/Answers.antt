use Rattle.std.proofs.Common.{List, ◌++◌, ◌∷◌, [], ℕ, ◌∙◌, ap}
use Rattle.std.specs.Map.{lookup}
use Rattle.ev_types.specs.declared.value.Value.{Value}
use Rattle.ev_types.specs.Key.{same_key}
use Rattle.fork_by.proofs.NewNumberLaws.{inserted-new}
use Rattle.fork_by.proofs.register.link.Goals as goal

pub returns-clause-entries : goal.returns-clause-entries
returns-clause-entries c =
    c.in_ok-insert.ensures.entries
    ∙ inserted-new c.reserve.new.self.entries c.args.key c.in_ok-number.number
    (ap (λ (entries : List (List Value × ℕ)). lookup (same_key c.args.key) entries) c.reserve.ensures.entries
    ∙ c.requires.key)
    ∙ ap (λ (entries : List (List Value × ℕ)). entries ++ (c.args.key, c.in_ok-number.number) ∷ [])
    c.reserve.ensures.entries
