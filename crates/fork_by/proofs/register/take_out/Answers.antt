use Rattle.std.proofs.Common.{List, ℕ, Option, sym, ap}
use Rattle.std.specs.Option.{option_map}
use Rattle.ev_types.specs.declared.value.Value.{Value}
use Rattle.fork_by.specs.Register.{number_at}
use Rattle.fork_by.proofs.ListLaws.{left-taken}
use Rattle.fork_by.proofs.SlotLaws.{moved_none, moved_some}
use Rattle.fork_by.proofs.register.take_out.Goals as goal

pub returns-in-Some : goal.returns-in-Some
returns-in-Some c =
    let left =
    left-taken c.args.numbers.now.entries c.swap_remove_index.new.self.entries c.args.index c.swap_remove_index.result
    c.requires c.swap_remove_index.ensures.entry c.swap_remove_index.ensures.entries in record {
      keys = c.swap_remove_index.ensures.unique;
      count = left.count;
      entry = left.entry;
      moved =
          moved_some c.args.slots.now.items c.set_index.new.slots.items c.args.index c.in-Some.number.now
          (number_at c.args.index c.swap_remove_index.new.self.entries)
          (ap (λ (o : Option (List Value × ℕ)). option_map (λ entry. entry.1) o) (sym c.in-Some.ensures.entry))
          c.set_index.ensures;
    }

pub returns-in_default : goal.returns-in_default
returns-in_default c =
    let left =
    left-taken c.args.numbers.now.entries c.swap_remove_index.new.self.entries c.args.index c.swap_remove_index.result
    c.requires c.swap_remove_index.ensures.entry c.swap_remove_index.ensures.entries in record {
      keys = c.swap_remove_index.ensures.unique;
      count = left.count;
      entry = left.entry;
      moved =
          moved_none c.args.slots.now.items c.args.index (number_at c.args.index c.swap_remove_index.new.self.entries)
          (ap (λ (o : Option (List Value × ℕ)). option_map (λ entry. entry.1) o) (sym c.in_default.ensures.entry));
    }
