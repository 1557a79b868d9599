use Rattle.std.proofs.Common.{◌≡◌, length, take}
use Rattle.live_index.specs.Slots.{IsLinked, IsTaking}
use Rattle.live_index.proofs.slots.Slots.take_all.Given as goal

abbrev pub invariant-loop-number : goal.invariant-loop-number
invariant-loop-number g l = record {
  linked : IsLinked l.self.numbers l.self.events.values;
  counted : l.self.count ≡ length l.self.numbers;
  due : l.self.due ≡ l.fn.self.due;
  taking : IsTaking (take l.number-index l.numbers) l.fn.self.numbers l.fn.self.events.values l.self.numbers
      l.self.events.values l.events.keys;
}
