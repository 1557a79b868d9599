-- What the sink in memory takes.
use Rattle.std.specs.Prelude.{ℕ, ◌-◌, ◌==◌, List, [], take, vec_len, Some, if◌then◌else◌}
use Rattle.std.specs.List.{list_any}
use Rattle.ports.specs.Writing.{SinkReport}
use Rattle.ports.specs.declared.mem_sink.MemSink.{MemSink}

abbrev pub mem_report : MemSink → SinkReport
mem_report sink = record { text = Some sink.text.items; puts = Some sink.puts; faults = sink.faults }

-- what a put of these bytes takes: nothing where it fails by its number, else as much as there is room for
abbrev pub part_taken : MemSink → List ℕ → List ℕ
part_taken sink bytes =
    if list_any (λ number. number == sink.calls) sink.failing.items then []
    else take (sink.room - vec_len sink.text) bytes
