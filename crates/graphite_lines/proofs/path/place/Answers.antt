use Rattle.std.proofs.Common.{◌≡◌, ◌-◌, arith}
use Rattle.graphite_lines.specs.Spans.{IsSpan}
use Rattle.graphite_lines.proofs.PathLaws.{cut_length, host_of_span, part_length, end_may_be_cut, no_host, no_longer}
use Rattle.graphite_lines.proofs.PathLaws.{start_may_be_cut}
use Rattle.graphite_lines.proofs.path.place.Goals as goal

pub range-requires-clause-start_boundary : goal.range-requires-clause-start_boundary
range-requires-clause-start_boundary c positive =
    start_may_be_cut c.args.path.now _ c.in-Some-part_span.start c.in-Some-part_span.end c.utf8.path
    (rw c.as_bytes.ensures.value at c.in-Some-part_span.ensures)

pub range-requires-in-Some-part_span-clause-end_boundary : goal.range-requires-in-Some-part_span-clause-end_boundary
range-requires-in-Some-part_span-clause-end_boundary c =
    start_may_be_cut c.args.path.now _ c.in-Some-part_span.start c.in-Some-part_span.end c.utf8.path
    (rw c.as_bytes.ensures.value at c.in-Some-part_span.ensures)

pub range_from-requires : goal.range_from-requires
range_from-requires c positive =
    end_may_be_cut c.args.path.now _ c.in-Some-part_span.start c.in-Some-part_span.end c.utf8.path
    (rw c.as_bytes.ensures.value at c.in-Some-part_span.ensures)

pub returns-in-None : goal.returns-in-None
returns-in-None c =
    let none = no_host c.args.path.now c.in-Some.number (rw c.as_bytes.ensures.value at c.in-None.ensures) in
    rw c.in-Some.is (record { host = none.0; service = none.1; short = no_longer c.args.path.now; host_short = tt })

pub returns-in-Some-part_span : goal.returns-in-Some-part_span
returns-in-Some-part_span c =
    let path = c.args.path.now in let start = c.in-Some-part_span.start in let end = c.in-Some-part_span.end in
    let span : IsSpan path c.in-Some.number start end = rw c.as_bytes.ensures.value at c.in-Some-part_span.ensures in
    let whole : start - 0 ≡ start = omega arith in
    let host = host_of_span path c.in-Some.number start end span in
    record {
      host = rw (c.in-Some.is, c.range.ensures.value) host.0;
      service = rw (c.in-Some.is, c.range-in-Some-part_span.ensures.value, c.range_from.ensures.value, whole) host.1;
      short =
          rw (c.range-in-Some-part_span.ensures.value, c.range_from.ensures.value, whole)
          (cut_length path start end span.ordered span.within);
      host_short = rw c.range.ensures.value (part_length path start end span.ordered span.within);
    }
