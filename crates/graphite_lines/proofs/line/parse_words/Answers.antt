use mir.Val.{of_z, to_z}
use Rattle.std.proofs.Common.{◌≡◌, ◌≤◌, length, ◌++◌, ap, rules, arith}
use Rattle.std.specs.Int.{w64}
use Rattle.std.specs.Option.{option_copied}
use Rattle.graphite_lines.specs.Lines.{host_in, service_in}
use Rattle.graphite_lines.specs.Words.{time_of, value_of}
use Rattle.graphite_lines.proofs.LineSays.{short_host, words_accepted}
use Rattle.graphite_lines.proofs.PathLaws.{path_length}
use Rattle.graphite_lines.proofs.line.parse_words.Goals as goal

pub returns : goal.returns
returns c =
    let path = c.args.path.now in let value = c.args.value.now in let time = c.args.time.now in
    let placed = c.place.result in let part = c.args.host_part in
    let metric_is : to_z w64 (of_z w64 c.in-Some-read_value.metric) ≡ value_of value = search rules in
    let time_is : to_z w64 (of_z w64 c.in-Some-read_time.time) ≡ time_of time = search rules in
    let host_is : option_copied placed.host ≡ host_in part path = rw c.in-Some.ensures.1 at c.place.ensures.host in
    let service_is : placed.front.now ++ placed.back.now ≡ service_in part path =
    rw c.in-Some.ensures.1 at c.place.ensures.service in
    let few = path_length path c.in-Some.ensures.0 in
    let same = ap length c.in-Some.ensures.1 in
    let most : length c.in-Some.path.now ≤ 1024 = omega arith in (
      words_accepted path value time part (option_copied placed.host) (placed.front.now ++ placed.back.now) _ _
          c.in-Some.ensures.0
          c.in-Some-read_value.ensures.0 c.in-Some-read_time.ensures.0 metric_is time_is host_is service_is,
      record {
        service = let short = c.place.ensures.short in omega arith;
        host = short_host placed.host (length c.in-Some.path.now) most c.place.ensures.host_short;
      },
    )
