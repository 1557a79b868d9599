use Rattle.std.proofs.Common.{◌≡◌, ◌+◌, ℕ, suc, List, length, take, drop, ap, sym, ◌∙◌, subst, refl, arith}
use Rattle.std.proofs.lemmas.List.{take_all}
use Rattle.std.proofs.lemmas.Result.{err_from_is_err_and}
use Rattle.notice_sink.specs.Lines.{lines_of, notice_line}
use Rattle.ports.specs.Writing.{Got}
use Rattle.conn_core.specs.Turning.{CountedPuts}
use Rattle.conn_core.proofs.LineLaws.{counted_nothing, counted_then, first_then, front_then, got_nothing, got_then}
use Rattle.conn_core.proofs.LineLaws.{lines_more, lines_split}
use Rattle.conn_core.proofs.lines.write_lines.Goals as goal

pub loop-notice-init : goal.loop-notice-init
loop-notice-init g c = record {
  got = got_nothing (g.O.Sink.report c.args.sink.now).text;
  puts = counted_nothing (g.O.Sink.report c.args.sink.now).puts;
  faults = refl;
}

pub loop-notice-preserved : goal.loop-notice-preserved
loop-notice-preserved g c =
    let notices = c.args.notices.now in
    let i = c.loop-notice.notice-index in
    let notice = c.notice-item.result in
    let next : suc i ≡ i + 1 = omega arith in
    record {
      got =
          subst
          (λ (bytes : List ℕ).
          Got (g.O.Sink.report c.args.sink.now).text bytes (g.O.Sink.report c.write_line.new.sink).text)
          (sym (lines_more notices i notice (omega arith) c.notice-item.is))
          (got_then (g.O.Sink.report c.args.sink.now).text (g.O.Sink.report c.loop-notice.sink).text
          (g.O.Sink.report c.write_line.new.sink).text (lines_of (take i notices)) (notice_line notice)
          c.loop-notice.invariant.got c.in_ok-write_line.ensures.puts.text);
      puts =
          subst
          (λ (n : ℕ). CountedPuts (g.O.Sink.report c.args.sink.now).puts n (g.O.Sink.report c.write_line.new.sink).puts)
          next
          (counted_then (g.O.Sink.report c.args.sink.now).puts (g.O.Sink.report c.loop-notice.sink).puts
          (g.O.Sink.report c.write_line.new.sink).puts i
          c.loop-notice.invariant.puts c.in_ok-write_line.ensures.puts.puts);
      faults = c.in_ok-write_line.ensures.puts.no_fault ∙ c.loop-notice.invariant.faults;
    }

pub returns-in_err-write_line-clause-prefix : goal.returns-in_err-write_line-clause-prefix
returns-in_err-write_line-clause-prefix g c =
    let p = err_from_is_err_and c.from_residual.result c.from_residual.ensures.1 in
    let notices = c.args.notices.now in
    let i = c.loop-notice.notice-index in
    let notice = c.notice-item.result in
    rw p.1 (front_then (g.O.Sink.report c.args.sink.now).text (g.O.Sink.report c.loop-notice.sink).text
    (g.O.Sink.report c.write_line.new.sink).text (lines_of (take i notices)) (notice_line notice)
    (lines_of (drop (i + 1) notices)) (lines_of notices) (lines_split notices i notice (omega arith) c.notice-item.is)
    c.loop-notice.invariant.got c.in_err-write_line.ensures.prefix)

pub returns-in_err-write_line-clause-first_lines : goal.returns-in_err-write_line-clause-first_lines
returns-in_err-write_line-clause-first_lines g c =
    let p = err_from_is_err_and c.from_residual.result c.from_residual.ensures.1 in
    rw p.1 (first_then (g.O.Sink.report c.args.sink.now)
    (g.O.Sink.report c.loop-notice.sink)
    (g.O.Sink.report c.write_line.new.sink)
    c.args.notices.now c.loop-notice.notice-index c.notice-item.result (omega arith) c.notice-item.is
    c.loop-notice.invariant.got c.loop-notice.invariant.puts c.in_err-write_line.ensures.prefix
    c.in_err-write_line.ensures.uncounted)

pub returns-clause-all : goal.returns-clause-all
returns-clause-all g c =
    let count : c.loop-notice.notice-index ≡ length c.args.notices.now = omega arith in
    record {
      text =
          subst
          (λ (bytes : List ℕ).
          Got (g.O.Sink.report c.args.sink.now).text bytes (g.O.Sink.report c.loop-notice.sink).text)
          (ap lines_of (take_all c.loop-notice.notice-index c.args.notices.now (omega arith)))
          c.loop-notice.invariant.got;
      puts =
          subst
          (λ (n : ℕ). CountedPuts (g.O.Sink.report c.args.sink.now).puts n (g.O.Sink.report c.loop-notice.sink).puts)
          count c.loop-notice.invariant.puts;
    }
