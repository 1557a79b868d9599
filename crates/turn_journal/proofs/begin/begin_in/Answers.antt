use Rattle.std.proofs.Common.{subst}
use Rattle.std.specs.Option.{ForSome}
use Rattle.disk_port.specs.Past.{text_of}
use Rattle.turn_journal.specs.Beginning.{IsClosed, IsFirst, IsShort, blank_past, closed_past}
use Rattle.turn_journal.specs.declared.begin.First.{First}
use Rattle.turn_journal.proofs.BeginLaws.{begun_ok, begun_ready, closed_long, disk_why, free_if_closed, free_if_ok}
use Rattle.turn_journal.proofs.BeginLaws.{free_if_short, free_only, free_unwritten, stands_closed, stands_short}
use Rattle.turn_journal.proofs.BeginLaws.{taken_only}
use Rattle.turn_journal.proofs.begin.begin_in.Goals as goal

pub begin_closed-requires-clause-within : goal.begin_closed-requires-clause-within
begin_closed-requires-clause-within g c =
    let old = (g.D.Disk.report c.args.disk.now).past in
    let first = subst (λ (f : First). ForSome old (λ past. IsFirst (text_of past) f)) c.in-Closed.is c.requires.first in
    λ past is. closed_long past (first past is)

pub returns-in-Short-clause-ok : goal.returns-in-Short-clause-ok
returns-in-Short-clause-ok g c =
    let old = (g.D.Disk.report c.args.disk.now).past in
    let first = subst (λ (f : First). ForSome old (λ past. IsFirst (text_of past) f)) c.in-Short.is c.requires.first in
    begun_ok c.args.config.now old (g.D.Disk.report c.begin_short.new.disk).past IsShort
    (λ past. blank_past c.args.config.now (closed_past past)) first (stands_short c.args.config.now c.requires.small)
    c.begin_short.result
    c.begin_short.ensures.done c.begin_short.ensures.end

pub returns-in-Short-clause-ready : goal.returns-in-Short-clause-ready
returns-in-Short-clause-ready g c =
    let old = (g.D.Disk.report c.args.disk.now).past in
    let first = subst (λ (f : First). ForSome old (λ past. IsFirst (text_of past) f)) c.in-Short.is c.requires.first in
    begun_ready c.args.config.now old (g.D.Disk.report c.begin_short.new.disk).past IsShort
    (λ past. blank_past c.args.config.now (closed_past past)) first (stands_short c.args.config.now c.requires.small)
    c.begin_short.result
    c.begin_short.ensures.done c.begin_short.ensures.end

pub returns-in-Short-clause-free : goal.returns-in-Short-clause-free
returns-in-Short-clause-free g c =
    let old = (g.D.Disk.report c.args.disk.now).past in
    let first = subst (λ (f : First). ForSome old (λ past. IsFirst (text_of past) f)) c.in-Short.is c.requires.first in
    free_if_ok IsShort free_if_short old (g.D.Disk.report c.begin_short.new.disk).past first c.begin_short.result

pub returns-in-Short-clause-refused : goal.returns-in-Short-clause-refused
returns-in-Short-clause-refused g c =
    disk_why c.begin_short.result (g.D.Disk.report c.args.disk.now).past c.begin_short.ensures.unrefused

pub returns-in-Short-clause-unwritten : goal.returns-in-Short-clause-unwritten
returns-in-Short-clause-unwritten g c =
    let old = (g.D.Disk.report c.args.disk.now).past in
    let first = subst (λ (f : First). ForSome old (λ past. IsFirst (text_of past) f)) c.in-Short.is c.requires.first in
    free_unwritten IsShort free_if_short old (g.D.Disk.report c.begin_short.new.disk).past first

pub returns-in-Short-clause-any_moment : goal.returns-in-Short-clause-any_moment
returns-in-Short-clause-any_moment g c =
    let old = (g.D.Disk.report c.args.disk.now).past in
    let first = subst (λ (f : First). ForSome old (λ past. IsFirst (text_of past) f)) c.in-Short.is c.requires.first in
    free_only IsShort free_if_short old (g.D.Disk.report c.begin_short.new.disk).past first c.args.config.now
    c.begin_short.ensures.any_moment

pub returns-in-Closed-clause-ok : goal.returns-in-Closed-clause-ok
returns-in-Closed-clause-ok g c =
    let old = (g.D.Disk.report c.args.disk.now).past in
    let first = subst (λ (f : First). ForSome old (λ past. IsFirst (text_of past) f)) c.in-Closed.is c.requires.first in
    begun_ok c.args.config.now old (g.D.Disk.report c.begin_closed.new.disk).past IsClosed
    (blank_past c.args.config.now) first (stands_closed c.args.config.now c.requires.small) c.begin_closed.result
    c.begin_closed.ensures.done c.begin_closed.ensures.end

pub returns-in-Closed-clause-ready : goal.returns-in-Closed-clause-ready
returns-in-Closed-clause-ready g c =
    let old = (g.D.Disk.report c.args.disk.now).past in
    let first = subst (λ (f : First). ForSome old (λ past. IsFirst (text_of past) f)) c.in-Closed.is c.requires.first in
    begun_ready c.args.config.now old (g.D.Disk.report c.begin_closed.new.disk).past IsClosed
    (blank_past c.args.config.now) first (stands_closed c.args.config.now c.requires.small) c.begin_closed.result
    c.begin_closed.ensures.done c.begin_closed.ensures.end

pub returns-in-Closed-clause-free : goal.returns-in-Closed-clause-free
returns-in-Closed-clause-free g c =
    let old = (g.D.Disk.report c.args.disk.now).past in
    let first = subst (λ (f : First). ForSome old (λ past. IsFirst (text_of past) f)) c.in-Closed.is c.requires.first in
    free_if_ok IsClosed free_if_closed old (g.D.Disk.report c.begin_closed.new.disk).past first c.begin_closed.result

pub returns-in-Closed-clause-refused : goal.returns-in-Closed-clause-refused
returns-in-Closed-clause-refused g c =
    disk_why c.begin_closed.result (g.D.Disk.report c.args.disk.now).past c.begin_closed.ensures.unrefused

pub returns-in-Closed-clause-unwritten : goal.returns-in-Closed-clause-unwritten
returns-in-Closed-clause-unwritten g c =
    let old = (g.D.Disk.report c.args.disk.now).past in
    let first = subst (λ (f : First). ForSome old (λ past. IsFirst (text_of past) f)) c.in-Closed.is c.requires.first in
    free_unwritten IsClosed free_if_closed old (g.D.Disk.report c.begin_closed.new.disk).past first

pub returns-in-Closed-clause-any_moment : goal.returns-in-Closed-clause-any_moment
returns-in-Closed-clause-any_moment g c =
    let old = (g.D.Disk.report c.args.disk.now).past in
    let first = subst (λ (f : First). ForSome old (λ past. IsFirst (text_of past) f)) c.in-Closed.is c.requires.first in
    free_only IsClosed free_if_closed old (g.D.Disk.report c.begin_closed.new.disk).past first c.args.config.now
    c.begin_closed.ensures.any_moment

pub returns-in-Taken-clause-any_moment : goal.returns-in-Taken-clause-any_moment
returns-in-Taken-clause-any_moment g c =
    let old = (g.D.Disk.report c.args.disk.now).past in
    let first = subst (λ (f : First). ForSome old (λ past. IsFirst (text_of past) f)) c.in-Taken.is c.requires.first in
    taken_only c.args.config.now old first
