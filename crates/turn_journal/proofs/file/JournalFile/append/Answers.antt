use Rattle.std.proofs.Common.{◌≡◌, ◌∷◌, ◌++◌, [], length, rules}
use Rattle.turn_journal.proofs.AppendLaws.{moved_moment, moved_ok, moved_ready, moved_within}
use Rattle.turn_journal.proofs.file.JournalFile.append.Goals as goal

pub returns-in_err-append_on-clause-any_moment : goal.returns-in_err-append_on-clause-any_moment
returns-in_err-append_on-clause-any_moment g c =
    let old = (g.D.Disk.report c.args.self.now.disk.now).past in
    let told = (g.D.Disk.report c.fill.new.self.disk.now).past in
    let new = (g.D.Disk.report c.append_on.new.disk).past in
    let same : (g.D.Disk.report c.fill.new.self.disk.now).past ≡ (g.D.Disk.report c.args.self.now.disk.now).past = cc in
    let is : c.as_slice.result.now ≡ c.args.bytes.now ++ 0 ∷ [] = search rules in
    moved_moment old told new c.args.self.now.gate c.fill.new.self.gate c.args.bytes.now c.as_slice.result.now same
    c.fill.ensures.gate is c.args.self.now.has_record c.append_on.ensures.any_moment

pub returns-clause-any_moment : goal.returns-clause-any_moment
returns-clause-any_moment g c =
    let old = (g.D.Disk.report c.args.self.now.disk.now).past in
    let told = (g.D.Disk.report c.fill.new.self.disk.now).past in
    let new = (g.D.Disk.report c.append_on.new.disk).past in
    let same : (g.D.Disk.report c.fill.new.self.disk.now).past ≡ (g.D.Disk.report c.args.self.now.disk.now).past = cc in
    let is : c.as_slice.result.now ≡ c.args.bytes.now ++ 0 ∷ [] = search rules in
    moved_moment old told new c.args.self.now.gate c.fill.new.self.gate c.args.bytes.now c.as_slice.result.now same
    c.fill.ensures.gate is c.args.self.now.has_record c.append_on.ensures.any_moment

pub returns-clause-ok : goal.returns-clause-ok
returns-clause-ok g c =
    let old = (g.D.Disk.report c.args.self.now.disk.now).past in
    let told = (g.D.Disk.report c.fill.new.self.disk.now).past in
    let new = (g.D.Disk.report c.append_on.new.disk).past in
    let same : (g.D.Disk.report c.fill.new.self.disk.now).past ≡ (g.D.Disk.report c.args.self.now.disk.now).past = cc in
    let is : c.as_slice.result.now ≡ c.args.bytes.now ++ 0 ∷ [] = search rules in
    let size : c.len.result ≡ length c.as_slice.result.now = search rules in
    moved_ok old told new c.args.self.now.gate c.fill.new.self.gate c.args.bytes.now c.as_slice.result.now same
    c.fill.ensures.gate is c.args.self.now.has_record c.len.result size c.in_ok-append_on.ensures.ok

pub returns-clause-ready : goal.returns-clause-ready
returns-clause-ready g c = λ was.
    let old = (g.D.Disk.report c.args.self.now.disk.now).past in
    let told = (g.D.Disk.report c.fill.new.self.disk.now).past in
    let new = (g.D.Disk.report c.append_on.new.disk).past in
    let same : (g.D.Disk.report c.fill.new.self.disk.now).past ≡ (g.D.Disk.report c.args.self.now.disk.now).past = cc in
    let is : c.as_slice.result.now ≡ c.args.bytes.now ++ 0 ∷ [] = search rules in
    let size : c.len.result ≡ length c.as_slice.result.now = search rules in
    moved_ready old told new c.args.self.now.gate c.fill.new.self.gate c.args.bytes.now c.as_slice.result.now same
    c.fill.ensures.gate is c.args.self.now.has_record c.len.result size was c.requires.next
    c.in_ok-append_on.ensures.ready

pub append_on-requires-clause-within : goal.append_on-requires-clause-within
append_on-requires-clause-within g c =
    let same : (g.D.Disk.report c.fill.new.self.disk.now).past ≡ (g.D.Disk.report c.args.self.now.disk.now).past = cc in
    moved_within (g.D.Disk.report c.args.self.now.disk.now).past
    (g.D.Disk.report c.fill.new.self.disk.now).past c.args.self.now.gate c.fill.new.self.gate same c.fill.ensures.gate
    (c.args.self.now.within c.requires.sound)
