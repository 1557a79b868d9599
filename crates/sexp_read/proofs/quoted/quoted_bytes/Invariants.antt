use Rattle.std.proofs.Common.{◌≡◌, ◌-◌, ◌≤◌, length, drop}
use Rattle.sexp_read.specs.Tokens.{quoted_from, with_prefix}
use Rattle.sexp_read.proofs.quoted.quoted_bytes.Given as goal

abbrev pub invariant-quoted : goal.invariant-quoted
invariant-quoted l = (l.place ≤ l.next) × (l.next ≤ length l.text)
    × (with_prefix l.bytes (quoted_from l.kind l.start l.next (drop l.next l.text))
    ≡ quoted_from l.kind l.start l.place (drop l.place l.text))

abbrev pub decreases-quoted : goal.decreases-quoted
decreases-quoted l = length l.text - l.next
