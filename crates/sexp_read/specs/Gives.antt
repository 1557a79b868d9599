-- What a call answers, beside what its bytes are.
use Rattle.std.specs.Prelude.{◌≡◌, ℕ, List, Option, Some, None, Result, Ok, Err}
use Rattle.sexp_read.specs.declared.fault.SexpFault.{SexpFault}
use Rattle.sexp_read.specs.declared.fault.SexpFault.TheVariants.{Refused, Memory}
use Rattle.sexp_read.specs.declared.fault.SexpWhy.TheVariants.{Escape}
use Rattle.sexp_read.specs.Tokens.{Fault}

-- the call failed for this fault, or is out of memory
abbrev pub Fails : {X : Type 0} → SexpFault → Result X Fault → Type 0
Fails Memory read = Unit {0}
Fails (Refused place why) read = read ≡ Err (place, why)

-- the call answers what is read, or the call is out of memory
abbrev pub Gives : {X : Type 0} → Result X SexpFault → Result X Fault → Type 0
Gives (Ok x) read = read ≡ Ok x
Gives (Err fault) read = Fails fault read

-- what is after the backslash at the place is not an escape, or the call is out of memory
abbrev pub IsEscapeFault : SexpFault → ℕ → Option (List ℕ) → Type 0
IsEscapeFault Memory place escape = Unit {0}
IsEscapeFault (Refused at why) place escape = (at ≡ place) × (why ≡ Escape) × (escape ≡ None)

-- the call failed for this fault, or is out of memory
abbrev pub IsFault : SexpFault → Option Fault → Type 0
IsFault Memory fault = Unit {0}
IsFault (Refused place why) fault = fault ≡ Some (place, why)
