-- A call's fault as the fault of the text.
use Rattle.std.proofs.Common.{◌≡◌, Option, Some, Result, Err, IfErr, subst, sym}
use Rattle.sexp_read.specs.declared.fault.SexpFault.{SexpFault}
use Rattle.sexp_read.specs.declared.fault.SexpFault.TheVariants.{Refused, Memory}
use Rattle.sexp_read.specs.Tokens.{Fault}
use Rattle.sexp_read.specs.Gives.{Fails, IsFault}

pub fault_of : {X : Type 0} (fault : SexpFault) (read : Result X Fault) (reported : Option Fault)
    → Fails fault read → ((known : Fault) → read ≡ Err known → reported ≡ Some known) → IsFault fault reported
fault_of Memory read reported h from = tt
fault_of (Refused place why) read reported h from = from (place, why) h

pub same_fault : {X : Type 0} (result : Result X SexpFault) (reported known : Option Fault) → known ≡ reported
    → IfErr result (λ fault. IsFault fault reported) → IfErr result (λ fault. IsFault fault known)
same_fault result reported known e h = subst (λ (f : Option Fault). IfErr result (λ fault. IsFault fault f)) (sym e) h
