-- A call that takes no byte of a stream.
use Rattle.std.proofs.Common.{ℕ, List, [], Option, Some, None, sym, ◌∙◌, append-nil}
use Rattle.std.specs.Io.KnownBytes.{Appends, Consumes, Keeps}

pub kept_nothing : (left left' : Option (List ℕ)) → Keeps left left' → Consumes left left' []
kept_nothing None left' kept = tt
kept_nothing (Some xs) None kept = kept
kept_nothing (Some xs) (Some ys) kept = sym kept

pub took_nothing : (contents contents' : Option (List ℕ)) → Appends contents contents' [] → Keeps contents contents'
took_nothing None contents' took = tt
took_nothing (Some xs) None took = took
took_nothing (Some xs) (Some ys) took = took ∙ append-nil xs
