use Rattle.std.proofs.Common.{◌≡◌, Some, take}
use Rattle.std.specs.Option.{ForSome}
use Rattle.mio_links.specs.Silence.{AreNoLonger, heard_of}
use Rattle.mio_links.proofs.sockets.Sockets.longest_silent.Given as goal

abbrev pub invariant-loop-want : goal.invariant-loop-want
invariant-loop-want l = record {
  heard : ForSome l.found (λ heard. heard_of l.self heard.link ≡ Some heard.secs);
  longest : AreNoLonger l.self (take l.want-index l.wants) l.found;
}
