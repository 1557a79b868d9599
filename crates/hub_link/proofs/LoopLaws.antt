-- The sends to a link so far, in the loop that sends.
use Rattle.std.proofs.Common.{◌≡◌, refl, ◌∙◌}
use Rattle.ports.specs.Calls.{LinksReport}
use Rattle.hub_link.specs.declared.link.HubLink.{HubLink}
use Rattle.hub_link.specs.Added.{Added}
use Rattle.hub_link.specs.HubLink.{number_of}
use Rattle.hub_link.specs.Sending.{Sends}
use Rattle.hub_link.proofs.AddedLaws.{added_nothing, added_then}
use Rattle.hub_link.proofs.SendLaws.{sends_nothing, sends_then}

pub record SentSoFar (before now : LinksReport) (link link' : HubLink) : Type 0 where
  pub number : number_of link' ≡ number_of link
  pub sends : Added before now (Sends link link')

pub sent_nothing : (report : LinksReport) (link : HubLink) → SentSoFar report report link link
sent_nothing report link = record {
  number = refl;
  sends = added_nothing report (Sends link link) (sends_nothing link link (λ meant is. is));
}

pub sent_more : (a b c : LinksReport) (one two three : HubLink) → SentSoFar a b one two → SentSoFar b c two three
    → SentSoFar a c one three
sent_more a b c one two three before after = record {
  number = after.number ∙ before.number;
  sends = added_then a b c (Sends one two) (Sends two three) (Sends one three) before.sends after.sends
      (λ first second. sends_then one two three first second before.number);
}
