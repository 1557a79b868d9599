-- The sends of a turn so far, in the loop that sends.
use Rattle.ports.specs.Calls.{LinksReport}
use Rattle.riemann_client.specs.Client.{IsUnclosed, link_of}
use Rattle.riemann_client.specs.Sending.{KeepsReplies, MakesCalls, Sends}
use Rattle.riemann_client.specs.declared.client.Client.{Client}
use Rattle.riemann_client.proofs.SendLaws.{keeps_nothing, keeps_then, makes_nothing, makes_then, sends_nothing}
use Rattle.riemann_client.proofs.SendLaws.{sends_then}

pub record SentSoFar (before now : LinksReport) (client client' : Client) : Type 0 where
  pub keeps : KeepsReplies client client'
  pub known : IsUnclosed now.log (link_of client')
  pub sends : MakesCalls before now (Sends client client')

pub sent_nothing : (report : LinksReport) (client : Client) → IsUnclosed report.log (link_of client)
    → SentSoFar report report client client
sent_nothing report client known = record {
  keeps = keeps_nothing client;
  known = known;
  sends = makes_nothing report (Sends client client) (sends_nothing client);
}

pub sent_more : (a b c : LinksReport) (one two three : Client) → SentSoFar a b one two → SentSoFar b c two three
    → SentSoFar a c one three
sent_more a b c one two three before after = record {
  keeps = keeps_then one two three before.keeps after.keeps;
  known = after.known;
  sends = makes_then a b c (Sends one two) (Sends two three) (Sends one three) before.sends after.sends
      (λ first second. sends_then one two three first second before.keeps);
}
