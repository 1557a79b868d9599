use Rattle.std.proofs.Common.{◌≡◌, take}
use Rattle.command_client.specs.Replies.{replies_from}
use Rattle.command_client.proofs.reply.replies_text.Given as goal

abbrev pub invariant-loop-reply : goal.invariant-loop-reply
invariant-loop-reply l = (l.text ≡ replies_from 0 (take l.reply-index l.replies)) × (l.number ≡ l.reply-index)
