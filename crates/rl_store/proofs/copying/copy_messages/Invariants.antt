use Rattle.std.proofs.Common.{◌≡◌, ◌++◌, drop}
use Rattle.rl_store.proofs.copying.copy_messages.Given as goal

abbrev pub invariant-loop-message : goal.invariant-loop-message
invariant-loop-message l = l.copies.items ++ drop l.message-index l.messages ≡ l.messages
