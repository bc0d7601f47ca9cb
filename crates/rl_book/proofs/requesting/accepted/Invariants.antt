use Rattle.std.proofs.Common.{◌≡◌, take}
use Rattle.rl_view_spec.specs.Requests.{accepted_each}
use Rattle.rl_book.proofs.requesting.accepted.Given as goal

abbrev pub invariant-loop-name : goal.invariant-loop-name
invariant-loop-name l = l.accepted.items ≡ accepted_each l.registry (take l.name-index l.names)
