use Rattle.std.proofs.Common.{◌≡◌, ℕ, ◌<◌, ◌≤◌, length, get_or, false}
use Rattle.rl_names.specs.Key.{is_at}
use Rattle.rl_names.proofs.name.halves.Given as goal

abbrev pub invariant-places : goal.invariant-places
invariant-places l = (i : ℕ) → l.at ≤ i → i < length l.bytes → is_at (get_or l.bytes i 0) ≡ false
