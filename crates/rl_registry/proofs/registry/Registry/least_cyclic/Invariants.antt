use Rattle.std.proofs.Common.{◌≡◌, ◌<◌, ℕ, false, get_or}
use Rattle.rl_registry.proofs.LoopsLemmas.{loops}
use Rattle.rl_registry.proofs.registry.Registry.least_cyclic.Given as goal

abbrev pub invariant-loop-row : goal.invariant-loop-row
invariant-loop-row l = (k : ℕ) → k < l.row-index → loops l.self l.marks (get_or l.row-items k 0) ≡ false
