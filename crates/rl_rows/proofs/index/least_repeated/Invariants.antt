use Rattle.std.proofs.Common.{◌≡◌, ◌<◌, ℕ, suc, get_or}
use Rattle.rl_rows.specs.Index.{name_in}
use Rattle.rl_rows.proofs.index.least_repeated.Given as goal

abbrev pub invariant-loop-at : goal.invariant-loop-at
invariant-loop-at l = (k : ℕ) → suc k < l.at → name_in l.rows (get_or l.order k 0) ≡ name_in l.rows (get_or l.order (suc k) 0) → ⊥
