use Rattle.std.proofs.Common.{◌≡◌, ◌≤◌, ◌+◌, ℕ, List}
use Rattle.std.specs.Prelude.{sum_by}
use Rattle.rl_states.specs.Spoiled.{left, spoiled_in, weight}
use Rattle.rl_states.proofs.PassingLemmas.{Passing}
use Rattle.rl_states.proofs.spoiled.spread.Given as goal

abbrev pub invariant-loop-turn : goal.invariant-loop-turn
invariant-loop-turn g l = record {
  pending : List ℕ;
  rest : l.held ≡ record l.fn.held { marks = l.held.marks };
  passing : Passing l.fn.held.users l.row (spoiled_in l.fn.held.marks) l.held.marks l.head pending l._turn;
  cost : l.steps + left (weight l.fn.held.users) (spoiled_in l.held.marks) + sum_by (weight l.fn.held.users) pending ≤ l.fn.steps + left
      (weight l.fn.held.users) (spoiled_in l.fn.held.marks) + 2;
}
