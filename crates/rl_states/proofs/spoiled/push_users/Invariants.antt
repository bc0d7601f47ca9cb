use Rattle.std.proofs.Common.{◌≡◌, ◌≤◌, ◌+◌, ◌*◌, length, take}
use Rattle.rl_graph.specs.Graph.{next_in}
use Rattle.rl_states.specs.Spoiled.{all_pushed}
use Rattle.rl_states.proofs.spoiled.push_users.Given as goal

abbrev pub invariant-loop-place : goal.invariant-loop-place
invariant-loop-place g l = record {
  value : l.held ≡ record l.initial.held { marks = (all_pushed (l.initial.held.marks, l.fn.head) (take l.place (next_in l.initial.held.users l.row))).0 };
  head : l.first ≡ (all_pushed (l.initial.held.marks, l.fn.head) (take l.place (next_in l.initial.held.users l.row))).1;
  long : length l.held.marks ≡ length l.initial.held.marks;
  cost : l.steps ≤ l.initial.steps + 3 * l.place;
}
