-- What is read and written by accesses that count.
use Rattle.std.specs.Prelude.{ℕ, List, false, None, map, Vec}
use Rattle.std.specs.declared.alloc.Global.{Global}
use Rattle.rl_graph.specs.Graph.{edge_lists}
use Rattle.rl_states.specs.declared.cell.Cell.{Cell}
use Rattle.rl_states.specs.declared.cell.Mark.{Mark}
use Rattle.rl_states.specs.declared.standing.Standing.{Standing}

-- how far each row has come and what is noted of its failure, which rows need it, and how many rows of each block may run
pub record Held : Type 0 where
  pub standings : List Standing
  pub marks : List Mark
  pub users : List (List ℕ)
  pub runnable : List ℕ

abbrev pub held_in : List Cell → List (Vec ℕ Global) → List ℕ → Held
held_in cells users runnable = record {
  standings = map (λ cell. cell.standing) cells;
  marks = map (λ cell. cell.mark) cells;
  users = edge_lists users;
  runnable = runnable;
}

-- no failure is noted
abbrev pub clean : Mark
clean = record { spoiled = false; next = None }

abbrev pub clean_cell : Standing → Cell
clean_cell standing = record { standing = standing; mark = clean }
