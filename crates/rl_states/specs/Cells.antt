-- Rows in blocks of 64, each with how many of its rows may run.
use Rattle.std.specs.Prelude.{◌≡◌, ℕ, ◌*◌, ◌/◌, ◌<◌, ◌≤◌, ◌==◌}
use Rattle.std.specs.Prelude.{◌&&◌, List, Bool, false, length, count_by, slice_get, slice_index}
use Rattle.std.specs.Prelude.{Some}
use Rattle.std.specs.List.{enumerate_from}
use Rattle.rl_states.specs.declared.standing.Standing.{Standing}
use Rattle.rl_states.specs.Counted.{Held}
use Rattle.rl_states.specs.Spoiled.{spoiled_in}
use Rattle.rl_states.specs.Standings.{may_run}
use Rattle.rl_names.specs.declared.counted.TheConstants as limits

-- how many rows of a block may run
abbrev pub runnable_in : List Standing → ℕ → ℕ
runnable_in standings block = count_by (λ numbered. numbered.0 / 64 == block && may_run numbered.1) (enumerate_from 0 standings)

-- at most 64 blocks of 64 rows; each row stands in one, and each block has how many of its rows may run
pub record AreCounted (standings : List Standing) (runnable : List ℕ) : Type 0 where
  pub few : length standings ≤ limits.MAX_ROWS
  pub blocks : length runnable ≤ 64
  pub long : length standings ≤ 64 * length runnable
  pub each : (block : ℕ) → block < length runnable → slice_index runnable block ≡ runnable_in standings block

-- no row before this one may run
abbrev pub IsNoneBefore : List Standing → ℕ → Type 0
IsNoneBefore standings row = (other : ℕ) (standing : Standing) → other < row → slice_get standings other ≡ Some standing → may_run standing ≡ false

-- what a table sees: how far rows have come, which rows need a row, and which cannot become ready
pub record Seen : Type 0 where
  pub standings : List Standing
  pub users : List (List ℕ)
  pub spoiled : List Bool

abbrev pub seen_in : Held → Seen
seen_in held = record { standings = held.standings; users = held.users; spoiled = spoiled_in held.marks }
