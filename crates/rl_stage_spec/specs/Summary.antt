-- What is printed of the views of a session, once all are closed.
use Rattle.std.specs.Prelude.{ℕ, ◌+◌, ◌++◌, [], ◌∷◌, List, codes, flat_map}
use Rattle.rl_view_spec.specs.Closure.{Text}
use Rattle.rl_view_spec.specs.View.{Throws}
use Rattle.rl_script_spec.specs.Output.{line, summary_of}
use Rattle.rl_store.specs.Stock.{Stock, keys_of}
use Rattle.rl_stage_spec.specs.Replies.{events_in, view_in}
use Rattle.rl_stage_spec.specs.Session.{Ended}

-- the keys of a store, in byte order
abbrev pub store_told : Stock → Text
store_told store = flat_map (λ key. line (codes "store " ++ key)) (keys_of store.pairs)

-- the states and executions of a view, and the store that it left
abbrev pub ended_told : Throws → ℕ → Ended → Text
ended_told throws number e = summary_of number (view_in throws e.view) (events_in e.view) ++ store_told e.left

-- each view with its number
abbrev pub all_told : Throws → ℕ → List Ended → Text
all_told throws number [] = []
all_told throws number (e ∷ es) = ended_told throws number e ++ all_told throws (number + 1) es
