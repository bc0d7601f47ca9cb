use Rattle.std.proofs.Common.{ℕ, false, replicate, ◌∙◌, ap}
use Rattle.rl_states.specs.Spoiled.{spoiled_in}
use Rattle.rl_states.specs.Standings.{for_rows, fresh}
use Rattle.rl_states.proofs.CountedLemmas.{spoiled_clean}
use Rattle.rl_states.proofs.StandingsLemmas.{length_rows}
use Rattle.rl_states.proofs.cells.Cells.open.Goals as goal

pub returns-clause-spoiled : goal.returns-clause-spoiled
returns-clause-spoiled c =
    let r = c.args.registry.now in
    ap spoiled_in c.in_ok-held.ensures.marks ∙ spoiled_clean (for_rows r (fresh r)) ∙ ap (λ (n : ℕ). replicate n false) (length_rows r (fresh r))
