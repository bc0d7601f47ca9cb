use Rattle.std.proofs.Common.{sym, subst}
use Rattle.rl_graph.specs.Graph.{IsWithin}
use Rattle.rl_states.specs.Cells.{Seen}
use Rattle.rl_states.proofs.cells.Cells.spoil.Goals as goal

pub spread-requires-clause-within : goal.spread-requires-clause-within
spread-requires-clause-within g c = subst (λ (s : Seen). IsWithin s.users) (sym c.self.view_is) c.requires.within
