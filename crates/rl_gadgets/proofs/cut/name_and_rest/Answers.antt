use Rattle.std.proofs.Common.{List, ℕ, subst}
use Rattle.std.specs.Str.{IsCharBoundary}
use Rattle.rl_gadgets.proofs.CutLemmas.{cut_before_end}
use Rattle.rl_gadgets.proofs.cut.name_and_rest.Goals as goal

pub split_at-requires : goal.split_at-requires
split_at-requires c =
    subst (λ (text : List ℕ). IsCharBoundary text c.in-Some.at) c.as_bytes.ensures.value
    (cut_before_end c.as_bytes.result.now c.in-Some.at c.in-Some.ensures)
