use Rattle.std.proofs.Common.{◌≡◌, arith, drop, ap, sym, ◌∙◌}
use Rattle.rl_names.specs.Counting.{piece_count}
use Rattle.rl_names.proofs.CountingLemmas.{pieces_counted}
use Rattle.rl_names.proofs.packing.expanded_count.Goals as goal

pub returns : goal.returns
returns c =
    let front : c.places.at ≡ 0 = omega arith in
    c.places.invariant.count ∙ ap (λ k. piece_count (drop k c.args.packed.now)) front ∙ sym (pieces_counted c.args.packed.now)
