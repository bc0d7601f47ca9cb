use Rattle.std.proofs.Common.{rules, arith, ◌≡◌, ◌++◌, ◌∷◌, ◌+◌, [], length, ap, sym, subst, ◌∙◌, length-append, List}
use Rattle.std.specs.Prelude.{if◌then◌else◌}
use Rattle.std.specs.List.Sorted.{IsPermutation}
use Rattle.rl_book_spec.specs.declared.Stored.{Stored}
use Rattle.rl_store.specs.Merging.{picked}
use Rattle.rl_store.proofs.PickedLemmas.{popped, passed_on}
use Rattle.rl_store.proofs.merging.gather.Goals as goal

pub pairs-preserved : goal.pairs-preserved
pairs-preserved c =
    let last : List Stored = if c.unwrap_or-mark.result then c.in-Some.stored ∷ [] else [] in
    let step = popped c.pairs.marks.items c.pop-in-Some.new.self.items c.pairs.pairs.items c.pop.new.self.items c.pop-in-Some.result
    c.unwrap_or-mark.result c.in-Some.stored
    c.pairs.invariant.long c.in-Some.ensures.items c.pop-in-Some.ensures.items (λ h. c.pop-in-Some.ensures.variant.1 (search rules)) c.unwrap_or-mark.ensures in
    let n : length c.keep.new.into.items ≡ length c.pairs.into.items + length last = ap length c.keep.ensures.items ∙ length-append c.pairs.into.items last in
    record {
      long = step.long;
      room = omega (arith, n, step.count, c.keep.ensures.room, c.pairs.invariant.room);
      moved = subst (λ zs. IsPermutation (c.args.into.now.items ++ picked c.args.marks.items c.args.pairs.items)
          (zs ++ picked c.pop-in-Some.new.self.items c.pop.new.self.items)) (sym c.keep.ensures.items)
          (passed_on _ _ _ _ _ c.pairs.invariant.moved step.is);
    }

pub keep-requires : goal.keep-requires
keep-requires c =
    let step = popped c.pairs.marks.items c.pop-in-Some.new.self.items c.pairs.pairs.items c.pop.new.self.items c.pop-in-Some.result
    c.unwrap_or-mark.result c.in-Some.stored
    c.pairs.invariant.long c.in-Some.ensures.items c.pop-in-Some.ensures.items (λ h. c.pop-in-Some.ensures.variant.1 (search rules)) c.unwrap_or-mark.ensures in
    omega (arith, step.count, c.pairs.invariant.room)
