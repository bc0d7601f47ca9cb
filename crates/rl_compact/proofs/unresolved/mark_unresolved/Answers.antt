use Rattle.std.proofs.Common.{◌<◌, ℕ, List, length, get_or, sym, subst, ap, arith}
use Rattle.std.specs.Prelude.{Contains}
use Rattle.std.proofs.lemmas.List.{length-map}
use Rattle.std.proofs.lemmas.List.Elements.{Contains-get_or}
use Rattle.std.proofs.lemmas.Result.{IfOk-weaker}
use Rattle.rl_graph.specs.Graph.{edge_lists, IsWithin}
use Rattle.rl_graph.specs.Reversed.{AreReversed}
use Rattle.rl_compact.specs.Unresolved.{AreBad}
use Rattle.rl_compact.proofs.BackwardsLemmas.{back_within, unresolved}
use Rattle.rl_compact.proofs.unresolved.mark_unresolved.Goals as goal

pub reach-requires-clause-within : goal.reach-requires-clause-within
reach-requires-clause-within c =
    subst (λ es. IsWithin (edge_lists es)) (sym c.as_slice.ensures.value)
    (back_within (edge_lists c.args.edges.now) (edge_lists c.in_ok-back.back.items) c.in_ok-back.ensures)

pub reach-requires-clause-low : goal.reach-requires-clause-low
reach-requires-clause-low c = λ k d low.
    let x : ℕ = get_or c.as_slice-2.result.now k d in
    let inside : Contains c.in_ok-bad.bad.items x = subst (λ (xs : List ℕ). Contains xs x) c.as_slice-2.ensures.value
    (Contains-get_or c.as_slice-2.result.now k d low) in
    let there : x < length c.args.edges.now = (c.in_ok-bad.ensures.sound x inside).0 in
    omega (
      arith,
      there,
      c.in_ok-back.ensures.long,
      length-map c.args.edges.now (λ v. v.items),
      length-map c.in_ok-back.back.items (λ v. v.items),
      ap length
          c.as_slice.ensures.value,
    )

pub returns : goal.returns
returns c =
    let bad : AreBad (edge_lists c.args.edges.now) c.args.lacks.now (length (edge_lists c.args.edges.now)) c.as_slice-2.result.now =
    subst (λ (n : ℕ). AreBad (edge_lists c.args.edges.now) c.args.lacks.now n c.as_slice-2.result.now) (sym (length-map c.args.edges.now (λ v. v.items)))
    (subst (λ (xs : List ℕ). AreBad (edge_lists c.args.edges.now) c.args.lacks.now (length c.args.edges.now) xs) (sym c.as_slice-2.ensures.value)
    c.in_ok-bad.ensures) in
    IfOk-weaker c.reach.result _ _
    (λ marks m. unresolved (edge_lists c.args.edges.now) (edge_lists c.as_slice.result.now) c.args.lacks.now c.as_slice-2.result.now marks.items
    (subst (λ es. AreReversed (edge_lists c.args.edges.now) (edge_lists es)) (sym c.as_slice.ensures.value) c.in_ok-back.ensures) c.requires.within bad m)
    c.reach.ensures
