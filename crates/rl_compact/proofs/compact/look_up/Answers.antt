use Rattle.std.proofs.Common.{◌≡◌, [], ◌∙◌, ℕ, List, Bool, map, sym, subst, Vec}
use Rattle.std.specs.declared.alloc.Global.{Global}
use Rattle.rl_graph.specs.Graph.{edge_lists, IsWithin}
use Rattle.rl_view_spec.specs.Closure.{Text}
use Rattle.rl_view_spec.specs.Numbers.{needed}
use Rattle.rl_compact.specs.Unresolved.{MarkUnresolved}
use Rattle.rl_compact.proofs.CompactingLemmas.{known_within}
use Rattle.rl_compact.proofs.compact.look_up.Goals as goal

pub mark_unresolved-requires-clause-within : goal.mark_unresolved-requires-clause-within
mark_unresolved-requires-clause-within c =
    subst (λ (es : List (Vec ℕ Global)). IsWithin (edge_lists es)) (sym c.as_slice-5.ensures.value)
    (known_within c.args.rows.now [] (edge_lists c.in_ok-edges.edges.items) c.requires.distinct c.in_ok-edges.ensures)

pub returns : goal.returns
returns c = record {
  distinct = c.requires.distinct;
  within = c.requires.within;
  edges_are = c.in_ok-edges.ensures;
  bare_are = subst (λ (features : List Text). edge_lists c.in_ok-bare.bare.items
      ≡ map (needed (record { rows = c.args.rows.now; features = features })) c.args.rows.now)
      (c.as_slice-3.ensures.value ∙ c.in_ok-skips.ensures) c.in_ok-bare.ensures;
  unresolved = subst (λ (lacking : List Bool). MarkUnresolved (edge_lists c.in_ok-edges.edges.items) lacking c.in_ok-stays.stays.items)
      (c.as_slice-6.ensures.value ∙ c.in_ok-lacking.ensures)
      (subst (λ (es : List (Vec ℕ Global)). MarkUnresolved (edge_lists es) c.as_slice-6.result.now c.in_ok-stays.stays.items) c.as_slice-5.ensures.value
      c.in_ok-stays.ensures);
}
