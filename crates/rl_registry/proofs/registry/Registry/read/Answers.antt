use Rattle.std.proofs.Common.{◌≡◌, None, List, ap, sym, subst, ◌∙◌, rules}
use Rattle.std.specs.Prelude.{slice_get}
use Rattle.rl_names.specs.declared.row.Row.{Row}
use Rattle.rl_view_spec.specs.Closure.{Registered, least}
use Rattle.rl_view_spec.specs.Breach.{bad_indexes, repeated}
use Rattle.rl_view_spec.proofs.ResolveLemmas.{least_none}
use Rattle.rl_graph.specs.Graph.{edge_lists, IsWithin}
use Rattle.rl_rows.specs.Index.{AreDistinct, IsIndex}
use Rattle.rl_rows.specs.Edges.{HasEdges}
use Rattle.rl_rows.proofs.EdgesLemmas.{kept_indexed}
use Rattle.rl_rows.proofs.RowsReadLemmas.{distinct_from_once, within_from_indexes}
use Rattle.rl_registry.proofs.registry.Registry.read.Goals as goal

-- where no name stands twice names are distinct
distinct : (rows given : List Row) → given ≡ rows → None ≡ least (repeated given) → AreDistinct rows
distinct rows given e none = subst (λ (rs : List Row). AreDistinct rs) e (distinct_from_once given (least_none (repeated given) (sym none)))

pub all_edges-requires-clause-distinct : goal.all_edges-requires-clause-distinct
all_edges-requires-clause-distinct c =
    distinct c.as_slice-7.result.now c.as_slice-3.result.now (c.as_slice-3.ensures.value ∙ sym c.as_slice-7.ensures.value) c.in_default-least_repeated.ensures

pub ranks_of-requires-clause-within : goal.ranks_of-requires-clause-within
ranks_of-requires-clause-within c =
    let r : Registered = record { rows = c.args.rows.items; features = c.args.features.now } in
    let has : HasEdges r (edge_lists c.in_ok-edges.edges.items) = record {
      distinct = distinct c.args.rows.items c.as_slice-3.result.now c.as_slice-3.ensures.value c.in_default-least_repeated.ensures;
      edges_are = rw (← c.as_slice-7.ensures.value) c.in_ok-edges.ensures;
    } in
    subst (λ es. IsWithin (edge_lists es)) (sym c.as_slice-9.ensures.value) (kept_indexed r (edge_lists c.in_ok-edges.edges.items) has).within

pub invariant_of-result : goal.invariant_of-result
invariant_of-result c = record {
  few = search rules;
  within = within_from_indexes (record { rows = c.args.rows.items; features = c.in_ok-features.features.items })
      (ap (λ (rs : List Row). slice_get (bad_indexes rs) 0) (sym c.as_slice-5.ensures.value) ∙ sym c.in_default-first_bad_index.ensures);
  index = subst (λ (rows : List Row). IsIndex rows c.in_ok-order.order.items) c.as_slice-2.ensures.value c.in_ok-order.ensures;
  skips_are = rw (c.in_ok-features.ensures, ← c.as_slice-6.ensures.value) c.in_ok-skips.ensures;
  has_edges = record {
    distinct = distinct c.args.rows.items c.as_slice-3.result.now c.as_slice-3.ensures.value c.in_default-least_repeated.ensures;
    edges_are = rw (c.in_ok-features.ensures, ← c.as_slice-7.ensures.value) c.in_ok-edges.ensures;
  };
}
