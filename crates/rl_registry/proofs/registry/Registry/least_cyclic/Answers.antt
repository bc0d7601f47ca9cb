use Rattle.std.proofs.Common.{◌≡◌, ℕ, List, get_or, sym, subst, ◌∙◌, arith}
use Rattle.std.proofs.lemmas.Bool.{and_from}
use Rattle.rl_view_spec.specs.Closure.{Registered, leads_back}
use Rattle.rl_view_spec.specs.Progress.{name_at}
use Rattle.rl_graph.specs.Graph.{marked}
use Rattle.rl_rows.specs.Index.{IsIndex}
use Rattle.rl_registry.proofs.LoopsLemmas.{loops}
use Rattle.rl_rows.proofs.IndexLemmas.{index_within, least_row, no_row}
use Rattle.rl_registry.proofs.registry.Registry.least_cyclic.Goals as goal

-- the order that is gone through is the index
index_is : (r s : Registered) (order given : List ℕ) → IsIndex r.rows order → r ≡ s → given ≡ order → IsIndex s.rows given
index_is r s order given i e f = subst (λ (q : Registered). IsIndex q.rows given) e (subst (λ (ks : List ℕ). IsIndex r.rows ks) (sym f) i)

pub leads_back-requires : goal.leads_back-requires
leads_back-requires c =
    let index : IsIndex c.args.self.now.rows c.as_slice-row-items.result.now =
    index_is _ c.args.self.now c.self.inside.order.items c.as_slice-row-items.result.now c.self.invariant.index c.self.view_is
    c.as_slice-row-items.ensures.value in
    index_within c.args.self.now.rows c.as_slice-row-items.result.now c.loop-row.row-index 0 index (omega arith)

pub returns-then-branch : goal.returns-then-branch
returns-then-branch c =
    let index : IsIndex c.args.self.now.rows c.as_slice-row-items.result.now =
    index_is _ c.args.self.now c.self.inside.order.items c.as_slice-row-items.result.now c.self.invariant.index c.self.view_is
    c.as_slice-row-items.ensures.value in
    least_row c.args.self.now c.as_slice-row-items.result.now (loops c.args.self.now c.args.marks.now) c.loop-row.row-index index (omega arith)
    c.loop-row.invariant
    (and_from (marked c.args.marks.now (get_or c.as_slice-row-items.result.now c.loop-row.row-index 0))
    (leads_back c.args.self.now (name_at c.args.self.now (get_or c.as_slice-row-items.result.now c.loop-row.row-index 0)))
    (sym c.is_marked.ensures ∙ c.if-is_marked.true) (sym c.in_ok-leads_back.ensures ∙ c.if-branch.true))

pub returns : goal.returns
returns c =
    let index : IsIndex c.args.self.now.rows c.as_slice-row-items.result.now =
    index_is _ c.args.self.now c.self.inside.order.items c.as_slice-row-items.result.now c.self.invariant.index c.self.view_is
    c.as_slice-row-items.ensures.value in
    no_row c.args.self.now c.as_slice-row-items.result.now (loops c.args.self.now c.args.marks.now) index
    (λ k low. c.loop-row.invariant k (omega (arith, low)))
