use Rattle.std.proofs.Common.{arith, ap, sym, subst, ◌+◌, ◌≤◌, ◌<◌, ◌^◌, length, length-append, ap₂, ℕ, ◌∙◌, map, List}
use Rattle.std.specs.Prelude.{bytes_eq, filter}
use Rattle.std.specs.List.{IsDistinct}
use Rattle.rl_book_spec.specs.Batches.{sorted_by}
use Rattle.rl_book_spec.specs.Closing.{stored_before}
use Rattle.rl_book_spec.specs.declared.Stored.{Stored}
use Rattle.rl_store.specs.Merging.{picked, stays}
use Rattle.rl_store.specs.Stock.{keys_of, stock_after}
use Rattle.rl_store.proofs.MergedLemmas.{merged_distinct, merged_pairs, merged_stock}
use Rattle.rl_store.proofs.store.Store.after.Goals as goal

pub merged-pairs-requires-clause-distinct : goal.merged-pairs-requires-clause-distinct
merged-pairs-requires-clause-distinct c =
    let whole = merged_pairs c.args.registry.now c.args.fresh.items c.self.inside.pairs.items c.prepare.new.fresh.items c.in-Ok.marks.items
    c.in-Ok.ensures.fresh (c.in-Ok.ensures.marks ∙ ap (map (stays c.args.registry.now c.args.fresh.items)) c.deref.ensures.value) in
    subst (λ (zs : List Stored). IsDistinct bytes_eq (keys_of zs)) (sym whole)
    (merged_distinct c.args.registry.now c.args.fresh.items c.self.inside.pairs.items c.requires.distinct c.self.invariant.ascend)

pub invariant_of-result : goal.invariant_of-result
invariant_of-result c =
    let whole = merged_pairs c.args.registry.now c.args.fresh.items c.self.inside.pairs.items c.prepare.new.fresh.items c.in-Ok.marks.items
    c.in-Ok.ensures.fresh (c.in-Ok.ensures.marks ∙ ap (map (stays c.args.registry.now c.args.fresh.items)) c.deref.ensures.value) in
    let is = c.merged-pairs.ensures ∙ ap (sorted_by stored_before) whole in
    let n = ap length whole in
    let m = length-append c.prepare.new.fresh.items (picked c.in-Ok.marks.items c.self.inside.pairs.items) in
    let k = length-append c.args.fresh.items (filter (stays c.args.registry.now c.args.fresh.items) c.self.inside.pairs.items) in
    let d = ap length c.deref.ensures.value in
    let e = ap (λ (ps : List Stored). length (picked c.in-Ok.marks.items ps)) c.deref.ensures.value in
    let few : length c.args.fresh.items + length (filter (stays c.args.registry.now c.args.fresh.items) c.self.inside.pairs.items) < 2 ^ 32 =
    omega (arith, n, m, k, e, c.in-Ok.ensures.few) in
    let age : c.age_at.result ≤ 10 ^ 12 = omega (arith, c.age_at.ensures, c.requires.moment) in
    merged_stock c.args.registry.now c.args.fresh.items c.self.inside.pairs.items c.merged-pairs.result.items c.self.inside.as_of c.age_at.result
    c.requires.distinct c.requires.parts c.requires.ordered c.self.invariant is few age

pub returns-clause-store : goal.returns-clause-store
returns-clause-store c =
    let whole = merged_pairs c.args.registry.now c.args.fresh.items c.self.inside.pairs.items c.prepare.new.fresh.items c.in-Ok.marks.items
    c.in-Ok.ensures.fresh (c.in-Ok.ensures.marks ∙ ap (map (stays c.args.registry.now c.args.fresh.items)) c.deref.ensures.value) in
    let is = c.merged-pairs.ensures ∙ ap (sorted_by stored_before) whole in
    ap₂ (λ (n : ℕ) (ps : List Stored). record { vary = c.self.inside.vary; as_of = n; pairs = ps }) c.age_at.ensures is
    ∙ ap (stock_after c.args.registry.now c.args.fresh.items c.args.now) c.self.view_is
