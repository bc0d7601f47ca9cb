use Rattle.std.proofs.Common.{◌≡◌, ◌<◌, ◌∙◌, List, length, take, not, nat_eq, arith, ap, sym, ℕ}
use Rattle.std.proofs.lemmas.List.{take_more, length-map}
use Rattle.rl_names.specs.declared.row.Dep.{Dep}
use Rattle.rl_view_spec.specs.Numbers.{needed}
use Rattle.rl_compact.specs.Compact.{plain}
use Rattle.rl_compact.specs.Laws.{lacks}
use Rattle.rl_compact.proofs.CompactingLemmas.{lacks_by_length, map_last}
use Rattle.rl_compact.proofs.compact.lacks_of.Goals as goal

pub loop-at-preserved : goal.loop-at-preserved
loop-at-preserved c =
    let i : c.loop-at.at < length c.args.rows.now = omega arith in
    let j : c.loop-at.at < length c.args.edges.now = omega (
      arith,
      i,
      ap length c.requires,
      length-map c.args.edges.now (λ v. v.items),
      length-map
          c.args.rows.now (needed (plain c.args.rows.now)),
    ) in
    let size : c.len.result ≡ length c.index-edges-at.result.items = omega arith in
    let deps : c.as_slice.result.now ≡ c.index-rows-at.result.deps = c.as_slice.ensures ∙ ap (λ row. row.deps) (sym c.index-rows-at.is) in
    let last : not (nat_eq c.len.result (length c.as_slice.result.now)) ≡ lacks c.args.rows.now c.index-rows-at.result =
    ap (λ (n : ℕ). not (nat_eq n (length c.as_slice.result.now))) size
    ∙ ap (λ (ds : List Dep). not (nat_eq (length c.index-edges-at.result.items) (length ds))) deps
    ∙ lacks_by_length c.args.rows.now c.args.edges.now c.loop-at.at c.index-edges-at.result c.index-rows-at.result c.requires i j c.index-edges-at.is
    c.index-rows-at.is in
    rw (take_more c.args.rows.now c.loop-at.at c.index-rows-at.result i, ← c.index-rows-at.is, c.in_ok-push.ensures.items, c.loop-at.invariant, last)
    (sym (map_last (lacks c.args.rows.now) (take c.loop-at.at c.args.rows.now) c.index-rows-at.result))
