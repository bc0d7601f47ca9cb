use Rattle.std.proofs.Common.{◌≡◌, ◌∙◌, ℕ, List, false, length, get_or, sym, subst, ap, arith, Vec}
use Rattle.std.specs.declared.alloc.Global.{Global}
use Rattle.std.specs.Vec.Iter.{into_iter_items}
use Rattle.rl_names.specs.declared.row.Row.{Row}
use Rattle.rl_graph.specs.Graph.{edge_lists, marked, IsWithin}
use Rattle.rl_view_spec.specs.Numbers.{needed}
use Rattle.rl_rows.proofs.EdgesLemmas.{blank}
use Rattle.rl_compact.specs.Compact.{barest}
use Rattle.rl_compact.specs.Known.{Known}
use Rattle.rl_compact.specs.declared.compact.Looked.{Looked}
use Rattle.rl_compact.proofs.CompactingLemmas.{known_within, next_row, numbers_are, numbers_low, as_many, full, mark_read, row_kept, edge_long}
use Rattle.rl_compact.proofs.CompactingLemmas.{done_more, left_row}
use Rattle.rl_compact.proofs.compact.compact.Goals as goal
use Rattle.rl_compact.proofs.compact.compact.Goals.{then-index+in_ok-push, else-index+in_ok-compact_one+in_ok-push-2}

-- what was looked up is known of the rows
abbrev Knows : List Row → Looked → Type 0
Knows rows looked = Known rows (edge_lists looked.edges.items) (edge_lists looked.bare.items) looked.stays.items

known_of : (rows seen : List Row) (looked : Looked) → seen ≡ rows → Knows seen looked → Knows rows looked
known_of rows seen looked e k = subst (λ (rs : List Row). Knows rs looked) e k

pub compact_one-requires-clause-long : goal.compact_one-requires-clause-long
compact_one-requires-clause-long c =
    let known = known_of c.args.rows.items c.as_slice.result.now c.in_ok-looked.looked c.as_slice.ensures.value c.in_ok-looked.ensures in
    let f = next_row c.args.rows.items (into_iter_items c.loop-row.row-iterator) (into_iter_items c.next.new.self) c.loop-row.at c.in-Some.row
    c.loop-row.invariant.rest c.in-Some.ensures.steps.0 c.loop-row.invariant.within in
    let numbers = numbers_are c.args.rows.items c.in_ok-looked.looked.edges.items c.loop-row.at c.index-else-index.result.now
    c.as_slice-else-index.result.now known.edges_are f.0 c.index-else-index.ensures c.as_slice-else-index.ensures.value in
    let not_marked : marked c.in_ok-looked.looked.stays.items c.loop-row.at ≡ false =
    mark_read c.args.rows.items _ _ c.in_ok-looked.looked.stays.items c.loop-row.at c.index.result.now known f.0 c.index.ensures ∙ c.if-index.false in
    ap length numbers ∙ as_many c.args.rows.items (get_or c.args.rows.items c.loop-row.at blank)
    (full c.args.rows.items _ _ c.in_ok-looked.looked.stays.items c.loop-row.at known f.0 not_marked) ∙ sym (ap (λ (row : Row). length row.deps) f.1)

pub compact_one-requires-clause-within : goal.compact_one-requires-clause-within
compact_one-requires-clause-within c =
    let known = known_of c.args.rows.items c.as_slice.result.now c.in_ok-looked.looked c.as_slice.ensures.value c.in_ok-looked.ensures in
    subst (λ (es : List (Vec ℕ Global)). IsWithin (edge_lists es)) (sym c.as_slice-else-index-2.ensures.value)
    (known_within c.args.rows.items (barest c.args.rows.items).features (edge_lists c.in_ok-looked.looked.bare.items) known.distinct known.bare_are)

pub compact_one-requires-clause-low : goal.compact_one-requires-clause-low
compact_one-requires-clause-low c =
    let known = known_of c.args.rows.items c.as_slice.result.now c.in_ok-looked.looked c.as_slice.ensures.value c.in_ok-looked.ensures in
    let f = next_row c.args.rows.items (into_iter_items c.loop-row.row-iterator) (into_iter_items c.next.new.self) c.loop-row.at c.in-Some.row
    c.loop-row.invariant.rest c.in-Some.ensures.steps.0 c.loop-row.invariant.within in
    let numbers = numbers_are c.args.rows.items c.in_ok-looked.looked.edges.items c.loop-row.at c.index-else-index.result.now
    c.as_slice-else-index.result.now known.edges_are f.0 c.index-else-index.ensures c.as_slice-else-index.ensures.value in
    numbers_low c.args.rows.items (get_or c.args.rows.items c.loop-row.at blank) c.as_slice-else-index.result.now (length c.as_slice-else-index-2.result.now)
    numbers (ap length c.as_slice-else-index-2.ensures.value
    ∙ edge_long c.args.rows.items c.in_ok-looked.looked.bare.items (needed (barest c.args.rows.items)) known.bare_are)

pub loop-row-preserved : goal.loop-row-preserved
loop-row-preserved c =
    let looked : Looked = c.in_ok-looked.looked in
    let known = known_of c.args.rows.items c.as_slice.result.now looked c.as_slice.ensures.value c.in_ok-looked.ensures in
    let f = next_row c.args.rows.items (into_iter_items c.loop-row.row-iterator) (into_iter_items c.next.new.self) c.loop-row.at c.in-Some.row
    c.loop-row.invariant.rest c.in-Some.ensures.steps.0 c.loop-row.invariant.within in
    let mark = mark_read c.args.rows.items _ _ looked.stays.items c.loop-row.at c.index.result.now known f.0 c.index.ensures in
    record {
      within = omega (arith, f.0);
      rest = f.2;
      done = elim c.if-index.branch [
        | then-index+in_ok-push w ↦
            done_more c.args.rows.items c.loop-row.at c.loop-row.left.items c.if-index.left.items c.in-Some.row f.0 c.loop-row.invariant.done
            (ap (λ v. v.items) w.left-is ∙ w.in_ok-push.ensures.items)
            (f.1 ∙ sym (row_kept c.args.rows.items _ _ looked.stays.items c.loop-row.at known f.0 (mark ∙ w.if-index.true)))
        | else-index+in_ok-compact_one+in_ok-push-2 w ↦
            done_more c.args.rows.items c.loop-row.at c.loop-row.left.items c.if-index.left.items w.in_ok-compact_one.field-0 f.0 c.loop-row.invariant.done
            (ap (λ v. v.items) w.left-is ∙ w.in_ok-push-2.ensures.items)
            (left_row c.args.rows.items (edge_lists looked.edges.items) (edge_lists looked.bare.items)
            (edge_lists w.as_slice-else-index-2.result.now) looked.stays.items c.loop-row.at c.in-Some.row w.in_ok-compact_one.field-0
            w.as_slice-else-index.result.now known f.0 (mark ∙ w.if-index.false) f.1
            (numbers_are c.args.rows.items looked.edges.items c.loop-row.at w.index-else-index.result.now w.as_slice-else-index.result.now
            known.edges_are f.0 w.index-else-index.ensures w.as_slice-else-index.ensures.value)
            (ap (λ es. edge_lists es) w.as_slice-else-index-2.ensures.value) w.in_ok-compact_one.ensures)
      ];
    }
