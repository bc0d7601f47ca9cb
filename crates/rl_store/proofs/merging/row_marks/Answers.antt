use Rattle.std.proofs.Common.{rules, ◌+◌, take, Bool, true, ap, ◌∙◌}
use Rattle.rl_names.specs.Name.{key_text}
use Rattle.rl_book_spec.specs.Closing.{is_key_of}
use Rattle.rl_book_spec.specs.declared.Stored.{Stored}
use Rattle.std.proofs.Common.{Vec, Global}
use Rattle.rl_view_spec.specs.Closure.{Registered}
use Rattle.rl_store.proofs.MarksLemmas.{one_more, row_key_more, row_key_none, no_marks}
use Rattle.rl_store.proofs.merging.row_marks.Goals as goal
use Rattle.rl_store.proofs.merging.row_marks.Goals.{in-Some, in_default}

pub rows-init : goal.rows-init
rows-init c = c.in_ok-marks.ensures.items_if_clones_equal (search rules) ∙ no_marks c.args.pairs.now

pub rows-preserved : goal.rows-preserved
rows-preserved c =
    let r : Registered = c.args.registry.now in
    let n = c.rows.number in
    let row = c.row_at-row.result.now in
    elim c.match-row.branch [
      | in-Some w ↦ ap (λ (v : Vec Bool Global). v.items) w.marks-is
          ∙ one_more (key_text row.name w.in-Some.version) true (λ (s : Stored). is_key_of (record r { rows = take n r.rows }) s.key)
          (λ (s : Stored). is_key_of (record r { rows = take (n + 1) r.rows }) s.key) c.args.pairs.now c.rows.marks.items w.mark_at.new.marks.items
          c.rows.invariant w.mark_at.ensures (row_key_more r n row w.in-Some.version c.row_at-row.ensures w.in-Some.is)
      | in_default w ↦ ap (λ (v : Vec Bool Global). v.items) w.marks-is ∙ c.rows.invariant
          ∙ row_key_none r n row c.row_at-row.ensures w.in_default.is c.args.pairs.now
    ]
