use Rattle.std.proofs.Common.{◌<◌, ◌∙◌, length, take, Some, arith, ap, sym}
use Rattle.std.proofs.lemmas.List.{take_more}
use Rattle.rl_compact.proofs.CompactingLemmas.{skip_some, skip_none}
use Rattle.rl_compact.proofs.compact.skips_of.Goals as goal
use Rattle.rl_compact.proofs.compact.skips_of.Goals.{in-Some+in_ok-copy+in_ok-push, in_default}

pub loop-row-preserved : goal.loop-row-preserved
loop-row-preserved c =
    let i : c.loop-row.row-index < length c.args.rows.now = omega arith in
    rw (take_more c.args.rows.now c.loop-row.row-index c.row-item.result i, ← c.row-item.is)
    (elim c.match-row.branch [
      | in-Some+in_ok-copy+in_ok-push w ↦
          rw (w.skips-is, w.in_ok-push.ensures.items, c.loop-row.invariant)
          (sym (skip_some (take c.loop-row.row-index c.args.rows.now) c.row-item.result w.in_ok-copy.field-0
          (w.in-Some.is ∙ ap Some (sym w.in_ok-copy.ensures))))
      | in_default w ↦ rw w.skips-is (c.loop-row.invariant ∙ sym (skip_none (take c.loop-row.row-index c.args.rows.now) c.row-item.result w.in_default.is))
    ])
