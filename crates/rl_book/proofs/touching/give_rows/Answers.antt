use Rattle.std.proofs.Common.{ℕ, List, length, drop, get_or, ap, ap₂, sym, ◌∙◌, add-one, drop-cons}
use Rattle.std.specs.Prelude.{fold}
use Rattle.rl_view_spec.specs.Progress.{Progress}
use Rattle.rl_book.specs.Held.{Gift}
use Rattle.rl_book.specs.Requesting.{after_held}
use Rattle.rl_book.proofs.RequestingLemmas.{held_stays}
use Rattle.rl_book.proofs.touching.give_rows.Goals as goal

pub loop-row-preserved : goal.loop-row-preserved
loop-row-preserved g c =
    let gifts : List Gift = c.args.held.now.gifts in
    let rows : List ℕ = c.args.rows.now in
    let i : ℕ = c.loop-row.row-index in
    let t : Progress = c.loop-row.table in
    let stays = held_stays gifts t (get_or rows i 0) in
    record {
      same =
          ap₂ (λ (t : Progress) (n : ℕ). fold (after_held gifts) t (drop n rows)) c.give_row.ensures (add-one i)
          ∙ sym (ap (fold (after_held gifts) t) (drop-cons rows i 0 c.loop-row-test.true))
          ∙ c.loop-row.invariant.same;
      idle = ap (λ (t : Progress). t.executing) c.give_row.ensures ∙ stays.idle ∙ c.loop-row.invariant.idle;
      long = ap (λ (t : Progress). length t.registered.rows) c.give_row.ensures ∙ stays.long ∙ c.loop-row.invariant.long;
    }
