use Rattle.std.proofs.Common.{ℕ, ◌<◌, List, length, ap, sym, subst, ◌∙◌}
use Rattle.std.specs.Prelude.{All}
use Rattle.rl_view_spec.specs.Closure.{Registered}
use Rattle.rl_book.proofs.delivering.deliver_parts.Goals as goal

pub marks_of-requires : goal.marks_of-requires
marks_of-requires c =
    subst (λ (n : ℕ). All (λ row. row < n) c.as_slice.result.now)
    (sym (c.count-count.ensures.value ∙ ap (λ (r : Registered). length r.rows) c.registry.ensures))
    (subst (λ (rows : List ℕ). All (λ row. row < length c.args.table.now.registered.rows) rows) (sym c.as_slice.ensures)
    (c.requires.within (c.in-Some.field-0-0, c.in-Some.sent.now) (sym c.in-Some.ensures.value)))
