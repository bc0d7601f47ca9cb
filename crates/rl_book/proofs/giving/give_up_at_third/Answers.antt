use Rattle.std.proofs.Common.{ℕ, ◌<◌, List, length, sym, subst}
use Rattle.std.specs.Prelude.{All}
use Rattle.rl_book.proofs.giving.give_up_at_third.Goals as goal

pub give_up-requires-clause-within : goal.give_up-requires-clause-within
give_up-requires-clause-within g c =
    subst (λ (rows : List ℕ). All (λ row. row < length c.args.table.now.registered.rows) rows) (sym c.as_slice.ensures)
    (c.requires.within (c.in-Some.field-0-0, c.in-Some.sent.now) (sym c.in-Some.ensures.value))
