use Rattle.std.proofs.Common.{Bool, ◌||◌, Option, ap, sym, ◌∙◌}
use Rattle.std.specs.Prelude.{is_some, option_map}
use Rattle.std.specs.Borrow.{Bor}
use Rattle.rl_wire.specs.declared.part.Part.{Part}
use Rattle.rl_batch.specs.Given.{is_private_at}
use Rattle.rl_book.proofs.RequestingLemmas.{some_held}
use Rattle.rl_book.proofs.touching.is_answered.Goals as goal

abbrev has_part : Option (Bor Part) → Bool
has_part found = is_some (option_map (λ (part : Bor Part). part.now) found)

pub returns-in-Some : goal.returns-in-Some
returns-in-Some c =
    ap (λ (found : Option (Bor Part)). has_part found || is_private_at c.args.registry.now c.args.row) (sym c.in-Some.is)
    ∙ some_held c.args.registry.now c.args.held.now.gifts c.args.row (option_map (λ (part : Bor Part). part.now) c.part.result)
    c.requires.within c.part.ensures

pub returns-in-None : goal.returns-in-None
returns-in-None c =
    c.is_private.ensures
    ∙ ap (λ (found : Option (Bor Part)). has_part found || is_private_at c.args.registry.now c.args.row) (sym c.in-None.is)
    ∙ some_held c.args.registry.now c.args.held.now.gifts c.args.row (option_map (λ (part : Bor Part). part.now) c.part.result)
    c.requires.within c.part.ensures
