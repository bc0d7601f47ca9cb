use Rattle.std.proofs.Common.{◌≡◌, true, false, Option, Some, None, ap, sym, ◌∙◌}
use Rattle.std.specs.Prelude.{option_map}
use Rattle.std.specs.Option.{option_map_or}
use Rattle.std.specs.Borrow.{Bor}
use Rattle.rl_names.specs.declared.row.Row.{Row}
use Rattle.rl_view_spec.specs.Closure.{Registered}
use Rattle.rl_view_spec.specs.Progress.{Progress}
use Rattle.rl_view_spec.specs.Rows.{is_private}
use Rattle.rl_view_spec.proofs.ToolsLemmas.{place_there}
use Rattle.rl_view.specs.Seen.{counts_at}
use Rattle.rl_wire.specs.declared.part.Part.{Part}
use Rattle.rl_batch.specs.Given.{is_private_at}
use Rattle.rl_book_spec.specs.declared.Origin.{Origin}
use Rattle.rl_book.specs.Held.{gift_for}
use Rattle.rl_book.proofs.RequestingLemmas.{held_none, held_part, held_private}
use Rattle.rl_book.proofs.touching.give_row.Goals as goal

pub returns-in-Some : goal.returns-in-Some
returns-in-Some g c =
    let t : Progress = c.args.table.now in
    let m = place_there t.registered.rows c.args.row c.requires.within in
    let counted : counts_at t c.args.row ≡ true = sym c.counts.ensures ∙ c.if-not-counts.false in
    let found : option_map (λ (given : Part × Origin). given.0) (gift_for c.args.held.now.gifts c.args.row) ≡ Some c.in-Some.part.now =
    sym c.part.ensures ∙ ap (λ (o : Option (Bor Part)). option_map (λ (part : Bor Part). part.now) o) c.in-Some.is in
    c.give_part.ensures ∙ sym (held_part c.args.held.now.gifts t c.args.row m.0 m.1 counted c.in-Some.part.now found)

pub returns-then-is_private : goal.returns-then-is_private
returns-then-is_private g c =
    let t : Progress = c.args.table.now in
    let m = place_there t.registered.rows c.args.row c.requires.within in
    let counted : counts_at t c.args.row ≡ true = sym c.counts.ensures ∙ c.if-not-counts.false in
    let found : option_map (λ (given : Part × Origin). given.0) (gift_for c.args.held.now.gifts c.args.row) ≡ None =
    sym c.part.ensures ∙ ap (λ (o : Option (Bor Part)). option_map (λ (part : Bor Part). part.now) o) c.in-None.is in
    let private : is_private m.0.group ≡ true =
    sym (ap (λ (found : Option Row). option_map_or (λ (found : Row). is_private found.group) found false) m.1)
    ∙ sym (c.is_private.ensures ∙ ap (λ (r : Registered). is_private_at r c.args.row) c.registry.ensures) ∙ c.if-is_private.true in
    c.outcome.ensures.value ∙ sym (held_private c.args.held.now.gifts t c.args.row m.0 m.1 counted found private)

pub returns-else-is_private : goal.returns-else-is_private
returns-else-is_private g c =
    let t : Progress = c.args.table.now in
    let m = place_there t.registered.rows c.args.row c.requires.within in
    let counted : counts_at t c.args.row ≡ true = sym c.counts.ensures ∙ c.if-not-counts.false in
    let found : option_map (λ (given : Part × Origin). given.0) (gift_for c.args.held.now.gifts c.args.row) ≡ None =
    sym c.part.ensures ∙ ap (λ (o : Option (Bor Part)). option_map (λ (part : Bor Part). part.now) o) c.in-None.is in
    let public : is_private m.0.group ≡ false =
    sym (ap (λ (found : Option Row). option_map_or (λ (found : Row). is_private found.group) found false) m.1)
    ∙ sym (c.is_private.ensures ∙ ap (λ (r : Registered). is_private_at r c.args.row) c.registry.ensures) ∙ c.if-is_private.false in
    sym (held_none c.args.held.now.gifts t c.args.row m.0 m.1 counted found public)
