use Rattle.std.proofs.Common.{◌≡◌, ◌<◌, ◌∙◌, ℕ, List, [], ◌∷◌, ap, length, subst, sym}
use Rattle.std.specs.Prelude.{All}
use Rattle.rl_view_spec.specs.Numbers.{closure_numbers}
use Rattle.rl_registry.proofs.UnknownsLemmas.{closure_low}
use Rattle.rl_drive.specs.Blamed.{blame_named, phase_named}
use Rattle.rl_drive.specs.Player.{held}
use Rattle.rl_drive.proofs.UnreadyLemmas.{held_told, nothing_told}
use Rattle.rl_drive.proofs.player.Player.held_up.Goals as goal

pub least_blamed-requires-clause-within : goal.least_blamed-requires-clause-within
least_blamed-requires-clause-within c =
    let rows : c.as_slice.result.now ≡ closure_numbers c.args.self.now.table.registered (c.args.name.now ∷ []) =
    c.as_slice.ensures.value ∙ c.in_ok-rows.ensures in
    subst (λ (rows : List ℕ). All (λ k. k < length c.args.self.now.table.registered.rows) rows) (sym rows)
    (closure_low c.args.self.now.table.registered (c.args.name.now ∷ []))

pub returns-in_default : goal.returns-in_default
returns-in_default c = λ v past lawful s.
    nothing_told v past lawful c.args.self.now s c.args.name.now c.as_slice.result.now (c.as_slice.ensures.value ∙ c.in_ok-rows.ensures)
    c.in_default.ensures

pub returns : goal.returns
returns c = λ v past lawful s.
    held_told v past lawful c.args.self.now s c.args.name.now c.as_slice.result.now (c.as_slice.ensures.value ∙ c.in_ok-rows.ensures)
    c.in-Some.member.now c.in_ok-copy.field-0 c.in_ok-of.field-0 c.state_named.result c.blame_named.result
    c.in-Some.ensures c.in_ok-copy.ensures
    (c.state_named.ensures ∙ ap (phase_named c.args.self.now.table) c.as_bytes.ensures)
    c.in_ok-of.ensures
    (c.blame_named.ensures ∙ ap (blame_named c.args.self.now.table (held c.args.self.now)) c.as_bytes-2.ensures.value)
