use Rattle.std.proofs.Common.{◌∙◌, ap, sym, refl}
use Rattle.std.proofs.lemmas.Result.{on_ok_weaker}
use Rattle.rl_view_spec.specs.declared.Outcome.{Outcome}
use Rattle.rl_states.specs.Changes.{after_outcome}
use Rattle.rl_view.specs.Seen.{counting_row}
use Rattle.rl_drive.proofs.PartsLemmas.{settle_passed, settle_used}
use Rattle.rl_drive.proofs.player.Player.settle.Goals as goal

pub returns-in_default : goal.returns-in_default
returns-in_default c = on_ok_weaker c.write_line.result
    (λ text. settle_passed c.args.name.now c.args.kind c.args.self.now c.args.out.now.items c.write_line.new.out.items
    (ap (counting_row c.args.self.now.table) (sym c.as_bytes.ensures) ∙ sym c.counting_row.ensures ∙ c.in_default.is) text)
    c.write_line.ensures

pub returns : goal.returns
returns c = on_ok_weaker c.write_line-2.result
    (λ text. settle_used c.args.name.now c.args.kind c.in-Some.row c.args.self.now _ c.args.out.now.items c.write_line-2.new.out.items
    (ap (counting_row c.args.self.now.table) (sym c.as_bytes.ensures) ∙ sym c.counting_row.ensures ∙ c.in-Some.is)
    (c.outcome.ensures ∙ ap (λ (outcome : Outcome). after_outcome c.in-Some.row outcome c.args.self.now.table) c.outcome_of.ensures) refl text)
    c.write_line-2.ensures
