use Rattle.std.proofs.Common.{◌∙◌, ap, sym}
use Rattle.std.proofs.lemmas.List.{map-set}
use Rattle.std.proofs.lemmas.Result.{on_ok_weaker}
use Rattle.rl_view_spec.specs.Progress.{Progress}
use Rattle.rl_registry.specs.Rows.{with_version}
use Rattle.rl_view.specs.Seen.{counting_row}
use Rattle.rl_drive.specs.Given.{execution_in}
use Rattle.rl_drive.proofs.PartsLemmas.{give_passed, give_used}
use Rattle.rl_drive.proofs.player.Player.give.Goals as goal

pub returns-in_default : goal.returns-in_default
returns-in_default c = on_ok_weaker c.write_line.result
    (λ text. give_passed c.args.key.now c.args.script.now c.args.self.now c.args.out.now.items c.write_line.new.out.items
    (ap (counting_row c.args.self.now.table) (sym c.as_bytes.ensures.value) ∙ sym c.counting_row.ensures ∙ c.in_default.is) text)
    c.write_line.ensures

pub returns : goal.returns
returns c = on_ok_weaker c.write_line-2.result
    (λ text. give_used c.args.key.now c.args.script.now c.in-Some.row c.args.self.now _ c.args.out.now.items c.write_line-2.new.out.items
    (ap (counting_row c.args.self.now.table) (sym c.as_bytes.ensures.value) ∙ sym c.counting_row.ensures ∙ c.in-Some.is)
    (c.registry_mut.ensures.value
    ∙ ap (λ (t : Progress). record t { registered = with_version t.registered c.in-Some.row c.args.key.now.version }) c.outcome.ensures)
    (map-set execution_in c.args.self.now.given.items c.in-Some.row _)
    text)
    c.write_line-2.ensures
