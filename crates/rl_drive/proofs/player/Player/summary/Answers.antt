use Rattle.std.proofs.Common.{◌≡◌, ◌++◌, ◌∙◌, [], ap, append-nil}
use Rattle.std.specs.Prelude.{codes, decimal}
use Rattle.std.proofs.lemmas.Result.{on_ok_weaker}
use Rattle.rl_view_spec.specs.Closure.{Text}
use Rattle.rl_script_spec.specs.Output.{line, view_line}
use Rattle.rl_drive.proofs.JoiningLemmas.{line_more, piece_more}
use Rattle.rl_drive.proofs.PlayingLemmas.{summed}
use Rattle.rl_drive.proofs.player.Player.summary.Goals as goal

pub returns : goal.returns
returns c =
    let view : c.write_line-2.new.out.items ≡ c.write_line.new.out.items ++ view_line 0 =
    line_more c.write_line.new.out.items c.write_number.new.out.items c.write_line-2.new.out.items (codes "view " ++ decimal 0) []
    (piece_more c.write_line.new.out.items c.write.new.out.items c.write_number.new.out.items (codes "view ") (decimal 0) c.in_ok-write.ensures
    c.in_ok-write_number.ensures)
    c.in_ok-write_line-2.ensures
    ∙ ap (λ (xs : Text). c.write_line.new.out.items ++ line xs) (append-nil (codes "view " ++ decimal 0)) in
    on_ok_weaker c.write_executed.result
    (λ text. summed c.args.self.now c.args.out.now.items c.write_line.new.out.items c.write_line-2.new.out.items c.write_states.new.out.items
    c.write_executed.new.out.items
    c.in_ok-write_line.ensures view c.in_ok-write_states.ensures text)
    c.write_executed.ensures
