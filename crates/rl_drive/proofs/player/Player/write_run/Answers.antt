use Rattle.std.proofs.Common.{ℕ, ◌∙◌, ap, ◌++◌}
use Rattle.std.specs.Prelude.{decimal}
use Rattle.std.proofs.lemmas.Result.{on_ok_weaker}
use Rattle.rl_drive.specs.Played.{execution_at, key_at, script_length}
use Rattle.rl_drive.specs.Player.{held}
use Rattle.rl_drive.proofs.JoiningLemmas.{run_written}
use Rattle.rl_drive.proofs.player.Player.write_run.Goals as goal

pub returns : goal.returns
returns c = on_ok_weaker c.write_line.result
    (λ text.
    run_written c.args.out.now.items c.args.word.now (key_at c.args.self.now.table c.args.row)
    (decimal (script_length (execution_at (held c.args.self.now) c.args.row)))
    c.write.new.out.items c.write_row.new.out.items c.write-2.new.out.items c.write_number.new.out.items c.write_line.new.out.items
    c.in_ok-write.ensures c.in_ok-write_row.ensures c.in_ok-write-2.ensures
    (c.in_ok-write_number.ensures ∙ ap (λ (n : ℕ). c.write-2.new.out.items ++ decimal n) c.script_length.ensures)
    text)
    c.write_line.ensures
