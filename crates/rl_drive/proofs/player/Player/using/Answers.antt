use Rattle.std.proofs.Common.{◌++◌, refl, ap, ◌∙◌}
use Rattle.std.specs.Prelude.{codes}
use Rattle.std.proofs.lemmas.Result.{on_ok_weaker}
use Rattle.rl_view_spec.specs.Closure.{Text, Unknown, Cycle}
use Rattle.rl_script_spec.specs.Output.{line}
use Rattle.rl_drive.proofs.JoiningLemmas.{line_more}
use Rattle.rl_drive.proofs.TakingLemmas.{accepted, refused}
use Rattle.rl_drive.proofs.player.Player.using.Goals as goal

pub returns-in-Ok : goal.returns-in-Ok
returns-in-Ok c = on_ok_weaker c.write_line.result
    (λ text. accepted c.args.names.now c.args.self.now c.request.new.self c.args.out.now.items c.write_line.new.out.items c.in-Ok.ensures text)
    c.write_line.ensures

pub returns-in_ok-write-in-Err-Unknown : goal.returns-in_ok-write-in-Err-Unknown
returns-in_ok-write-in-Err-Unknown c = on_ok_weaker c.write_line-in-Err-Unknown.result
    (λ text.
    let e = (rw c.in-Err-Unknown.field-0-is at c.in-Err-Unknown.ensures) (Unknown c.in-Err-Unknown.name) refl in
    refused c.args.names.now (Unknown c.in-Err-Unknown.name) c.args.self.now c.request.new.self c.args.out.now.items c.write_line-in-Err-Unknown.new.out.items
    e.0 e.1
    (line_more c.args.out.now.items c.write.new.out.items c.write_line-in-Err-Unknown.new.out.items (codes "using unknown ") c.in-Err-Unknown.name
    c.in_ok-write-in-Err-Unknown.ensures
    (text ∙ ap (λ (name : Text). c.write.new.out.items ++ line name) c.as_str.ensures)))
    c.write_line-in-Err-Unknown.ensures

pub returns-in_ok-write-in-Err-Cycle : goal.returns-in_ok-write-in-Err-Cycle
returns-in_ok-write-in-Err-Cycle c = on_ok_weaker c.write_line-in-Err-Cycle.result
    (λ text.
    let e = (rw c.in-Err-Cycle.field-0-is at c.in-Err-Cycle.ensures) (Cycle c.in-Err-Cycle.name) refl in
    refused c.args.names.now (Cycle c.in-Err-Cycle.name) c.args.self.now c.request.new.self c.args.out.now.items c.write_line-in-Err-Cycle.new.out.items e.0 e.1
    (line_more c.args.out.now.items c.write-in-Err-Cycle.new.out.items c.write_line-in-Err-Cycle.new.out.items (codes "using cycle ") c.in-Err-Cycle.name
    c.in_ok-write-in-Err-Cycle.ensures
    (text ∙ ap (λ (name : Text). c.write-in-Err-Cycle.new.out.items ++ line name) c.as_str-in-Err-Cycle.ensures)))
    c.write_line-in-Err-Cycle.ensures
