use Rattle.std.proofs.Common.{◌≡◌, refl, ◌-◌, ◌∙◌, ◌++◌, ℕ, [], List, Some, ap, subst, length, append-nil, arith}
use Rattle.std.specs.Prelude.{codes, decimal}
use Rattle.std.proofs.lemmas.Result.{on_ok_weaker}
use Rattle.rl_view_spec.specs.Closure.{Cycle, Text, Unknown, refusal_of}
use Rattle.rl_script_spec.specs.Output.{line}
use Rattle.rl_drive.proofs.JoiningLemmas.{line_more, piece_more}
use Rattle.rl_drive.proofs.TakingLemmas.{loaded, none_refused}
use Rattle.rl_drive.proofs.player.Player.load.Goals as goal

pub unreachable-requires : goal.unreachable-requires
unreachable-requires c =
    let e = (rw c.in-Err-Unknown.field-0-is at c.in-Err-Unknown.ensures) (Unknown c.in-Err-Unknown.field-0-0) refl in
    none_refused c.args.self.now.table.registered c.args.names.now (Unknown c.in-Err-Unknown.field-0-0)
    (subst (λ (names : List Text). refusal_of c.args.self.now.table.registered names ≡ Some (Unknown c.in-Err-Unknown.field-0-0))
    (c.as_slice.ensures.value ∙ c.in_ok-accepted.ensures) e.0)

pub unreachable-requires-in-Err-Cycle : goal.unreachable-requires-in-Err-Cycle
unreachable-requires-in-Err-Cycle c =
    let e = (rw c.in-Err-Cycle.field-0-is at c.in-Err-Cycle.ensures) (Cycle c.in-Err-Cycle.field-0-0) refl in
    none_refused c.args.self.now.table.registered c.args.names.now (Cycle c.in-Err-Cycle.field-0-0)
    (subst (λ (names : List Text). refusal_of c.args.self.now.table.registered names ≡ Some (Cycle c.in-Err-Cycle.field-0-0))
    (c.as_slice.ensures.value ∙ c.in_ok-accepted.ensures) e.0)

pub returns : goal.returns
returns c =
    let number : c.saturating_sub.result ≡ length c.args.names.now - length c.as_slice.result.now =
    omega (arith, c.saturating_sub.ensures, c.len.ensures, c.as_slice.ensures.len) in
    on_ok_weaker c.write_line.result
    (λ text. loaded c.args.names.now c.as_slice.result.now c.args.self.now c.request.new.self c.args.out.now.items c.write_line.new.out.items
    (c.as_slice.ensures.value ∙ c.in_ok-accepted.ensures) c.in-Ok.ensures
    (line_more c.args.out.now.items c.write_number.new.out.items c.write_line.new.out.items (codes "load dropped " ++ decimal c.saturating_sub.result) []
    (piece_more c.args.out.now.items c.write.new.out.items c.write_number.new.out.items (codes "load dropped ") (decimal c.saturating_sub.result)
    c.in_ok-write.ensures c.in_ok-write_number.ensures) text
    ∙ ap (λ (xs : Text). c.args.out.now.items ++ line xs) (append-nil (codes "load dropped " ++ decimal c.saturating_sub.result))
    ∙ ap (λ (n : ℕ). c.args.out.now.items ++ line (codes "load dropped " ++ decimal n)) number))
    c.write_line.ensures
