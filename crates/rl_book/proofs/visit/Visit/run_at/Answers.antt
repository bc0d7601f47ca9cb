use Rattle.std.proofs.Common.{◌≡◌, ◌<◌, ℕ, Bool, Some, arith, ap, length, subst, sym, ◌∙◌}
use Rattle.std.specs.Prelude.{slice_get}
use Rattle.std.proofs.lemmas.List.{length-map}
use Rattle.std.proofs.lemmas.Option.{slice_get-get_or}
use Rattle.rl_book_spec.specs.Kept.{Booked}
use Rattle.rl_book.specs.Calls.{IsRun}
use Rattle.rl_book.specs.declared.answer.Run.{Run}
use Rattle.rl_book.proofs.LookingLemmas.{run_kept}
use Rattle.rl_book.proofs.visit.Visit.run_at.Goals as goal

pub returns : goal.returns
returns c = λ ran there.
    let runs = c.self.inside.runs.items in
    let pair : Run → ℕ × Bool = λ run. (run.row, run.threw) in
    let low : c.args.at < length runs = omega (arith, c.requires, ap (λ (b : Booked). length b.ran) c.self.view_is, length-map runs pair) in
    let got : slice_get runs c.args.at ≡ Some c.index.result.now = slice_get-get_or runs c.args.at c.index.result.now low
    ∙ ap (λ (run : Run). Some run) (sym c.index.ensures) in
    subst (λ (b : Booked). IsRun b ran c.index.result.now) c.self.view_is
    (run_kept c.self.inside c.args.at c.index.result.now ran c.self.invariant got (ap (λ (b : Booked). slice_get b.ran c.args.at) c.self.view_is ∙ there))
