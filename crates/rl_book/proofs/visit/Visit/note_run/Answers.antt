use Rattle.std.proofs.Common.{◌≡◌, ◌∷◌, ◌++◌, [], List, ℕ, Bool, length, map, ap, sym, subst, ◌∙◌, arith, length-append}
use Rattle.std.proofs.lemmas.List.{length-map}
use Rattle.rl_book_spec.specs.Kept.{Booked}
use Rattle.rl_book.specs.Calls.{IsRun, due_row}
use Rattle.rl_book.specs.Kept.{booked}
use Rattle.rl_book.specs.declared.answer.Run.{Run}
use Rattle.rl_book.proofs.CallsLemmas.{idle_kept}
use Rattle.rl_book.proofs.RanLemmas.{fits, next_due, ran_kept, ran_more}
use Rattle.rl_book.proofs.visit.Visit.note_run.Goals as goal

pub run-requires-clause-idle : goal.run-requires-clause-idle
run-requires-clause-idle c = idle_kept c.self.inside c.self.invariant

pub run-requires-clause-next : goal.run-requires-clause-next
run-requires-clause-next c = next_due c.self.inside c.args.run.row c.self.invariant (ap due_row c.self.view_is ∙ c.requires.due)

pub push_reserved-requires : goal.push_reserved-requires
push_reserved-requires c =
    let room = c.self.invariant.room_to_run in
    let more = fits c.self.inside c.args.run c.self.invariant (ap due_row c.self.view_is ∙ c.requires.due) in
    omega (arith, room, more)

pub invariant_of-self : goal.invariant_of-self
invariant_of-self c =
    ran_kept c.self.inside c.args.run c.self.invariant (ap due_row c.self.view_is ∙ c.requires.due) c.run.new.table c.push_reserved.new.self
    c.push_reserved.ensures.items (subst (λ (b : Booked). IsRun b (c.args.run.row, c.args.run.threw) c.args.run) (sym c.self.view_is) c.requires.run)
    c.run.ensures c.push_reserved.ensures.capacity

pub returns-clause-ran : goal.returns-clause-ran
returns-clause-ran c =
    let b = c.self.inside in
    ap (λ (ran : List (ℕ × Bool)). record (booked b) { ran = ran })
    (ran_more b c.args.run c.self.invariant (ap due_row c.self.view_is ∙ c.requires.due) c.run.new.table c.push_reserved.new.self c.push_reserved.ensures.items)
    ∙ ap (λ (b : Booked). record b { ran = b.ran ++ (c.args.run.row, c.args.run.threw) ∷ [] }) c.self.view_is

pub returns-clause-few : goal.returns-clause-few
returns-clause-few c =
    let more = fits c.self.inside c.args.run c.self.invariant (ap due_row c.self.view_is ∙ c.requires.due) in
    let grown = ap length c.push_reserved.ensures.items in
    let one = length-append c.self.inside.runs.items (c.args.run ∷ []) in
    let runs : length (map (λ (run : Run). (run.row, run.threw)) c.push_reserved.new.self.items) ≡ length c.push_reserved.new.self.items =
    length-map {B = ℕ × Bool} c.push_reserved.new.self.items (λ (run : Run). (run.row, run.threw)) in
    omega (arith, more, grown, one, runs)
