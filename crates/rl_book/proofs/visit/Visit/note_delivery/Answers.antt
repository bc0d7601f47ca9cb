use Rattle.std.proofs.Common.{not, ap, ◌∙◌}
use Rattle.rl_wire.specs.Arguments.{line_told}
use Rattle.rl_wire.specs.Reading.{answer_of}
use Rattle.rl_book_spec.specs.Kept.{traffic_in}
use Rattle.rl_book.proofs.AnswerLemmas.{answer_notes, ask_within, found_asked}
use Rattle.rl_book.proofs.visit.Visit.note_delivery.Goals as goal

pub note_answer-requires-clause-asked : goal.note_answer-requires-clause-asked
note_answer-requires-clause-asked c =
    found_asked c.self.inside c.args.self.now c.args.ask c.asked.result c.self.invariant c.self.view_is (c.is_none.ensures ∙ ap not c.if-is_none.false)
    c.asked.ensures.value

pub note_refusal-requires : goal.note_refusal-requires
note_refusal-requires c =
    let bad = c.in-Err-BadLine.ensures.answer c.in-Err-BadLine.line (ap line_told c.in-Err-BadLine.field-0-is) in
    (bad.0, ap answer_of c.in_ok-copy.ensures ∙ bad.1)

pub returns-in_ok-note_answer-in-Ok : goal.returns-in_ok-note_answer-in-Ok
returns-in_ok-note_answer-in-Ok c =
    let pair = found_asked c.self.inside c.args.self.now c.args.ask c.asked.result c.self.invariant c.self.view_is
    (c.is_none.ensures ∙ ap not c.if-is_none.false) c.asked.ensures.value in
    answer_notes c.args.self.now c.note_answer.new.self c.args.ask c.in_ok-copy.copy c.args.bytes.now c.args.mark c.in-Ok.parts.items
    c.in_ok-note_answer-in-Ok.field-0 c.in_ok-copy.ensures c.in-Ok.ensures.answer (ask_within (traffic_in c.args.self.now) c.args.ask pair.0 pair.1)
    c.in_ok-note_answer-in-Ok.ensures.took c.in_ok-note_answer-in-Ok.ensures.ok
