use Rattle.std.proofs.Common.{◌≡◌, ◌+◌, ◌<◌, length, sym, ap, ◌∙◌, arith, length-append}
use Rattle.std.proofs.lemmas.Bool.Decides.{nat_tests}
use Rattle.rl_wire.specs.Reading.{part_in, of_lines, answer_of}
use Rattle.rl_wire.proofs.LinesLemmas.{cut, answers_say_parts}
use Rattle.rl_wire.proofs.LoopingLemmas.{behind, all_lines, no_line, bad_line, next_line, next_number, one_more, tells}
use Rattle.rl_wire.proofs.read.read_answer.Goals as goal

pub returns-in_default-clause-answer : goal.returns-in_default-clause-answer
returns-in_default-clause-answer c =
    let some : 0 < length c.lines.rest.now = grind (arith, nat_tests) in
    tells (answer_of c.args.bytes.now) c.saturating_add-number.result (length c.lines.parts.items + 1)
    (no_line c.lines.parts.items c.lines.rest.now (answer_of c.args.bytes.now) some c.in_default.ensures.none c.lines.invariant.same)
    (next_number c.lines.number c.saturating_add-number.result (length c.lines.parts.items) c.lines.invariant.number c.saturating_add-number.ensures)

pub returns-in_default-2-clause-answer : goal.returns-in_default-2-clause-answer
returns-in_default-2-clause-answer c =
    let p = c.in-Some.ensures.some in
    tells (answer_of c.args.bytes.now) c.saturating_add-number.result (length c.lines.parts.items + 1)
    (bad_line c.lines.parts.items c.lines.rest.now p.0 (answer_of c.args.bytes.now) p.1
    (ap part_in (sym p.2) ∙ sym c.in_ok-part.ensures.value ∙ c.in_default-2.is) c.lines.invariant.same)
    (next_number c.lines.number c.saturating_add-number.result (length c.lines.parts.items) c.lines.invariant.number c.saturating_add-number.ensures)

pub lines-preserved : goal.lines-preserved
lines-preserved c =
    let p = c.in-Some.ensures.some in
    let next = c.push.new.parts.items in
    record {
      same = ap (λ rest. behind next (of_lines (length next + 1) (cut rest))) p.3
          ∙ next_line c.lines.parts.items next c.in-Some-2.part c.lines.rest.now p.0 (answer_of c.args.bytes.now) p.1
          (ap part_in (sym p.2) ∙ sym c.in_ok-part.ensures.value ∙ c.in-Some-2.is) c.in_ok-push.ensures c.lines.invariant.same;
      number = rw (c.in_ok-push.ensures, length-append) (next_number c.lines.number c.saturating_add-number.result (length c.lines.parts.items)
          c.lines.invariant.number c.saturating_add-number.ensures);
      in_order = one_more c.lines.parts.items next c.in-Some-2.part c.in_ok-part.field-0 c.in_ok-push.ensures c.lines.invariant.in_order c.in-Some-2.is
          c.in_ok-part.ensures.in_order;
    }

pub returns-clause-written : goal.returns-clause-written
returns-clause-written c =
    let none : length c.lines.rest.now ≡ 0 = grind (arith, nat_tests) in
    answers_say_parts.alone c.args.bytes.now c.lines.parts.items
    (all_lines c.lines.parts.items c.lines.rest.now (answer_of c.args.bytes.now) none c.lines.invariant.same)
