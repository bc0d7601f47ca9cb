use Rattle.std.proofs.Common.{rules, sym, ◌∙◌, lit<, length, length-append}
use Rattle.std.proofs.lemmas.Iterator.Splits.{YieldsList-from_str_split}
use Rattle.std.proofs.lemmas.Result.{err_from_is_err_and}
use Rattle.rl_steps.proofs.LinesLemmas.{all_left, next_number, passed_over, taken_in, refused, ended}
use Rattle.rl_steps.proofs.script.read_lines.Goals as goal

pub loop-line-init : goal.loop-line-init
loop-line-init c = record {
  number = search rules;
  left = rw c.into_iter-line-iterator.ensures.into_iter_gives (all_left c.args.kinds _ c.split-line-items.result _ c.args.text.now
      (YieldsList-from_str_split 10 c.args.text.now (lit< tt) c.split-line-items.ensures.text c.split-line-items.ensures.has_more
      c.split-line-items.ensures.pattern)
      c.new-steps.ensures.items);
}

pub loop-line-preserved-in-Continue-branch-3 : goal.loop-line-preserved-in-Continue-branch-3
loop-line-preserved-in-Continue-branch-3 c = rw length-append record {
  number = next_number c.loop-line.number c.saturating_add-number.result (length c.loop-line.yielded) c.loop-line.invariant.number
      c.saturating_add-number.ensures;
  left = taken_in c.args.kinds _ c.loop-line.line-iterator c.next.new.self c.in-Some.line c.loop-line.steps.items _ (length c.loop-line.yielded)
      c.saturating_add-number.result c.in-Some-2.said _
      c.loop-line.invariant.left c.in-Some.ensures.steps (sym c.in_ok-said.ensures ∙ c.in-Some-2.is) c.in_ok-take_in.ensures.0 c.in_ok-take_in.ensures.1;
}

pub returns-in_err-take_in : goal.returns-in_err-take_in
returns-in_err-take_in c =
    let p = err_from_is_err_and c.from_residual-in_err-take_in.result c.from_residual-in_err-take_in.ensures.1 in
    rw (p.1, p.2) (λ why is. refused c.args.kinds _ c.loop-line.line-iterator c.next.new.self c.in-Some.line c.loop-line.steps.items
    (length c.loop-line.yielded) c.saturating_add-number.result c.in-Some-2.said why _
    c.loop-line.invariant.left c.in-Some.ensures.steps (sym c.in_ok-said.ensures ∙ c.in-Some-2.is)
    (next_number c.loop-line.number c.saturating_add-number.result (length c.loop-line.yielded) c.loop-line.invariant.number c.saturating_add-number.ensures)
    (c.in_err-take_in.ensures why is))

pub loop-line-preserved : goal.loop-line-preserved
loop-line-preserved c = rw length-append record {
  number = next_number c.loop-line.number c.saturating_add-number.result (length c.loop-line.yielded) c.loop-line.invariant.number
      c.saturating_add-number.ensures;
  left = passed_over c.args.kinds _ c.loop-line.line-iterator c.next.new.self c.in-Some.line c.loop-line.steps.items (length c.loop-line.yielded) _
      c.loop-line.invariant.left c.in-Some.ensures.steps (sym c.in_ok-said.ensures ∙ c.in_default.is);
}

pub returns : goal.returns
returns c = ended c.args.kinds _ c.loop-line.line-iterator c.next.new.self c.loop-line.steps.items (length c.loop-line.yielded) _
    c.loop-line.invariant.left c.in-None.ensures.steps
