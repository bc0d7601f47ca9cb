use Rattle.std.proofs.Common.{rules, ◌≡◌, List, ap, subst, sym, ◌∙◌, lit<, length, length-append}
use Rattle.std.proofs.lemmas.Iterator.Splits.{YieldsList-from_str_split}
use Rattle.std.proofs.lemmas.Result.{err_from_is_err_and}
use Rattle.rl_names.specs.declared.row.Row.{Row}
use Rattle.rl_view_spec.specs.Closure.{Registered}
use Rattle.rl_view_spec.specs.Rows.{AreRegistrable}
use Rattle.rl_script_spec.specs.Script.{lines_of, rows_in}
use Rattle.rl_script_spec.proofs.RegistrableLemmas.{rows_registrable}
use Rattle.rl_script.proofs.LinesLemmas.{all_left, next_number, passed_over, taken_in, refused, ended}
use Rattle.rl_script.proofs.script.read_script.Goals as goal

pub loop-line-init : goal.loop-line-init
loop-line-init c = record {
  number = search rules;
  left = rw c.into_iter-line-iterator.ensures.into_iter_gives (all_left _ c.split-line-items.result _ c.args.text.now
      (YieldsList-from_str_split 10 c.args.text.now (lit< tt) c.split-line-items.ensures.text c.split-line-items.ensures.has_more
      c.split-line-items.ensures.pattern)
      c.new.ensures.items c.new-2.ensures.items c.new-3.ensures.items);
}

pub loop-line-preserved-in-Continue-branch-3 : goal.loop-line-preserved-in-Continue-branch-3
loop-line-preserved-in-Continue-branch-3 c = rw length-append record {
  number = next_number c.loop-line.number c.saturating_add-number.result (length c.loop-line.yielded) c.loop-line.invariant.number
      c.saturating_add-number.ensures;
  left = taken_in _ c.loop-line.line-iterator c.next.new.self c.in-Some.line c.loop-line.script c.take_in.new.self (length c.loop-line.yielded)
      c.saturating_add-number.result c.in-Some-2.said _
      c.loop-line.invariant.left c.in-Some.ensures.steps (sym c.in_ok-said.ensures ∙ c.in-Some-2.is) c.in_ok-take_in.ensures;
}

pub returns-in_err-take_in-clause-answer : goal.returns-in_err-take_in-clause-answer
returns-in_err-take_in-clause-answer c =
    let p = err_from_is_err_and c.from_residual-in_err-take_in.result c.from_residual-in_err-take_in.ensures.1 in
    rw (p.1, p.2) (refused _ c.loop-line.line-iterator c.next.new.self c.in-Some.line c.loop-line.script c.take_in.new.self (length c.loop-line.yielded)
    c.saturating_add-number.result c.in-Some-2.said _ _
    c.loop-line.invariant.left c.in-Some.ensures.steps (sym c.in_ok-said.ensures ∙ c.in-Some-2.is) c.in_err-take_in.ensures
    (next_number c.loop-line.number c.saturating_add-number.result (length c.loop-line.yielded) c.loop-line.invariant.number c.saturating_add-number.ensures))

pub loop-line-preserved : goal.loop-line-preserved
loop-line-preserved c = rw length-append record {
  number = next_number c.loop-line.number c.saturating_add-number.result (length c.loop-line.yielded) c.loop-line.invariant.number
      c.saturating_add-number.ensures;
  left = passed_over _ c.loop-line.line-iterator c.next.new.self c.in-Some.line c.loop-line.script (length c.loop-line.yielded) _
      c.loop-line.invariant.left c.in-Some.ensures.steps (sym c.in_ok-said.ensures ∙ c.in_default.is);
}

pub returns-clause-answer : goal.returns-clause-answer
returns-clause-answer c = ended _ c.loop-line.line-iterator c.next.new.self c.loop-line.script (length c.loop-line.yielded) _ c.loop-line.invariant.left
    c.in-None.ensures.steps

pub returns-clause-registrable : goal.returns-clause-registrable
returns-clause-registrable c =
    let read = ended _ c.loop-line.line-iterator c.next.new.self c.loop-line.script (length c.loop-line.yielded) _ c.loop-line.invariant.left
    c.in-None.ensures.steps in
    let same : rows_in (lines_of c.args.text.now) ≡ c.loop-line.script.rows.items = ap (λ (r : Registered). r.rows) read.registered in
    subst (λ (rows : List Row). AreRegistrable rows) same (rows_registrable c.args.text.now)
