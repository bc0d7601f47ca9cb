use Rattle.std.proofs.Common.{◌-◌, [], length, ap, sym, slice_get, ◌≡◌, ◌∙◌, arith, refl}
use Rattle.std.proofs.lemmas.Option.{slice_get_read, slice_get_past}
use Rattle.rl_pages.proofs.ChoiceLemmas.{befores_length, numbered_there, numbered_past}
use Rattle.rl_pages.proofs.numbers.choice_numbered.Goals as goal

pub returns-in-Some-get : goal.returns-in-Some-get
returns-in-Some-get c =
    let at = c.args.number - 1 in
    let entry = c.in-Some.ensures.lookup in
    let before = c.in-Some-get.ensures.lookup in
    numbered_there c.args.entries.now c.args.number at c.in-Some.entry.now c.in-Some-get.before.now (omega (arith, c.if-number-eq0.false))
    (slice_get_read c.args.entries.now _ at c.in-Some.entry.now refl (omega (arith, entry.3.0)) entry.1)
    (ap (λ ns. slice_get ns at) (sym c.requires) ∙ slice_get_read c.args.before.now _ at c.in-Some-get.before.now refl (omega (arith, before.3.0)) before.1)

pub returns-in-None-get : goal.returns-in-None-get
returns-in-None-get c =
    let same : length c.args.before.now ≡ length c.args.entries.now = ap length c.requires ∙ befores_length [] c.args.entries.now in
    numbered_past c.args.entries.now c.args.number (c.args.number - 1) (omega (arith, c.if-number-eq0.false))
    (slice_get_past c.args.entries.now (c.args.number - 1) (omega (arith, same, c.in-None-get.ensures.lookup.3)))

pub returns-in-None : goal.returns-in-None
returns-in-None c =
    numbered_past c.args.entries.now c.args.number (c.args.number - 1) (omega (arith, c.if-number-eq0.false))
    (slice_get_past c.args.entries.now (c.args.number - 1) (omega (arith, c.in-None.ensures.lookup.3)))
