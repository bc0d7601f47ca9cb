use Rattle.std.proofs.Common.{refl, sym, ap, ◌∙◌}
use Rattle.rl_wire.specs.StartupReading.{with_rows, startup_by, startup_of}
use Rattle.rl_wire.proofs.LinesLemmas.{cut}
use Rattle.rl_wire.proofs.LoopingLemmas.{tells}
use Rattle.rl_wire.proofs.StartupAloneLemmas.{texts_say_startups}
use Rattle.rl_wire.proofs.StartupLoopingLemmas.{no_first_line, with_first_line}
use Rattle.rl_wire.proofs.startup.read_startup.Goals as goal

pub returns-in_default-clause-answer : goal.returns-in_default-clause-answer
returns-in_default-clause-answer c = tells (startup_of c.args.bytes.now) 1 1 (no_first_line c.args.bytes.now c.in_default.ensures.none) refl

pub returns-in_default-2-clause-answer : goal.returns-in_default-2-clause-answer
returns-in_default-2-clause-answer c =
    let p = c.in-Some.ensures.some in
    let none = rw c.in_default-2.is at c.in_ok-sources.ensures.value in
    tells (startup_of c.args.bytes.now) 1 1
    (with_first_line c.args.bytes.now c.in-Some.line.now c.in-Some.rest.now p.0 p.1 p.2 p.3 ∙ ap (λ o. startup_by o (cut c.in-Some.rest.now)) (sym none)) refl

pub returns-in_default-3-clause-answer : goal.returns-in_default-3-clause-answer
returns-in_default-3-clause-answer c =
    let p = c.in-Some.ensures.some in
    let found = rw c.in-Some-2.is at c.in_ok-sources.ensures.value in
    let none = rw c.in_default-3.is at c.in_ok-rows.ensures.value in
    tells (startup_of c.args.bytes.now) 2 2
    (with_first_line c.args.bytes.now c.in-Some.line.now c.in-Some.rest.now p.0 p.1 p.2 p.3 ∙ ap (λ o. startup_by o (cut c.in-Some.rest.now)) (sym found)
    ∙ ap (with_rows c.in-Some-2.sources.items) (sym none)) refl

read : goal.returns-clause-answer
read c =
    let p = c.in-Some.ensures.some in
    let found = rw c.in-Some-2.is at c.in_ok-sources.ensures.value in
    let rows = rw c.in-Some-3.is at c.in_ok-rows.ensures.value in
    rw (c.of.ensures, c.of-2.ensures) (with_first_line c.args.bytes.now c.in-Some.line.now c.in-Some.rest.now p.0 p.1 p.2 p.3
    ∙ ap (λ o. startup_by o (cut c.in-Some.rest.now)) (sym found) ∙ ap (with_rows c.in-Some-2.sources.items) (sym rows))

pub returns-clause-answer : goal.returns-clause-answer
returns-clause-answer c = read c

pub returns-clause-written : goal.returns-clause-written
returns-clause-written c = texts_say_startups.alone c.args.bytes.now _ (read c)
