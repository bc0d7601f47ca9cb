use Rattle.std.proofs.Common.{◌≡◌, ◌<◌, List, Option, option_map, length, subst, Vec, Global, arith}
use Rattle.std.specs.Prelude.{IfOk}
use Rattle.std.specs.List.{slice_split}
use Rattle.std.proofs.lemmas.Bool.Decides.{nat_tests}
use Rattle.rl_names.specs.declared.row.Row.{Row}
use Rattle.rl_wire.specs.Arguments.{is_line_end}
use Rattle.rl_wire.specs.StartupReading.{rows_in, rows_alone}
use Rattle.rl_wire.proofs.StartupLoopingLemmas.{no_line, not_alone, alone}
use Rattle.rl_wire.proofs.startup.rows_alone.Goals as goal

pub returns-in_default-clause-value : goal.returns-in_default-clause-value
returns-in_default-clause-value c = no_line c.args.bytes.now c.in_default.ensures.none

pub returns-then-not-is_empty-clause-value : goal.returns-then-not-is_empty-clause-value
returns-then-not-is_empty-clause-value c =
    let p = c.in-Some.ensures.some in
    let some : 0 < length c.in-Some.behind.now = grind (arith, nat_tests) in not_alone c.args.bytes.now c.in-Some.behind.now p.0 p.1 p.3 some

pub returns-clause-value : goal.returns-clause-value
returns-clause-value c =
    let p = c.in-Some.ensures.some in
    let none : length c.in-Some.behind.now ≡ 0 = grind (arith, nat_tests) in
    let same : rows_in c.in-Some.line.now ≡ rows_alone (slice_split is_line_end c.args.bytes.now) =
    alone c.args.bytes.now c.in-Some.line.now c.in-Some.behind.now p.0 p.1 p.2 p.3 none in
    subst (λ (t : Option (List Row)). IfOk c.rows_in.result (λ rows. option_map (λ (v : Vec Row Global). v.items) rows ≡ t)) same c.rows_in.ensures.value
