use Rattle.std.proofs.Common.{◌≡◌, ℕ, ◌≤◌, List, length, map, ap, ◌∙◌, subst, arith}
use Rattle.std.specs.Prelude.{IfOk}
use Rattle.rl_names.specs.Packing.{distinct}
use Rattle.rl_names.specs.declared.row.Row.{Row}
use Rattle.rl_wire.specs.Startup.{AreWritable}
use Rattle.rl_startup.specs.Laws.{HaveAtMost, NeedAtMost}
use Rattle.rl_startup.specs.Places.{place_by}
use Rattle.rl_startup.specs.Rows.{place_in, groups_of, names_of, rows_of, row_of}
use Rattle.rl_build.proofs.DistinctLemmas.{distinct_few}
use Rattle.rl_startup.proofs.RowsLemmas.{rows_are_lawful, rows_same, carried}
use Rattle.rl_startup.proofs.modules.rows_of.Goals as goal

pub places_of_texts-requires : goal.places_of_texts-requires
places_of_texts-requires c =
    let same : c.deref-2.result.now ≡ distinct c.deref.result.now = c.deref-2.ensures.value ∙ c.in_ok-groups.ensures in
    let few : length c.deref.result.now ≤ 4096 = rw c.deref.ensures.value (omega (arith, c.in_ok-own_groups.ensures.few)) in
    rw same (omega (arith, distinct_few c.deref.result.now))

made : goal.returns-clause-rows
made c =
    let ms = c.args.modules.now in
    let groups : c.deref-2.result.now ≡ groups_of ms =
    c.deref-2.ensures.value ∙ c.in_ok-groups.ensures ∙ ap distinct (c.deref.ensures.value ∙ c.in_ok-own_groups.ensures.groups) in
    let same : map (row_of (place_by c.in_ok-names.names) (place_by c.in_ok-groups-2.groups)) ms ≡ rows_of ms =
    rows_same (place_by c.in_ok-names.names) (place_in (names_of ms)) (place_by c.in_ok-groups-2.groups) (place_in (groups_of ms)) ms c.in_ok-names.ensures
    (λ q. c.in_ok-groups-2.ensures q ∙ ap (λ (texts : List (List ℕ)). place_in texts q) groups) in
    subst (λ (rows : List Row). IfOk c.rows_by.result (λ v. v.items ≡ rows)) same c.rows_by.ensures

pub returns-clause-rows : goal.returns-clause-rows
returns-clause-rows c = made c

pub returns-clause-writable : goal.returns-clause-writable
returns-clause-writable c =
    let ms = c.args.modules.now in
    carried c.rows_by.result (rows_of ms) (λ (rows : List Row). AreWritable rows) (made c) (rows_are_lawful.writable ms c.requires.fit)

pub returns-clause-names : goal.returns-clause-names
returns-clause-names c =
    let ms = c.args.modules.now in
    carried c.rows_by.result (rows_of ms) (λ (rows : List Row). map (λ (r : Row). r.name) rows ≡ names_of ms) (made c) (rows_are_lawful.names ms)

pub returns-clause-deps : goal.returns-clause-deps
returns-clause-deps c =
    let ms = c.args.modules.now in
    carried c.rows_by.result (rows_of ms) (λ (rows : List Row). (most : ℕ) → NeedAtMost most ms → HaveAtMost most rows) (made c)
    (rows_are_lawful.deps ms)
