use Rattle.std.proofs.Common.{◌≡◌, ◌<◌, ◌++◌, ℕ, List, Bool, Option, Some, None, length, sym, ap, subst, ◌∙◌}
use Rattle.std.specs.Prelude.{All, flat_map}
use Rattle.rl_view_spec.specs.Closure.{Text, Registered, least, Cycle}
use Rattle.rl_view_spec.specs.Numbers.{closure_numbers}
use Rattle.rl_view_spec.specs.Progress.{HasDistinctNames, name_at}
use Rattle.rl_view_spec.proofs.PlacesLemmas.{name_there}
use Rattle.rl_graph.specs.Graph.{edge_lists, places_from}
use Rattle.rl_registry.specs.Kept.{AreClosures}
use Rattle.rl_rows.specs.Edges.{HasEdges}
use Rattle.rl_registry.specs.Search.{unknown, unknown_of, unknown_in}
use Rattle.rl_rows.specs.Index.{IsLeastRow}
use Rattle.rl_rows.specs.Least.{least_from}
use Rattle.rl_rows.proofs.LeastLemmas.{found_is_least}
use Rattle.rl_registry.proofs.LoopsLemmas.{AllFall, loops, loop_none, no_loops}
use Rattle.rl_registry.proofs.MarkedLemmas.{places_of_closures}
use Rattle.rl_registry.proofs.UnknownsLemmas.{closure_low}
use Rattle.rl_registry.proofs.BlamedLemmas.{refuses_unknown, refuses_cycle, accepts}
use Rattle.rl_registry.proofs.registry.Registry.resolve_all.Goals as goal

-- the rows that are marked are those of the closures
rows_are : (r : Registered) (names : List Text) (marks given : List Bool) (rows : List ℕ) → given ≡ marks → AreClosures r names marks →
    rows ≡ places_from 0 given → rows ≡ closure_numbers r names
rows_are r names marks given rows e m f = f ∙ ap (places_from 0) e ∙ places_of_closures r names marks m

-- what was looked through is what the closures have
looked_through : (r : Registered) (names : List Text) (rows given : List ℕ) (found : Option Text) → given ≡ rows → rows ≡ closure_numbers r names →
    found ≡ least_from None (unknown r names ++ flat_map (unknown_of r) given) → least (unknown_in r names) ≡ found
looked_through r names rows given found e f h =
    sym (h ∙ ap (λ (ks : List ℕ). least_from None (unknown r names ++ flat_map (unknown_of r) ks)) (e ∙ f) ∙ found_is_least (unknown_in r names))

ranked : (r s : Registered) (edges es : List (List ℕ)) (ranks rs : List ℕ) (names : List Text) (rows given : List ℕ) → HasEdges r edges → r ≡ s →
    es ≡ edges → given ≡ rows → rows ≡ closure_numbers s names → AllFall es rs given
    → HasEdges s es × AllFall es rs (closure_numbers s names)
ranked r s edges es ranks rs names rows given has e f g h falls = (
  subst (λ (q : Registered). HasEdges q es) e (subst (λ (xs : List (List ℕ)). HasEdges r xs) (sym f) has),
  subst (λ (ks : List ℕ). AllFall es rs ks)
      (g ∙ h) falls,
)

pub least_unknown-requires : goal.least_unknown-requires
least_unknown-requires c =
    let rows : c.in_ok-rows.rows.items ≡ closure_numbers c.args.self.now c.args.names.now =
    rows_are c.args.self.now c.args.names.now c.in_ok-marks.marks.items c.as_slice.result.now c.in_ok-rows.rows.items c.as_slice.ensures.value
    c.in_ok-marks.ensures c.in_ok-rows.ensures in
    subst (λ (ks : List ℕ). All (λ k. k < length c.args.self.now.rows) ks) (sym (c.as_slice-2.ensures.value ∙ rows))
    (closure_low c.args.self.now c.args.names.now)

pub returns-in-Some : goal.returns-in-Some
returns-in-Some c =
    let distinct : HasDistinctNames c.args.self.now = subst (λ (r : Registered). HasDistinctNames r) c.self.view_is c.self.invariant.has_edges.distinct in
    let rows : c.in_ok-rows.rows.items ≡ closure_numbers c.args.self.now c.args.names.now =
    rows_are c.args.self.now c.args.names.now c.in_ok-marks.marks.items c.as_slice.result.now c.in_ok-rows.rows.items c.as_slice.ensures.value
    c.in_ok-marks.ensures c.in_ok-rows.ensures in
    λ refusal told. refuses_unknown c.args.self.now c.args.names.now c.in_ok-name.name distinct
    (looked_through c.args.self.now c.args.names.now c.in_ok-rows.rows.items c.as_slice-2.result.now (Some c.in_ok-name.name) c.as_slice-2.ensures.value rows
    (ap (λ (x : Text). Some x) c.in_ok-name.ensures ∙ c.in-Some.ensures)) ∙ told

pub returns-then-ranks_fall : goal.returns-then-ranks_fall
returns-then-ranks_fall c =
    let distinct : HasDistinctNames c.args.self.now = subst (λ (r : Registered). HasDistinctNames r) c.self.view_is c.self.invariant.has_edges.distinct in
    let rows : c.in_ok-rows.rows.items ≡ closure_numbers c.args.self.now c.args.names.now =
    rows_are c.args.self.now c.args.names.now c.in_ok-marks.marks.items c.as_slice.result.now c.in_ok-rows.rows.items c.as_slice.ensures.value
    c.in_ok-marks.ensures c.in_ok-rows.ensures in
    let known : least (unknown_in c.args.self.now c.args.names.now)
    ≡ None = looked_through c.args.self.now c.args.names.now c.in_ok-rows.rows.items c.as_slice-2.result.now None c.as_slice-2.ensures.value rows
    c.in_default.ensures in
    let falls = ranked _ c.args.self.now (edge_lists c.self.inside.edges.items) (edge_lists c.as_slice-3.result.now) c.self.inside.ranks.items
    c.as_slice-4.result.now c.args.names.now c.in_ok-rows.rows.items c.as_slice-5.result.now c.self.invariant.has_edges c.self.view_is
    (ap (λ es. edge_lists es) c.as_slice-3.ensures.value) c.as_slice-5.ensures.value rows (sym c.ranks_fall.ensures ∙ c.if-ranks_fall.true) in (
      accepts c.args.self.now c.args.names.now distinct known
          (no_loops c.args.self.now (edge_lists c.as_slice-3.result.now) c.as_slice-4.result.now c.args.names.now falls.0 falls.1),
      rows,
    )

pub returns-in-Some-2 : goal.returns-in-Some-2
returns-in-Some-2 c =
    let distinct : HasDistinctNames c.args.self.now = subst (λ (r : Registered). HasDistinctNames r) c.self.view_is c.self.invariant.has_edges.distinct in
    let rows : c.in_ok-rows.rows.items ≡ closure_numbers c.args.self.now c.args.names.now =
    rows_are c.args.self.now c.args.names.now c.in_ok-marks.marks.items c.as_slice.result.now c.in_ok-rows.rows.items c.as_slice.ensures.value
    c.in_ok-marks.ensures c.in_ok-rows.ensures in
    let known : least (unknown_in c.args.self.now c.args.names.now)
    ≡ None = looked_through c.args.self.now c.args.names.now c.in_ok-rows.rows.items c.as_slice-2.result.now None c.as_slice-2.ensures.value rows
    c.in_default.ensures in
    let m : AreClosures c.args.self.now c.args.names.now c.as_slice-6.result.now =
    subst (λ (marks : List Bool). AreClosures c.args.self.now c.args.names.now marks) (sym c.as_slice-6.ensures.value) c.in_ok-marks.ensures in
    let l : IsLeastRow c.args.self.now (loops c.args.self.now c.as_slice-6.result.now) (Some c.in-Some-2.row) =
    subst (λ (o : Option ℕ). IsLeastRow c.args.self.now (loops c.args.self.now c.as_slice-6.result.now) o) c.in-Some-2.is c.in_ok-row.ensures in
    let named : c.in_ok-name-in-Some-2.name ≡ name_at c.args.self.now c.in-Some-2.row =
    c.in_ok-name-in-Some-2.ensures ∙ c.as_str.ensures ∙ sym (name_there c.args.self.now c.in-Some-2.row c.row_at.result.now c.row_at.ensures) in
    λ refusal told. refuses_cycle c.args.self.now c.args.names.now c.as_slice-6.result.now c.in-Some-2.row distinct known m l
    ∙ ap (λ (x : Text). Some (Cycle x)) (sym named) ∙ told

pub returns : goal.returns
returns c =
    let distinct : HasDistinctNames c.args.self.now = subst (λ (r : Registered). HasDistinctNames r) c.self.view_is c.self.invariant.has_edges.distinct in
    let rows : c.in_ok-rows.rows.items ≡ closure_numbers c.args.self.now c.args.names.now =
    rows_are c.args.self.now c.args.names.now c.in_ok-marks.marks.items c.as_slice.result.now c.in_ok-rows.rows.items c.as_slice.ensures.value
    c.in_ok-marks.ensures c.in_ok-rows.ensures in
    let known : least (unknown_in c.args.self.now c.args.names.now)
    ≡ None = looked_through c.args.self.now c.args.names.now c.in_ok-rows.rows.items c.as_slice-2.result.now None c.as_slice-2.ensures.value rows
    c.in_default.ensures in
    let m : AreClosures c.args.self.now c.args.names.now c.as_slice-6.result.now =
    subst (λ (marks : List Bool). AreClosures c.args.self.now c.args.names.now marks) (sym c.as_slice-6.ensures.value) c.in_ok-marks.ensures in
    let l : IsLeastRow c.args.self.now (loops c.args.self.now c.as_slice-6.result.now) None =
    subst (λ (o : Option ℕ). IsLeastRow c.args.self.now (loops c.args.self.now c.as_slice-6.result.now) o) c.in-None.is c.in_ok-row.ensures in
    (accepts c.args.self.now c.args.names.now distinct known (loop_none c.args.self.now c.args.names.now c.as_slice-6.result.now m l), rows)
