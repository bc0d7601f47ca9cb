-- The marks say what is brought.
use Rattle.std.proofs.Common.{◌≡◌, ℕ, ◌<◌, List, [], Bool, true, cond, length, map, Some, ap, sym, subst}
use Rattle.std.specs.Prelude.{Contains, flat_map}
use Rattle.std.specs.List.{list_any}
use Rattle.rl_names.specs.declared.row.Row.{Row}
use Rattle.rl_graph.specs.Graph.{next_in, marked, Reaches, ReachedFrom}
use Rattle.rl_view_spec.specs.Closure.{Text, row_of, deps_of, deps_of_row, Leads}
use Rattle.rl_view_spec.specs.Numbers.{needed}
use Rattle.rl_view_spec.specs.Progress.{name_at}
use Rattle.rl_view_spec.proofs.ChainsLemmas.{row_from_dep}
use Rattle.rl_view_spec.proofs.StatesLemmas.{iff_same}
use Rattle.rl_view_spec.proofs.ToolsLemmas.{any_one, one_any, contains_flat_map, flat_map_contains}
use Rattle.rl_rows.specs.Edges.{HasEdges, IsIndexed}
use Rattle.rl_rows.proofs.EdgesLemmas.{kept_indexed, needed_within, number_found, number_named, row_to, row_from}
use Rattle.rl_rows.proofs.WalkingLemmas.{led_has_row, leads_from_walk, walk_from_leads}
use Rattle.rl_compact.specs.Compact.{plain, barest, Brings, brings, names_in}
use Rattle.rl_compact.specs.Laws.{MarksSayBrought}
use Rattle.rl_compact.proofs.ClosuresLemmas.{no_feature}
use Rattle.rl_compact.proofs.LeftLemmas.{brings_chain, chain_brings}

-- without features a row's dependencies are all of them
pub all_names : (rows : List Row) (row : Row) → deps_of_row (plain rows) (Some row) ≡ names_in rows row
all_names rows row = ap (λ (b : Bool). cond b [] (names_in rows row)) (no_feature rows row.skip)

pub marks_say_brought : MarksSayBrought
marks_say_brought rows edges row marks k distinct e m low = iff_same (marked marks k)
    (list_any (λ from. brings rows from (name_at (plain rows) k)) (names_in rows row)) to from
  where
    has : HasEdges (barest rows) edges
    has = record { distinct = distinct; edges_are = e }

    i : IsIndexed (barest rows) edges
    i = kept_indexed (barest rows) edges has

    to : marked marks k ≡ true → list_any (λ from. brings rows from (name_at (plain rows) k)) (names_in rows row) ≡ true
    to h =
        let r : ReachedFrom edges (flat_map (next_in edges) (needed (plain rows) row)) k = m.reached k h in
        let s = flat_map_contains (next_in edges) (needed (plain rows) row) r.start r.is_start in
        let low_from : s.0 < length rows = needed_within (plain rows) row s.0 s.1 in
        let low_start : r.start < length rows = subst (λ (n : ℕ). r.start < n) i.long (i.within s.0 r.start s.2) in
        let beside : Contains (names_in rows row) (name_at (plain rows) s.0) =
        subst (λ (xs : List Text). Contains xs (name_at (plain rows) s.0)) (all_names rows row) (row_to (plain rows) row s.0 low_from s.1) in
        let b : Brings rows (name_at (plain rows) s.0) (name_at (plain rows) k) = (
          name_at (plain rows) r.start,
          map (name_at (barest rows)) r.walk.0,
          ((i.each s.0 r.start low_from low_start).0 s.2, leads_from_walk (barest rows) edges r.walk.0 r.start k i low_start r.walk.1),
        ) in
        one_any (λ from. brings rows from (name_at (plain rows) k)) (names_in rows row) (name_at (plain rows) s.0) beside
        (chain_brings rows (name_at (plain rows) s.0) (name_at (plain rows) k) b)

    from : list_any (λ from. brings rows from (name_at (plain rows) k)) (names_in rows row) ≡ true → marked marks k ≡ true
    from h =
        let a = any_one (λ from. brings rows from (name_at (plain rows) k)) (names_in rows row) h in
        let b : Brings rows a.0 (name_at (plain rows) k) = brings_chain rows a.0 (name_at (plain rows) k) a.2 in
        let f = number_found (plain rows) a.0 (row_from_dep (barest rows) (row_of (plain rows) a.0) b.0 b.2.0) in
        let nf = number_named (plain rows) a.0 f.0 f.1 in
        let s = led_has_row (barest rows) b.0 b.1 k distinct low b.2.1 in
        let ns = number_named (barest rows) b.0 s.0 s.1 in
        let beside : Contains (needed (plain rows) row) f.0 = row_from (plain rows) row f.0 distinct nf.0
        (subst (λ (xs : List Text). Contains xs (name_at (plain rows) f.0)) (sym (all_names rows row))
        (subst (λ (x : Text). Contains (names_in rows row) x) (sym nf.1) a.1)) in
        let step : Contains (next_in edges f.0) s.0 = (i.each f.0 s.0 nf.0 ns.0).1
        (subst (λ (x : Text). Contains (deps_of (barest rows) x) (name_at (barest rows) s.0)) (sym nf.1)
        (subst (λ (x : Text). Contains (deps_of (barest rows) a.0) x) (sym ns.1) b.2.0)) in
        let walk : Reaches edges s.0 k = walk_from_leads (barest rows) edges b.1 s.0 k i ns.0 low
        (subst (λ (x : Text). Leads (barest rows) x b.1 (name_at (plain rows) k)) (sym ns.1) b.2.1) in
        m.all k (record { start = s.0; is_start = contains_flat_map (next_in edges) (needed (plain rows) row) f.0 s.0 beside step; walk = walk })
