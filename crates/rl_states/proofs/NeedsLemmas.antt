-- What a row needs, by numbers, is what it depends on, by names.
use Rattle.std.proofs.Common.{◌≡◌, ℕ, ◌<◌, List, [], Bool, ◌||◌, length, nat_eq, Option, sym, subst}
use Rattle.std.specs.Prelude.{Contains}
use Rattle.std.specs.List.{list_all}
use Rattle.std.specs.Option.{option_map_or}
use Rattle.rl_names.specs.declared.row.Row.{Row}
use Rattle.rl_view_spec.specs.Closure.{Text, Registered, deps_of_row}
use Rattle.rl_view_spec.specs.Numbers.{needed, needs_of}
use Rattle.rl_view_spec.specs.Progress.{Progress, name_at, is_done, HasDistinctNames}
use Rattle.rl_view_spec.specs.Direct.{all_direct, deps_at}
use Rattle.rl_view_spec.specs.Reach.{AreEdges}
use Rattle.rl_view_spec.proofs.PlacesLemmas.{deps_alike}
use Rattle.rl_view_spec.proofs.StatesLemmas.{iff_same}
use Rattle.rl_view_spec.proofs.DirectLemmas.{direct_each, each_direct}
use Rattle.rl_view_spec.proofs.ToolsLemmas.{all_each, each_all, place_there}
use Rattle.rl_graph.proofs.CountsLemmas.{count_none}
use Rattle.rl_rows.proofs.EdgesLemmas.{needs_within, row_to, row_from}
use Rattle.rl_states.specs.Kept.{waits_of, needs_done}

-- a need is a dependency,
pub need_to : (r : Registered) (row next : ℕ) → row < length r.rows → next < length r.rows → Contains (needs_of r row) next →
    Contains (deps_at r row) (name_at r next)
need_to r row next low there c =
    let m = place_there r.rows row low in
    subst (λ (o : Option Row). Contains (deps_of_row r o) (name_at r next)) (sym m.1)
    (row_to r m.0 next there (subst (λ (o : Option Row). Contains (option_map_or (needed r) o []) next) m.1 c))

-- and a dependency that has a row a need
pub need_from : (r : Registered) (row next : ℕ) → HasDistinctNames r → row < length r.rows → next < length r.rows →
    Contains (deps_at r row) (name_at r next) → Contains (needs_of r row) next
need_from r row next distinct low there c =
    let m = place_there r.rows row low in
    subst (λ (o : Option Row). Contains (option_map_or (needed r) o []) next) (sym m.1)
    (row_from r m.0 next distinct there (subst (λ (o : Option Row). Contains (deps_of_row r o) (name_at r next)) m.1 c))

pub needs_are_edges : (r : Registered) → HasDistinctNames r → AreEdges r (needs_of r)
needs_are_edges r distinct = record {
  inside = λ row next low c. needs_within r row next c;
  means = λ row next low there. (
    (λ c. subst (λ (xs : List Text). Contains xs (name_at r next)) (deps_alike r distinct row low) (need_to r row next low there c)),
    (λ c. need_from r row next distinct low there (subst (λ (xs : List Text). Contains xs (name_at r next)) (sym (deps_alike r distinct row low)) c)),
  );
}

pub direct_by_needs : (r : Registered) (row : ℕ) (test : ℕ → Bool) → HasDistinctNames r → row < length r.rows →
    all_direct r row test ≡ list_all test (needs_of r row)
direct_by_needs r row test distinct low = iff_same (all_direct r row test) (list_all test (needs_of r row))
    (λ h. each_all test (needs_of r row) (λ next c. let there : next < length r.rows =
    needs_within r row next c in direct_each r row test h next there (need_to r row next low there c)))
    (λ h. each_direct r row test (λ next there c. all_each test (needs_of r row) next h (need_from r row next distinct low there c)))

-- ---- counts of what is not done

pub waits_none : (t : Progress) (row : ℕ) → nat_eq (waits_of t row) 0 ≡ needs_done t row
waits_none t row = count_none (λ other. nat_eq other row || is_done t other) (needs_of t.registered row)
