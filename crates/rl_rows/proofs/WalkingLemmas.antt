-- Walks by number are chains by name.
use Rattle.std.proofs.Common.{◌≡◌, ℕ, suc, ◌<◌, List, [], ◌∷◌, Bool, true, false, cond, length, map, Some, refl, ap, sym, subst, ◌∙◌}
use Rattle.std.proofs.Common.{arith}
use Rattle.std.specs.Prelude.{bytes_eq, Contains, find, is_some, slice_get}
use Rattle.rl_names.specs.declared.row.Row.{Row}
use Rattle.rl_view_spec.specs.Closure.{Text, Registered, row_of, deps_of, Leads}
use Rattle.rl_view_spec.specs.Numbers.{number_of}
use Rattle.rl_view_spec.specs.Progress.{name_at, HasDistinctNames}
use Rattle.rl_view_spec.proofs.ChainsLemmas.{row_from_dep, same}
use Rattle.rl_view_spec.proofs.PlacesLemmas.{name_there}
use Rattle.rl_graph.specs.Graph.{Walks, Reaches}
use Rattle.rl_rows.specs.Edges.{IsIndexed}
use Rattle.rl_rows.proofs.EdgesLemmas.{number_found, number_is}

pub leads_from_walk : (r : Registered) (edges : List (List ℕ)) (path : List ℕ) (a b : ℕ) → IsIndexed r edges → a < length r.rows →
    Walks edges a path b → Leads r (name_at r a) (map (name_at r) path) (name_at r b)
leads_from_walk r edges [] a b i h w = ap (name_at r) w
leads_from_walk r edges (c ∷ path) a b i h w =
    let low : c < length r.rows = subst (λ (n : ℕ). c < n) i.long (i.within a c w.0) in
    ((i.each a c h low).0 w.0, leads_from_walk r edges path c b i low w.1)

-- a name with a row has a number
named_in : (rows : List Row) (m : Text) → is_some (find (λ row. bytes_eq row.name m) rows) ≡ true →
    (c : ℕ) × (c < length rows) × ((row : Row) × (slice_get rows c ≡ Some row) × (row.name ≡ m))
named_in [] m h = cc
named_in (row ∷ rows) m h = step (λ g. named_in rows m g) (bytes_eq row.name m) refl
  where
    step : (is_some (find (λ row. bytes_eq row.name m) rows) ≡ true →
        (c : ℕ) × (c < length rows) × ((row : Row) × (slice_get rows c ≡ Some row) × (row.name ≡ m))) → (b : Bool) → bytes_eq row.name m ≡ b →
        (c : ℕ) × (c < length (row ∷ rows)) × ((found : Row) × (slice_get (row ∷ rows) c ≡ Some found) × (found.name ≡ m))
    step rest true e = (0, omega arith, (row, refl, same row.name m e))
    step rest false e =
        let n = rest (subst (λ (b : Bool). is_some (cond b (Some row) (find (λ row. bytes_eq row.name m) rows)) ≡ true) e h) in
        (suc n.0, omega (arith, n.1), n.2)

pub named : (r : Registered) (m : Text) → is_some (row_of r m) ≡ true → (c : ℕ) × (c < length r.rows) × (name_at r c ≡ m)
named r m h = let n = named_in r.rows m h in (n.0, n.1, name_there r n.0 n.2.0 n.2.1 ∙ n.2.2)

pub walk_from_leads : (r : Registered) (edges : List (List ℕ)) (chain : List Text) (a b : ℕ) → IsIndexed r edges → a < length r.rows →
    b < length r.rows → Leads r (name_at r a) chain (name_at r b) → Reaches edges a b
walk_from_leads r edges [] a b i ha hb l = ([], i.distinct a b ha hb l)
walk_from_leads r edges (m ∷ chain) a b i ha hb l =
    let n : (c : ℕ) × (c < length r.rows) × (name_at r c ≡ m) = numbered chain l.1 in
    let w : Reaches edges n.0 b = walk_from_leads r edges chain n.0 b i n.1 hb (subst (λ (x : Text). Leads r x chain (name_at r b)) (sym n.2) l.1) in
    (n.0 ∷ w.0, ((i.each a n.0 ha n.1).1 (subst (λ (x : Text). Contains (deps_of r (name_at r a)) x) (sym n.2) l.0), w.1))
  where
    numbered : (chain : List Text) → Leads r m chain (name_at r b) → (c : ℕ) × (c < length r.rows) × (name_at r c ≡ m)
    numbered [] e = (b, hb, sym e)
    numbered (x ∷ xs) e = named r m (row_from_dep r (row_of r m) x e.0)

-- a name that leads to a row has a row
pub led_has_row : (r : Registered) (name : Text) (chain : List Text) (b : ℕ) → HasDistinctNames r → b < length r.rows →
    Leads r name chain (name_at r b) → (k : ℕ) × (number_of r name ≡ Some k)
led_has_row r name [] b distinct low l = (b, ap (number_of r) l ∙ number_is r b distinct low)
led_has_row r name (next ∷ chain) b distinct low l = number_found r name (row_from_dep r (row_of r name) next l.0)
