-- The edges that a registry keeps lead to the rows of dependencies.
use Rattle.std.proofs.Common.{◌≡◌, ℕ, zero, suc, ◌<◌, ◌≤◌, ◌⊎◌, List, [], ◌∷◌, Bool, true, false, cond, length, get_or, Option}
use Rattle.std.proofs.Common.{Some, None, refl, ap, sym, subst, ◌∙◌, arith, inl, inr, ⊎_elim, Vec}
use Rattle.std.specs.Prelude.{bytes_eq, Contains, find, is_some, slice_get, option_and_then, position, nat_lt}
use Rattle.std.specs.List.{list_any, filter_map, cons_option, position_or_len}
use Rattle.std.specs.Option.{option_map_or}
use Rattle.std.specs.declared.alloc.Global.{Global}
use Rattle.std.proofs.lemmas.Bool.{cases_lt}
use Rattle.std.proofs.lemmas.List.{get_or-map, get_or_past, length-map}
use Rattle.std.proofs.lemmas.Option.{slice_get_within, slice_get-get_or}
use Rattle.std.proofs.lemmas.List.Quantifiers.{position-Some}
use Rattle.std.proofs.lemmas.List.Folds.{find_at, list_any_at}
use Rattle.std.proofs.lemmas.Slice.Eq.{bytes_eq-Decides}
use Rattle.rl_names.specs.declared.row.Row.{Row}
use Rattle.rl_names.specs.declared.row.Dep.{Dep}
use Rattle.rl_names.specs.declared.row.Group.TheVariants.{Plain}
use Rattle.rl_view_spec.specs.Closure.{Text, Registered, row_of, deps_of, deps_of_row, dep_name, has_feature}
use Rattle.rl_view_spec.specs.Numbers.{needed, needs_of, number_of, number_of_dep}
use Rattle.rl_view_spec.specs.Progress.{name_at, HasDistinctNames}
use Rattle.rl_view_spec.proofs.ChainsLemmas.{same}
use Rattle.rl_view_spec.proofs.PlacesLemmas.{apart}
use Rattle.rl_view_spec.proofs.ToolsLemmas.{contains_head}
use Rattle.rl_graph.specs.Graph.{edge_lists, next_in}
use Rattle.rl_graph.proofs.ToolsLemmas.{contains_none, listed}
use Rattle.rl_rows.specs.Edges.{HasEdges, IsIndexed}

same_itself : (a : Text) → bytes_eq a a ≡ true
same_itself a = grind (arith, bytes_eq-Decides a a)

abbrev pub blank : Row
blank = record { name = []; version = None; deps = []; group = Plain; source = []; skip = None }

-- a row by its number
pub row_there : (rows : List Row) (k : ℕ) → k < length rows → slice_get rows k ≡ Some (get_or rows k blank)
row_there rows k low = slice_get-get_or rows k blank low

abbrev nm : List Row → ℕ → Text
nm rows k = option_map_or (λ found. found.name) (slice_get rows k) []

nm_is : (rows : List Row) (k : ℕ) (row : Row) → slice_get rows k ≡ Some row → nm rows k ≡ row.name
nm_is rows k row e = rw e refl

any_named : (rows : List Row) (name : Text) (k : ℕ) → k < length rows → nm rows k ≡ name → list_any (λ other. bytes_eq other.name name) rows ≡ true
any_named rows name k low e =
    list_any_at (λ other. bytes_eq other.name name) rows k blank low
    (ap (λ n. bytes_eq n name) (sym (nm_is rows k (get_or rows k blank) (row_there rows k low)) ∙ e) ∙ same_itself name)

-- the row of a number has this name
pub number_named : (r : Registered) (name : Text) (k : ℕ) → number_of r name ≡ Some k → (k < length r.rows) × (name_at r k ≡ name)
number_named r name k e =
    let p : (k < length r.rows) × (bytes_eq (get_or r.rows k blank).name name ≡ true)
    × ((j : ℕ) → j < k → bytes_eq (get_or r.rows j blank).name name ≡ false) = position-Some (λ row. bytes_eq row.name name) r.rows k blank e in
    (p.0, nm_is r.rows k (get_or r.rows k blank) (row_there r.rows k p.0) ∙ same (get_or r.rows k blank).name name p.1)

-- a name that is found has a number
found_at : (rows : List Row) (name : Text) (row : Row) → find (λ row. bytes_eq row.name name) rows ≡ Some row →
    (k : ℕ) × (position (λ row. bytes_eq row.name name) rows ≡ Some k) × (slice_get rows k ≡ Some row)
found_at rows name row e =
    let g : slice_get rows (position_or_len (λ row. bytes_eq row.name name) rows) ≡ Some row = sym (find_at (λ row. bytes_eq row.name name) rows) ∙ e in
    let low : position_or_len (λ row. bytes_eq row.name name) rows < length rows =
    slice_get_within rows (position_or_len (λ row. bytes_eq row.name name) rows) row g in
    let t : nat_lt (position_or_len (λ row. bytes_eq row.name name) rows) (length rows) ≡ true = grind (arith, low) in
    (position_or_len (λ row. bytes_eq row.name name) rows, (rw t refl), g)

pub number_found : (r : Registered) (name : Text) → is_some (row_of r name) ≡ true → (k : ℕ) × (number_of r name ≡ Some k)
number_found r name h = step (row_of r name) refl h
  where
    step : (o : Option Row) → row_of r name ≡ o → is_some o ≡ true → (k : ℕ) × (number_of r name ≡ Some k)
    step None e h = cc
    step (Some row) e h = let f = found_at r.rows name row e in (f.0, f.1)

found_there : (rows : List Row) (k : ℕ) (name : Text) → k < length rows → nm rows k ≡ name →
    is_some (find (λ row. bytes_eq row.name name) rows) ≡ true
found_there [] k name low e = absurd (omega (arith, low))
found_there (row ∷ rows) zero name low e = let t : bytes_eq row.name name ≡ true = ap (λ n. bytes_eq n name) e ∙ same_itself name in rw t refl
found_there (row ∷ rows) (suc k) name low e = step (found_there rows k name (omega (arith, low)) e) (bytes_eq row.name name)
  where
    step : is_some (find (λ row. bytes_eq row.name name) rows) ≡ true → (b : Bool) →
        is_some (cond b (Some row) (find (λ row. bytes_eq row.name name) rows)) ≡ true
    step rest true = refl
    step rest false = rest

-- each row has its own number
pub number_is : (r : Registered) (k : ℕ) → HasDistinctNames r → k < length r.rows → number_of r (name_at r k) ≡ Some k
number_is r k distinct low =
    let f = number_found r (name_at r k) (found_there r.rows k (name_at r k) low refl) in
    let n = number_named r (name_at r k) f.0 f.1 in
    f.1 ∙ ap Some (apart r distinct f.0 k n.0 low n.1)

pub row_is : (r : Registered) (k : ℕ) → HasDistinctNames r → k < length r.rows → row_of r (name_at r k) ≡ Some (get_or r.rows k blank)
row_is r k distinct low = step (row_of r (name_at r k)) refl (found_there r.rows k (name_at r k) low refl)
  where
    step : (o : Option Row) → row_of r (name_at r k) ≡ o → is_some o ≡ true → row_of r (name_at r k) ≡ Some (get_or r.rows k blank)
    step None e h = cc
    step (Some row) e h =
        let f = found_at r.rows (name_at r k) row e in
        let n = number_named r (name_at r k) f.0 f.1 in
        let is : f.0 ≡ k = apart r distinct f.0 k n.0 low n.1 in
        let g : slice_get r.rows k ≡ Some row = subst (λ (j : ℕ). slice_get r.rows j ≡ Some row) is f.2 in
        e ∙ sym g ∙ row_there r.rows k low

-- membership, by the first element and the rest
pub contains_there : {X : Type 0} (x y : X) (xs : List X) → Contains xs y → Contains (x ∷ xs) y
contains_there x y xs c = (suc c.0, omega (arith, c.1), c.2)

pub contains_cases : {X : Type 0} (x y : X) (xs : List X) → Contains (x ∷ xs) y → (x ≡ y) ⊎ Contains xs y
contains_cases x y xs (zero, low, is) = inl is
contains_cases x y xs (suc k, low, is) = inr (k, omega (arith, low), is)

-- the numbers that a row needs are those of the names that it depends on
needed_to : (r : Registered) (b : ℕ) → b < length r.rows → (deps : List Dep) → Contains (filter_map (number_of_dep r) deps) b →
    Contains (filter_map (dep_name r) deps) (name_at r b)
needed_to r b low [] c = absurd (omega (arith, c.1))
needed_to r b low (dep ∷ deps) c = step (dep_name r dep) (λ d. needed_to r b low deps d) c
  where
    last : (name : Text) (o : Option ℕ) → number_of r name ≡ o →
        (Contains (filter_map (number_of_dep r) deps) b → Contains (filter_map (dep_name r) deps) (name_at r b))
        → Contains (cons_option o (filter_map (number_of_dep r) deps)) b → Contains (name ∷ filter_map (dep_name r) deps) (name_at r b)
    last name None e rest c = contains_there name (name_at r b) (filter_map (dep_name r) deps) (rest c)
    last name (Some k) e rest c = ⊎_elim
        (λ is. subst (λ (n : Text). Contains (name ∷ filter_map (dep_name r) deps) n) (sym (number_named r name k e).1 ∙ ap (name_at r) is)
        (contains_head name (filter_map (dep_name r) deps)))
        (λ d. contains_there name (name_at r b) (filter_map (dep_name r) deps) (rest d))
        (contains_cases k b (filter_map (number_of_dep r) deps) c)

    step : (o : Option Text) → (Contains (filter_map (number_of_dep r) deps) b → Contains (filter_map (dep_name r) deps) (name_at r b))
        → Contains (cons_option (option_and_then (number_of r) o) (filter_map (number_of_dep r) deps)) b →
        Contains (cons_option o (filter_map (dep_name r) deps)) (name_at r b)
    step None rest c = rest c
    step (Some name) rest c = last name (number_of r name) refl rest c

needed_from : (r : Registered) (b : ℕ) → HasDistinctNames r → b < length r.rows → (deps : List Dep) →
    Contains (filter_map (dep_name r) deps) (name_at r b) → Contains (filter_map (number_of_dep r) deps) b
needed_from r b distinct low [] c = absurd (omega (arith, c.1))
needed_from r b distinct low (dep ∷ deps) c = step (dep_name r dep) (λ d. needed_from r b distinct low deps d) c
  where
    more : (o : Option ℕ) → Contains (filter_map (number_of_dep r) deps) b → Contains (cons_option o (filter_map (number_of_dep r) deps)) b
    more None d = d
    more (Some k) d = contains_there k b (filter_map (number_of_dep r) deps) d

    here : (name : Text) → name ≡ name_at r b → Contains (cons_option (number_of r name) (filter_map (number_of_dep r) deps)) b
    here name e = let n : number_of r name ≡ Some b = ap (number_of r) e ∙ number_is r b distinct low in
        subst (λ (o : Option ℕ). Contains (cons_option o (filter_map (number_of_dep r) deps)) b) (sym n)
        (contains_head b (filter_map (number_of_dep r) deps))

    step : (o : Option Text) → (Contains (filter_map (dep_name r) deps) (name_at r b) → Contains (filter_map (number_of_dep r) deps) b)
        → Contains (cons_option o (filter_map (dep_name r) deps)) (name_at r b) →
        Contains (cons_option (option_and_then (number_of r) o) (filter_map (number_of_dep r) deps)) b
    step None rest c = rest c
    step (Some name) rest c = ⊎_elim (λ e. here name e) (λ d. more (number_of r name) (rest d))
        (contains_cases name (name_at r b) (filter_map (dep_name r) deps) c)

pub row_to : (r : Registered) (row : Row) (b : ℕ) → b < length r.rows → Contains (needed r row) b → Contains (deps_of_row r (Some row)) (name_at r b)
row_to r row b low = step (has_feature r row.skip)
  where
    step : (s : Bool) → Contains (cond s [] (filter_map (number_of_dep r) row.deps)) b →
        Contains (cond s [] (filter_map (dep_name r) row.deps)) (name_at r b)
    step true c = absurd (omega (arith, c.1))
    step false c = needed_to r b low row.deps c

pub row_from : (r : Registered) (row : Row) (b : ℕ) → HasDistinctNames r → b < length r.rows → Contains (deps_of_row r (Some row)) (name_at r b) →
    Contains (needed r row) b
row_from r row b distinct low = step (has_feature r row.skip)
  where
    step : (s : Bool) → Contains (cond s [] (filter_map (dep_name r) row.deps)) (name_at r b) →
        Contains (cond s [] (filter_map (number_of_dep r) row.deps)) b
    step true c = absurd (omega (arith, c.1))
    step false c = needed_from r b distinct low row.deps c

-- every number that a row needs is that of a row
needed_low : (r : Registered) (deps : List Dep) (b : ℕ) → Contains (filter_map (number_of_dep r) deps) b → b < length r.rows
needed_low r [] b c = absurd (omega (arith, c.1))
needed_low r (dep ∷ deps) b c = step (λ d. needed_low r deps b d) (dep_name r dep) c
  where
    last : (Contains (filter_map (number_of_dep r) deps) b → b < length r.rows) → (name : Text) (o : Option ℕ) → number_of r name ≡ o →
        Contains (cons_option o (filter_map (number_of_dep r) deps)) b → b < length r.rows
    last rest name None e c = rest c
    last rest name (Some k) e c = ⊎_elim (λ is. subst (λ (j : ℕ). j < length r.rows) is (number_named r name k e).0) (λ d. rest d)
        (contains_cases k b (filter_map (number_of_dep r) deps) c)

    step : (Contains (filter_map (number_of_dep r) deps) b → b < length r.rows) → (o : Option Text) →
        Contains (cons_option (option_and_then (number_of r) o) (filter_map (number_of_dep r) deps)) b → b < length r.rows
    step rest None c = rest c
    step rest (Some name) c = last rest name (number_of r name) refl c

pub needed_within : (r : Registered) (row : Row) (b : ℕ) → Contains (needed r row) b → b < length r.rows
needed_within r row b = step (has_feature r row.skip)
  where
    step : (s : Bool) → Contains (cond s [] (filter_map (number_of_dep r) row.deps)) b → b < length r.rows
    step true c = absurd (omega (arith, c.1))
    step false c = needed_low r row.deps b c

-- what the edges of a row are
pub edges_at : (r : Registered) (edges : List (List ℕ)) (a : ℕ) → HasEdges r edges → a < length r.rows →
    next_in edges a ≡ needed r (get_or r.rows a blank)
edges_at r edges a k low = ap (λ es. next_in es a) k.edges_are ∙ get_or-map (needed r) r.rows a blank [] low

pub kept_long : (r : Registered) (edges : List (List ℕ)) → HasEdges r edges → length edges ≡ length r.rows
kept_long r edges k = ap length k.edges_are ∙ length-map r.rows (needed r)

pub kept_indexed : (r : Registered) (edges : List (List ℕ)) → HasEdges r edges → IsIndexed r edges
kept_indexed r edges k = record {
  long = kept_long r edges k;
  within = λ a b c. subst (λ (n : ℕ). b < n) (sym (kept_long r edges k))
      (⊎_elim (λ lt. inside a b lt c) (λ ge. absurd (outside a b ge c)) (cases_lt a (length r.rows)));
  distinct = apart r k.distinct;
  each = λ a b la lb. (to a b la lb, from a b la lb);
}
  where
    inside : (a b : ℕ) → a < length r.rows → Contains (next_in edges a) b → b < length r.rows
    inside a b lt c = needed_within r (get_or r.rows a blank) b (subst (λ (xs : List ℕ). Contains xs b) (edges_at r edges a k lt) c)

    outside : (a b : ℕ) → length r.rows ≤ a → Contains (next_in edges a) b → ⊥
    outside a b ge c = contains_none b (subst (λ (xs : List ℕ). Contains xs b) (get_or_past edges a [] (omega (arith, ge, kept_long r edges k))) c)

    to : (a b : ℕ) → a < length r.rows → b < length r.rows → Contains (next_in edges a) b → Contains (deps_of r (name_at r a)) (name_at r b)
    to a b la lb e =
        subst (λ (o : Option Row). Contains (deps_of_row r o) (name_at r b)) (sym (row_is r a k.distinct la))
        (row_to r (get_or r.rows a blank) b lb (subst (λ (xs : List ℕ). Contains xs b) (edges_at r edges a k la) e))

    from : (a b : ℕ) → a < length r.rows → b < length r.rows → Contains (deps_of r (name_at r a)) (name_at r b) → Contains (next_in edges a) b
    from a b la lb c =
        subst (λ (xs : List ℕ). Contains xs b) (sym (edges_at r edges a k la))
        (row_from r (get_or r.rows a blank) b k.distinct lb
        (subst (λ (o : Option Row). Contains (deps_of_row r o) (name_at r b)) (row_is r a k.distinct la) c))

-- the edges that are read at a row
pub needs_at : (r : Registered) (edges : List (Vec ℕ Global)) (row : ℕ) (next : Vec ℕ Global) → HasEdges r (edge_lists edges) →
    row < length r.rows → next ≡ get_or edges row next → next.items ≡ needs_of r row
needs_at r edges row next k low is =
    let long : length (edge_lists edges) ≡ length edges = length-map edges (λ (v : Vec ℕ Global). v.items) in
    listed edges row next next.items (omega (arith, low, long, kept_long r (edge_lists edges) k)) is refl ∙ edges_at r (edge_lists edges) row k low
    ∙ sym (ap (λ o. option_map_or (needed r) o []) (row_there r.rows row low))

-- they are numbers of rows
pub needs_within : (r : Registered) (row : ℕ) (next : ℕ) → Contains (needs_of r row) next → next < length r.rows
needs_within r row next = step (slice_get r.rows row)
  where
    step : (o : Option Row) → Contains (option_map_or (needed r) o []) next → next < length r.rows
    step None c = absurd (omega (arith, c.1))
    step (Some found) c = needed_within r found next c
