-- What a search marks is the rows of the closures.
use Rattle.std.proofs.Common.{◌≡◌, ℕ, suc, ◌+◌, ◌<◌, List, [], ◌∷◌, Bool, true, false, length, map, get_or, Option, Some, None, refl, ap}
use Rattle.std.proofs.Common.{sym, subst, ◌∙◌, arith, ⊎_elim}
use Rattle.std.specs.Prelude.{Contains, All, filter}
use Rattle.std.specs.List.{filter_map, cons_option, enumerate_from}
use Rattle.std.specs.Option.{option_map_or}
use Rattle.std.proofs.lemmas.List.Elements.{Contains-get_or}
use Rattle.rl_view_spec.specs.Closure.{Text, Registered, deps_of, Leads, InClosure, in_closure, in_closures, leads_back, deps_of_row}
use Rattle.rl_view_spec.specs.Numbers.{number_of, needed, needs_of, closure_numbers}
use Rattle.rl_view_spec.specs.Progress.{name_at, HasDistinctNames}
use Rattle.rl_view_spec.proofs.ChainsLemmas.{led_in_closure, reaches_from_led, any_member, member_any}
use Rattle.rl_graph.specs.Graph.{Reaches, ReachedFrom, MarksReached, marked, places_from}
use Rattle.rl_registry.specs.Kept.{AreClosures}
use Rattle.rl_view_spec.proofs.StatesLemmas.{iff_same}
use Rattle.rl_view_spec.proofs.ToolsLemmas.{contains_head}
use Rattle.rl_rows.specs.Edges.{HasEdges}
use Rattle.rl_rows.proofs.EdgesLemmas.{blank, row_there, number_named, row_is, kept_indexed, kept_long, contains_there, contains_cases}
use Rattle.rl_rows.proofs.EdgesLemmas.{needed_within, row_to, row_from}
use Rattle.rl_rows.proofs.WalkingLemmas.{led_has_row, leads_from_walk, walk_from_leads}

-- the starts of the names that have rows
pub start_of : (r : Registered) (names : List Text) (k : ℕ) → Contains (filter_map (number_of r) names) k →
    (name : Text) × Contains names name × (number_of r name ≡ Some k)
start_of r [] k c = absurd (omega (arith, c.1))
start_of r (name ∷ names) k c = step (λ d. start_of r names k d) (number_of r name) refl c
  where
    later : ((n : Text) × Contains names n × (number_of r n ≡ Some k)) → (n : Text) × Contains (name ∷ names) n × (number_of r n ≡ Some k)
    later f = (f.0, contains_there name f.0 names f.1, f.2)

    step : (Contains (filter_map (number_of r) names) k → (n : Text) × Contains names n × (number_of r n ≡ Some k)) → (o : Option ℕ) →
        number_of r name ≡ o
        → Contains (cons_option o (filter_map (number_of r) names)) k → (n : Text) × Contains (name ∷ names) n × (number_of r n ≡ Some k)
    step rest None e c = later (rest c)
    step rest (Some j) e c = ⊎_elim (λ is. (name, contains_head name names, e ∙ ap Some is)) (λ d. later (rest d))
        (contains_cases j k (filter_map (number_of r) names) c)

pub start_for : (r : Registered) (names : List Text) (name : Text) (k : ℕ) → Contains names name → number_of r name ≡ Some k →
    Contains (filter_map (number_of r) names) k
start_for r [] name k c e = absurd (omega (arith, c.1))
start_for r (first ∷ names) name k c e = ⊎_elim (λ is. here is) (λ d. more (number_of r first) (start_for r names name k d e))
    (contains_cases first name names c)
  where
    here : first ≡ name → Contains (cons_option (number_of r first) (filter_map (number_of r) names)) k
    here is = subst (λ (o : Option ℕ). Contains (cons_option o (filter_map (number_of r) names)) k) (sym (ap (number_of r) is ∙ e))
        (contains_head k (filter_map (number_of r) names))

    more : (o : Option ℕ) → Contains (filter_map (number_of r) names) k → Contains (cons_option o (filter_map (number_of r) names)) k
    more None d = d
    more (Some j) d = contains_there j k (filter_map (number_of r) names) d

-- each mark says whether the row is in the closures
pub mark_is : (r : Registered) (edges : List (List ℕ)) (names : List Text) (marks : List Bool) (k : ℕ) → HasEdges r edges →
    MarksReached edges (filter_map (number_of r) names) marks → k < length r.rows → marked marks k ≡ in_closures r names (name_at r k)
mark_is r edges names marks k kept m low = iff_same (marked marks k) (in_closures r names (name_at r k)) to from
  where
    to : marked marks k ≡ true → in_closures r names (name_at r k) ≡ true
    to h =
        let f : ReachedFrom edges (filter_map (number_of r) names) k = m.reached k h in
        let s = start_of r names f.start f.is_start in
        let n = number_named r s.0 f.start s.2 in
        let led : InClosure r (name_at r f.start) (name_at r k) =
        (map (name_at r) f.walk.0, leads_from_walk r edges f.walk.0 f.start k (kept_indexed r edges kept) n.0 f.walk.1) in
        member_any (λ name. in_closure r name (name_at r k)) names s.0 s.1
        (subst (λ (name : Text). in_closure r name (name_at r k) ≡ true) n.1 (reaches_from_led r (name_at r f.start) (name_at r k) led))

    from : in_closures r names (name_at r k) ≡ true → marked marks k ≡ true
    from h =
        let a = any_member (λ name. in_closure r name (name_at r k)) names h in
        let led : InClosure r a.0 (name_at r k) = led_in_closure r a.0 (name_at r k) a.2 in
        let s = led_has_row r a.0 led.0 k kept.distinct low led.1 in
        let n = number_named r a.0 s.0 s.1 in
        let walk : Reaches edges s.0 k = walk_from_leads r edges led.0 s.0 k (kept_indexed r edges kept) n.0 low
        (subst (λ (name : Text). Leads r name led.0 (name_at r k)) (sym n.1) led.1) in
        m.all k (record { start = s.0; is_start = start_for r names a.0 s.0 a.1 s.1; walk = walk })

-- the starts are rows
pub starts_fit : (r : Registered) (edges : List (List ℕ)) (names : List Text) → HasEdges r edges →
    All (λ k. k < length edges) (filter_map (number_of r) names)
starts_fit r edges names kept = λ i d low.
    let s = start_of r names (get_or (filter_map (number_of r) names) i d) (Contains-get_or (filter_map (number_of r) names) i d low) in
    subst (λ (n : ℕ). get_or (filter_map (number_of r) names) i d < n) (sym (kept_long r edges kept))
    (number_named r s.0 (get_or (filter_map (number_of r) names) i d) s.2).0

-- the places that are marked are those that pass
places_are : {X : Type 0} (p : ℕ → Bool) (marks : List Bool) (xs : List X) (k : ℕ) → length marks ≡ length xs →
    ((i : ℕ) → i < length marks → get_or marks i false ≡ p (k + i))
    → places_from k marks ≡ filter p (map (λ (numbered : ℕ × X). numbered.0) (enumerate_from k xs))
places_are p [] [] k e h = refl
places_are p [] (x ∷ xs) k e h = absurd (omega (arith, e))
places_are p (mark ∷ marks) [] k e h = absurd (omega (arith, e))
places_are {X = X} p (mark ∷ marks) (x ∷ xs) k e h =
    let rest : places_from (k + 1) marks ≡ filter p (map (λ (numbered : ℕ × X). numbered.0) (enumerate_from (k + 1) xs)) =
    places_are p marks xs (k + 1) (omega arith) (λ i low. h (suc i) (omega (arith, low)) ∙ ap p (omega arith)) in
    let here : mark ≡ p k = h 0 (omega arith) ∙ ap p (omega arith) in
    rw (here, rest) refl

pub places_of_closures : (r : Registered) (names : List Text) (marks : List Bool) → AreClosures r names marks →
    places_from 0 marks ≡ closure_numbers r names
places_of_closures r names marks m =
    places_are (λ row. in_closures r names (name_at r row)) marks r.rows 0 m.long
    (λ i low. m.each i (omega (arith, low, m.long)) ∙ ap (λ row. in_closures r names (name_at r row)) (omega arith))

pub closures_marked : (r s : Registered) (edges es : List (List ℕ)) (names : List Text) (starts ss : List ℕ) (marks : List Bool) → HasEdges r edges →
    r ≡ s → es ≡ edges → ss ≡ starts → starts ≡ filter_map (number_of s) names
    → MarksReached es ss marks → AreClosures s names marks
closures_marked r s edges es names starts ss marks kept rs ee e1 e2 m =
    let m' : MarksReached edges (filter_map (number_of r) names) marks =
    subst (λ (xs : List ℕ). MarksReached edges xs marks) (e1 ∙ e2 ∙ ap (λ q. filter_map (number_of q) names) (sym rs))
    (subst (λ (xs : List (List ℕ)). MarksReached xs ss marks) ee m) in
    subst (λ (q : Registered). AreClosures q names marks) rs
    (record { long = m'.long ∙ kept_long r edges kept; each = λ k low. mark_is r edges names marks k kept m' low })

pub closure_fits : (r s : Registered) (edges es : List (List ℕ)) (names : List Text) (starts ss : List ℕ) → HasEdges r edges → r ≡ s →
    es ≡ edges → ss ≡ starts → starts ≡ filter_map (number_of s) names → All (λ k. k < length es) ss
closure_fits r s edges es names starts ss kept rs ee e1 e2 =
    subst (λ (xs : List ℕ). All (λ k. k < length es) xs) (sym (e1 ∙ e2 ∙ ap (λ q. filter_map (number_of q) names) (sym rs)))
    (subst (λ (xs : List (List ℕ)). All (λ k. k < length xs) (filter_map (number_of r) names)) (sym ee) (starts_fit r edges names kept))

-- the names that a row needs
pub needed_of_row : (r : Registered) (row : ℕ) → HasDistinctNames r → row < length r.rows →
    deps_of r (name_at r row) ≡ deps_of_row r (Some (get_or r.rows row blank))
needed_of_row r row distinct low = ap (deps_of_row r) (row_is r row distinct low)

pub needs_of_row : (r : Registered) (row : ℕ) → row < length r.rows → needs_of r row ≡ needed r (get_or r.rows row blank)
needs_of_row r row low = ap (λ o. option_map_or (needed r) o []) (row_there r.rows row low)

back_is : (r : Registered) (edges : List (List ℕ)) (row : ℕ) (marks : List Bool) → HasEdges r edges → row < length r.rows →
    MarksReached edges (needs_of r row) marks → marked marks row ≡ leads_back r (name_at r row)
back_is r edges row marks kept low m = iff_same (marked marks row) (leads_back r (name_at r row)) to from
  where
    to : marked marks row ≡ true → leads_back r (name_at r row) ≡ true
    to h =
        let f : ReachedFrom edges (needs_of r row) row = m.reached row h in
        let c : Contains (needed r (get_or r.rows row blank)) f.start = subst (λ (xs : List ℕ). Contains xs f.start) (needs_of_row r row low) f.is_start in
        let within : f.start < length r.rows = needed_within r (get_or r.rows row blank) f.start c in
        let dep : Contains (deps_of r (name_at r row)) (name_at r f.start) =
        subst (λ (xs : List Text). Contains xs (name_at r f.start)) (sym (needed_of_row r row kept.distinct low))
        (row_to r (get_or r.rows row blank) f.start within c) in
        let led : InClosure r (name_at r f.start) (name_at r row) =
        (map (name_at r) f.walk.0, leads_from_walk r edges f.walk.0 f.start row (kept_indexed r edges kept) within f.walk.1) in
        member_any (λ next. in_closure r next (name_at r row)) (deps_of r (name_at r row)) (name_at r f.start) dep
        (reaches_from_led r (name_at r f.start) (name_at r row) led)

    from : leads_back r (name_at r row) ≡ true → marked marks row ≡ true
    from h =
        let a = any_member (λ next. in_closure r next (name_at r row)) (deps_of r (name_at r row)) h in
        let led : InClosure r a.0 (name_at r row) = led_in_closure r a.0 (name_at r row) a.2 in
        let s = led_has_row r a.0 led.0 row kept.distinct low led.1 in
        let n = number_named r a.0 s.0 s.1 in
        let walk : Reaches edges s.0 row = walk_from_leads r edges led.0 s.0 row (kept_indexed r edges kept) n.0 low
        (subst (λ (name : Text). Leads r name led.0 (name_at r row)) (sym n.1) led.1) in
        let dep : Contains (deps_of_row r (Some (get_or r.rows row blank))) (name_at r s.0) =
        subst (λ (xs : List Text). Contains xs (name_at r s.0)) (needed_of_row r row kept.distinct low)
        (subst (λ (name : Text). Contains (deps_of r (name_at r row)) name) (sym n.1) a.1) in
        m.all row (record {
          start = s.0;
          is_start = subst (λ (xs : List ℕ). Contains xs s.0) (sym (needs_of_row r row low))
              (row_from r (get_or r.rows row blank) s.0 kept.distinct n.0 dep);
          walk = walk;
        })

pub back_of : (r s : Registered) (edges es : List (List ℕ)) (row : ℕ) (needs : List ℕ) (marks : List Bool) → HasEdges r edges → r ≡ s →
    es ≡ edges → needs ≡ needs_of s row → row < length s.rows → MarksReached es needs marks → marked marks row ≡ leads_back s (name_at s row)
back_of r s edges es row needs marks kept rs ee e low m =
    back_is r edges row marks kept (subst (λ (q : Registered). row < length q.rows) (sym rs) low)
    (subst (λ (xs : List ℕ). MarksReached edges xs marks) (e ∙ ap (λ q. needs_of q row) (sym rs))
    (subst (λ (xs : List (List ℕ)). MarksReached xs needs marks) ee m))
    ∙ ap (λ q. leads_back q (name_at q row)) rs

pub back_fits : (r s : Registered) (edges es : List (List ℕ)) (row : ℕ) (needs : List ℕ) → HasEdges r edges → r ≡ s → es ≡ edges →
    needs ≡ needs_of s row → row < length s.rows → All (λ k. k < length es) needs
back_fits r s edges es row needs kept rs ee e low =
    let low' : row < length r.rows = subst (λ (q : Registered). row < length q.rows) (sym rs) low in
    let is : needs ≡ needed r (get_or r.rows row blank) = e ∙ ap (λ q. needs_of q row) (sym rs) ∙ needs_of_row r row low' in
    λ i d lowi. subst (λ (n : ℕ). get_or needs i d < n) (sym (ap length ee ∙ kept_long r edges kept))
    (needed_within r (get_or r.rows row blank) (get_or needs i d)
    (subst (λ (xs : List ℕ). Contains xs (get_or needs i d)) is (Contains-get_or needs i d lowi)))
