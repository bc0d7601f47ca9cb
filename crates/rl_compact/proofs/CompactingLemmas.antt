-- One row after another is compacted.
use Rattle.std.proofs.Common.{◌≡◌, ℕ, ◌+◌, ◌<◌, List, [], ◌∷◌, ◌++◌, Bool, true, false, cond, not, length, map, take, drop, suc}
use Rattle.std.proofs.Common.{◌≤◌, get_or, nat_eq, Option, Some, None, refl, ap, sym, subst, ◌∙◌, inl, ⊎_elim, arith, Vec}
use Rattle.std.specs.Prelude.{All, Contains, filter}
use Rattle.std.specs.List.{filter_map, cons_option, list_all}
use Rattle.std.specs.declared.alloc.Global.{Global}
use Rattle.std.proofs.lemmas.Bool.{both_ways, cases_Bool, eqb-true}
use Rattle.rl_names.specs.declared.row.Row.{Row}
use Rattle.rl_graph.specs.Graph.{edge_lists, next_in, marked, IsWithin}
use Rattle.rl_graph.proofs.ToolsLemmas.{listed}
use Rattle.rl_view_spec.specs.Closure.{Text, resolves}
use Rattle.rl_view_spec.specs.Direct.{is_within}
use Rattle.rl_view_spec.specs.Numbers.{needed}
use Rattle.rl_view_spec.specs.Progress.{HasDistinctNames}
use Rattle.rl_view_spec.proofs.PlacesLemmas.{name_there}
use Rattle.rl_rows.proofs.EdgesLemmas.{blank, kept_indexed, needed_within, row_there}
use Rattle.std.proofs.lemmas.List.{get_or-map, get_or_default, take_more, length-map, length-drop}
use Rattle.std.proofs.lemmas.List.Elements.{Contains-get_or}
use Rattle.std.proofs.Math.Seq.{drop-cons}
use Rattle.std.proofs.lemmas.Option.{slice_get-get_or}
use Rattle.rl_compact.specs.Compact.{plain, is_brought, compact_row}
use Rattle.rl_compact.specs.Known.{Known}
use Rattle.rl_compact.specs.Laws.{lacks}
use Rattle.rl_compact.specs.Unmarked.{IsLeft}
use Rattle.rl_compact.proofs.RefusedLemmas.{left_is_unmarked, marks_say_unresolved, lacks_at}

pub skip_some : (rows : List Row) (row : Row) (skip : Text) → row.skip ≡ Some skip →
    filter_map (λ row. row.skip) (rows ++ row ∷ []) ≡ filter_map (λ row. row.skip) rows ++ skip ∷ []
skip_some [] row skip e = ap (λ o. cons_option o []) e
skip_some (x ∷ rows) row skip e = ap (cons_option x.skip) (skip_some rows row skip e) ∙ step x.skip
  where
    step : (o : Option Text) → cons_option o (filter_map (λ row. row.skip) rows ++ skip ∷ []) ≡ cons_option o (filter_map (λ row. row.skip) rows)
        ++ skip ∷ []
    step None = refl
    step (Some z) = refl

pub skip_none : (rows : List Row) (row : Row) → row.skip ≡ None →
    filter_map (λ row. row.skip) (rows ++ row ∷ []) ≡ filter_map (λ row. row.skip) rows
skip_none [] row e = ap (λ o. cons_option o []) e
skip_none (x ∷ rows) row e = ap (cons_option x.skip) (skip_none rows row e)

pub map_last : {X Y : Type 0} (f : X → Y) (xs : List X) (x : X) → map f (xs ++ x ∷ []) ≡ map f xs ++ f x ∷ []
map_last f [] x = refl
map_last f (y ∷ xs) x = ap (λ zs. f y ∷ zs) (map_last f xs x)

-- whether a row lacks something, by the length of its edges
pub lacks_by_length : (rows : List Row) (edges : List (Vec ℕ Global)) (at : ℕ) (next : Vec ℕ Global) (row : Row) →
    edge_lists edges ≡ map (needed (plain rows)) rows → at < length rows → at < length edges
    → next ≡ get_or edges at next → row ≡ get_or rows at row → not (nat_eq (length next.items) (length row.deps)) ≡ lacks rows row
lacks_by_length rows edges at next row e low there is is' =
    let ns : next.items ≡ needed (plain rows) row = listed edges at next next.items there is refl ∙ ap (λ ls. next_in ls at) e
    ∙ get_or-map (needed (plain rows)) rows at row [] low ∙ ap (needed (plain rows)) (sym is') in
    ap (λ xs. not (nat_eq (length xs) (length row.deps))) ns

says : (rows : List Row) (edges bare : List (List ℕ)) (stays : List Bool) (at : ℕ) → Known rows edges bare stays → at < length rows →
    marked stays at ≡ not (resolves (plain rows) (get_or rows at blank).name)
says rows edges bare stays at k low =
    marks_say_unresolved rows edges stays at k.distinct each k.edges_are k.unresolved low
    ∙ ap (λ (name : Text). not (resolves (plain rows) name)) (name_there (plain rows) at (get_or rows at blank) (row_there rows at low))
  where
    each : (row : Row) → Contains rows row → list_all (is_within (plain rows)) row.deps ≡ true
    each row c = subst (λ (x : Row). list_all (is_within (plain rows)) x.deps ≡ true) (own c)
        (k.within c.0 (get_or rows c.0 row) (slice_get-get_or rows c.0 row c.1))
      where
        own : (c : Contains rows row) → get_or rows c.0 row ≡ row
        own c = c.2

-- a row that is marked stays
pub row_kept : (rows : List Row) (edges bare : List (List ℕ)) (stays : List Bool) (at : ℕ) → Known rows edges bare stays → at < length rows →
    marked stays at ≡ true → compact_row rows (get_or rows at blank) ≡ get_or rows at blank
row_kept rows edges bare stays at k low h =
    let row : Row = get_or rows at blank in
    let off : resolves (plain rows) row.name ≡ false = ⊎_elim
    (λ t. absurd (both_ways (not (resolves (plain rows) row.name)) (ap not t) (sym (says rows edges bare stays at k low) ∙ h))) (λ f. f)
    (cases_Bool (resolves (plain rows) row.name)) in
    ap (λ (b : Bool). record row { deps = cond b (filter (λ dep. not (is_brought rows row dep)) row.deps) row.deps }) off

-- where it is not marked it lacks nothing
pub full : (rows : List Row) (edges bare : List (List ℕ)) (stays : List Bool) (at : ℕ) → Known rows edges bare stays → at < length rows →
    marked stays at ≡ false → lacks rows (get_or rows at blank) ≡ false
full rows edges bare stays at k low h = ⊎_elim
    (λ t. absurd (both_ways (marked stays at) h (k.unresolved.complete at at
    (subst (λ (n : ℕ). at < n) (sym (ap length k.edges_are ∙ length-map rows (needed (plain rows)))) low) ([], refl)
    (inl (lacks_at rows at low ∙ t)))))
    (λ f. f)
    (cases_Bool (lacks rows (get_or rows at blank)))

-- a row that is not marked loses what is brought, and lacks nothing
pub row_left : (rows : List Row) (edges bare : List (List ℕ)) (stays : List Bool) (at : ℕ) (new : Row) → Known rows edges bare stays →
    at < length rows → marked stays at ≡ false
    → IsLeft (get_or rows at blank) (needed (plain rows) (get_or rows at blank)) bare new → new ≡ compact_row rows (get_or rows at blank)
row_left rows edges bare stays at new k low h l =
    let row : Row = get_or rows at blank in
    let on : resolves (plain rows) row.name ≡ true = ⊎_elim (λ t. t)
    (λ f. absurd (both_ways (not (resolves (plain rows) row.name)) (sym (says rows edges bare stays at k low) ∙ h) (ap not f)))
    (cases_Bool (resolves (plain rows) row.name)) in
    l.2 ∙ ap (λ ds. record row { deps = ds }) (sym (left_is_unmarked rows bare row l.0 k.distinct k.bare_are l.1 on (full rows edges bare stays at k low h)))

-- ---- the whole

pub edge_long : (rows : List Row) (edges : List (Vec ℕ Global)) (f : Row → List ℕ) → edge_lists edges ≡ map f rows → length edges ≡ length rows
edge_long rows edges f e = omega (arith, ap length e, length-map edges (λ v. v.items), length-map rows f)

pub known_within : (rows : List Row) (features : List Text) (edges : List (List ℕ)) → HasDistinctNames (plain rows) →
    edges ≡ map (needed (record { rows = rows; features = features })) rows → IsWithin edges
known_within rows features edges distinct e = (kept_indexed (record { rows = rows; features = features }) edges
    (record { distinct = distinct; edges_are = e })).within

-- the numbers that are read for a row
pub numbers_are : (rows : List Row) (edges : List (Vec ℕ Global)) (at : ℕ) (d : Vec ℕ Global) (next : List ℕ) →
    edge_lists edges ≡ map (needed (plain rows)) rows → at < length rows → d ≡ get_or edges at d → next ≡ d.items →
    next ≡ needed (plain rows) (get_or rows at blank)
numbers_are rows edges at d next e low is is' =
    listed edges at d next (omega (arith, low, edge_long rows edges (needed (plain rows)) e)) is is' ∙ ap (λ ls. next_in ls at) e
    ∙ get_or-map (needed (plain rows)) rows at blank [] low

-- a row that lacks nothing has a number for each dependency
pub as_many : (rows : List Row) (row : Row) → lacks rows row ≡ false → length (needed (plain rows) row) ≡ length row.deps
as_many rows row h = eqb-true (length (needed (plain rows) row)) (length row.deps)
    (⊎_elim (λ t. t) (λ f. absurd (both_ways (lacks rows row) h (ap not f))) (cases_Bool (nat_eq (length (needed (plain rows) row)) (length row.deps))))

pub numbers_low : (rows : List Row) (row : Row) (next : List ℕ) (n : ℕ) → next ≡ needed (plain rows) row → n ≡ length rows →
    All (λ k. k < n) next
numbers_low rows row next n e f = λ i d low.
    let there : get_or next i d < length rows = needed_within (plain rows) row (get_or next i d)
    (subst (λ (xs : List ℕ). Contains xs (get_or next i d)) e (Contains-get_or next i d low)) in
    omega (arith, there, f)

-- the first of what is left of the rows
pub next_row : (rows rest rest' : List Row) (at : ℕ) (row : Row) → rest ≡ drop at rows → rest ≡ row ∷ rest' → at ≤ length rows →
    (at < length rows) × (row ≡ get_or rows at blank) × (rest' ≡ drop (at + 1) rows)
next_row rows rest rest' at row e is le =
    let low : at < length rows = omega (arith, ap length e, length-drop at rows, ap length is) in
    let cons : row ∷ rest' ≡ get_or rows at blank ∷ drop (suc at) rows = sym is ∙ e ∙ drop-cons rows at blank low in
    let one : suc at ≡ at + 1 = omega arith in
    (low, ap (λ (xs : List Row). get_or xs 0 row) cons, ap (drop 1) cons ∙ ap (λ (n : ℕ). drop n rows) one)

-- the mark that is read
pub mark_read : (rows : List Row) (edges bare : List (List ℕ)) (stays : List Bool) (at : ℕ) (b : Bool) → Known rows edges bare stays →
    at < length rows → b ≡ get_or stays at b → marked stays at ≡ b
mark_read rows edges bare stays at b k low is =
    get_or_default stays at false b (omega (arith, low, k.unresolved.long, ap length k.edges_are, length-map rows (needed (plain rows)))) ∙ sym is

-- one row more is done
pub done_more : (rows : List Row) (at : ℕ) (before after : List Row) (x : Row) → at < length rows → before ≡ map (compact_row rows) (take at rows) →
    after ≡ before ++ x ∷ [] → x ≡ compact_row rows (get_or rows at blank) → after ≡ map (compact_row rows) (take (at + 1) rows)
done_more rows at before after x low e f g =
    f ∙ ap (λ (xs : List Row). xs ++ x ∷ []) e ∙ ap (λ (y : Row). map (compact_row rows) (take at rows) ++ y ∷ []) g
    ∙ sym (ap (map (compact_row rows)) (take_more rows at blank low) ∙ map_last (compact_row rows) (take at rows) (get_or rows at blank))

pub left_row : (rows : List Row) (edges bare given : List (List ℕ)) (stays : List Bool) (at : ℕ) (row new : Row) (numbers : List ℕ) →
    Known rows edges bare stays → at < length rows → marked stays at ≡ false → row ≡ get_or rows at blank →
    numbers ≡ needed (plain rows) (get_or rows at blank)
    → given ≡ bare → IsLeft row numbers given new → new ≡ compact_row rows (get_or rows at blank)
left_row rows edges bare given stays at row new numbers k low h e f g l =
    row_left rows edges bare stays at new k low h
    (subst (λ (r : Row). IsLeft r (needed (plain rows) (get_or rows at blank)) bare new) e
    (subst (λ (ns : List ℕ). IsLeft row ns bare new) f (subst (λ (b : List (List ℕ)). IsLeft row numbers b new) g l)))
