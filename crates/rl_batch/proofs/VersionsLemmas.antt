-- The version of a name of a batch is that of its row in the registry.
use Rattle.std.proofs.Common.{◌≡◌, ℕ, List, [], ◌∷◌, refl, ap, ap₂, sym, subst, ◌∙◌, ⊎_elim, Option, Some}
use Rattle.std.specs.Prelude.{All, Contains, bytes_eq, flat_map, option_and_then, slice_get}
use Rattle.std.specs.List.{filter_map, cons_option}
use Rattle.std.specs.Option.{option_map_or}
use Rattle.std.proofs.lemmas.List.Elements.{Contains-append_cases}
use Rattle.std.proofs.lemmas.Option.{slice_get_within}
use Rattle.rl_names.specs.Packing.{front_of, fronts, group_of, packed_order}
use Rattle.rl_names.specs.declared.row.Row.{Row}
use Rattle.rl_view_spec.specs.Closure.{Text, Registered}
use Rattle.rl_view_spec.specs.Numbers.{number_of}
use Rattle.rl_view_spec.specs.Progress.{name_at}
use Rattle.rl_view_spec.proofs.ChainsLemmas.{same}
use Rattle.rl_view_spec.proofs.PlacesLemmas.{bytes_eq-from}
use Rattle.rl_view_spec.proofs.ToolsLemmas.{contains_head, contains_none, contains_tail, filter_contains, found_in, found_place, some_found}
use Rattle.rl_rows.proofs.EdgesLemmas.{number_is}
use Rattle.rl_book_spec.specs.Batches.{Numbered, names_in, version_in, versions_in}
use Rattle.rl_book_spec.proofs.ListsLemmas.{map_has}
use Rattle.rl_batch.specs.Split.{AreOf, version_at}

all_in : {X : Type 0} (P : X → Type 0) (xs : List X) (x : X) → All P xs → Contains xs x → P x
all_in P xs x all c = subst P c.2 (all c.0 x c.1)

ordered_in : (names fs : List Text) (n : Text) → Contains (flat_map (group_of names) fs) n → Contains names n
ordered_in names [] n c = absurd (contains_none n c)
ordered_in names (f ∷ fs) n c = ⊎_elim (λ h. (filter_contains (λ (name : Text). bytes_eq f (front_of name)) names n h).0) (λ t. ordered_in names fs n t)
    (Contains-append_cases (group_of names f) (flat_map (group_of names) fs) n c)

filter_map_same : {X Y : Type 0} (f g : X → Option Y) (xs : List X) → ((x : X) → Contains xs x → f x ≡ g x) → filter_map f xs ≡ filter_map g xs
filter_map_same f g [] h = refl
filter_map_same {Y = Y} f g (x ∷ xs) h = ap₂ (λ (o : Option Y) (ys : List Y). cons_option o ys) (h x (contains_head x xs))
    (filter_map_same f g xs (λ z c. h z (contains_tail x xs z c)))

one_version : (r : Registered) (rows : List Numbered) (n : Text) → AreOf r rows → Contains (names_in rows) n → version_at r n ≡ version_in rows n
one_version r rows n of c =
    let m = map_has (λ (numbered : Numbered). numbered.1.name) rows n c in
    let f = some_found (λ (numbered : Numbered). bytes_eq numbered.1.name n) rows m.0 m.1 (bytes_eq-from m.0.1.name n m.2) in
    let y = f.0 in
    let there : slice_get r.rows y.0 ≡ Some y.1 = all_in (λ (numbered : Numbered). slice_get r.rows numbered.0 ≡ Some numbered.1) rows y of.there
    (found_in (λ (numbered : Numbered). bytes_eq numbered.1.name n) rows y f.1) in
    let named : name_at r y.0 ≡ n = ap (λ (o : Option Row). option_map_or (λ found. found.name) o []) there
    ∙ same y.1.name n (found_place (λ (numbered : Numbered). bytes_eq numbered.1.name n) rows y f.1).2 in
    let number : number_of r n ≡ Some y.0 = ap (number_of r) (sym named) ∙ number_is r y.0 of.distinct (slice_get_within r.rows y.0 y.1 there) in
    ap (λ (o : Option ℕ). option_and_then (λ (row : ℕ). option_and_then (λ (found : Row). found.version) (slice_get r.rows row)) o) number
    ∙ ap (λ (o : Option Row). option_and_then (λ (found : Row). found.version) o) there
    ∙ sym (ap (λ (o : Option Numbered). option_and_then (λ (numbered : Numbered). numbered.1.version) o) f.1)

pub versions_same : (r : Registered) (rows : List Numbered) → AreOf r rows → filter_map (version_at r) (packed_order (names_in rows))
    ≡ versions_in rows (packed_order (names_in rows))
versions_same r rows of = filter_map_same (version_at r) (version_in rows) (packed_order (names_in rows))
    (λ n c. one_version r rows n of (ordered_in (names_in rows) (fronts (names_in rows)) n c))
