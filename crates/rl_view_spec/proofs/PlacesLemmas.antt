-- Rows by number and by name.
use Rattle.std.proofs.Common.{◌≡◌, ℕ, ◌<◌, [], Bool, true, false, ◌||◌, not, length, get_or, Option, Some, None, refl, ap, sym, subst}
use Rattle.std.proofs.Common.{◌∙◌, ⊎_elim, arith}
use Rattle.std.specs.Prelude.{bytes_eq, Contains, slice_get, is_some}
use Rattle.std.specs.Option.{option_map_or}
use Rattle.std.proofs.lemmas.Bool.{cases_order}
use Rattle.std.proofs.lemmas.Option.{slice_get_within, get_or_from_slice_get}
use Rattle.std.proofs.lemmas.Slice.Eq.{bytes_eq-Decides}
use Rattle.rl_names.specs.declared.row.Row.{Row}
use Rattle.rl_view_spec.specs.Closure.{Text, Registered, row_of, has_row, is_skipped, is_skipped_row, has_feature, in_closure, deps_of, deps_of_row}
use Rattle.rl_view_spec.specs.Progress.{name_at, is_skipped_at, row_numbers, all_needed, HasDistinctNames}
use Rattle.rl_view_spec.specs.View.{all_in_closure}
use Rattle.rl_view_spec.proofs.ChainsLemmas.{same}
use Rattle.rl_view_spec.proofs.ToolsLemmas.{all_each, each_all, found_place, some_found, place_there, place_in, numbers_have, numbers_within}

pub alike : (a : Text) → bytes_eq a a ≡ true
alike a = (bytes_eq-Decides a a).1 refl

pub bytes_eq-from : (a b : Text) → a ≡ b → bytes_eq a b ≡ true
bytes_eq-from a b e = (bytes_eq-Decides a b).1 e

pub name_there : (r : Registered) (k : ℕ) (row : Row) → slice_get r.rows k ≡ Some row → name_at r k ≡ row.name
name_there r k row h = ap (λ (o : Option Row). option_map_or (λ (found : Row). found.name) o []) h

pub skip_there : (r : Registered) (k : ℕ) (row : Row) → slice_get r.rows k ≡ Some row → is_skipped_at r k ≡ has_feature r row.skip
skip_there r k row h = ap (λ (o : Option Row). option_map_or (λ (found : Row). has_feature r found.skip) o false) h

-- the place of the first row with a name
pub record Place (r : Registered) (name : Text) : Type 0 where
  pub at : ℕ
  pub row : Row
  pub there : slice_get r.rows at ≡ Some row
  pub found : row_of r name ≡ Some row
  pub named : name_at r at ≡ name
  pub skips : is_skipped_at r at ≡ is_skipped r name
  pub inside : at < length r.rows

pub place_found : (r : Registered) (name : Text) (row : Row) → row_of r name ≡ Some row → Place r name
place_found r name row h =
    let m = found_place (λ (row : Row). bytes_eq row.name name) r.rows row h in
    record {
      at = m.0;
      row = row;
      there = m.1;
      found = h;
      named = name_there r m.0 row m.1 ∙ same row.name name m.2;
      skips = skip_there r m.0 row m.1 ∙ sym (ap (is_skipped_row r) h);
      inside = slice_get_within r.rows m.0 row m.1;
    }

pub place_of : (r : Registered) (name : Text) → has_row r name ≡ true → Place r name
place_of r name h = step (row_of r name) refl
  where
    step : (o : Option Row) → row_of r name ≡ o → Place r name
    step None e = let g : false ≡ true = subst (λ (o : Option Row). is_some o ≡ true) e h in cc
    step (Some row) e = place_found r name row e

-- a row's name has a row
pub row_named : (r : Registered) (row : Row) → Contains r.rows row → has_row r row.name ≡ true
row_named r row c = let m = some_found (λ (other : Row). bytes_eq other.name row.name) r.rows row c (alike row.name) in ap is_some m.1

pub number_in : (r : Registered) (k : ℕ) → k < length r.rows → Contains (row_numbers r) k
number_in r k h = subst (λ (m : ℕ). Contains (row_numbers r) m) (omega arith) (numbers_have 0 r.rows k h)

pub number_within : (r : Registered) (k : ℕ) → Contains (row_numbers r) k → k < length r.rows
number_within r k c = omega (arith, numbers_within 0 r.rows k c)

pub number_named : (r : Registered) (k : ℕ) → k < length r.rows → has_row r (name_at r k) ≡ true
number_named r k h = let m = place_there r.rows k h in
    subst (λ (name : Text). has_row r name ≡ true) (sym (name_there r k m.0 m.1)) (row_named r m.0 (place_in r.rows k m.0 m.1))

-- where names are distinct a name has one place
pub apart : (r : Registered) → HasDistinctNames r → (i j : ℕ) → i < length r.rows → j < length r.rows → name_at r i ≡ name_at r j → i ≡ j
apart r distinct i j h k e = ⊎_elim (λ s. s) (λ o. ⊎_elim (λ lt. absurd (below i j h k lt e)) (λ lt. absurd (below j i k h lt (sym e))) o)
    (cases_order i j)
  where
    below : (i j : ℕ) → i < length r.rows → j < length r.rows → i < j → name_at r i ≡ name_at r j → ⊥
    below i j h k lt e =
        let a = place_there r.rows i h in
        let b = place_there r.rows j k in
        let ga : get_or r.rows i a.0 ≡ a.0 = get_or_from_slice_get r.rows i a.0 a.0 a.1 in
        let gb : get_or r.rows j a.0 ≡ b.0 = get_or_from_slice_get r.rows j b.0 a.0 b.1 in
        let names : a.0.name ≡ b.0.name = sym (name_there r i a.0 a.1) ∙ e ∙ name_there r j b.0 b.1 in
        distinct i j a.0 lt k (ap (λ (row : Row). row.name) ga ∙ names ∙ sym (ap (λ (row : Row). row.name) gb))

pub skips_alike : (r : Registered) → HasDistinctNames r → (k : ℕ) → k < length r.rows → is_skipped_at r k ≡ is_skipped r (name_at r k)
skips_alike r distinct k h =
    let p = place_of r (name_at r k) (number_named r k h) in
    let e : p.at ≡ k = apart r distinct p.at k p.inside h p.named in
    subst (λ (m : ℕ). is_skipped_at r m ≡ is_skipped r (name_at r k)) e p.skips

-- a row depends on what its name depends on
pub deps_alike : (r : Registered) → HasDistinctNames r → (k : ℕ) → k < length r.rows → deps_of_row r (slice_get r.rows k) ≡ deps_of r (name_at r k)
deps_alike r distinct k h =
    let p = place_of r (name_at r k) (number_named r k h) in
    let e : p.at ≡ k = apart r distinct p.at k p.inside h p.named in
    let there : slice_get r.rows k ≡ Some p.row = subst (λ (m : ℕ). slice_get r.rows m ≡ Some p.row) e p.there in
    ap (deps_of_row r) there ∙ sym (ap (deps_of_row r) p.found)

pub not_first : (a b : Bool) → (not a || b) ≡ true → a ≡ true → b ≡ true
not_first true b h e = h
not_first false b h e = cc

pub not_given : (a b : Bool) → (a ≡ true → b ≡ true) → (not a || b) ≡ true
not_given true b f = f refl
not_given false b f = refl

-- each row of a closure, by number
pub needed_each : (r : Registered) (row : ℕ) (test : ℕ → Bool) → all_needed r row test ≡ true → (other : ℕ) → other < length r.rows →
    in_closure r (name_at r row) (name_at r other) ≡ true → test other ≡ true
needed_each r row test h other low c =
    not_first (in_closure r (name_at r row) (name_at r other)) (test other)
    (all_each (λ (other : ℕ). not (in_closure r (name_at r row) (name_at r other)) || test other) (row_numbers r) other h (number_in r other low)) c

pub each_needed : (r : Registered) (row : ℕ) (test : ℕ → Bool) →
    ((other : ℕ) → other < length r.rows → in_closure r (name_at r row) (name_at r other) ≡ true → test other ≡ true) →
    all_needed r row test ≡ true
each_needed r row test f = each_all (λ (other : ℕ). not (in_closure r (name_at r row) (name_at r other)) || test other) (row_numbers r)
    (λ other c. not_given (in_closure r (name_at r row) (name_at r other)) (test other) (f other (number_within r other c)))

-- each row of a closure, by name
pub closure_each : (r : Registered) (name : Text) (test : Text → Bool) → all_in_closure r name test ≡ true → (member : Text) →
    has_row r member ≡ true → in_closure r name member ≡ true → test member ≡ true
closure_each r name test h member has c =
    let p = place_of r member has in
    let e : p.row.name ≡ member = sym (name_there r p.at p.row p.there) ∙ p.named in
    subst (λ (m : Text). test m ≡ true) e
    (not_first (in_closure r name p.row.name) (test p.row.name)
    (all_each (λ (row : Row). not (in_closure r name row.name) || test row.name) r.rows p.row h (place_in r.rows p.at p.row p.there))
    (subst (λ (m : Text). in_closure r name m ≡ true) (sym e) c))

pub each_closure : (r : Registered) (name : Text) (test : Text → Bool) →
    ((member : Text) → has_row r member ≡ true → in_closure r name member ≡ true → test member ≡ true) → all_in_closure r name test ≡ true
each_closure r name test f = each_all (λ (row : Row). not (in_closure r name row.name) || test row.name) r.rows
    (λ row c. not_given (in_closure r name row.name) (test row.name) (f row.name (row_named r row c)))
