-- The map that a list of files makes has what a search of the list finds.
use Rattle.std.proofs.Common.{◌≡◌, ℕ, Bool, true, false, cond, List, [], ◌∷◌, Option, Some, refl, ap, ◌∙◌}
use Rattle.std.specs.Prelude.{option_map, bytes_eq, find}
use Rattle.std.specs.Ordering.{nat_cmp}
use Rattle.std.specs.Cmp.Lexicographic.{slice_cmp}
use Rattle.std.specs.FinMap as map
use Rattle.std.proofs.lemmas.Cmp.{nat_list_cmp_total}
use Rattle.std.proofs.lemmas.Map.Text.{is_eq-slice_cmp}
use Rattle.rl_base.specs.Memory.{file_of}

map_cond : (b : Bool) (e : List ℕ × List ℕ) (r : Option (List ℕ × List ℕ)) →
    cond b (Some e.1) (option_map (λ (f : List ℕ × List ℕ). f.1) r) ≡ option_map (λ (f : List ℕ × List ℕ). f.1) (cond b (Some e) r)
map_cond b e r = elim b as (λ v. cond v (Some e.1) (option_map (λ (f : List ℕ × List ℕ). f.1) r)
    ≡ option_map (λ (f : List ℕ × List ℕ). f.1) (cond v (Some e) r)) [ true ↦ refl | false ↦ refl ]

find_file : (es : List (List ℕ × List ℕ)) (q : List ℕ) → map.find (slice_cmp nat_cmp) q es ≡ file_of es q
find_file [] q = refl
find_file (e ∷ es) q =
    ap (λ b. cond b (Some e.1) (map.find (slice_cmp nat_cmp) q es)) (is_eq-slice_cmp q e.0)
    ∙ (ap (cond (bytes_eq q e.0) (Some e.1)) (find_file es q)
    ∙ map_cond (bytes_eq q e.0) e (find (λ file. bytes_eq q file.0) es))

pub get_file : (es : List (List ℕ × List ℕ)) (q : List ℕ) → map.get (map.from_entries {R = slice_cmp nat_cmp} es) q ≡ file_of es q
get_file es q = map.get-from_entries nat_list_cmp_total es q ∙ find_file es q
