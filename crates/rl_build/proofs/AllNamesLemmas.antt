-- The names of the modules, and the built-in ones, are the names with a sheet.
use Rattle.std.proofs.Common.{◌≡◌, ◌↔◌, ℕ, zero, suc, Bool, true, false, ◌⊎◌, inl, inr, List, [], ◌∷◌, ◌+◌, ◌≤◌}
use Rattle.std.proofs.Common.{length, map, find}
use Rattle.std.proofs.Common.{Option, Some, None, option_map, IsSome, bytes_eq, nat_cmp, refl, sym, ap, subst, ◌∙◌, arith}
use Rattle.std.specs.Prelude.{Contains}
use Rattle.std.specs.Cmp.Lexicographic.{slice_cmp}
use Rattle.std.specs.List.{AllByRecursion, fold}
use Rattle.std.specs.List.Sorted.{IsStrictlySortedBy}
use Rattle.std.specs.Option.{option_or}
use Rattle.std.specs.Ordering.{is_eq, match_ordering, ordering_reverse}
use Rattle.std.specs.declared.cmp.Ordering.{Ordering}
use Rattle.std.specs.declared.cmp.Ordering.TheVariants.{Less, Equal, Greater}
use Rattle.std.proofs.lemmas.Cmp.{nat_list_cmp_total}
use Rattle.std.proofs.lemmas.List.{length-map}
use Rattle.std.proofs.lemmas.Map.Text.{is_eq-slice_cmp}
use Rattle.std.proofs.lemmas.Slice.Eq.{bytes_eq-Decides}
use Rattle.rl_names.specs.Limits.{limit_of}
use Rattle.rl_names.specs.declared.counted.Counted.TheVariants.{Modules, Rows}
use Rattle.rl_defs.specs.Ascending.{IsAscending}
use Rattle.rl_defs.specs.declared.module_def.ModuleDef.{ModuleDef}
use Rattle.rl_build.specs.BuiltIn.{built_in_name, built_ins}
use Rattle.rl_build.specs.Sheet.{put_name, sheet_of_built_in, sheet_of_module}
use Rattle.rl_build.specs.declared.built_in.BuiltIn.{BuiltIn}

-- ---- what a list contains

first_or_later : (x : List ℕ) (xs : List (List ℕ)) (n : List ℕ) → Contains (x ∷ xs) n → (x ≡ n) ⊎ Contains xs n
first_or_later x xs n (zero, within, is) = inl is
first_or_later x xs n (suc k, within, is) = inr (k, omega arith, is)

first : (x : List ℕ) (xs : List (List ℕ)) (n : List ℕ) → x ≡ n → Contains (x ∷ xs) n
first x xs n is = (0, omega arith, is)

pub later : (x : List ℕ) (xs : List (List ℕ)) (n : List ℕ) → Contains xs n → Contains (x ∷ xs) n
later x xs n (k, within, is) = (suc k, omega arith, is)

-- ---- a name is put into its place

same_name : (x n : List ℕ) → slice_cmp nat_cmp n x ≡ Equal → x ≡ n
same_name x n e = sym ((bytes_eq-Decides n x).0 (sym (is_eq-slice_cmp n x) ∙ ap is_eq e))

-- by the order of the name and the first
abbrev put_by : Ordering → List ℕ → List ℕ → List (List ℕ) → List (List ℕ)
put_by o n x xs = match_ordering o (n ∷ x ∷ xs) (x ∷ xs) (x ∷ put_name xs n)

to_old : (n x m : List ℕ) (xs : List (List ℕ)) (o : Ordering) → (Contains (put_name xs n) m → (n ≡ m) ⊎ Contains xs m)
    → Contains (put_by o n x xs) m → (n ≡ m) ⊎ Contains (x ∷ xs) m
to_old n x m xs Less rest h = first_or_later n (x ∷ xs) m h
to_old n x m xs Equal rest h = inr h
to_old n x m xs Greater rest h =
    elim (first_or_later x (put_name xs n) m h) [
      | inl same ↦ inr (first x xs m same)
      | inr there ↦ elim (rest there) [ inl same ↦ inl same | inr old ↦ inr (later x xs m old) ]
    ]

pub to_names : (ns : List (List ℕ)) (n m : List ℕ) → Contains (put_name ns n) m → (n ≡ m) ⊎ Contains ns m
to_names [] n m h = first_or_later n [] m h
to_names (x ∷ xs) n m h = to_old n x m xs (slice_cmp nat_cmp n x) (to_names xs n m) h

new_there : (n x : List ℕ) (xs : List (List ℕ)) (o : Ordering) → slice_cmp nat_cmp n x ≡ o → Contains (put_name xs n) n
    → Contains (put_by o n x xs) n
new_there n x xs Less e rest = first n (x ∷ xs) n refl
new_there n x xs Equal e rest = first x xs n (same_name x n e)
new_there n x xs Greater e rest = later x (put_name xs n) n rest

pub new_name : (ns : List (List ℕ)) (n : List ℕ) → Contains (put_name ns n) n
new_name [] n = first n [] n refl
new_name (x ∷ xs) n = new_there n x xs (slice_cmp nat_cmp n x) refl (new_name xs n)

old_there : (n x m : List ℕ) (xs : List (List ℕ)) (o : Ordering) → (Contains xs m → Contains (put_name xs n) m) → Contains (x ∷ xs) m →
    Contains (put_by o n x xs) m
old_there n x m xs Less rest h = later n (x ∷ xs) m h
old_there n x m xs Equal rest h = h
old_there n x m xs Greater rest h =
    elim (first_or_later x xs m h) [ inl same ↦ first x (put_name xs n) m same | inr there ↦ later x (put_name xs n) m (rest there) ]

pub old_name : (ns : List (List ℕ)) (n m : List ℕ) → Contains ns m → Contains (put_name ns n) m
old_name [] n m (k, within, is) = absurd (omega arith)
old_name (x ∷ xs) n m h = old_there n x m xs (slice_cmp nat_cmp n x) (old_name xs n m) h

-- ---- names stay in order

abbrev Below : List ℕ → List (List ℕ) → Type 0
Below x ys = AllByRecursion (λ y. slice_cmp nat_cmp x y ≡ Less) ys

below_all : (n x : List ℕ) (ys : List (List ℕ)) → slice_cmp nat_cmp n x ≡ Less → Below x ys → Below n ys
below_all n x [] e h = tt
below_all n x (y ∷ ys) e h = (nat_list_cmp_total.trans n x y e h.0, below_all n x ys e h.1)

below_by : (x n y : List ℕ) (ys : List (List ℕ)) (o : Ordering) → slice_cmp nat_cmp x n ≡ Less → Below x (y ∷ ys) → Below x (put_name ys n) →
    Below x (put_by o n y ys)
below_by x n y ys Less e h rest = (e, h)
below_by x n y ys Equal e h rest = h
below_by x n y ys Greater e h rest = (h.0, rest)

below_put : (x n : List ℕ) (ys : List (List ℕ)) → slice_cmp nat_cmp x n ≡ Less → Below x ys → Below x (put_name ys n)
below_put x n [] e h = (e, tt)
below_put x n (y ∷ ys) e h = below_by x n y ys (slice_cmp nat_cmp n y) e h (below_put x n ys e h.1)

turned : (n x : List ℕ) → slice_cmp nat_cmp n x ≡ Greater → slice_cmp nat_cmp x n ≡ Less
turned n x e = nat_list_cmp_total.antisymm x n ∙ ap ordering_reverse e

ascending_by : (n x : List ℕ) (xs : List (List ℕ)) (o : Ordering) → slice_cmp nat_cmp n x ≡ o → IsAscending (x ∷ xs)
    → IsAscending (put_name xs n) →
    IsAscending (put_by o n x xs)
unfolding IsStrictlySortedBy
ascending_by n x xs Less e h rest = ((e, below_all n x xs e h.0), h)
ascending_by n x xs Equal e h rest = h
ascending_by n x xs Greater e h rest = (below_put x n xs (turned n x e) h.0, rest)

pub ascending_put : (ns : List (List ℕ)) (n : List ℕ) → IsAscending ns → IsAscending (put_name ns n)
unfolding IsStrictlySortedBy
ascending_put [] n h = (tt, tt)
ascending_put (x ∷ xs) n h = ascending_by n x xs (slice_cmp nat_cmp n x) refl h (ascending_put xs n h.1)

-- ---- the names of all built-in modules are put

abbrev put_built_in : List (List ℕ) → BuiltIn → List (List ℕ)
put_built_in names b = put_name names (built_in_name b)

pub ascending_all : (ns : List (List ℕ)) (bs : List BuiltIn) → IsAscending ns → IsAscending (fold put_built_in ns bs)
ascending_all ns [] h = h
ascending_all ns (b ∷ bs) h = ascending_all (put_built_in ns b) bs (ascending_put ns (built_in_name b) h)

to_all : (ns : List (List ℕ)) (bs : List BuiltIn) (m : List ℕ) → Contains (fold put_built_in ns bs) m
    → Contains (map built_in_name bs) m ⊎ Contains ns m
to_all ns [] m h = inr h
to_all ns (b ∷ bs) m h =
    elim (to_all (put_built_in ns b) bs m h) [
      | inl there ↦ inl (later (built_in_name b) (map built_in_name bs) m there)
      | inr put ↦ elim (to_names ns (built_in_name b) m put)
          [ inl same ↦ inl (first (built_in_name b) (map built_in_name bs) m same) | inr old ↦ inr old ]
    ]

from_old : (ns : List (List ℕ)) (bs : List BuiltIn) (m : List ℕ) → Contains ns m → Contains (fold put_built_in ns bs) m
from_old ns [] m h = h
from_old ns (b ∷ bs) m h = from_old (put_built_in ns b) bs m (old_name ns (built_in_name b) m h)

from_new : (ns : List (List ℕ)) (bs : List BuiltIn) (m : List ℕ) → Contains (map built_in_name bs) m → Contains (fold put_built_in ns bs) m
from_new ns [] m (k, within, is) = absurd (omega arith)
from_new ns (b ∷ bs) m h =
    elim (first_or_later (built_in_name b) (map built_in_name bs) m h) [
      | inl same ↦ from_old (put_built_in ns b) bs m (subst (Contains (put_built_in ns b)) same (new_name ns (built_in_name b)))
      | inr there ↦ from_new (put_built_in ns b) bs m there
    ]

length_by : (n x : List ℕ) (xs : List (List ℕ)) (o : Ordering) → length (put_name xs n) ≤ suc (length xs)
    → length (put_by o n x xs) ≤ suc (suc (length xs))
length_by n x xs Less h = omega arith
length_by n x xs Equal h = omega arith
length_by n x xs Greater h = omega arith

length_put : (ns : List (List ℕ)) (n : List ℕ) → length (put_name ns n) ≤ suc (length ns)
length_put [] n = omega arith
length_put (x ∷ xs) n = length_by n x xs (slice_cmp nat_cmp n x) (length_put xs n)

few_more : (ns : List (List ℕ)) (bs : List BuiltIn) → length (fold put_built_in ns bs) ≤ length ns + length bs
few_more ns [] = omega arith
few_more ns (b ∷ bs) = omega (arith, few_more (put_built_in ns b) bs, length_put ns (built_in_name b))

built_ins_few : length built_ins ≡ 5
unfolding built_ins
built_ins_few = refl

-- with them there are no more names than rows may be
pub few_names : (ms : List ModuleDef) → length ms ≤ limit_of Modules
    → length (fold put_built_in (map (λ (m : ModuleDef). m.name) ms) built_ins) ≤ limit_of Rows
few_names ms few =
    omega (arith, few_more (map (λ (m : ModuleDef). m.name) ms) built_ins, length-map ms (λ (m : ModuleDef). m.name), built_ins_few, few)

-- ---- what has a name is found by it

module _ {X : Type 0} (key : X → List ℕ) where
  step_to : (v : Bool) (x : X) (xs : List X) (n : List ℕ) → bytes_eq (key x) n ≡ v
      → (Contains (map key xs) n → IsSome (find (λ (y : X). bytes_eq (key y) n) xs)) → Contains (map key (x ∷ xs)) n
      → IsSome (find (λ (y : X). bytes_eq (key y) n) (x ∷ xs))
  step_to true x xs n e rest h = rw e refl
  step_to false x xs n e rest h =
      rw e (elim (first_or_later (key x) (map key xs) n h) [
        | inl same ↦ absurd (let t : bytes_eq (key x) n ≡ true = (bytes_eq-Decides (key x) n).1 same in cc)
        | inr there ↦ rest there
      ])

  pub to_found : (xs : List X) (n : List ℕ) → Contains (map key xs) n → IsSome (find (λ (y : X). bytes_eq (key y) n) xs)
  to_found [] n (k, within, is) = absurd (omega arith)
  to_found (x ∷ xs) n h = step_to (bytes_eq (key x) n) x xs n refl (to_found xs n) h

  step_from : (v : Bool) (x : X) (xs : List X) (n : List ℕ) → bytes_eq (key x) n ≡ v
      → (IsSome (find (λ (y : X). bytes_eq (key y) n) xs) → Contains (map key xs) n) → IsSome (find (λ (y : X). bytes_eq (key y) n) (x ∷ xs))
      → Contains (map key (x ∷ xs)) n
  step_from true x xs n e rest h = (0, omega arith, (bytes_eq-Decides (key x) n).0 e)
  step_from false x xs n e rest h = later (key x) (map key xs) n (rest (rw e at h))

  pub from_found : (xs : List X) (n : List ℕ) → IsSome (find (λ (y : X). bytes_eq (key y) n) xs) → Contains (map key xs) n
  from_found [] n h = absurd (cc)
  from_found (x ∷ xs) n h = step_from (bytes_eq (key x) n) x xs n refl (from_found xs n) h

-- ---- names with a sheet

one_or_other : (b : Option BuiltIn) (m : Option ModuleDef) → IsSome (option_or (option_map sheet_of_built_in b) (option_map sheet_of_module m)) →
    IsSome b ⊎ IsSome m
one_or_other (Some b) m h = inl refl
one_or_other None (Some m) h = inr refl
one_or_other None None h = absurd (cc)

sheet_of_one : (b : Option BuiltIn) (m : Option ModuleDef) → IsSome b → IsSome (option_or (option_map sheet_of_built_in b) (option_map sheet_of_module m))
sheet_of_one (Some b) m h = refl
sheet_of_one None m h = absurd (cc)

sheet_of_other : (b : Option BuiltIn) (m : Option ModuleDef) → IsSome m → IsSome (option_or (option_map sheet_of_built_in b) (option_map sheet_of_module m))
sheet_of_other (Some b) m h = refl
sheet_of_other None (Some m) h = refl
sheet_of_other None None h = absurd (cc)

module _ (bs : List BuiltIn) (ms : List ModuleDef) (n : List ℕ) where
  abbrev built_in : Option BuiltIn
  built_in = find (λ (b : BuiltIn). bytes_eq (built_in_name b) n) bs

  abbrev defined : Option ModuleDef
  defined = find (λ (m : ModuleDef). bytes_eq m.name n) ms

  abbrev names : List (List ℕ)
  names = fold put_built_in (map (λ (m : ModuleDef). m.name) ms) bs

  abbrev HasSheet : Type 0
  HasSheet = IsSome (option_or (option_map sheet_of_built_in built_in) (option_map sheet_of_module defined))

  to_sheet : Contains names n → HasSheet
  to_sheet h =
      elim (to_all (map (λ (m : ModuleDef). m.name) ms) bs n h) [
        | inl one ↦ sheet_of_one built_in defined (to_found built_in_name bs n one)
        | inr other ↦ sheet_of_other built_in defined (to_found (λ (m : ModuleDef). m.name) ms n other)
      ]

  from_sheet : HasSheet → Contains names n
  from_sheet h =
      elim (one_or_other built_in defined h) [
        | inl one ↦ from_new (map (λ (m : ModuleDef). m.name) ms) bs n (from_found built_in_name bs n one)
        | inr other ↦ from_old (map (λ (m : ModuleDef). m.name) ms) bs n (from_found (λ (m : ModuleDef). m.name) ms n other)
      ]

  pub have_sheets : Contains names n ↔ HasSheet
  have_sheets = (to_sheet, from_sheet)
