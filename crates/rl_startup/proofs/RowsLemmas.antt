-- What holds of the rows of any modules.
use Rattle.std.proofs.Common.{◌≡◌, ℕ, ◌+◌, Bool, true, false, ◌&&◌, not, cond, List, [], ◌∷◌, length, map, codes, bytes_eq, Option, Some}
use Rattle.std.proofs.Common.{None, nat_lt, Result, Ok, Err, Vec, Global, refl, sym, ap, ◌∙◌, subst, arith}
use Rattle.std.specs.Prelude.{is_some, IfOk}
use Rattle.std.specs.Option.{option_map_or}
use Rattle.std.proofs.Math.Path.{fun_ext}
use Rattle.std.proofs.lemmas.List.{length-map}
use Rattle.std.proofs.lemmas.Bool.Decides.{nat_tests}
use Rattle.std.proofs.lemmas.Slice.Eq.{bytes_eq-Decides}
use Rattle.rl_names.specs.declared.text.NoMemory.{NoMemory}
use Rattle.rl_names.specs.declared.row.Group.TheVariants.{Plain, User, Private, Other}
use Rattle.rl_names.specs.declared.row.Row.{Row}
use Rattle.rl_wire.specs.Startup.{fits_group, is_writable, AreWritable}
use Rattle.rl_startup.specs.declared.modules.Module.{Module}
use Rattle.rl_startup.specs.Rows.{is_private, dep_of, row_of, names_of, place_in, groups_of, IsFit, AreFit}
use Rattle.rl_startup.specs.Laws.{HaveAtMost, NeedAtMost, RowsAreLawful}

module _ (names groups : List ℕ → Option ℕ) where
  names_stay : (modules : List Module) → map (λ (r : Row). r.name) (map (row_of names groups) modules) ≡ names_of modules
  names_stay [] = refl
  names_stay (m ∷ ms) = ap (λ l. m.name ∷ l) (names_stay ms)

  deps_stay : (most : ℕ) (modules : List Module) → NeedAtMost most modules → HaveAtMost most (map (row_of names groups) modules)
  deps_stay most [] h = tt
  deps_stay most (m ∷ ms) h =
      let count : length (map (dep_of names) m.sheet.deps) ≡ length m.sheet.deps = length-map m.sheet.deps (dep_of names) in
      (omega (arith, count, h.0), deps_stay most ms h.1)

-- ---- rows that may be written

both_true : (a b : Bool) → a ≡ true → b ≡ true → (a && b) ≡ true
both_true a b h k = rw (h, k) refl

numbered_fits : (o : Option ℕ) (version : Option (List ℕ)) → is_some version ≡ true →
    fits_group (option_map_or (λ place. Other (place + 2)) o Plain) version ≡ true
numbered_fits None version is = is
numbered_fits (Some place) version is = both_true (nat_lt 1 (place + 2)) (is_some version) (grind (arith, nat_tests)) is

fits_by : (u p : Bool) (o : Option ℕ) (version : Option (List ℕ)) → (u ≡ true → p ≡ false) → is_some version ≡ not p
    → fits_group (cond u User (cond p Private (option_map_or (λ place. Other (place + 2)) o Plain))) version ≡ true
fits_by true p o version other is = is ∙ ap not (other refl)
fits_by false true o version other is = ap not is
fits_by false false o version other is = numbered_fits o version is

user_is_shared : (group : List ℕ) → bytes_eq group (codes "user") ≡ true → is_private group ≡ false
user_is_shared group is = ap is_private ((bytes_eq-Decides group (codes "user")).0 is)

source_by : (source : List ℕ) (b : Bool) → bytes_eq source (codes "local") ≡ b → not (bytes_eq (cond b [] source) (codes "local")) ≡ true
source_by source true e = refl
source_by source false e = rw e refl

row_writable : (names groups : List ℕ → Option ℕ) (m : Module) → IsFit m → is_writable (row_of names groups m) ≡ true
row_writable names groups m h =
    both_true _ _
    (both_true _ _ (fits_by (bytes_eq m.sheet.group (codes "user")) (is_private m.sheet.group) (groups m.sheet.group) m.version (user_is_shared m.sheet.group)
    h.version)
    (source_by m.sheet.source (bytes_eq m.sheet.source (codes "local")) refl))
    h.skip

rows_writable : (names groups : List ℕ → Option ℕ) (modules : List Module) → AreFit modules → AreWritable (map (row_of names groups) modules)
rows_writable names groups [] h = tt
rows_writable names groups (m ∷ ms) h = (row_writable names groups m h.0, rows_writable names groups ms h.1)

pub rows_are_lawful : RowsAreLawful
rows_are_lawful = record {
  names = λ modules. names_stay (place_in (names_of modules)) (place_in (groups_of modules)) modules;
  deps = λ modules most h. deps_stay (place_in (names_of modules)) (place_in (groups_of modules)) most modules h;
  writable = λ modules h. rows_writable (place_in (names_of modules)) (place_in (groups_of modules)) modules h;
}

-- ---- the same places give the same rows

pub rows_same : (names names2 groups groups2 : List ℕ → Option ℕ) (modules : List Module) → ((q : List ℕ) → names q ≡ names2 q) →
    ((q : List ℕ) → groups q ≡ groups2 q)
    → map (row_of names groups) modules ≡ map (row_of names2 groups2) modules
rows_same names names2 groups groups2 modules ns gs =
    ap (λ (f : List ℕ → Option ℕ). map (row_of f groups) modules) (fun_ext ns)
    ∙ ap (λ (f : List ℕ → Option ℕ). map (row_of names2 f) modules) (fun_ext gs)

-- ---- what holds of a list holds of a result with these items

pub carried : (r : Result (Vec Row Global) NoMemory) (rows : List Row) (P : List Row → Type 0) → IfOk r (λ v. v.items ≡ rows) → P rows →
    IfOk r (λ v. P v.items)
carried (Ok v) rows P is p = subst P (sym is) p
carried (Err e) rows P is p = tt

-- what follows of the items of a result follows of the result
pub followed : (r : Result (Vec Row Global) NoMemory) (P Q : List Row → Type 0) → ((rows : List Row) → P rows → Q rows) → IfOk r (λ v. P v.items) →
    IfOk r (λ v. Q v.items)
followed (Ok v) P Q f p = f v.items p
followed (Err e) P Q f p = tt
