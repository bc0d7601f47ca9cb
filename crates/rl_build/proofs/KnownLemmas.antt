-- What is chosen where a name is among those that are known.
use Rattle.std.proofs.Common.{◌≡◌, ℕ, ◌<◌, Bool, true, false, cond, not, ◌||◌, List, [], ◌∷◌, length, get_or, find}
use Rattle.std.proofs.Common.{Option, Some, IsTrue, IsUtf8, bytes_eq, codes, refl, sym, ap, subst, ◌∙◌, arith, lit≤}
use Rattle.std.specs.Prelude.{option_and_then, slice_get}
use Rattle.std.specs.List.{list_any}
use Rattle.std.proofs.lemmas.List.Folds.{list_any_at}
use Rattle.std.proofs.lemmas.Bool.{and_parts}
use Rattle.std.proofs.lemmas.Slice.Eq.{bytes_eq-Decides}
use Rattle.rl_names.specs.Name.{is_name}
use Rattle.rl_wire.specs.Line.{AreTexts}
use Rattle.rl_wire.specs.Message.{AreAscending}
use Rattle.rl_defs.specs.Catalogue.{IsModule}
use Rattle.rl_defs.specs.Words.{is_built_in, is_definable, is_gadget}
use Rattle.rl_defs.specs.declared.file.File.{File}
use Rattle.rl_defs.specs.declared.module_def.ModuleDef.{ModuleDef}
use Rattle.rl_build.specs.declared.built_in.BuiltIn.{BuiltIn}
use Rattle.rl_build.specs.declared.built_in.BuiltIn.TheVariants.{Site, SiteStyles, User, UserOptions, UserStyles}
use Rattle.rl_build.specs.declared.payloads.Payload.{Payload}
use Rattle.rl_build.specs.declared.sheets.Sheet.{Sheet}
use Rattle.rl_build.specs.Payload.{IsBrought}
use Rattle.rl_build.specs.Sheet.{sheet_of_built_in, sheet_of_module, IsLawful}
use Rattle.rl_build.proofs.DistinctLemmas.{distinct_few}

pub found : {X : Type 0} (key : X → List ℕ) (xs ys : List X) (i : ℕ) (x : X) (name absent : List ℕ)
    → xs ≡ ys → i < length xs → x ≡ get_or xs i x → key x ≡ name → cond (list_any (λ y. bytes_eq (key y) name) ys) name absent ≡ name
found key xs ys i x name absent these within is named =
    let passes : bytes_eq (key (get_or xs i x)) name ≡ true = (bytes_eq-Decides (key (get_or xs i x)) name).1 (ap key (sym is) ∙ named) in
    let there : list_any (λ y. bytes_eq (key y) name) xs ≡ true = list_any_at (λ y. bytes_eq (key y) name) xs i x within passes in
    rw (← these) (rw there refl)

-- what is found has the name that was looked for
found_step : (v : Bool) (m : ModuleDef) (rest : Option ModuleDef) (n : List ℕ) (o : ModuleDef) → bytes_eq m.name n ≡ v
    → (rest ≡ Some o → o.name ≡ n) → cond v (Some m) rest ≡ Some o → o.name ≡ n
found_step true m rest n o e later is = let same : m ≡ o = cc in subst (λ (x : ModuleDef). x.name ≡ n) same ((bytes_eq-Decides m.name n).0 e)
found_step false m rest n o e later is = later is

pub found_name : (ms : List ModuleDef) (n : List ℕ) (o : ModuleDef) → find (λ (m : ModuleDef). bytes_eq m.name n) ms ≡ Some o → o.name ≡ n
found_name [] n o is = absurd (cc)
found_name (m ∷ ms) n o is =
    found_step (bytes_eq m.name n) m (find (λ (x : ModuleDef). bytes_eq x.name n) ms) n o refl (found_name ms n o) is

definable_name : (name : List ℕ) → IsTrue (is_definable name) → IsTrue (is_name name)
definable_name name h = (and_parts (is_name name) (not (bytes_eq name (codes "startup") || is_built_in name || is_gadget name)) h).0

-- what names a module is a name
pub named_lawfully : (files : List File) (ms : List ModuleDef) (at : ℕ) (m : ModuleDef) (n : List ℕ)
    → option_and_then (slice_get ms) (Some at) ≡ find (λ (m : ModuleDef). bytes_eq m.name n) ms → slice_get ms at ≡ Some m → IsModule files m →
    IsTrue (is_name n)
named_lawfully files ms at m n named is lawful =
    subst (λ (x : List ℕ). IsTrue (is_name x)) (found_name ms n m (sym named ∙ is)) (definable_name m.name lawful.name)

pub brought : (name : List ℕ) (p : Payload) → IsTrue (is_name name) → IsUtf8 p.script × IsUtf8 p.styles × (p.messages ≡ []) → IsBrought name p
brought name p is (script, styles, none) = (is, script, styles, subst AreTexts (sym none) tt, subst AreAscending (sym none) tt)

-- the sheet of a lawful module is lawful
pub sheet_lawful : (files : List File) (m : ModuleDef) (sheet : Sheet) → sheet ≡ sheet_of_module m → IsModule files m → IsLawful sheet
sheet_lawful files m sheet is lawful = subst IsLawful (sym is) (record {
  few = omega (arith, distinct_few m.dependencies, lawful.few_dependencies);
  feature = lawful.feature;
})

-- and so is that of a built-in one
pub built_in_lawful : (b : BuiltIn) (sheet : Sheet) → sheet ≡ sheet_of_built_in b → IsLawful sheet
built_in_lawful Site sheet is = subst IsLawful (sym is) (record { few = lit≤ tt; feature = refl })
built_in_lawful SiteStyles sheet is = subst IsLawful (sym is) (record { few = lit≤ tt; feature = refl })
built_in_lawful User sheet is = subst IsLawful (sym is) (record { few = lit≤ tt; feature = refl })
built_in_lawful UserOptions sheet is = subst IsLawful (sym is) (record { few = lit≤ tt; feature = refl })
built_in_lawful UserStyles sheet is = subst IsLawful (sym is) (record { few = lit≤ tt; feature = refl })
