-- The modules of a wiki, and what holds of their rows.
use Rattle.std.proofs.Common.{◌≡◌, ℕ, ◌+◌, ◌<◌, ◌≤◌, Bool, true, false, cond, List, [], ◌∷◌, ◌++◌, length, map, take}
use Rattle.std.proofs.Common.{get_or, append-nil, Option, Some, None}
use Rattle.std.proofs.Common.{IsSome, bytes_eq, nat_lt, refl, sym, ap, ◌∙◌, subst, arith}
use Rattle.std.specs.Prelude.{Contains, IfSome, option_map, option_to_list}
use Rattle.std.specs.List.{AllByRecursion, cons_option, filter_map, position_from}
use Rattle.std.specs.Option.{option_map_or}
use Rattle.std.proofs.lemmas.Bool.Decides.{nat_tests}
use Rattle.std.proofs.lemmas.List.{length-map, take_all, take_more}
use Rattle.std.proofs.lemmas.List.Elements.{filter_map-append}
use Rattle.rl_names.specs.Limits.{limit_of}
use Rattle.rl_names.specs.declared.counted.Counted.TheVariants as counted
use Rattle.rl_names.specs.declared.row.Dep.TheVariants.{At, Named}
use Rattle.rl_view_spec.specs.Breach.{bad_index}
use Rattle.rl_build.specs.declared.context.Context.{Context}
use Rattle.rl_build.specs.declared.sheets.Sheet.{Sheet}
use Rattle.rl_build.specs.Sheet.{sheet_of, AreAllNames}
use Rattle.rl_build.specs.Sight.{Sight}
use Rattle.rl_build.proofs.AllNamesLemmas.{later}
use Rattle.rl_defs.specs.Ascending.{IsAscending}
use Rattle.rl_startup.specs.declared.modules.Module.{Module}
use Rattle.rl_startup.specs.Fine.{Fine, HaveDepsBelow}
use Rattle.rl_startup.specs.Laws.{NeedAtMost}
use Rattle.rl_startup.specs.Registry.{module_of}
use Rattle.rl_startup.specs.Rows.{dep_of, groups_of, names_of, place_in, row_of, rows_of, AreFit, IsFit}
use Rattle.rl_startup.proofs.FineLemmas.{once_of}
use Rattle.rl_startup.proofs.RowsLemmas.{rows_are_lawful}

-- ---- the names of the modules are all names

names_step : (name : List ℕ) (names : List (List ℕ)) (modules : List Module) (made : Sheet → Module) → ((sheet : Sheet) → (made sheet).name ≡ name)
    → (o : Option Sheet) → IsSome o → names_of modules ≡ names → names_of (cons_option (option_map made o) modules) ≡ name ∷ names
names_step name names modules made named (Some sheet) h rest = rw (named sheet, rest) refl
names_step name names modules made named None h rest = absurd (cc)

module _ (s : Sight) (ctx : Context) where
  names_stay : (names : List (List ℕ)) → ((name : List ℕ) → Contains names name → IsSome (sheet_of s ctx name))
      → names_of (filter_map (module_of s ctx) names) ≡ names
  names_stay [] h = refl
  names_stay (name ∷ names) h =
      names_step name names (filter_map (module_of s ctx) names) _ (λ sheet. refl) (sheet_of s ctx name) (h name (0, omega arith, refl))
      (names_stay names (λ other there. h other (later name names other there)))

  pub few_modules : (names : List (List ℕ)) (most : ℕ) → AreAllNames s ctx names → length names ≤ most
      → length (filter_map (module_of s ctx) names) ≤ most
  few_modules names most all few =
      omega (arith, few, ap length (names_stay names (λ name. (all.all name).0)), length-map (filter_map (module_of s ctx) names) (λ (m : Module). m.name))

  pub names_ascend : (names : List (List ℕ)) (modules : List Module) → AreAllNames s ctx names → modules ≡ filter_map (module_of s ctx) names
      → IsAscending (names_of modules)
  names_ascend names modules all are =
      let same : names_of modules ≡ names = ap names_of are ∙ names_stay names (λ name. (all.all name).0) in
      subst IsAscending (sym same) all.ascending

-- ---- one module more

all_more : {X : Type 0} (P : X → Type 0) (xs : List X) (x : X) → AllByRecursion P xs → P x → AllByRecursion P (xs ++ x ∷ [])
all_more P [] x h p = (p, tt)
all_more P (y ∷ ys) x h p = (h.0, all_more P ys x h.1 p)

-- these are the modules of the names before a place
pub record Made (f : List ℕ → Option Module) (names : List (List ℕ)) (i : ℕ) (modules : List Module) : Type 0 where
  pub are : modules ≡ filter_map f (take i names)
  pub fit : AreFit modules
  pub needs : NeedAtMost (limit_of counted.Dependencies) modules

module _ (f : List ℕ → Option Module) (names : List (List ℕ)) (i : ℕ) (d : List ℕ) (low : i < length names)
    (old : List Module) (made : Made f names i old) where
  gathered : filter_map f (take (i + 1) names) ≡ old ++ cons_option (f (get_or names i d)) []
  gathered =
      ap (filter_map f) (take_more names i d low) ∙ filter_map-append f (take i names) (get_or names i d ∷ [])
      ∙ ap (λ modules. modules ++ cons_option (f (get_or names i d)) []) (sym made.are)

  pub made_more : (m : Option Module) (new : List Module) → m ≡ f (get_or names i d) → IfSome m IsFit
      → IfSome m (λ m. length m.sheet.deps ≤ limit_of counted.Dependencies) → new ≡ old ++ option_to_list m → Made f names (i + 1) new
  made_more (Some m) new is fit needs grown = record {
    are = grown ∙ sym (gathered ∙ ap (λ o. old ++ cons_option o []) (sym is));
    fit = subst AreFit (sym grown) (all_more IsFit old m made.fit fit);
    needs = subst (NeedAtMost (limit_of counted.Dependencies)) (sym grown)
        (all_more (λ (m : Module). length m.sheet.deps ≤ limit_of counted.Dependencies) old m made.needs needs);
  }
  made_more None new is fit needs grown =
      let same : new ≡ old = grown ∙ append-nil old in
      record {
        are = grown ∙ sym (gathered ∙ ap (λ o. old ++ cons_option o []) (sym is));
        fit = subst AreFit (sym same) made.fit;
        needs = subst (NeedAtMost (limit_of counted.Dependencies)) (sym same) made.needs;
      }

pub made_whole : (f : List ℕ → Option Module) (names items : List (List ℕ)) (i : ℕ) (modules : List Module) → Made f names i modules
    → length names ≤ i → names ≡ items → modules ≡ filter_map f items
made_whole f names items i modules made high same = made.are ∙ ap (filter_map f) (take_all i names high ∙ same)

-- ---- each dependency by number has a row

place_below : (p : List ℕ → Bool) (i k : ℕ) (texts : List (List ℕ)) → position_from p i texts ≡ Some k → k < i + length texts
place_below p i k [] e = cc
place_below p i k (text ∷ texts) e = step (place_below p (i + 1) k texts) (p text) e
  where
    step : (position_from p (i + 1) texts ≡ Some k → k < i + 1 + length texts) → (b : Bool)
        → cond b (Some i) (position_from p (i + 1) texts) ≡ Some k → k < i + length (text ∷ texts)
    step rest true e = let same : i ≡ k = cc in omega (arith, same)
    step rest false e = omega (arith, rest e)

module _ (names groups : List ℕ → Option ℕ) (count : ℕ) (low : (q : List ℕ) (k : ℕ) → names q ≡ Some k → k < count) where
  dep_good : (q : List ℕ) → bad_index count (dep_of names q) ≡ None
  dep_good q = step (names q) refl
    where
      step : (o : Option ℕ) → names q ≡ o → bad_index count (option_map_or At o (Named q)) ≡ None
      step None e = refl
      step (Some k) e = let f : nat_lt k count ≡ true = grind (arith, nat_tests, low q k e) in rw f refl

  deps_good : (deps : List (List ℕ)) → filter_map (bad_index count) (map (dep_of names) deps) ≡ []
  deps_good [] = refl
  deps_good (q ∷ deps) = rw (dep_good q) (deps_good deps)

  rows_good : (modules : List Module) → HaveDepsBelow count (map (row_of names groups) modules)
  rows_good [] = tt
  rows_good (m ∷ modules) = (deps_good m.sheet.deps, rows_good modules)

pub fine_rows : (modules : List Module) → length modules ≤ limit_of counted.Rows → AreFit modules → NeedAtMost (limit_of counted.Dependencies) modules
    → IsAscending (names_of modules) → Fine (rows_of modules)
fine_rows modules few fit needs ascend =
    let names = place_in (names_of modules) in
    let long : length (rows_of modules) ≡ length modules = length-map modules (row_of names (place_in (groups_of modules))) in
    let named : length (names_of modules) ≡ length modules = length-map modules (λ (m : Module). m.name) in
    record {
      few = rw long few;
      few_deps = rows_are_lawful.deps modules (limit_of counted.Dependencies) needs;
      once = once_of (rows_of modules) (subst IsAscending (sym (rows_are_lawful.names modules)) ascend);
      below = rows_good names (place_in (groups_of modules)) (length (rows_of modules))
          (λ q k e. omega (arith, long, named, place_below (λ other. bytes_eq other q) 0 k (names_of modules) e)) modules;
      writable = rows_are_lawful.writable modules fit;
    }
