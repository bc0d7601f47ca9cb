-- A row of a group that is kept is of a module that is the same for every viewer.
use Rattle.std.proofs.Common.{◌≡◌, Bool, true, false, cond, List, [], ◌∷◌, map, Option, Some, None, refl, subst, codes, bytes_eq}
use Rattle.std.specs.Prelude.{◌+◌, if◌then◌else◌, not, option_map, ◌||◌, ℕ}
use Rattle.std.specs.List.{AllByRecursion, cons_option, filter_map}
use Rattle.std.specs.Option.{option_map_or, option_or}
use Rattle.std.proofs.lemmas.Slice.Eq.{bytes_eq-Decides}
use Rattle.rl_names.specs.declared.row.Group.{Group}
use Rattle.rl_names.specs.declared.row.Group.TheVariants.{Other, Plain, Private, User}
use Rattle.rl_names.specs.declared.row.Row.{Row}
use Rattle.rl_defs.specs.Catalogue.{Catalogue, module_named}
use Rattle.rl_build.specs.BuiltIn.{built_in_named}
use Rattle.rl_build.specs.Sheet.{all_names, sheet_of, sheet_of_built_in, sheet_of_module}
use Rattle.rl_build.specs.Sight.{sight}
use Rattle.rl_build.specs.declared.context.Context.{Context}
use Rattle.rl_build.specs.declared.payloads.Payload.{Payload}
use Rattle.rl_build.specs.declared.sheets.Sheet.{Sheet}
use Rattle.rl_compact.specs.Compact.{compact_row}
use Rattle.rl_loadphp.specs.Body.{built}
use Rattle.rl_pages.specs.declared.entry.Entry.{Entry}
use Rattle.rl_pages.specs.declared.viewer.Viewer.{Viewer}
use Rattle.rl_startup.specs.Registry.{all_rows, module_of, modules_of, start_of, version_in}
use Rattle.rl_startup.specs.Rows.{group_of, groups_of, names_of, place_in, row_of, rows_of}
use Rattle.rl_startup.specs.declared.modules.Module.{Module}
use Rattle.rl_view_spec.specs.Closure.{Text}
use Rattle.rl_wire.specs.declared.part.Part.{Part}
use Rattle.rl_book_spec.specs.Closing.{is_kept_group}
use Rattle.rl_book_spec.specs.Opening.{part_name, part_of}
use Rattle.rl_stage_spec.specs.Shared.{is_shared}

-- ---- names

pub part_named : (parts : List Part) (name : Text) (part : Part) → part_of parts name ≡ Some part → part_name part ≡ name
part_named [] name part is = absurd (cc)
part_named (p ∷ ps) name part is = step (λ e. part_named ps name part e) (bytes_eq (part_name p) name) refl is
  where
    step : (part_of ps name ≡ Some part → part_name part ≡ name) → (b : Bool) → bytes_eq (part_name p) name ≡ b
        → cond b (Some p) (part_of ps name) ≡ Some part → part_name part ≡ name
    step rest true passes e =
        let same : p ≡ part = cc in subst (λ (q : Part). part_name q ≡ name) same ((bytes_eq-Decides (part_name p) name).0 passes)
    step rest false passes e = rest e

-- what is built of a name has that name
pub built_named : (name : Text) (o : Option Payload) (part : Part) → option_map (built name) o ≡ Some part → part_name part ≡ name
built_named name None part is = absurd (cc)
built_named name (Some p) part is = let same : built name p ≡ part = cc in subst (λ (q : Part). part_name q ≡ name) same refl

-- ---- rows

-- the sheet of a name, which is the same for all
abbrev sheet_in : Catalogue → Text → Option Sheet
sheet_in c name = option_or (option_map sheet_of_built_in (built_in_named name)) (option_map sheet_of_module (module_named c name))

abbrev pub IsSharedName : Catalogue → Text → Type 0
IsSharedName c name = (sheet : Sheet) × (sheet_in c name ≡ Some sheet) × (is_shared sheet.group ≡ true)

abbrev pub IsSharedIfKept : Catalogue → Row → Type 0
IsSharedIfKept c row = is_kept_group row.group ≡ true → IsSharedName c row.name

kept_shared : (groups : Text → Option ℕ) (group : Text) → is_kept_group (group_of groups group) ≡ true → is_shared group ≡ true
kept_shared groups group h =
    step (bytes_eq group (codes "user")) (bytes_eq group (codes "private")) (option_map_or (λ place. Other (place + 2)) (groups group) Plain) h
  where
    step : (a b : Bool) (rest : Group) → is_kept_group (if a then User else (if b then Private else rest)) ≡ true → not (a || b) ≡ true
    step true b rest h = absurd (cc)
    step false true rest h = absurd (cc)
    step false false rest h = refl

module _ (c : Catalogue) where
  abbrev HasSheet : Module → Type 0
  HasSheet m = sheet_in c m.name ≡ Some m.sheet

  module _ (entries : List Entry) (viewer : Viewer) (ctx : Context) where
    have_sheets : (names : List Text) → AllByRecursion HasSheet (filter_map (module_of (sight c entries viewer) ctx) names)
    have_sheets [] = tt
    have_sheets (name ∷ names) = step (have_sheets names) (sheet_of (sight c entries viewer) ctx name) refl
      where
        step : AllByRecursion HasSheet (filter_map (module_of (sight c entries viewer) ctx) names) → (o : Option Sheet) → sheet_in c name ≡ o
            → AllByRecursion HasSheet (cons_option (option_map
            (λ (sheet : Sheet). record { name = name; sheet = sheet; version = version_in (sight c entries viewer) ctx name sheet.group }) o)
            (filter_map (module_of (sight c entries viewer) ctx) names))
        step rest None is = rest
        step rest (Some sheet) is = (is, rest)

  rows_shared : (names groups : Text → Option ℕ) (modules : List Module) → AllByRecursion HasSheet modules
      → AllByRecursion (IsSharedIfKept c) (map (row_of names groups) modules)
  rows_shared names groups [] h = tt
  rows_shared names groups (m ∷ modules) h =
      (λ kept. (m.sheet, h.0, kept_shared groups m.sheet.group kept), rows_shared names groups modules h.1)

  compact_shared : (all rows : List Row) → AllByRecursion (IsSharedIfKept c) rows → AllByRecursion (IsSharedIfKept c) (map (compact_row all) rows)
  compact_shared all [] h = tt
  compact_shared all (row ∷ rows) h = (h.0, compact_shared all rows h.1)

  pub start_shared : (entries : List Entry) (viewer : Viewer) (ctx : Context)
      → AllByRecursion (IsSharedIfKept c) (start_of (sight c entries viewer) ctx).rows
  unfolding start_of all_rows
  start_shared entries viewer ctx =
      let modules = modules_of (sight c entries viewer) ctx in
      compact_shared (rows_of modules) (rows_of modules)
      (rows_shared (place_in (names_of modules)) (place_in (groups_of modules)) modules (have_sheets entries viewer ctx (all_names (sight c entries viewer))))
