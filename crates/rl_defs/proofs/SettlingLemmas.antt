-- What holds of a draft that breaks no rule.
use Rattle.std.proofs.Common.{◌≡◌, ℕ, zero, suc, ◌≤◌, Bool, true, false, List, [], ◌∷◌, length, map, Option, Some, None, refl, ap, subst}
use Rattle.std.proofs.Common.{arith}
use Rattle.std.specs.Prelude.{◌&&◌, ◌||◌, not, nat_le, if◌then◌else◌, is_some, bytes_eq, codes}
use Rattle.std.specs.List.{AllByRecursion, list_all, filter_map, cons_option, slice_get}
use Rattle.std.specs.Str.{is_utf8}
use Rattle.std.proofs.lemmas.Bool.{and_from, and_parts, leb-true}
use Rattle.std.proofs.lemmas.Bool.Decides.{nat_tests}
use Rattle.std.proofs.lemmas.Slice.Eq.{bytes_eq-Decides}
use Rattle.rl_names.specs.Name.{is_name}
use Rattle.rl_names.specs.Title.{is_user_name, spaced, user_name_of}
use Rattle.rl_defs.specs.declared.draft.Draft.{Draft}
use Rattle.rl_defs.specs.declared.draft.ModuleDraft.{ModuleDraft}
use Rattle.rl_names.specs.Limits.{limit_of}
use Rattle.rl_defs.specs.Refusal.{Refusal, BadName, BadDependency, BadSource, NoFile, TooMany}
use Rattle.rl_names.specs.declared.counted.Counted.TheVariants.{Dependencies, Modules}
use Rattle.rl_defs.specs.declared.module_def.ModuleDef.{ModuleDef}
use Rattle.rl_defs.specs.Breach.{or_else, first_of, unless, breach_of, bad_name, bad_module_name, bad_admin, bad_skin, too_many, too_many_dependencies}
use Rattle.rl_defs.specs.Breach.{bad_dependency, bad_dependency_of, bad_dependency_among, is_defined, is_dependency, text_of, no_file, no_file_of}
use Rattle.rl_defs.specs.Breach.{no_file_among, bad_source, bad_source_among, too_large}
use Rattle.rl_defs.specs.Catalogue.{IsModule, text_among}
use Rattle.rl_defs.specs.Draft.{has_names, may_skip, module_of}
use Rattle.rl_defs.specs.Words.{is_definable, is_built_in, is_gadget}

-- neither of two breaches, where there is no first
no_first : (a b : Option Refusal) → or_else a b ≡ None → (a ≡ None) × (b ≡ None)
no_first None b none = (refl, none)
no_first (Some breach) b none = cc

kept : (is_kept : Bool) (breach : Refusal) → unless is_kept breach ≡ None → is_kept ≡ true
kept true breach none = refl
kept false breach none = cc

dependencies_are_names : (d : Draft) (owner : List ℕ) (names : List (List ℕ)) → bad_dependency_among d owner names ≡ None →
    list_all is_name names ≡ true
dependencies_are_names d owner [] none = refl
dependencies_are_names d owner (name ∷ names) none =
    let parts = no_first (unless (is_dependency d name) (BadDependency owner name)) (bad_dependency_among d owner names) none in
    let name_and_more = and_parts (is_name name) (is_defined d name || is_built_in name || is_gadget name)
    (kept (is_dependency d name) (BadDependency owner name) parts.0) in
    and_from (is_name name) (list_all is_name names) name_and_more.0 (dependencies_are_names d owner names parts.1)

modules_have_names : (d : Draft) (ms : List ModuleDraft) → bad_module_name ms ≡ None → first_of (bad_dependency_of d) ms ≡ None →
    list_all has_names ms ≡ true
modules_have_names d [] names dependencies = refl
modules_have_names d (m ∷ ms) names dependencies =
    let of_names = no_first (unless (is_definable m.name) (BadName m.name)) (bad_module_name ms) names in
    let of_dependencies = no_first (bad_dependency_of d m) (first_of (bad_dependency_of d) ms) dependencies in
    let name_and_more = and_parts (is_name m.name) (not (bytes_eq m.name (codes "startup") || is_built_in m.name || is_gadget m.name))
    (kept (is_definable m.name) (BadName m.name) of_names.0) in
    and_from (has_names m) (list_all has_names ms) (and_from (is_name m.name) (list_all is_name m.dependencies) name_and_more.0
    (dependencies_are_names d m.name m.dependencies of_dependencies.0)) (modules_have_names d ms of_names.1 of_dependencies.1)

pub settled_names : (d : Draft) → breach_of d ≡ None → list_all has_names d.modules ≡ true
settled_names d none =
    let after_names = no_first (bad_name d) (or_else (too_many d) (or_else (bad_dependency d) (or_else (no_file d) (or_else (bad_source d) (too_large d)))))
    none in
    let after_counts = no_first (too_many d) (or_else (bad_dependency d) (or_else (no_file d) (or_else (bad_source d) (too_large d)))) after_names.1 in
    let after_dependencies = no_first (bad_dependency d) (or_else (no_file d) (or_else (bad_source d) (too_large d))) after_counts.1 in
    let of_names = no_first (bad_module_name d.modules) (or_else (bad_admin d.admins) (bad_skin d.skins)) after_names.0 in
    modules_have_names d d.modules of_names.0 after_dependencies.0

pub settled_few : (d : Draft) → breach_of d ≡ None → length d.modules ≤ limit_of Modules
settled_few d none =
    let after_names = no_first (bad_name d) (or_else (too_many d) (or_else (bad_dependency d) (or_else (no_file d) (or_else (bad_source d) (too_large d)))))
    none in
    let after_counts = no_first (too_many d) (or_else (bad_dependency d) (or_else (no_file d) (or_else (bad_source d) (too_large d)))) after_names.1 in
    let of_counts = no_first (unless (nat_le (length d.modules) (limit_of Modules)) (TooMany Modules (length d.modules))) (too_many_dependencies d.modules)
    after_counts.0 in
    let few = kept (nat_le (length d.modules) (limit_of Modules)) (TooMany Modules (length d.modules)) of_counts.0 in
    grind (arith, nat_tests)

no_file_missing : (d : Draft) (owner : List ℕ) (files : List (List ℕ)) → no_file_among d owner files ≡ None
    → list_all (λ file. is_some (text_among d.files file)) files ≡ true
no_file_missing d owner [] none = refl
no_file_missing d owner (file ∷ files) none =
    let parts = no_first (unless (is_some (text_of d file)) (NoFile owner file)) (no_file_among d owner files) none in
    and_from (is_some (text_of d file)) (list_all (λ file. is_some (text_among d.files file)) files)
    (kept (is_some (text_of d file)) (NoFile owner file) parts.0) (no_file_missing d owner files parts.1)

each_lawful : (d : Draft) (ms : List ModuleDraft) → bad_module_name ms ≡ None → too_many_dependencies ms ≡ None → first_of (no_file_of d) ms ≡ None
    → bad_source_among ms ≡ None → list_all may_skip ms ≡ true → AllByRecursion (IsModule d.files) (map module_of ms)
each_lawful d [] names counts files sources skips = tt
each_lawful d (m ∷ ms) names counts files sources skips =
    let of_names = no_first (unless (is_definable m.name) (BadName m.name)) (bad_module_name ms) names in
    let few_here = nat_le (length m.dependencies) (limit_of Dependencies) in
    let of_counts = no_first (unless few_here (TooMany Dependencies (length m.dependencies))) (too_many_dependencies ms) counts in
    let of_files = no_first (no_file_of d m) (first_of (no_file_of d) ms) files in
    let of_sources = no_first (unless (bytes_eq m.source (codes "local")) (BadSource m.name)) (bad_source_among ms) sources in (
      record {
        name = kept (is_definable m.name) (BadName m.name) of_names.0;
        few_dependencies = leb-true (length m.dependencies) (limit_of Dependencies) (kept few_here (TooMany Dependencies (length m.dependencies)) of_counts.0);
        source = (bytes_eq-Decides m.source (codes "local")).0 (kept (bytes_eq m.source (codes "local")) (BadSource m.name) of_sources.0);
        feature = (and_parts (may_skip m) (list_all may_skip ms) skips).0;
        listed = no_file_missing d m.name m.scripts of_files.0;
      },
      each_lawful d ms of_names.1 of_counts.1 of_files.1 of_sources.1 (and_parts (may_skip m) (list_all may_skip ms) skips).1,
    )

pub settled_lawful : (d : Draft) → breach_of d ≡ None → list_all may_skip d.modules ≡ true →
    AllByRecursion (IsModule d.files) (map module_of d.modules)
settled_lawful d none skips =
    let after_names = no_first (bad_name d) (or_else (too_many d) (or_else (bad_dependency d) (or_else (no_file d) (or_else (bad_source d) (too_large d)))))
    none in
    let after_counts = no_first (too_many d) (or_else (bad_dependency d) (or_else (no_file d) (or_else (bad_source d) (too_large d)))) after_names.1 in
    let after_dependencies = no_first (bad_dependency d) (or_else (no_file d) (or_else (bad_source d) (too_large d))) after_counts.1 in
    let after_files = no_first (no_file d) (or_else (bad_source d) (too_large d)) after_dependencies.1 in
    let after_sources = no_first (bad_source d) (too_large d) after_files.1 in
    let of_names = no_first (bad_module_name d.modules) (or_else (bad_admin d.admins) (bad_skin d.skins)) after_names.0 in
    let of_counts = no_first (unless (nat_le (length d.modules) (limit_of Modules)) (TooMany Modules (length d.modules))) (too_many_dependencies d.modules)
    after_counts.0 in
    each_lawful d d.modules of_names.0 of_counts.1 after_files.0 after_sources.0 skips

-- what holds of each holds of the one at a place
pub at_place : {X : Type 0} (P : X → Type 0) (xs : List X) (i : ℕ) (x : X) → AllByRecursion P xs → slice_get xs i ≡ Some x → P x
at_place P [] i x all here = absurd (cc)
at_place P (y ∷ ys) zero x all here = let same : y ≡ x = cc in subst P same all.0
at_place P (y ∷ ys) (suc i) x all here = at_place P ys i x all.1 (grind (arith, here))

-- a module keeps its name
pub same_names : (ms : List ModuleDraft) → map (λ (m : ModuleDef). m.name) (map module_of ms) ≡ map (λ (m : ModuleDraft). m.name) ms
same_names [] = refl
same_names (m ∷ ms) = ap (λ names. m.name ∷ names) (same_names ms)

-- what is kept of an admin is a user's name
spelt_is_user_name : (is_kept : Bool) (name : List ℕ) (names : List (List ℕ)) → (is_kept ≡ true → is_user_name name ≡ true) →
    list_all is_user_name names ≡ true → list_all is_user_name (cons_option (if is_kept then Some name else None) names) ≡ true
spelt_is_user_name true name names is rest = and_from (is_user_name name) (list_all is_user_name names) (is refl) rest
spelt_is_user_name false name names is rest = rest

pub are_user_names : (texts : List (List ℕ)) → list_all is_user_name (filter_map user_name_of texts) ≡ true
are_user_names [] = refl
are_user_names (text ∷ texts) =
    spelt_is_user_name (is_utf8 text && is_user_name (spaced text)) (spaced text) (filter_map user_name_of texts)
    (λ both. (and_parts (is_utf8 text) (is_user_name (spaced text)) both).1) (are_user_names texts)
