use Rattle.std.proofs.Common.{◌≡◌, ℕ, List, map, IsTrue, sym, subst}
use Rattle.std.specs.List.{AllByRecursion, list_all}
use Rattle.std.proofs.lemmas.List.{length-map}
use Rattle.rl_names.specs.Title.{is_user_name}
use Rattle.rl_defs.specs.declared.file.File.{File}
use Rattle.rl_defs.specs.declared.module_def.ModuleDef.{ModuleDef}
use Rattle.rl_defs.specs.Named.{AreNames}
use Rattle.rl_defs.specs.Catalogue.{IsModule}
use Rattle.rl_defs.specs.Draft.{module_of}
use Rattle.rl_defs.proofs.SettlingLemmas.{settled_names, settled_few, settled_lawful, same_names, are_user_names}
use Rattle.rl_defs.proofs.catalog.Catalog.of.Goals as goal

pub settled_modules-requires : goal.settled_modules-requires
settled_modules-requires c = settled_names c.args.draft c.requires.kept

-- the modules keep the names and the number of the drafts
pub invariant_of-result : goal.invariant_of-result
invariant_of-result c =
    let settled : c.in_ok-settled_modules.field-0 ≡ map module_of c.args.draft.modules = c.in_ok-settled_modules.ensures in
    let few = settled_few c.args.draft c.requires.kept in
    record {
      admins = subst (λ (names : List (List ℕ)). IsTrue (list_all is_user_name names)) (sym c.in_ok-user_names.ensures)
          (are_user_names c.as_slice.result.now);
      files = subst (λ (fs : List File). AreNames (map (λ f. f.name) fs)) (sym c.files.view_is) c.requires.orderly.files;
      modules = subst (λ (ms : List ModuleDef). AreNames (map (λ m. m.name) ms)) (sym settled)
          (rw (same_names c.args.draft.modules) c.requires.orderly.modules);
      each = subst (λ (fs : List File). AllByRecursion (IsModule fs) c.in_ok-settled_modules.field-0) (sym c.files.view_is)
          (subst (λ (ms : List ModuleDef). AllByRecursion (IsModule c.args.draft.files) ms) (sym settled)
          (settled_lawful c.args.draft c.requires.kept c.requires.orderly.features));
      few_modules = rw (settled, length-map c.args.draft.modules module_of) few;
      least_limit = c.requires.orderly.least_limit;
      most_limit = c.requires.orderly.most_limit;
      most_version = c.requires.orderly.most_version;
    }
