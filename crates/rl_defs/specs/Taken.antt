-- What one step of the pass over a definitions file does to a draft.
use Rattle.std.specs.Prelude.{◌≡◌, ℕ, if◌then◌else◌, List, None, Some, Result, unwrap_or, bytes_eq, codes}
use Rattle.std.specs.Option.{option_or}
use Rattle.toml.specs.Data.{Data, Members, as_str}
use Rattle.rl_names.specs.Meant.{ButForMemory}
use Rattle.rl_defs.specs.declared.draft.Draft.{Draft}
use Rattle.rl_defs.specs.declared.draft.ModuleDraft.{ModuleDraft}
use Rattle.rl_defs.specs.declared.error.CatalogError.{CatalogError}
use Rattle.rl_defs.specs.Refusal.{refusal_told}
use Rattle.rl_defs.specs.Reading.{texts_of, number_of, feature_of}
use Rattle.rl_defs.specs.Fields.{Field}
use Rattle.rl_defs.specs.Breach.{unknown_among}
use Rattle.rl_defs.specs.Draft.{files_of, modules_of, wiki_with}

-- a value that is meant was taken, and all its fields are known; or the first that is not is told
abbrev pub Takes : {V : Type 0} → Result V CatalogError → List Field → V → Type 0
Takes result fs meant =
    ButForMemory refusal_told (λ taken. (unknown_among fs ≡ None) × (taken ≡ meant)) (λ refusal. unknown_among fs ≡ Some refusal) result

-- a module with the value of one field
abbrev pub module_taken : ModuleDraft → List ℕ → Data → ModuleDraft
module_taken m key d =
    if bytes_eq key (codes "scripts") then record m { scripts = unwrap_or (texts_of d) m.scripts }
    else (if bytes_eq key (codes "dependencies") then record m { dependencies = unwrap_or (texts_of d) m.dependencies }
    else (if bytes_eq key (codes "group") then record m { group = unwrap_or (as_str d) m.group }
    else (if bytes_eq key (codes "source") then record m { source = unwrap_or (as_str d) m.source }
    else (if bytes_eq key (codes "skip") then record m { skip = option_or (feature_of d) m.skip } else m))))

-- a draft with the value of one field of the table `wiki`
abbrev pub wiki_taken : Draft → List ℕ → Data → Draft
wiki_taken d key v =
    if bytes_eq key (codes "admins") then record d { admins = unwrap_or (texts_of v) d.admins }
    else (if bytes_eq key (codes "skins") then record d { skins = unwrap_or (texts_of v) d.skins }
    else (if bytes_eq key (codes "limit") then record d { limit = unwrap_or (number_of 200 4000 v) d.limit }
    else (if bytes_eq key (codes "storeVersion") then record d { store_version = unwrap_or (number_of 0 1000000 v) d.store_version } else d)))

-- a draft with a table of the file
abbrev pub table_taken : Draft → List ℕ → Members → Draft
table_taken d key ms =
    if bytes_eq key (codes "files") then record d { files = files_of ms }
    else (if bytes_eq key (codes "modules") then record d { modules = modules_of ms }
    else (if bytes_eq key (codes "wiki") then wiki_with d ms else d))
