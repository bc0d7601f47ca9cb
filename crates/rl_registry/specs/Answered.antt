-- What a registry answers.
use Rattle.std.specs.Prelude.{◌≡◌, ℕ, List, Option, Some, None, Result, Vec}
use Rattle.std.specs.declared.alloc.Global.{Global}
use Rattle.rl_names.specs.declared.row.Row.{Row}
use Rattle.rl_names.specs.Meant.{ButForMemory}
use Rattle.rl_view_spec.specs.Breach.{breach_of}
use Rattle.rl_view_spec.specs.Breach as breach
use Rattle.rl_view_spec.specs.Closure.{Text, Registered, Refusal, Unknown, Cycle, refusal_of}
use Rattle.rl_view_spec.specs.Numbers.{closure_numbers}
use Rattle.rl_registry.specs.declared.error.RegistryError.{RegistryError}
use Rattle.rl_registry.specs.declared.error.RegistryError.TheVariants as bad
use Rattle.rl_registry.specs.declared.error.ResolveError.{ResolveError}
use Rattle.rl_registry.specs.declared.error.ResolveError.TheVariants as unresolved

-- the breach that an error tells; want of memory tells none
abbrev pub breach_told : RegistryError → Option breach.Breach
breach_told (bad.TooMany what count) = Some (breach.TooMany what count)
breach_told (bad.Duplicate name) = Some (breach.Duplicate name)
breach_told (bad.BadIndex row index) = Some (breach.BadIndex row index)
breach_told bad.NoMemory = None

-- a registry of the rows and features, or the breach of the rows
abbrev pub Registers : Result Registered RegistryError → List Row → List Text → Type 0
Registers result rows features =
    ButForMemory breach_told (λ r. (breach_of rows ≡ None) × (r ≡ record { rows = rows; features = features })) (λ found. breach_of rows ≡ Some found) result

-- the refusal that an error tells; want of memory tells none
abbrev pub refusal_told : ResolveError → Option Refusal
refusal_told (unresolved.Unknown name) = Some (Unknown name)
refusal_told (unresolved.Cycle name) = Some (Cycle name)
refusal_told unresolved.NoMemory = None

-- the rows of the closures, in row order, or why the request is refused
abbrev pub Resolution : Result (Vec ℕ Global) ResolveError → Registered → List Text → Type 0
Resolution result r names =
    ButForMemory refusal_told (λ rows. (refusal_of r names ≡ None) × (rows.items ≡ closure_numbers r names)) (λ refusal. refusal_of r names ≡ Some refusal) result
