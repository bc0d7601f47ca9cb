-- How errors of crates below are told.
use Rattle.rl_registry.specs.declared.error.RegistryError.{RegistryError}
use Rattle.rl_registry.specs.declared.error.RegistryError.TheVariants as unregistered
use Rattle.rl_book.specs.declared.error.OpenError.{OpenError}
use Rattle.rl_book.specs.declared.error.OpenError.TheVariants as bad

abbrev pub of_registry : RegistryError → OpenError
of_registry (unregistered.TooMany what count) = bad.TooMany what count
of_registry (unregistered.Duplicate name) = bad.Duplicate name
of_registry (unregistered.BadIndex row index) = bad.BadIndex row index
of_registry unregistered.NoMemory = bad.NoMemory
