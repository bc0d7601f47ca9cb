-- A result is what is meant, but for want of memory.
--
-- What is meant knows no want of memory, and no refusal that it has is that one. So each crate says of its errors which
-- refusal they are: `plain` tells the refusal of an error, and none for want of memory.
use Rattle.std.specs.Prelude.{◌≡◌, Option, Some, None, Result, Ok, Err}

-- the value is one that fits, or the refusal is one that fits; only want of memory may come in place of both
abbrev pub ButForMemory : {V E R : Type 0} → (E → Option R) → (V → Type 0) → (R → Type 0) → Result V E → Type 0
ButForMemory plain Fits Refuses (Ok value) = Fits value
ButForMemory {R} plain Fits Refuses (Err error) = (refusal : R) → plain error ≡ Some refusal → Refuses refusal

-- a call gives the value that is meant, or the refusal that is meant
abbrev pub Gives : {V E R : Type 0} → (E → Option R) → Result V E → Result V R → Type 0
Gives plain result meant = ButForMemory plain (λ value. meant ≡ Ok value) (λ refusal. meant ≡ Err refusal) result

-- a reading gives the value that is spelt, or refuses where none is
abbrev pub Reads : {V E R : Type 0} → (E → Option R) → Result V E → Option V → Type 0
Reads plain result spelt = ButForMemory plain (λ value. spelt ≡ Some value) (λ _. spelt ≡ None) result

-- a check passes where there is nothing to refuse, or tells what there is
abbrev pub Checks : {E R : Type 0} → (E → Option R) → Result (Unit {0}) E → Option R → Type 0
Checks plain result found = ButForMemory plain (λ _. found ≡ None) (λ refusal. found ≡ Some refusal) result
