-- What the first bytes of a file say of the whole.
use Rattle.std.proofs.Common.{◌≡◌, ℕ, ◌+◌, ◌<◌, ◌≤◌, List, length, take, Option, Some, None, ap, arith}
use Rattle.std.specs.Prelude.{option_map, IfSome, IsSomeAnd}
use Rattle.std.specs.FinMap as map
use Rattle.std.proofs.lemmas.Grind.{common_steps}
use Rattle.rl_base.specs.Files.{Files, IsFrontOf}

taken_long : (o : Option (List ℕ)) (b : List ℕ) (m : ℕ) → option_map (take (m + 1)) o ≡ Some b → m < length b →
    IsSomeAnd o (λ file. m < length file)
taken_long None b m e h = cc
taken_long (Some f) b m e h = let e' : take (m + 1) f ≡ b = cc in grind (arith, common_steps, ap length e')

taken_whole : (o : Option (List ℕ)) (b : List ℕ) (m : ℕ) → option_map (take (m + 1)) o ≡ Some b → length b ≤ m → o ≡ Some b
taken_whole None b m e h = cc
taken_whole (Some f) b m e h =
    let e' : take (m + 1) f ≡ b = cc in
    let short : length f ≤ m + 1 = grind (arith, common_steps, ap length e') in
    ap Some (whole f b (m + 1) short e')
  where
    whole : (f b : List ℕ) (n : ℕ) → length f ≤ n → take n f ≡ b → f ≡ b
    whole f b n short e = grind (arith, common_steps)

-- more bytes came than the limit, so the file is longer
pub fetched_long : (told : Option Files) (name b : List ℕ) (m : ℕ) → IsFrontOf told name (m + 1) b → m < length b →
    IfSome told (λ files. IsSomeAnd (map.get files name) (λ file. m < length file))
fetched_long None name b m f h = tt
fetched_long (Some files) name b m f h = taken_long (map.get files name) b m f h

-- no more bytes came than the limit, so they are the whole file
pub fetched_whole : (told : Option Files) (name b : List ℕ) (m : ℕ) → IsFrontOf told name (m + 1) b → length b ≤ m →
    IfSome told (λ files. map.get files name ≡ Some b)
fetched_whole None name b m f h = tt
fetched_whole (Some files) name b m f h = taken_whole (map.get files name) b m f h
