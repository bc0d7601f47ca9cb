-- The hash that versions are made by: FNV-1 of 32 bits, and of its number in base 36 the first five digits.
use Rattle.std.specs.Prelude.{ℕ, ◌*◌, ◌-◌, ◌%◌, ◌^◌, false, List, ◌++◌, take, length, replicate, fold}
use Rattle.std.specs.Prelude.{bit_xor}
use Rattle.std.specs.List.{flat_map}
use Rattle.std.specs.Fmt.{digits}

-- for each byte the hash is multiplied by the prime, and then the byte is exclusive-ored in
abbrev pub fnv_step : ℕ → ℕ → ℕ
fnv_step hash byte = bit_xor (hash * 0x01000193 % 2 ^ 32) byte

abbrev pub fnv : List ℕ → ℕ
fnv bytes = fold fnv_step 0x811C9DC5 bytes

-- the digits of n in base 36, `0` to `9` and then `a` to `z`
abbrev pub base_36 : ℕ → List ℕ
base_36 n = digits 36 false n

-- at least `count` digits: where there are fewer, zeros stand in front
abbrev pub padded : ℕ → List ℕ → List ℕ
padded count text = replicate (count - length text) 48 ++ text

-- the first five digits
unfoldable pub version_of_hash : ℕ → List ℕ
version_of_hash n = take 5 (padded 5 (base_36 n))

abbrev pub hash_5 : List ℕ → List ℕ
hash_5 bytes = version_of_hash (fnv bytes)

-- the version of several versions together: the hash of their texts with nothing between
abbrev pub combined : List (List ℕ) → List ℕ
combined versions = hash_5 (flat_map (λ version. version) versions)
