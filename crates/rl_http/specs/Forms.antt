-- A form that is posted, and a base that it tells.
use Rattle.std.specs.Prelude.{ℕ, ◌&&◌, ◌^◌, nat_lt, if◌then◌else◌, bytes_eq, List, Option, Some, None}
use Rattle.rl_names.specs.Query.{decoded}
use Rattle.rl_http.specs.Heads.{is_number, number_of}

-- a base is decimal digits of a number below 2^64
abbrev pub base_of : List ℕ → Option ℕ
base_of text = if is_number text && nat_lt (number_of text) (2 ^ 64) then Some (number_of text) else None

-- the value of this pair where it has the name, else what was found before
abbrev pub later_value : List ℕ → List ℕ → List ℕ × List ℕ → List ℕ
later_value name found pair = if bytes_eq (decoded pair.0) name then decoded pair.1 else found
