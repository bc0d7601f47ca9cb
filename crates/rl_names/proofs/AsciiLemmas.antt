-- Names and versions are ASCII.
use Rattle.std.proofs.Common.{◌≡◌, ℕ, ◌<◌, Bool, true, List, [], ◌∷◌, IsTrue, arith}
use Rattle.std.specs.List.{list_all}
use Rattle.std.specs.Str.{IsAscii}
use Rattle.std.proofs.lemmas.Bool.{and_parts}
use Rattle.std.proofs.lemmas.Str.Ascii.{IsAscii-nil, IsAscii-cons}
use Rattle.rl_names.specs.Name.{is_name, is_name_byte, is_version, is_version_byte}

all_ascii : (p : ℕ → Bool) → ((b : ℕ) → p b ≡ true → b < 128) → (bs : List ℕ) → list_all p bs ≡ true → IsAscii bs
all_ascii p low [] h = IsAscii-nil
all_ascii p low (b ∷ bs) h =
    let parts = and_parts (p b) (list_all p bs) h in
    IsAscii-cons b bs (low b parts.0) (all_ascii p low bs parts.1)

pub name_bytes_ascii : (bs : List ℕ) → list_all is_name_byte bs ≡ true → IsAscii bs
name_bytes_ascii = all_ascii is_name_byte (λ b h. grind arith)

pub name_ascii : (bs : List ℕ) → IsTrue (is_name bs) → IsAscii bs
name_ascii bs h = name_bytes_ascii bs (grind arith)

pub version_ascii : (bs : List ℕ) → IsTrue (is_version bs) → IsAscii bs
version_ascii bs h = all_ascii is_version_byte (λ b k. grind arith) bs (grind arith)
