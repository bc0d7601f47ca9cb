use Rattle.std.proofs.Common.{◌≤◌, ◌≡◌, ℕ, List, length, ap, arith}
use Rattle.std.specs.Prelude.{IsTrue}
use Rattle.rl_names.specs.Name.{is_name}
use Rattle.rl_names.specs.Packing.{suffix_of}
use Rattle.rl_batch.proofs.CutsLemmas.{name_short, suffix_short}
use Rattle.rl_batch.proofs.filling.added_len.Goals as goal

short : (name text suffix bytes : List ℕ) → IsTrue (is_name name) → text ≡ name → suffix ≡ suffix_of text → bytes ≡ suffix
    → length bytes ≤ 255
short name text suffix bytes h t s b =
    let n = name_short name h in
    let most = suffix_short text in
    let x = ap length t in
    let y = ap length s in
    let z = ap length b in
    omega (arith, n, most, x, y, z)

pub encoded_len_of-requires : goal.encoded_len_of-requires
encoded_len_of-requires c =
    let most = short c.args.name.now c.as_str.result.now c.cut.result.1.now c.as_bytes.result.now c.as_bytes-bytes.ensures.name c.as_str.ensures
    c.cut.ensures.suffix c.as_bytes.ensures.value in
    omega (arith, most)

pub overflow_add-result : goal.overflow_add-result
overflow_add-result c =
    let most = short c.args.name.now c.as_str.result.now c.cut.result.1.now c.as_bytes.result.now c.as_bytes-bytes.ensures.name c.as_str.ensures
    c.cut.ensures.suffix c.as_bytes.ensures.value in
    let len = c.encoded_len_of.ensures.most in
    omega (arith, most, len)

pub returns-then-contains-clause-most : goal.returns-then-contains-clause-most
returns-then-contains-clause-most c =
    let most = short c.args.name.now c.as_str.result.now c.cut.result.1.now c.as_bytes.result.now c.as_bytes-bytes.ensures.name c.as_str.ensures
    c.cut.ensures.suffix c.as_bytes.ensures.value in
    let len = c.encoded_len_of.ensures.most in
    omega (arith, most, len)
