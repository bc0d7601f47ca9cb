use Rattle.std.proofs.Common.{◌≡◌, ◌≤◌, ◌*◌, take, length}
use Rattle.std.specs.Prelude.{flat_map}
use Rattle.form_urlencoded.specs.Form.{serialize_byte}
use Rattle.rl_names.proofs.query.encoded_len_of.Given as goal

abbrev pub invariant-loop-byte : goal.invariant-loop-byte
invariant-loop-byte l = record {
  exact : l.len ≡ length (flat_map serialize_byte (take l.byte-index l.bytes));
  most : l.len ≤ 3 * l.byte-index;
}
