use Rattle.std.proofs.Common.{◌≡◌, ℕ, List, ◌++◌}
use Rattle.std.specs.Fmt.{HasWritten, IsPlainFormatter}
use Rattle.std.specs.Str.{IsUtf8, chars}
use Rattle.std.specs.Str.Iter.{chars_rest}
use Rattle.rl_cli.specs.Spelt.{spelt_within}
use Rattle.rl_cli.proofs.spelt.write_within.Given as goal

abbrev pub invariant-loop-c : goal.invariant-loop-c
invariant-loop-c g l = record {
  can : (goal.iterator-loop-c g).can_next l.c-iterator;
  finite : (goal.iterator-loop-c g).is_finite l.c-iterator;
  utf8 : IsUtf8 (chars_rest l.c-iterator);
  told : IsPlainFormatter l.initial.f → (bs : List ℕ) × HasWritten g.W.Write.write_str_gives l.initial.f bs l.f
      × (bs ++ spelt_within l.room (chars (chars_rest l.c-iterator)) ≡ spelt_within 200 (chars l.text));
}
