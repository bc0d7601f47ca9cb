use Rattle.std.proofs.Common.{◌++◌, append_assoc, ◌∙◌, rules}
use Rattle.std.proofs.Output.{has_written_append, has_written_of_eq}
use Rattle.std.proofs.lemmas.Str.{IsUtf8-past_char}
use Rattle.std.specs.Str.{chars}
use Rattle.std.specs.Str.Iter.{chars_rest}
use Rattle.rl_cli.specs.Spelt.{spelt_char, spelt_within}
use Rattle.rl_cli.proofs.SpeltLemmas.{shown_all, shown_cut, shown_next}
use Rattle.rl_cli.proofs.spelt.write_within.Goals as goal

pub loop-c-preserved : goal.loop-c-preserved
loop-c-preserved g c = record {
  can = tt;
  finite = tt;
  utf8 = IsUtf8-past_char (chars_rest c.loop-c.c-iterator) (chars_rest c.next.new.self) c.in-Some.c c.loop-c.invariant.utf8 c.in-Some.ensures.steps.0;
  told = λ plain.
      let so_far = c.loop-c.invariant.told plain in (
        so_far.0 ++ spelt_char c.in-Some.c,
        has_written_append _ _ _ _ _ _ so_far.1 (search rules),
        append_assoc so_far.0 _ _
            ∙ shown_next so_far.0 (spelt_within 200 (chars c.args.text.now)) c.loop-c.room c.len_utf8-len.result c.in-Some.c (chars_rest c.loop-c.c-iterator)
            (chars_rest c.next.new.self)
            c.loop-c.invariant.utf8 c.in-Some.ensures.steps.0 c.len_utf8-len.ensures.value (search rules) so_far.2,
      );
}

pub returns-then-len-room : goal.returns-then-len-room
returns-then-len-room g c = λ plain ok.
    let so_far = c.loop-c.invariant.told plain in
    has_written_of_eq _ _ _ _ _
    (shown_cut so_far.0 (spelt_within 200 (chars c.args.text.now)) c.loop-c.room c.len_utf8-len.result c.in-Some.c (chars_rest c.loop-c.c-iterator)
    (chars_rest c.next.new.self)
    c.loop-c.invariant.utf8 c.in-Some.ensures.steps.0 c.len_utf8-len.ensures.value (search rules) so_far.2)
    (has_written_append _ _ _ _ _ _ so_far.1 (search rules))

pub returns : goal.returns
returns g c = λ plain ok.
    let so_far = c.loop-c.invariant.told plain in
    has_written_of_eq _ _ _ _ _ (shown_all so_far.0 (spelt_within 200 (chars c.args.text.now)) c.loop-c.room (chars_rest c.loop-c.c-iterator)
    c.in-None.ensures.steps.0.0 so_far.2) so_far.1
