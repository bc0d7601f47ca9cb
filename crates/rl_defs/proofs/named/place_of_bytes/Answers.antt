use Rattle.std.proofs.Common.{sym}
use Rattle.rl_defs.proofs.SearchLemmas.{no_text_position, no_text_find}
use Rattle.rl_defs.proofs.named.place_of_bytes.Goals as goal

-- no name is what is no text
pub returns-in-Err : goal.returns-in-Err
returns-in-Err g c = record {
  place = sym (no_text_position g.T.Named.name_of c.args.name.now c.args.values.now c.requires.texts c.in-Err.ensures.cases.0);
  found = sym (no_text_find g.T.Named.name_of c.args.name.now c.args.values.now c.requires.texts c.in-Err.ensures.cases.0);
}
