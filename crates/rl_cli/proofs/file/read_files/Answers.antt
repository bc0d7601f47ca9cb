use Rattle.std.proofs.Common.{◌∙◌, rules, arith}
use Rattle.std.proofs.lemmas.Result.{err_from_is_err_and}
use Rattle.std.proofs.lemmas.Grind.{common_steps}
use Rattle.rl_cli.specs.Words.{texts}
use Rattle.rl_cli.proofs.FilesLemmas.{are_pushed, stops_named}
use Rattle.rl_cli.proofs.file.read_files.Goals as goal

pub returns-in_err-bytes-clause-stops : goal.returns-in_err-bytes-clause-stops
returns-in_err-bytes-clause-stops g c =
    let p = err_from_is_err_and c.from_residual.result c.from_residual.ensures.1 in
    rw (p.1, p.2)
    (stops_named (g.T.Tree.faults c.args.tree.now) (g.T.Tree.faults c.loop-place.tree) (g.T.Tree.faults c.read_file.new.tree)
    (g.T.Tree.blamed c.read_file.new.tree) (g.T.Tree.files c.args.tree.now)
    (g.T.Tree.files c.loop-place.tree) (texts c.args.words.now) c.args.places.now c.loop-place.all.items c.loop-place.place-index c.word_at.result.now
    c.in_err-bytes.field-0.0 (search rules)
    c.loop-place.invariant.later c.loop-place.invariant.files c.word_at.ensures c.loop-place.invariant.are c.in_err-bytes.ensures.stops)

pub loop-place-preserved : goal.loop-place-preserved
loop-place-preserved g c = record {
  files = c.in_ok-bytes.ensures.files_stay ∙ c.loop-place.invariant.files;
  later = search rules;
  count = grind (arith, common_steps);
  are = are_pushed (g.T.Tree.files c.args.tree.now) (g.T.Tree.files c.loop-place.tree) (texts c.args.words.now) c.args.places.now c.loop-place.all.items
      c.push.new.self.items c.loop-place.place-index
      c.word_at.result.now c.in_ok-bytes.bytes (search rules) c.loop-place.invariant.files c.word_at.ensures (search rules) c.loop-place.invariant.are
      c.in_ok-bytes.ensures.file;
}
