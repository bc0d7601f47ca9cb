use Rattle.std.proofs.Common.{◌≡◌, ◌≤◌, length, take}
use Rattle.rl_cli.specs.Files.{AreFiles}
use Rattle.rl_cli.specs.Words.{names_at, texts}
use Rattle.rl_cli.proofs.file.read_files.Given as goal

abbrev pub invariant-loop-place : goal.invariant-loop-place
invariant-loop-place g l = record {
  files : g.T.Tree.files l.tree ≡ g.T.Tree.files l.fn.tree;
  later : g.T.Tree.faults l.fn.tree ≤ g.T.Tree.faults l.tree;
  count : length l.all.items ≡ l.place-index;
  are : AreFiles (g.T.Tree.files l.fn.tree) (names_at (texts l.words) (take l.place-index l.places)) l.all.items;
}
