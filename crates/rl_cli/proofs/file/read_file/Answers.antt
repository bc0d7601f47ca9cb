use Rattle.std.proofs.Common.{refl, rules}
use Rattle.rl_names.specs.declared.counted.TheConstants as limits
use Rattle.rl_cli.proofs.FetchedLemmas.{fetched_long, fetched_whole}
use Rattle.rl_cli.proofs.file.read_file.Goals as goal

pub returns-in-Ok-clause-stops : goal.returns-in-Ok-clause-stops
returns-in-Ok-clause-stops g c =
    (refl, fetched_long (g.T.Tree.files c.args.tree.now) c.args.name.now c.in-Ok.bytes limits.MAX_FILE_BYTES c.in-Ok.ensures.front (search rules))

pub returns-in-Ok-2-clause-file : goal.returns-in-Ok-2-clause-file
returns-in-Ok-2-clause-file g c =
    (search rules, fetched_whole (g.T.Tree.files c.args.tree.now) c.args.name.now c.in-Ok.bytes limits.MAX_FILE_BYTES c.in-Ok.ensures.front (search rules))
