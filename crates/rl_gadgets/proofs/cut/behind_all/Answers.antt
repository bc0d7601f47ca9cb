use Rattle.rl_gadgets.proofs.CutLemmas.{behind_is}
use Rattle.rl_gadgets.proofs.cut.behind_all.Goals as goal

pub returns : goal.returns
returns c = behind_is c.args.mark c.args.text.now _ c.requires c.trim_start_matches.ensures.matches
