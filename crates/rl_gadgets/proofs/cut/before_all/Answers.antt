use Rattle.rl_gadgets.proofs.CutLemmas.{before_is}
use Rattle.rl_gadgets.proofs.cut.before_all.Goals as goal

pub returns : goal.returns
returns c = before_is c.args.mark c.args.text.now _ c.requires c.trim_end_matches.ensures.matches
