use Rattle.std.proofs.Common.{lit<}
use Rattle.std.proofs.lemmas.Str.Pattern.{strip_suffix_char}
use Rattle.rl_gadgets.proofs.CutLemmas.{return_dropped}
use Rattle.rl_gadgets.proofs.cut.without_return.Goals as goal

pub returns : goal.returns
returns c = rw c.unwrap_or.ensures (return_dropped c.args.line c.strip_suffix.result
    (strip_suffix_char 13 c.args.line.now c.strip_suffix.result c.strip_suffix.ensures.cases (lit< tt)))
