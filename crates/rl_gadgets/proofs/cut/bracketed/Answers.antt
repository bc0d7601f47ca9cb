use Rattle.std.proofs.Common.{sym, lit<, None}
use Rattle.std.proofs.lemmas.Str.Pattern.{strip_prefix_char}
use Rattle.rl_gadgets.proofs.CutLemmas.{unbracketed}
use Rattle.rl_gadgets.proofs.cut.bracketed.Goals as goal

pub returns-in-None : goal.returns-in-None
returns-in-None c = sym (unbracketed c.args.text.now (strip_prefix_char 91 c.args.text.now None c.in-None.ensures.cases (lit< tt)))
