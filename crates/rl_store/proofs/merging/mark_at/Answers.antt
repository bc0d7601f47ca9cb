use Rattle.rl_names.specs.Name.{key_text}
use Rattle.rl_store.proofs.MarksLemmas.{place_marked}
use Rattle.rl_store.proofs.merging.mark_at.Goals as goal

pub returns-in-Some : goal.returns-in-Some
returns-in-Some c = place_marked (key_text c.args.name.now c.args.version.now) c.args.mark c.args.pairs.now c.args.marks.now.items c.requires.long
    c.requires.ascend _ c.in-Some.ensures.place

pub returns-in_default : goal.returns-in_default
returns-in_default c = place_marked (key_text c.args.name.now c.args.version.now) c.args.mark c.args.pairs.now c.args.marks.now.items c.requires.long
    c.requires.ascend _ c.in_default.ensures.place
