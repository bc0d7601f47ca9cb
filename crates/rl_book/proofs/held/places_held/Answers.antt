use Rattle.rl_book.specs.Held.{AreNamed, NamesStored}
use Rattle.rl_book.specs.Opens.{opening_of}
use Rattle.rl_book.proofs.HeldLemmas.{named_alike}
use Rattle.rl_book.proofs.TellingLemmas.{if_ok}
use Rattle.rl_book.proofs.held.places_held.Goals as goal

pub returns-clause-named : goal.returns-clause-named
returns-clause-named c =
    if_ok (λ places. NamesStored c.args.parts.now c.args.plan.now.base.debug c.args.store.now.pairs c.args.registry.now.rows)
    (λ places. AreNamed (opening_of c.args.plan.now c.args.registry.now.rows c.args.parts.now c.args.store.now.pairs)) c.places_for.result
    (λ places names. named_alike c.args.plan.now c.args.registry.now.rows c.args.parts.now c.args.store.now.pairs names) c.places_for.ensures.named
