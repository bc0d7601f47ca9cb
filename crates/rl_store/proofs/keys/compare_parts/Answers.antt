use Rattle.std.proofs.Common.{◌≡◌, ◌∷◌, [], nat_cmp, refl}
use Rattle.std.proofs.lemmas.Iterator.{YieldsList-from_slice}
use Rattle.std.proofs.lemmas.Iterator.Consumers.{YieldsList-from_chain}
use Rattle.std.proofs.lemmas.Iterator.Search.{cmp_from_yields_List}
use Rattle.rl_store.proofs.keys.compare_parts.Goals as goal

pub returns : goal.returns
returns c = cmp_from_yields_List (λ x y. y ≡ x) _ nat_cmp _ c.cmp.ensures.ran
    (YieldsList-from_chain (YieldsList-from_slice c.args.name.now cc) (YieldsList-from_chain (YieldsList-from_slice (64 ∷ []) cc)
    (YieldsList-from_slice c.args.version.now cc) (cc) (cc)) (cc) (cc))
    (λ it e. YieldsList-from_chain (YieldsList-from_slice c.args.other.now cc) (YieldsList-from_chain (YieldsList-from_slice (64 ∷ []) cc)
    (YieldsList-from_slice c.args.other_version.now cc) (cc) (cc)) (cc) (cc))
    (λ x y. refl)
