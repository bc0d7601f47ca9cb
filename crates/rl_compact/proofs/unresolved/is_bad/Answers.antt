use Rattle.std.proofs.Common.{refl, inl, inr, sym, ◌∙◌, ⊎_elim}
use Rattle.std.proofs.lemmas.Bool.{both_ways}
use Rattle.std.proofs.lemmas.Result.{IfOk-weaker}
use Rattle.rl_compact.proofs.unresolved.is_bad.Goals as goal

pub returns-then-is_marked : goal.returns-then-is_marked
returns-then-is_marked c = ((λ h. inl (sym c.is_marked.ensures ∙ c.if-is_marked.true)), (λ b. refl))

pub returns : goal.returns
returns c = IfOk-weaker c.leads_back.result _ _
    (λ back h. ((λ t. inr (h.0 t)), (λ b. ⊎_elim (λ m. absurd (both_ways _ (sym c.is_marked.ensures ∙ c.if-is_marked.false) m)) (λ l. h.1 l) b)))
    c.leads_back.ensures
