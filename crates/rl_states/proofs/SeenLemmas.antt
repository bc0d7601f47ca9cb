-- What a table sees of its cells after a write, and after rows were spoiled.
use Rattle.std.proofs.Common.{◌≡◌, ◌<◌, ℕ, List, [], ◌∷◌, Bool, length, sym, subst, ◌∙◌, ap}
use Rattle.rl_graph.specs.Graph.{IsWithin}
use Rattle.rl_graph.specs.Marks.{IsClosed, Spreads}
use Rattle.rl_states.specs.declared.standing.Standing.{Standing}
use Rattle.rl_states.specs.Cells.{Seen}

module _ (old mid : Seen) (standings : List Standing) (wrote : mid ≡ record old { standings = standings }) where
  pub seen_long : length old.spoiled ≡ length old.users → length mid.spoiled ≡ length mid.users
  seen_long h = subst (λ (s : Seen). length s.spoiled ≡ length s.users) (sym wrote) h

  pub seen_low : (row : ℕ) → row < length old.spoiled → row < length mid.spoiled
  seen_low row h = subst (λ (s : Seen). row < length s.spoiled) (sym wrote) h

  pub seen_within : IsWithin old.users → IsWithin mid.users
  seen_within h = subst (λ (s : Seen). IsWithin s.users) (sym wrote) h

  pub seen_closed : IsClosed old.users old.spoiled → IsClosed mid.users mid.spoiled
  seen_closed h = subst (λ (s : Seen). IsClosed s.users s.spoiled) (sym wrote) h

  pub seen_spreads : (row : ℕ) (marks : List Bool) → Spreads mid.users (row ∷ []) mid.spoiled marks → Spreads old.users (row ∷ []) old.spoiled marks
  seen_spreads row marks h = subst (λ (s : Seen). Spreads s.users (row ∷ []) s.spoiled marks) wrote h

  pub seen_marks : (marks : List Bool) → length marks ≡ length mid.spoiled → length marks ≡ length old.spoiled
  seen_marks marks h = h ∙ ap (λ (s : Seen). length s.spoiled) wrote

  -- what was written stands, and the users
  pub seen_spoiled : (new : Seen) → new ≡ record mid { spoiled = new.spoiled } →
      new ≡ record { standings = standings; users = old.users; spoiled = new.spoiled }
  seen_spoiled new h = h ∙ ap (λ (s : Seen). record s { spoiled = new.spoiled }) wrote
