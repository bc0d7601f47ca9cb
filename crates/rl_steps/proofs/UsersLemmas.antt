-- Users by the rule of user names.
use Rattle.std.proofs.Common.{◌≡◌, [], ◌∷◌, None, refl}
use Rattle.rl_names.specs.Title.{user_name_of}
use Rattle.rl_view_spec.specs.Closure.{Text}
use Rattle.rl_steps.specs.Grammar.{user_of}

-- a text that is not empty and spells no user name is no user
pub no_user : (text : Text) → (text ≡ [] → ⊥) → user_name_of text ≡ None → None ≡ user_of text
no_user [] some none = absurd (some refl)
no_user (b ∷ bs) some none = rw none refl
