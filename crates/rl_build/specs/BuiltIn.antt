-- The modules that every wiki has.
use Rattle.std.specs.Prelude.{ℕ, List, [], ◌∷◌, find, bytes_eq, codes, Option}
use Rattle.rl_build.specs.declared.built_in.BuiltIn.{BuiltIn}
use Rattle.rl_build.specs.declared.built_in.BuiltIn.TheVariants.{Site, SiteStyles, User, UserOptions, UserStyles}

-- in byte order of their names
unfoldable pub built_ins : List BuiltIn
built_ins = Site ∷ SiteStyles ∷ User ∷ UserOptions ∷ UserStyles ∷ []

abbrev pub built_in_name : BuiltIn → List ℕ
built_in_name Site = codes "site"
built_in_name SiteStyles = codes "site.styles"
built_in_name User = codes "user"
built_in_name UserOptions = codes "user.options"
built_in_name UserStyles = codes "user.styles"

-- the built-in module of this name
abbrev pub built_in_named : List ℕ → Option BuiltIn
built_in_named name = find (λ b. bytes_eq (built_in_name b) name) built_ins

-- what is a user's own is in the group `user`, and the options, which go with the page itself, are private
abbrev pub built_in_group : BuiltIn → List ℕ
built_in_group Site = []
built_in_group SiteStyles = codes "site"
built_in_group User = codes "user"
built_in_group UserOptions = codes "private"
built_in_group UserStyles = codes "user"

-- the scripts of the site need its styles; the others need nothing
abbrev pub built_in_needs : BuiltIn → List (List ℕ)
built_in_needs Site = codes "site.styles" ∷ []
built_in_needs SiteStyles = []
built_in_needs User = []
built_in_needs UserOptions = []
built_in_needs UserStyles = []
