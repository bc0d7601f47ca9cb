-- The rules that refused input breaks: their numbers and what they say.
use Rattle.std.specs.Prelude.{ℕ, ◌==◌, List, ◌∷◌, [], Option, codes}
use Rattle.std.specs.List.{find}
use Rattle.rl_names.specs.declared.rule.Rule.{Rule}
use Rattle.rl_names.specs.declared.rule.Rule.TheVariants as rules

abbrev pub number_of : Rule → ℕ
number_of rules.Grammar = 1
number_of rules.WrongStep = 2
number_of rules.OutOfPlace = 3
number_of rules.NotUtf8 = 4
number_of rules.NotToml = 11
number_of rules.UnknownField = 12
number_of rules.BadName = 13
number_of rules.BadDependency = 14
number_of rules.NoFile = 15
number_of rules.BadChain = 16
number_of rules.BadSource = 18
number_of rules.Duplicate = 22
number_of rules.BadIndex = 23
number_of rules.BadStartup = 31
number_of rules.BadEmbedded = 32

abbrev pub sentence_of : Rule → List ℕ
sentence_of rules.Grammar = codes "not a line of the grammar"
sentence_of rules.WrongStep = codes "a step that this command does not take"
sentence_of rules.OutOfPlace = codes "a line out of its place"
sentence_of rules.NotUtf8 = codes "not UTF-8"
sentence_of rules.NotToml = codes "not TOML"
sentence_of rules.UnknownField = codes "a table, key or value that definitions do not have"
sentence_of rules.BadName = codes "a name that breaks its rule"
sentence_of rules.BadDependency = codes "a dependency that no module has as its name"
sentence_of rules.NoFile = codes "a listed file that is not among the files"
sentence_of rules.BadChain = codes "a language with a bad chain of fallbacks"
sentence_of rules.BadSource = codes "a source that is not declared"
sentence_of rules.Duplicate = codes "a name that stands twice"
sentence_of rules.BadIndex = codes "a dependency on a row that is not there"
sentence_of rules.BadStartup = codes "not a startup text"
sentence_of rules.BadEmbedded = codes "not an answer to embed"

abbrev pub all_rules : List Rule
all_rules = rules.Grammar ∷ rules.WrongStep ∷ rules.OutOfPlace ∷ rules.NotUtf8 ∷ rules.NotToml ∷ rules.UnknownField ∷ rules.BadName
    ∷ rules.BadDependency ∷ rules.NoFile ∷ rules.BadChain ∷ rules.BadSource ∷ rules.Duplicate ∷ rules.BadIndex ∷ rules.BadStartup
    ∷ rules.BadEmbedded ∷ []

-- the rule that has this number
abbrev pub rule_of : ℕ → Option Rule
rule_of number = find (λ rule. number_of rule == number) all_rules
