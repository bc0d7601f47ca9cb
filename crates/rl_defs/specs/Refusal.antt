-- Why a definitions file is refused. Want of memory is none of these.
use Rattle.std.specs.Prelude.{ℕ, List, Option, Some, None}
use Rattle.rl_names.specs.declared.counted.Counted.{Counted}
use Rattle.rl_names.specs.declared.rule.Rule.{Rule}
use Rattle.rl_names.specs.declared.rule.Rule.TheVariants as rules
use Rattle.rl_defs.specs.declared.error.CatalogError.{CatalogError}
use Rattle.rl_defs.specs.declared.error.CatalogError.TheVariants as errors
use Rattle.rl_defs.specs.declared.error.FieldKind.{FieldKind}

pub data Refusal : Type 0 where
  NotToml : Refusal
  UnknownField : (kind : FieldKind) (owner field : List ℕ) → Refusal
  BadName : (text : List ℕ) → Refusal
  BadDependency : (owner name : List ℕ) → Refusal
  NoFile : (owner file : List ℕ) → Refusal
  BadChain : (language : List ℕ) → Refusal
  TooMany : (what : Counted) (count : ℕ) → Refusal
  BadSource : (owner : List ℕ) → Refusal

-- the refusal that an error tells
abbrev pub refusal_told : CatalogError → Option Refusal
refusal_told errors.NotToml = Some NotToml
refusal_told (errors.UnknownField kind owner field) = Some (UnknownField kind owner field)
refusal_told (errors.BadName text) = Some (BadName text)
refusal_told (errors.BadDependency owner name) = Some (BadDependency owner name)
refusal_told (errors.NoFile owner file) = Some (NoFile owner file)
refusal_told (errors.BadChain language) = Some (BadChain language)
refusal_told (errors.TooMany what count) = Some (TooMany what count)
refusal_told (errors.BadSource owner) = Some (BadSource owner)
refusal_told errors.NoMemory = None

-- the rule that is broken; a count above its limit is told by what is counted, and breaks none that has a number
abbrev pub rule_broken : Refusal → Option Rule
rule_broken NotToml = Some rules.NotToml
rule_broken (UnknownField kind owner field) = Some rules.UnknownField
rule_broken (BadName text) = Some rules.BadName
rule_broken (BadDependency owner name) = Some rules.BadDependency
rule_broken (NoFile owner file) = Some rules.NoFile
rule_broken (BadChain language) = Some rules.BadChain
rule_broken (TooMany what count) = None
rule_broken (BadSource owner) = Some rules.BadSource
