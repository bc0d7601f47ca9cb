-- How many there may be of what a limit counts, and the unit that a count is told in.
use Rattle.std.specs.Prelude.{ℕ, List, codes}
use Rattle.rl_names.specs.declared.counted.Counted.{Counted}
use Rattle.rl_names.specs.declared.counted.Counted.TheVariants as counted
use Rattle.rl_names.specs.declared.counted.TheConstants as limits

abbrev pub limit_of : Counted → ℕ
limit_of counted.FileBytes = limits.MAX_FILE_BYTES
limit_of counted.Modules = limits.MAX_MODULES
limit_of counted.ListedBytes = limits.MAX_LISTED_BYTES
limit_of counted.Rows = limits.MAX_ROWS
limit_of counted.Dependencies = limits.MAX_DEPENDENCIES
limit_of counted.Steps = limits.MAX_STEPS
limit_of counted.Answers = limits.MAX_ANSWERS
limit_of counted.QueryBytes = limits.MAX_QUERY_BYTES
limit_of counted.Names = limits.MAX_NAMES
limit_of counted.AnswerBytes = limits.MAX_ANSWER_BYTES

abbrev pub unit_of : Counted → List ℕ
unit_of counted.FileBytes = codes "bytes at least"
unit_of counted.Modules = codes "modules"
unit_of counted.ListedBytes = codes "bytes in the files that modules list"
unit_of counted.Rows = codes "rows"
unit_of counted.Dependencies = codes "dependencies in one list"
unit_of counted.Steps = codes "steps at least"
unit_of counted.Answers = codes "bytes of kept answers"
unit_of counted.QueryBytes = codes "bytes in the query"
unit_of counted.Names = codes "names in the query"
unit_of counted.AnswerBytes = codes "bytes in the answer"
