-- The answer to a query for modules, or why there is none.
use Rattle.std.specs.Prelude.{ℕ, Bool, ◌&&◌, nat_lt, if◌then◌else◌, List, length, map, bytes_eq, Result, Ok, Err}
use Rattle.rl_names.specs.Limits.{limit_of}
use Rattle.rl_names.specs.declared.counted.Counted.{Counted}
use Rattle.rl_names.specs.declared.counted.Counted.TheVariants.{QueryBytes, Names, AnswerBytes}
use Rattle.rl_names.specs.Hash.{combined}
use Rattle.rl_names.specs.Packing.{expand}
use Rattle.rl_names.specs.declared.query.Query.{Query}
use Rattle.rl_names.specs.declared.query.Only.{Only}
use Rattle.rl_names.specs.declared.query.Only.TheVariants.{All, Scripts, Styles}
use Rattle.rl_names.specs.Query.{query_of}
use Rattle.rl_build.specs.Sight.{Sight}
use Rattle.rl_build.specs.Payload.{version_of}
use Rattle.rl_loadphp.specs.declared.answers.Kind.{Kind}
use Rattle.rl_loadphp.specs.declared.answers.Kind.TheVariants.{Script, Style}
use Rattle.rl_loadphp.specs.declared.answers.Answer.{Answer}
use Rattle.rl_loadphp.specs.Refusal.{Refusal, QueryTooLong, TooManyNames, AnswerTooLong}
use Rattle.rl_loadphp.specs.Served.{query_context, served, missing, payloads}
use Rattle.rl_loadphp.specs.Body.{body_of}

abbrev pub kind_of : Only → Kind
kind_of All = Script
kind_of Scripts = Script
kind_of Styles = Style

-- the versions of what is served, in the order in which it is served
abbrev pub served_versions : Sight → Query → List (List ℕ)
served_versions s q = map version_of (payloads s (query_context s.catalogue q) (served s q))

-- for how many seconds an answer with these versions may be kept: 30 days where the query tells their combined version,
-- and else 5 minutes
abbrev pub age_with : List ℕ → List (List ℕ) → ℕ
age_with told versions = if nat_lt 0 (length told) && bytes_eq told (combined versions) then 2592000 else 300

abbrev pub age_of : Sight → Query → ℕ
age_of s q = age_with q.version (served_versions s q)

-- an answer is private where the query names a user
abbrev pub answer_to : Sight → Query → Answer
answer_to s q = record {
  body = body_of s (query_context s.catalogue q) q.only (served s q) (missing s q);
  kind = kind_of q.only;
  max_age = age_of s q;
  private = nat_lt 0 (length q.user);
}

-- there are more than may be
abbrev pub are_too_many : Counted → ℕ → Bool
are_too_many what count = nat_lt (limit_of what) count

-- the query that bytes spell, where it may be asked: neither its bytes nor the names in it, repeats counted, are too
-- many; of a query with too many bytes nothing else is looked at
abbrev pub asked : List ℕ → Result Query Refusal
asked bytes =
    if are_too_many QueryBytes (length bytes) then Err (QueryTooLong (length bytes))
    else (let q = query_of bytes in let count = length (expand q.modules) in
    if are_too_many Names count then Err (TooManyNames count) else Ok q)

-- an answer is sent where its body is not too long
abbrev pub sent : Answer → Result Answer Refusal
sent a = if are_too_many AnswerBytes (length a.body) then Err (AnswerTooLong (length a.body)) else Ok a

-- the answer to a query that may be asked
abbrev pub answered : Sight → Result Query Refusal → Result Answer Refusal
answered s (Ok q) = sent (answer_to s q)
answered s (Err refusal) = Err refusal

-- the answer to a query's bytes, or why there is none
abbrev pub answer_of : Sight → List ℕ → Result Answer Refusal
answer_of s bytes = answered s (asked bytes)
