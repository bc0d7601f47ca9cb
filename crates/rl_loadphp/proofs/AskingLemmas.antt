-- What is answered is made for the query that the bytes spell.
use Rattle.std.proofs.Common.{◌≡◌, ℕ, Bool, true, false, cond, List, Result, Ok, Err, IfOk, sym, subst, ap, ◌∙◌}
use Rattle.std.specs.Prelude.{length, nat_lt}
use Rattle.std.specs.List.{AllByRecursion}
use Rattle.rl_names.specs.Meant.{Gives}
use Rattle.rl_names.specs.Limits.{limit_of}
use Rattle.rl_names.specs.Packing.{expand}
use Rattle.rl_names.specs.Query.{query_of}
use Rattle.rl_names.specs.declared.counted.Counted.TheVariants.{QueryBytes, Names, AnswerBytes}
use Rattle.rl_names.specs.declared.query.Query.{Query}
use Rattle.rl_names.specs.declared.query.Only.{Only}
use Rattle.rl_names.specs.declared.query.Only.TheVariants.{All}
use Rattle.rl_wire.specs.Line.{wire_text, IsPart}
use Rattle.rl_wire.specs.Reading.{answer_of as parts_said}
use Rattle.rl_wire.proofs.LinesLemmas.{answers_say_parts}
use Rattle.rl_build.specs.Sight.{Sight}
use Rattle.rl_loadphp.specs.declared.answers.Answer.{Answer}
use Rattle.rl_loadphp.specs.declared.answers.AnswerError.{AnswerError}
use Rattle.rl_loadphp.specs.Answer.{answer_of, answer_to, answered, asked, sent}
use Rattle.rl_loadphp.specs.Refusal.{Refusal, QueryTooLong, TooManyNames, AnswerTooLong, refusal_told}
use Rattle.rl_loadphp.specs.Served.{missing, query_context, served}
use Rattle.rl_loadphp.specs.Body.{body_of, parts_of}
use Rattle.rl_loadphp.specs.Sent.{IsMadeOfPieces, SaysParts}
use Rattle.rl_loadphp.proofs.PiecesLemmas.{body_made}

-- what is left of two tests that refuse
unrefused : (long many : Bool) (e f : Refusal) (q r : Query) → cond long (Err e) (cond many (Err f) (Ok q)) ≡ Ok r → r ≡ q
unrefused true many e f q r is = absurd (cc)
unrefused false true e f q r is = absurd (cc)
unrefused false false e f q r is = cc

asked_is : (bytes : List ℕ) (q : Query) → asked bytes ≡ Ok q → q ≡ query_of bytes
asked_is bytes q is =
    let count = length (expand (query_of bytes).modules) in
    unrefused (nat_lt (limit_of QueryBytes) (length bytes)) (nat_lt (limit_of Names) count) (QueryTooLong (length bytes)) (TooManyNames count) (query_of bytes)
    q is

unsent : (long : Bool) (e : Refusal) (a b : Answer) → cond long (Err e) (Ok a) ≡ Ok b → b ≡ a
unsent true e a b is = absurd (cc)
unsent false e a b is = cc

pub answer_made : (s : Sight) (bytes : List ℕ) (q : Query) (made : Answer) (r : Result Answer AnswerError) → asked bytes ≡ Ok q
    → made ≡ answer_to s q → Gives refusal_told r (sent made) → IfOk r (λ (a : Answer). IsMadeOfPieces s (query_of bytes) a.body)
answer_made s bytes q made (Err e) is is_made gives = tt
answer_made s bytes q made (Ok a) is is_made gives =
    let whole : a ≡ answer_to s q = unsent (nat_lt (limit_of AnswerBytes) (length made.body)) (AnswerTooLong (length made.body)) made a gives ∙ is_made in
    let P : Answer → Type 0 = λ x. IsMadeOfPieces s q x.body in
    let Q : Query → Type 0 = λ x. IsMadeOfPieces s x a.body in
    subst Q (asked_is bytes q is) (subst P (sym whole) (body_made s q q.only))

-- a body for everything is the text of the parts that are said
says : (s : Sight) (q : Query) (a : Answer) → a ≡ answer_to s q
    → (q.only ≡ All → AllByRecursion IsPart (parts_of s (query_context s.catalogue q) (served s q) (missing s q))) → SaysParts q a.body
says s q a is parts all =
    let said = parts_of s (query_context s.catalogue q) (served s q) (missing s q) in
    let body : a.body ≡ wire_text said =
    ap (λ (x : Answer). x.body) is ∙ ap (λ (o : Only). body_of s (query_context s.catalogue q) o (served s q) (missing s q)) all in
    (said, parts all, body, ap parts_said body ∙ answers_say_parts.written said (parts all))

pub answer_says : (s : Sight) (bytes : List ℕ) (q : Query) (made : Answer) (r : Result Answer AnswerError) → asked bytes ≡ Ok q
    → made ≡ answer_to s q → (q.only ≡ All → AllByRecursion IsPart (parts_of s (query_context s.catalogue q) (served s q) (missing s q)))
    → Gives refusal_told r (sent made) → IfOk r (λ (a : Answer). SaysParts (query_of bytes) a.body)
answer_says s bytes q made (Err e) is is_made parts gives = tt
answer_says s bytes q made (Ok a) is is_made parts gives =
    let whole : a ≡ answer_to s q = unsent (nat_lt (limit_of AnswerBytes) (length made.body)) (AnswerTooLong (length made.body)) made a gives ∙ is_made in
    let Q : Query → Type 0 = λ x. SaysParts x a.body in
    subst Q (asked_is bytes q is) (says s q a whole parts)

pub answer_gives : (s : Sight) (bytes : List ℕ) (q : Query) (made : Answer) (r : Result Answer AnswerError) → asked bytes ≡ Ok q
    → made ≡ answer_to s q → Gives refusal_told r (sent made) → Gives refusal_told r (answer_of s bytes)
answer_gives s bytes q made r is is_made gives =
    let P : Answer → Type 0 = λ x. Gives refusal_told r (sent x) in
    let Q : Result Query Refusal → Type 0 = λ x. Gives refusal_told r (answered s x) in
    subst Q (sym is) (subst P is_made gives)
