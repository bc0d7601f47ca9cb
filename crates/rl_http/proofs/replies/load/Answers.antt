use Rattle.std.proofs.Common.{refl}
use Rattle.rl_loadphp.specs.Refusal as loading
use Rattle.rl_http.proofs.RepliesLemmas.{refused_load}
use Rattle.rl_http.proofs.replies.load.Goals as goal

pub returns-in-Err-QueryTooLong : goal.returns-in-Err-QueryTooLong
returns-in-Err-QueryTooLong g c =
    refused_load _ (loading.QueryTooLong c.in-Err-QueryTooLong.field-0-0) c.refused.result
    (c.in-Err-QueryTooLong.ensures.answer (loading.QueryTooLong c.in-Err-QueryTooLong.field-0-0) (rw c.in-Err-QueryTooLong.field-0-is refl)) c.refused.ensures

pub returns-in-Err-TooManyNames : goal.returns-in-Err-TooManyNames
returns-in-Err-TooManyNames g c =
    refused_load _ (loading.TooManyNames c.in-Err-TooManyNames.field-0-0) c.refused-in-Err-TooManyNames.result
    (c.in-Err-TooManyNames.ensures.answer (loading.TooManyNames c.in-Err-TooManyNames.field-0-0) (rw c.in-Err-TooManyNames.field-0-is refl))
    c.refused-in-Err-TooManyNames.ensures

pub returns-in-Err-AnswerTooLong : goal.returns-in-Err-AnswerTooLong
returns-in-Err-AnswerTooLong g c =
    refused_load _ (loading.AnswerTooLong c.in-Err-AnswerTooLong.field-0-0) c.refused-in-Err-AnswerTooLong.result
    (c.in-Err-AnswerTooLong.ensures.answer (loading.AnswerTooLong c.in-Err-AnswerTooLong.field-0-0) (rw c.in-Err-AnswerTooLong.field-0-is refl))
    c.refused-in-Err-AnswerTooLong.ensures
