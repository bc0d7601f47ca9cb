use Rattle.std.proofs.Common.{◌∙◌}
use Rattle.rl_loadphp.proofs.SortingLemmas.{same_age}
use Rattle.rl_loadphp.proofs.requests.make.Goals as goal

-- The ages are compared by what they are made of: the digits of a hash that is not there yet have no end.
pub returns-in_ok-scripts-in-Scripts-clause-age : goal.returns-in_ok-scripts-in-Scripts-clause-age
returns-in_ok-scripts-in-Scripts-clause-age c =
    c.aged-in-Scripts.ensures.age
    ∙ same_age c.as_str-told.result.now c.args.query.now.version _ _ c.is_empty-wanted.result c.as_str-told.ensures c.is_empty-wanted.ensures
    c.in_ok-scripts-in-Scripts.ensures.versions

pub returns-in_ok-styles-in-Styles-clause-age : goal.returns-in_ok-styles-in-Styles-clause-age
returns-in_ok-styles-in-Styles-clause-age c =
    c.aged-in-Styles.ensures.age
    ∙ same_age c.as_str-told.result.now c.args.query.now.version _ _ c.is_empty-wanted.result c.as_str-told.ensures c.is_empty-wanted.ensures
    c.in_ok-styles-in-Styles.ensures.versions
