use Rattle.rl_http.proofs.RoutesLemmas.{text_routed, other_not_found}
use Rattle.rl_http.proofs.routing.Routes.find_decoded.Goals as goal

pub returns-in-Ok : goal.returns-in-Ok
returns-in-Ok c = text_routed c.args.method.now c.args.path.now c.in-Ok.path.now c.find.result c.in-Ok.ensures.cases.0 c.in-Ok.ensures.cases.1 c.find.ensures

pub returns-in-Err : goal.returns-in-Err
returns-in-Err c = other_not_found c.args.method.now c.args.path.now c.in-Err.ensures.cases.0
