use Rattle.std.proofs.Common.{refl, []}
use Rattle.rl_http.specs.declared.serving.End.TheVariants as ends
use Rattle.rl_http.proofs.ServingLemmas.{begins, broke}
use Rattle.rl_http.proofs.SentLemmas.{front_none}
use Rattle.rl_http.proofs.serving.serve_desk.Goals as goal

pub returns-in_default-clause-serves : goal.returns-in_default-clause-serves
returns-in_default-clause-serves g c = broke _ _ _ _ _ _ _ 0 [] [] (begins _ _ _ _ [] [] refl refl) _ _ [] refl (front_none _ _) ends.NoMemory
