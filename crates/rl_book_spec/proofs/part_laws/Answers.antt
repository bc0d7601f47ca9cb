use Rattle.rl_book_spec.proofs.GivenLemmas.{delivery_gives, given_outcome}
use Rattle.rl_book_spec.proofs.part_laws.Goals as goal

pub returns : goal.returns
returns c = record { brings = delivery_gives; given = given_outcome }
