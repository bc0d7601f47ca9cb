use Rattle.rl_book_spec.proofs.StageLemmas.{loss_quiet, quiet_next, stage_begins, stage_ends, stage_front, stage_goes_on, stage_others, stage_stays}
use Rattle.rl_book_spec.proofs.stage_laws.Goals as goal

pub returns : goal.returns
returns c = record {
  begins = stage_begins;
  goes_on = stage_goes_on;
  ends = stage_ends;
  stays = stage_stays;
  front = stage_front;
  others =
      stage_others;
  quiet = quiet_next;
  losses = loss_quiet;
}
