use Rattle.std.proofs.Common.{◌≡◌, Option, false, Bor, ap}
use Rattle.std.specs.Prelude.{option_map}
use Rattle.rl_wire.specs.declared.part.Part.{Part}
use Rattle.rl_book_spec.specs.declared.Origin.{Origin}
use Rattle.rl_book_spec.specs.declared.Origin.TheVariants as origin
use Rattle.rl_book.specs.Calls.{Executing, IsRun}
use Rattle.rl_book.specs.Held.{Gift}
use Rattle.rl_book.proofs.TellingLemmas.{gift_implements, gift_none, gift_runs, if_ok, kept_there, taken_implements, taken_runs}
use Rattle.rl_book.proofs.visit.Visit.run_of.Goals as goal

abbrev given_now : Option (Bor Part × Origin) → Gift
given_now found = option_map (λ (given : Bor Part × Origin). (given.0.now, given.1)) found

pub run_with-requires : goal.run_with-requires
run_with-requires c =
    taken_implements c.self.inside c.args.self.now c.args.row c.index.result.now c.self.invariant c.self.view_is c.requires.answered
    (kept_there c.self.inside c.args.self.now c.args.row c.index.result.now c.self.invariant c.self.view_is c.requires.within c.index.ensures)
    c.in-Some.taken c.in-Some.is

pub returns-in-Some : goal.returns-in-Some
returns-in-Some c =
    if_ok (Executing c.args.row c.in-Some.taken.part (origin.Wire c.in-Some.taken.mark))
    (λ run. (run.threw ≡ false) × IsRun c.args.self.now (c.args.row, false) run)
    c.run_with.result
    (taken_runs c.self.inside c.args.self.now c.args.row c.index.result.now c.self.invariant c.self.view_is c.requires.answered
    (kept_there c.self.inside c.args.self.now c.args.row c.index.result.now c.self.invariant c.self.view_is c.requires.within c.index.ensures)
    c.in-Some.taken c.in-Some.is)
    c.run_with.ensures

pub run_with-requires-in-Some-given : goal.run_with-requires-in-Some-given
run_with-requires-in-Some-given c =
    let there = kept_there c.self.inside c.args.self.now c.args.row c.index.result.now c.self.invariant c.self.view_is c.requires.within c.index.ensures in
    gift_implements c.self.inside c.args.self.now c.args.row c.index.result.now c.self.invariant c.self.view_is c.requires.answered there
    (given_now c.given.result) c.in-None.is c.requires.within c.given.ensures c.in-Some-given.part.now c.in-Some-given.origin
    (ap given_now c.in-Some-given.is)

pub unreachable-requires : goal.unreachable-requires
unreachable-requires c =
    let there = kept_there c.self.inside c.args.self.now c.args.row c.index.result.now c.self.invariant c.self.view_is c.requires.within c.index.ensures in
    gift_none c.self.inside c.args.self.now c.args.row c.index.result.now c.self.invariant c.self.view_is c.requires.answered there
    (given_now c.given.result) c.in-None.is c.requires.within c.given.ensures (ap given_now c.in-None-given.is)

pub returns-in-Some-given : goal.returns-in-Some-given
returns-in-Some-given c =
    let there = kept_there c.self.inside c.args.self.now c.args.row c.index.result.now c.self.invariant c.self.view_is c.requires.within c.index.ensures in
    if_ok (Executing c.args.row c.in-Some-given.part.now c.in-Some-given.origin) (λ run. (run.threw ≡ false) × IsRun c.args.self.now (c.args.row, false) run)
    c.run_with-in-Some-given.result
    (gift_runs c.self.inside c.args.self.now c.args.row c.index.result.now c.self.invariant c.self.view_is c.requires.answered there
    (given_now c.given.result) c.in-None.is c.requires.within c.given.ensures c.in-Some-given.part.now c.in-Some-given.origin
    (ap given_now c.in-Some-given.is))
    c.run_with-in-Some-given.ensures
