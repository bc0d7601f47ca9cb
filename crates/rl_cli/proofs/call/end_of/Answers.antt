use Rattle.std.proofs.Common.{◌≡◌, ℕ, List, Option, refl, ap, ◌∙◌, sym, subst, inl, inr}
use Rattle.std.specs.Prelude.{option_map}
use Rattle.rl_base.specs.Files.{Files}
use Rattle.rl_view_spec.specs.Closure.{Text}
use Rattle.rl_view_spec.specs.View.{Throws}
use Rattle.rl_view.specs.Heard.{throws_by}
use Rattle.rl_cli.specs.Answers.{AnswersVerdict, AreHeard}
use Rattle.rl_cli.specs.Ending.{ending, long}
use Rattle.rl_cli.specs.Files.{AreFiles, Reaches, IsTooLong}
use Rattle.rl_cli.specs.Meant.{meant}
use Rattle.rl_cli.specs.Stops.{StopsReading}
use Rattle.rl_cli.specs.declared.file.FileError.{FileError}
use Rattle.rl_cli.specs.Verdict.{executed_by, verdict_on}
use Rattle.rl_cli.specs.Words.{files_of, names_at, texts, word_at}
use Rattle.rl_cli.proofs.call.end_of.Goals as goal

pub returns-in-Ok-clause-answer : goal.returns-in-Ok-clause-answer
returns-in-Ok-clause-answer g c =
    let throws : Throws = throws_by (g.H.Hears.says c.args.observers.now) in
    let are = subst (λ (places : List ℕ). AreFiles (g.T.Tree.files c.args.tree.now) (names_at (texts c.args.words.now) places) c.in-Ok.files.items)
    c.files.ensures c.in-Ok.ensures.files in
    let answers = subst (λ (files : List Text). AnswersVerdict (verdict_on throws (meant c.in-Ok-Some.command) files)
    (ending c.answer.result.status c.answer.result.word c.answer.result.breach c.answer.result.unready) (g.O.Sink.written c.args.out.now) (g.O.Sink.written c.answer.new.out))
    c.as_slice.ensures.value c.answer.ensures.answers in
    let heard = subst (λ (files : List Text). AreHeard c.answer.result.status (executed_by throws (meant c.in-Ok-Some.command) files)
    (g.H.Hears.told c.args.observers.now) (g.H.Hears.told c.answer.new.observers))
    c.as_slice.ensures.value c.answer.ensures.heard in
    inr (meant c.in-Ok-Some.command, sym c.in-Ok-Some.ensures ∙ ap (option_map meant) c.in-Ok-Some.field-0-is, inr (inr (inr (c.in-Ok.files.items, are, answers, heard))))

pub returns-in-Err-TooLong-clause-answer : goal.returns-in-Err-TooLong-clause-answer
returns-in-Err-TooLong-clause-answer g c =
    let words = texts c.args.words.now in
    let told : Option Files = g.T.Tree.files c.args.tree.now in
    let places : c.files.result.now ≡ files_of (meant c.in-Ok-Some.command) = c.files.ensures in
    let word = c.in-Err-TooLong.word in
    let stops : Reaches told words c.files.result.now word × IsTooLong told (word_at words word)
    = subst (λ (e : FileError). StopsReading (g.T.Tree.faults c.args.tree.now) (g.T.Tree.faults c.read_files.new.tree)
    (g.T.Tree.blamed c.read_files.new.tree) told words c.files.result.now e) c.in-Err-TooLong.field-0-is c.in-Err-TooLong.ensures.stops in
    inr (
      meant c.in-Ok-Some.command,
      sym c.in-Ok-Some.ensures ∙ ap (option_map meant) c.in-Ok-Some.field-0-is,
      inr (inr (inl (
        word,
        subst (λ (places : List ℕ). Reaches told words places word) places stops.0,
        stops.1,
        c.about-in-Err-TooLong.ensures ∙ ap long c.in-Err-TooLong.word-is,
        refl,
        refl,
      ))),
    )
