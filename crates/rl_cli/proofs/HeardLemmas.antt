-- What was heard of, by how a call ends.
use Rattle.std.proofs.Common.{◌≡◌, ℕ, List, [], Bool, true, false, Option, inl, inr, refl, sym, subst, append-nil}
use Rattle.std.specs.Prelude.{Result, Ok, Err}
use Rattle.rl_names.specs.declared.name.Key.{Key}
use Rattle.rl_view_spec.specs.Closure.{Text}
use Rattle.rl_view_spec.specs.View.{Throws}
use Rattle.rl_script_spec.specs.declared.Unready.{Unready}
use Rattle.rl_view.specs.Heard.{HearsFront, after_hearing}
use Rattle.rl_drive.proofs.HearingLemmas.{heard_nothing}
use Rattle.rl_base.specs.Files.{Files}
use Rattle.rl_cli.specs.Answers.{Answers, AnswersVerdict, AreHeard, Heard, IsSilent}
use Rattle.rl_cli.specs.Ending.{Ending, of_error, written_by}
use Rattle.rl_cli.specs.Verdict.{IsHeard, executed_by}
use Rattle.rl_cli.specs.declared.status.Status.{Status}
use Rattle.rl_cli.specs.declared.status.Status.TheVariants as statuses
use Rattle.rl_cli.specs.declared.work.Printed.{Printed}
use Rattle.rl_cli.specs.declared.work.WorkError.{WorkError}
use Rattle.rl_cli.specs.declared.work.WorkError.TheVariants as errors

-- all is a front of all
whole_front : (executed : List (Key × Text)) (heard heard' : Heard) → heard' ≡ after_hearing executed heard → HearsFront executed heard heard'
whole_front executed heard heard' h = (executed, [], sym (append-nil executed), h)

-- an output was written, whole or not
pub written_heard : (printed : Printed) (end : Ending) (old new : Option Text) (executed : List (Key × Text)) (heard heard' : Heard) →
    AnswersVerdict (Ok printed) end old new → heard' ≡ after_hearing executed heard → AreHeard end.status executed heard heard'
written_heard printed end old new executed heard heard' a h = elim a [
  | inl whole ↦ subst (λ (e : Ending). AreHeard e.status executed heard heard') (sym whole.0)
      (ready_heard printed.ready printed.word printed.unready)
  | inr
      front ↦ elim front.0 [
        | inl fault ↦ subst (λ (e : Ending). AreHeard e.status executed heard heard') (sym fault) h
        | inr memory ↦ subst (λ (e : Ending). AreHeard e.status executed heard heard') (sym memory) (whole_front executed heard heard' h)
      ]
]
  where
    ready_heard : (ready : Bool) (word : ℕ) (unready : Option Unready) → AreHeard (written_by ready word unready).status executed heard heard'
    ready_heard true word unready = h
    ready_heard false word unready = h

-- the work came to nothing
pub error_heard : (error : WorkError) (end : Ending) (executed : List (Key × Text)) (heard heard' : Heard) → end ≡ of_error error →
    IsHeard (Err error) executed heard heard' → AreHeard end.status executed heard heard'
error_heard error end executed heard heard' e h = subst (λ (x : Ending). AreHeard x.status executed heard heard') (sym e) (of error h)
  where
    of : (error : WorkError) → IsHeard (Err error) executed heard heard' → AreHeard (of_error error).status executed heard heard'
    of (errors.Breaks word line why breach) h = h
    of (errors.Exceeds word what count) h = h
    of errors.NoMemory h = h

-- nothing was executed
pub nothing_heard : (result : Result Printed WorkError) (heard : Heard) → IsHeard result [] heard heard
nothing_heard (Ok printed) heard = heard_nothing heard
nothing_heard (Err (errors.Breaks word line why breach)) heard = refl
nothing_heard (Err (errors.Exceeds word what count)) heard = refl
nothing_heard (Err errors.NoMemory) heard = ([], [], refl, heard_nothing heard)

-- with a status that comes before the output is known
silent_heard : (s : Status) (executed : List (Key × Text)) (heard heard' : Heard) → IsSilent s → AreHeard s executed heard heard' → heard' ≡ heard
silent_heard statuses.Done executed heard heard' h a = absurd h
silent_heard statuses.NotReady executed heard heard' h a = absurd h
silent_heard statuses.WriteFault executed heard heard' h a = absurd h
silent_heard statuses.NoMemory executed heard heard' h a = absurd h
silent_heard statuses.BadWords executed heard heard' h a = a
silent_heard (statuses.BadInput word line why) executed heard heard' h a = a
silent_heard (statuses.TooLarge what count) executed heard heard' h a = a
silent_heard statuses.ReadFault executed heard heard' h a = a

pub unheard : (throws : Throws) (told : Option Files) (words : List Text) (end : Ending) (old new : Option Text) (heard heard' : Heard) →
    Answers throws told words end old new heard heard' → IsSilent end.status → heard' ≡ heard
unheard throws told words end old new heard heard' a h = elim a [
  | inl bad ↦ bad.3
  | inr good ↦ elim good.2 [
    | inl memory ↦ memory.2
    | inr others ↦ elim others [
      | inl unread ↦ unread.3
      | inr rest ↦ elim rest [
        | inl far ↦ far.5
        | inr done ↦ silent_heard end.status (executed_by throws good.0 done.0) heard heard' h done.3
      ]
    ]
  ]
]
