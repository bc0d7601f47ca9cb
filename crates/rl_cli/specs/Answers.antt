-- How a call ends and what it writes, by its words and the bytes of the files that they name.
use Rattle.std.specs.Prelude.{◌≡◌, ℕ, ◌+◌, List, [], ◌∷◌, if◌then◌else◌, length, map, nat_lt, reverse, Option, Some, None, IfSome, Ok}
use Rattle.std.specs.Prelude.{Err, unwrap_or, ◌⊎◌}
use Rattle.std.specs.Option.{option_map_or, option_or}
use Rattle.std.specs.FinMap as map
use Rattle.rl_base.specs.Causes.{IsQuiet}
use Rattle.rl_base.specs.Files.{Files}
use Rattle.rl_base.specs.Written.{appended}
use Rattle.rl_names.specs.declared.counted.TheConstants as limits
use Rattle.rl_names.specs.declared.name.Key.{Key}
use Rattle.rl_view_spec.specs.Closure.{Text}
use Rattle.rl_view_spec.specs.View.{Throws}
use Rattle.rl_script_spec.specs.Output.{output_of}
use Rattle.rl_script_spec.specs.Script.{view_of, steps_of}
use Rattle.rl_script_spec.specs.Laws.{IsSound}
use Rattle.rl_view.specs.Heard.{HearsFront, after_hearing}
use Rattle.rl_drive.specs.Hearing.{executions_in}
use Rattle.rl_cli.specs.Ending.{Ending, plain, about, long, of_fault, written, of_verdict}
use Rattle.rl_cli.specs.Files.{IsFile, IsTooLong, IsUnread, AreFiles, Reaches}
use Rattle.rl_cli.specs.Verdict.{Verdict, executed_by, verdict_on}
use Rattle.rl_cli.specs.Words.{Command, Drive, command_of, files_of, word_at, names_at}
use Rattle.rl_cli.specs.Written.{AppendsFront}
use Rattle.rl_cli.specs.declared.status.Status.{Status}
use Rattle.rl_cli.specs.declared.status.Status.TheVariants as statuses

-- ---- the ending and what was written

-- By the verdict. Its output is written whole, or a fault of writing or want of memory leaves a front of it. Its fault is
-- told, or memory ran out, and nothing is written.
abbrev pub AnswersVerdict : Verdict → Ending → Option Text → Option Text → Type 0
AnswersVerdict (Ok printed) end old new =
    ((end ≡ written printed) × (new ≡ appended old printed.text))
    ⊎ (((end ≡ plain statuses.WriteFault) ⊎ (end ≡ plain statuses.NoMemory)) × AppendsFront old printed.text new)
AnswersVerdict (Err fault) end old new = ((end ≡ of_fault fault) ⊎ (end ≡ plain statuses.NoMemory)) × (new ≡ old)

-- what each observer was told
abbrev pub Heard : Type 0
Heard = List (List (Key × Text))

-- Once the output is known, each observer heard of all executions; where memory ran out, of a front of them; else of none.
abbrev pub AreHeard : Status → List (Key × Text) → Heard → Heard → Type 0
AreHeard statuses.Done executed heard heard' = heard' ≡ after_hearing executed heard
AreHeard statuses.NotReady executed heard heard' = heard' ≡ after_hearing executed heard
AreHeard statuses.WriteFault executed heard heard' = heard' ≡ after_hearing executed heard
AreHeard statuses.NoMemory executed heard heard' = HearsFront executed heard heard'
AreHeard other executed heard heard' = heard' ≡ heard

-- By a command. Memory ran out before its files were read, or a file was not read, or one is too long and those before it
-- were read: then nothing is written, and nothing is heard. Or they were all read, and the verdict on their bytes says the
-- rest.
abbrev pub AnswersCommand : Throws → Option Files → List Text → Command → Ending → Option Text → Option Text → Heard → Heard → Type 0
AnswersCommand throws told words command end old new heard heard' =
    ((end ≡ plain statuses.NoMemory) × (new ≡ old) × (heard' ≡ heard))
    ⊎ ((word : ℕ) × (end ≡ about word statuses.ReadFault) × (new ≡ old) × (heard' ≡ heard))
    ⊎ ((word : ℕ) × Reaches told words (files_of command) word × IsTooLong told (word_at words word) × (end ≡ long word) × (new ≡ old)
    × (heard' ≡ heard))
    ⊎ ((files : List Text) × AreFiles told (names_at words (files_of command)) files × AnswersVerdict (verdict_on throws command files) end old new
    × AreHeard end.status (executed_by throws command files) heard heard')

-- By the words. They are no command's, or memory ran out before that was known, or they are those of one.
abbrev pub Answers : Throws → Option Files → List Text → Ending → Option Text → Option Text → Heard → Heard → Type 0
Answers throws told words end old new heard heard' =
    ((command_of words ≡ None) × ((end ≡ plain statuses.BadWords) ⊎ (end ≡ plain statuses.NoMemory)) × (new ≡ old) × (heard' ≡ heard))
    ⊎ ((command : Command) × (command_of words ≡ Some command) × AnswersCommand throws told words command end old new heard heard')

-- the word names a file that is too long, those before it were read, and one byte more than it may have was read
abbrev pub IsLongFile : Option Files → List Text → ℕ → ℕ → Type 0
IsLongFile told words word count =
    (command : Command) × (command_of words ≡ Some command) × Reaches told words (files_of command) word × IsTooLong told (word_at words word)
    × (count ≡ limits.MAX_FILE_BYTES + 1)

-- a status with which nothing is written
abbrev pub IsSilent : Status → Type 0
IsSilent statuses.Done = ⊥
IsSilent statuses.NotReady = ⊥
IsSilent statuses.WriteFault = ⊥
IsSilent statuses.NoMemory = ⊥
IsSilent other = Unit {0}

-- ---- faults

-- the word names a file that was not read, and those before it were read
abbrev pub IsUnreadFile : ℕ → ℕ → Option Text → Option Files → List Text → ℕ → Type 0
IsUnreadFile faults faults' blamed told words word =
    (command : Command) × (command_of words ≡ Some command) × Reaches told words (files_of command) word
    × IsUnread faults faults' blamed told (word_at words word)

-- ---- the headline

-- a status that comes once the output is known
abbrev pub IsPrinted : Status → Type 0
IsPrinted statuses.Done = Unit {0}
IsPrinted statuses.NotReady = Unit {0}
IsPrinted statuses.WriteFault = Unit {0}
IsPrinted other = ⊥

-- the output was written whole, or with a fault of writing a front of it
abbrev pub Writes : Status → Text → Option Text → Option Text → Type 0
Writes statuses.WriteFault text old new = AppendsFront old text new
Writes other text old new = new ≡ appended old text

-- The file of the script, which word 1 names, has these bytes. What was written is what is printed for the view of these
-- bytes and its steps: of that view no row runs twice, each runs after its dependencies, and a touched name is ready
-- exactly where all of its closure is good. Each observer heard of just the executions of that view, in order.
pub record PrintsSoundly (throws : Throws) (told : Option Files) (words : List Text) (status : Status) (old new : Option Text) (before after : Heard)
    : Type 0 where
  pub bytes : Text
  pub file : IsFile told (word_at words 1) bytes
  pub writes : Writes status (output_of (view_of throws bytes) (reverse (steps_of bytes))) old new
  pub sound : IsSound throws bytes
  pub heard : after ≡ after_hearing (executions_in throws bytes) before

abbrev pub HoldsOfScript : Throws → Option Files → List Text → Status → Option Text → Option Text → Heard → Heard → Type 0
HoldsOfScript throws told words status old new before after =
    command_of words ≡ Some Drive → IsPrinted status → PrintsSoundly throws told words status old new before after

-- ---- completeness

-- a file that ends a call: it is not there, or it is too long
abbrev pub file_end : Files → List Text → ℕ → Option Ending
file_end files words word =
    option_map_or (λ bytes. if nat_lt limits.MAX_FILE_BYTES (length bytes) then Some (long word) else None) (map.get files (word_at words word))
    (Some (about word statuses.ReadFault))

-- the first of the files that does
abbrev pub first_end : Files → List Text → List ℕ → Option Ending
first_end files words [] = None
first_end files words (word ∷ places) = option_or (file_end files words word) (first_end files words places)

-- the bytes of the files
abbrev pub bytes_at : Files → List Text → List ℕ → List Text
bytes_at files words places = map (λ word. unwrap_or (map.get files (word_at words word)) []) places

abbrev pub command_end : Throws → Files → List Text → Command → Ending
command_end throws files words command =
    unwrap_or (first_end files words (files_of command)) (of_verdict (verdict_on throws command (bytes_at files words (files_of command))))

-- the ending of the words, the files and what observers say, alone
abbrev pub expected_end : Throws → Files → List Text → Ending
expected_end throws files words = option_map_or (command_end throws files words) (command_of words) (plain statuses.BadWords)

-- where files are told and nothing failed, a call ends so, but for want of memory
abbrev pub Completes : Throws → Option Files → List Text → ℕ → ℕ → ℕ → ℕ → Ending → Type 0
Completes throws told words tree_faults tree_faults' out_faults out_faults' end =
    IfSome told (λ files. IsQuiet tree_faults tree_faults' → IsQuiet out_faults out_faults' →
    (end ≡ plain statuses.NoMemory) ⊎ (end ≡ expected_end throws files words))
