-- What follows of how a call ends and what it wrote.
use Rattle.std.proofs.Common.{◌≡◌, ◌≢◌, ℕ, ◌+◌, ◌<◌, ◌⊎◌, inl, inr, List, [], ◌∷◌, ◌++◌, Bool, true, false, length}
use Rattle.std.proofs.Common.{Option, Some, None, refl, ap, sym, subst, ◌∙◌, arith}
use Rattle.std.specs.Prelude.{IsSomeAnd, if◌then◌else◌, nat_lt, unwrap_or, Ok, Err}
use Rattle.std.specs.Option.{option_map_or, option_or}
use Rattle.std.specs.FinMap as map
use Rattle.std.proofs.lemmas.Bool.{lt-ltb, le-ltb}
use Rattle.rl_base.specs.Causes.{Rose, IsQuiet}
use Rattle.rl_base.specs.Files.{Files}
use Rattle.rl_base.specs.Written.{appended}
use Rattle.rl_names.specs.declared.counted.Counted.TheVariants as counted
use Rattle.rl_names.specs.declared.counted.TheConstants as limits
use Rattle.rl_names.specs.declared.name.Key.{Key}
use Rattle.rl_view_spec.specs.Closure.{Text}
use Rattle.rl_view_spec.specs.View.{Throws}
use Rattle.rl_script_spec.specs.Script as script
use Rattle.rl_script_spec.specs.Unready.{unready_in}
use Rattle.rl_script_spec.specs.declared.Unready.{Unready}
use Rattle.rl_script_spec.proofs.PrintedLemmas.{printed_holds, printed_text}
use Rattle.rl_view.specs.Heard.{after_hearing}
use Rattle.rl_cli.specs.Answers.{Answers, AnswersCommand, AnswersVerdict, AreHeard, Heard, IsLongFile, IsPrinted, IsUnreadFile, HoldsOfScript, PrintsSoundly}
use Rattle.rl_cli.specs.Answers.{Writes, Completes}
use Rattle.rl_cli.specs.Answers.{file_end, first_end, bytes_at, command_end, expected_end}
use Rattle.rl_cli.specs.Ending.{Ending, plain, about, long, of_fault, of_verdict, written, written_by}
use Rattle.rl_cli.specs.Files.{AreFiles, IsFile, IsTooLong, IsUnread, Reaches}
use Rattle.rl_cli.specs.Verdict.{Verdict, Fault, Breaks, Exceeds, executed_by, file_at, of_script, verdict_on}
use Rattle.rl_cli.specs.Words.{Command, Drive, command_of, files_of, word_at, names_at}
use Rattle.rl_cli.specs.declared.status.Status.{Status}
use Rattle.rl_cli.specs.declared.status.Status.TheVariants as statuses
use Rattle.rl_cli.specs.declared.work.Printed.{Printed}
use Rattle.rl_cli.proofs.VerdictLemmas.{IsOfWork, is_of_work}

same_status : (one other : Ending) → one ≡ other → one.status ≡ other.status
same_status one other e = ap (λ (end : Ending). end.status) e

-- ---- the verdict

-- the statuses that work has
abbrev IsWorked : Status → Type 0
IsWorked statuses.BadWords = ⊥
IsWorked statuses.ReadFault = ⊥
IsWorked (statuses.TooLarge what count) = what ≢ counted.FileBytes
IsWorked other = Unit {0}

written_worked : (ready : Bool) (word : ℕ) (unready : Option Unready) → IsWorked (written_by ready word unready).status
written_worked true word unready = tt
written_worked false word unready = tt

fault_worked : (fault : Fault) → IsOfWork (Err fault) → IsWorked (of_fault fault).status
fault_worked (Breaks word line why breach) h = tt
fault_worked (Exceeds word what count) h = h

along : (P : Status → Type 0) (one other : Ending) → one ≡ other → P other.status → P one.status
along P one other e h = subst (λ (end : Ending). P end.status) (sym e) h

verdict_worked : (v : Verdict) (end : Ending) (old new : Option Text) → IsOfWork v → AnswersVerdict v end old new → IsWorked end.status
verdict_worked (Ok printed) end old new h a = elim a [
  | inl whole ↦ along IsWorked end (written printed) whole.0 (written_worked printed.ready printed.word printed.unready)
  | inr
      front ↦ elim front.0 [
        | inl fault ↦ along IsWorked end (plain statuses.WriteFault) fault tt
        | inr memory ↦ along IsWorked end (plain statuses.NoMemory)
            memory tt
      ]
]
verdict_worked (Err fault) end old new h a = elim a.0 [
  | inl told ↦ along IsWorked end (of_fault fault) told (fault_worked fault h)
  | inr memory ↦ along
      IsWorked end (plain statuses.NoMemory) memory tt
]

-- ---- a file that is too long

abbrev IsNotFile : Status → Type 0
IsNotFile (statuses.TooLarge what count) = what ≢ counted.FileBytes
IsNotFile other = Unit {0}

worked_not_file : (s : Status) → IsWorked s → IsNotFile s
worked_not_file (statuses.TooLarge what count) h = h
worked_not_file other h = tt

not_file : (s : Status) (count : ℕ) → IsNotFile s → s ≡ statuses.TooLarge counted.FileBytes count → ⊥
not_file s count h e = subst IsNotFile e h refl

pub too_large : (throws : Throws) (told : Option Files) (words : List Text) (end : Ending) (old new : Option Text) (heard heard' : Heard) →
    Answers throws told words end old new heard heard' → (count : ℕ) →
    end.status ≡ statuses.TooLarge counted.FileBytes count → IsLongFile told words end.word count
too_large throws told words end old new heard heard' a count e =
    elim a [
      | inl bad ↦ elim bad.1 [
        | inl no_command ↦ absurd (not_file end.status count (along IsNotFile end (plain statuses.BadWords) no_command tt) e)
        | inr memory ↦ absurd (not_file end.status count (along IsNotFile end (plain statuses.NoMemory) memory tt) e)
      ]
      | inr good ↦ of_command good.0 good.1
          good.2
    ]
  where
    same_word : (word : ℕ) → end ≡ long word → end.word ≡ word
    same_word word h = ap (λ (x : Ending). x.word) h

    same_count : (word : ℕ) → end ≡ long word → count ≡ limits.MAX_FILE_BYTES + 1
    same_count word h = let s : statuses.TooLarge counted.FileBytes count ≡ statuses.TooLarge counted.FileBytes (limits.MAX_FILE_BYTES + 1) = sym e
        ∙ same_status end (long word) h in cc

    of_command : (command : Command) → command_of words ≡ Some command → AnswersCommand throws told words command end old new heard heard' →
        IsLongFile told words end.word count
    of_command command is b =
        elim b [
          | inl memory ↦ absurd (not_file end.status count (along IsNotFile end (plain statuses.NoMemory) memory.0 tt) e)
          | inr others ↦
              elim others [
                | inl unread ↦ absurd (not_file end.status count (along IsNotFile end (about unread.0 statuses.ReadFault) unread.1 tt) e)
                | inr rest
                    ↦ elim rest [
                      | inl far ↦ subst (λ (word : ℕ). IsLongFile told words word count) (sym (same_word far.0 far.3))
                          (command, is, far.1, far.2, same_count far.0 far.3)
                      | inr done ↦ absurd
                          (not_file end.status count (worked_not_file end.status
                          (verdict_worked (verdict_on throws command done.0) end old new (is_of_work throws command done.0) done.2))
                          e)
                    ]
              ]
        ]

-- ---- the headline

back : (P : Status → Type 0) (one other : Ending) → one ≡ other → P one.status → P other.status
back P one other e h = subst (λ (end : Ending). P end.status) e h

-- an output that is written is the one of the verdict
record IsWritten (v : Verdict) (s : Status) (old new : Option Text) : Type 0 where
  printed : Printed
  is : v ≡ Ok printed
  writes : Writes s printed.text old new

printed_writes : (printed : Printed) (end : Ending) (old new : Option Text) → AnswersVerdict (Ok printed) end old new → IsPrinted end.status →
    Writes end.status printed.text old new
printed_writes printed end old new a h = elim a [
  | inl whole ↦ along (λ s. Writes s printed.text old new) end (written printed) whole.0
      (ready_writes printed.ready printed.word printed.unready whole.1)
  | inr front ↦ elim front.0 [
    | inl fault ↦ along (λ s. Writes s printed.text old new) end (plain statuses.WriteFault) fault front.1
    | inr memory ↦ absurd
        (back IsPrinted end (plain statuses.NoMemory) memory h)
  ]
]
  where
    ready_writes : (ready : Bool) (word : ℕ) (unready : Option Unready) → new ≡ appended old printed.text
        → Writes (written_by ready word unready).status printed.text old new
    ready_writes true word unready e = e
    ready_writes false word unready e = e

fault_unprinted : (fault : Fault) → IsPrinted (of_fault fault).status → ⊥
fault_unprinted (Breaks word line why breach) h = h
fault_unprinted (Exceeds word what count) h = h

written_verdict : (v : Verdict) (end : Ending) (old new : Option Text) → AnswersVerdict v end old new → IsPrinted end.status →
    IsWritten v end.status old new
written_verdict (Ok printed) end old new a h = record { printed = printed; is = refl; writes = printed_writes printed end old new a h }
written_verdict (Err fault) end old new a h = elim a.0 [
  | inl told ↦ absurd (fault_unprinted fault (back IsPrinted end (of_fault fault) told h))
  | inr memory
      ↦ absurd (back IsPrinted end (plain statuses.NoMemory) memory h)
]

-- the output of a script
script_prints : (place : ℕ) (unready : Option Unready) (v : script.Verdict) (printed : Printed) → of_script place unready v ≡ Ok printed →
    v ≡ script.Prints printed.text printed.ready
script_prints place unready (script.Prints text ready) printed e = let p : record { text = text; ready = ready; word = place; unready = unready }
    ≡ printed = cc in ap (λ (q : Printed). script.Prints q.text q.ready) p
script_prints place unready (script.BadLine line why) printed e = cc
script_prints place unready (script.TooMany what count) printed e = cc

one_file : (told : Option Files) (name : Text) (files : List Text) → AreFiles told (name ∷ []) files → IsFile told name (file_at files 0)
one_file told name (bytes ∷ []) are = are.0
one_file told name [] are = absurd are
one_file told name (bytes ∷ more ∷ rest) are = absurd are.1

printed_heard : (s : Status) (executed : List (Key × Text)) (heard heard' : Heard) → IsPrinted s → AreHeard s executed heard heard' →
    heard' ≡ after_hearing executed heard
printed_heard statuses.Done executed heard heard' h a = a
printed_heard statuses.NotReady executed heard heard' h a = a
printed_heard statuses.WriteFault executed heard heard' h a = a
printed_heard statuses.BadWords executed heard heard' h a = absurd h
printed_heard (statuses.BadInput word line why) executed heard heard' h a = absurd h
printed_heard (statuses.TooLarge what count) executed heard heard' h a = absurd h
printed_heard statuses.ReadFault executed heard heard' h a = absurd h
printed_heard statuses.NoMemory executed heard heard' h a = absurd h

module _ (throws : Throws) (told : Option Files) (words : List Text) (end : Ending) (old new : Option Text) (heard heard' : Heard) where
  script_written : (files : List Text) → AreFiles told (word_at words 1 ∷ []) files → IsWritten (verdict_on throws Drive files) end.status old new
      → heard' ≡ after_hearing (executed_by throws Drive files) heard → PrintsSoundly throws told words end.status old new heard heard'
  script_written files are w h =
      let bytes = file_at files 0 in
      let prints = script_prints 1 (unready_in throws bytes) (script.verdict_of throws bytes) w.printed w.is in
      record {
        bytes = bytes;
        file = one_file told (word_at words 1) files are;
        writes = subst (λ (text : Text). Writes end.status text old new)
            (sym (printed_text throws bytes w.printed.text w.printed.ready prints)) w.writes;
        sound = printed_holds throws bytes w.printed.text w.printed.ready prints;
        heard = h;
      }

  command_written : AnswersCommand throws told words Drive end old new heard heard' → IsPrinted end.status →
      PrintsSoundly throws told words end.status old new heard heard'
  command_written a h = elim a [
    | inl memory ↦ absurd (back IsPrinted end (plain statuses.NoMemory) memory.0 h)
    | inr others ↦
        elim others [
          | inl unread ↦ absurd (back IsPrinted end (about unread.0 statuses.ReadFault) unread.1 h)
          | inr rest ↦
              elim rest [
                | inl far ↦ absurd (back IsPrinted end (long far.0) far.3 h)
                | inr done ↦ script_written done.0 done.1 (written_verdict (verdict_on throws Drive done.0) end old new done.2 h)
                    (printed_heard end.status (executed_by throws Drive done.0) heard heard' h done.3)
              ]
        ]
  ]

  pub headline : Answers throws told words end old new heard heard' → HoldsOfScript throws told words end.status old new heard heard'
  headline a = λ e h. elim a [
    | inl bad ↦ absurd (no_command bad.0 e)
    | inr good ↦ command_written (subst (λ (command : Command). AnswersCommand throws told words command end old new heard heard') (same good.0 good.1 e) good.2) h
  ]
    where
      no_command : command_of words ≡ None → command_of words ≡ Some Drive → ⊥
      no_command n e = cc

      same : (command : Command) → command_of words ≡ Some command → command_of words ≡ Some Drive → command ≡ Drive
      same command e d = cc

-- ---- completeness

rose_quiet : (before now : ℕ) → Rose before now → IsQuiet before now → ⊥
rose_quiet before now rose quiet = absurd (omega arith)

-- files that are read end no call
read_on : (files : Files) (words : List Text) (place : ℕ) (bytes : Text) → IsFile (Some files) (word_at words place) bytes →
    file_end files words place ≡ None
read_on files words place bytes file =
    ap (λ (o : Option Text). option_map_or (λ b. if nat_lt limits.MAX_FILE_BYTES (length b) then Some (long place) else None) o
    (Some (about place statuses.ReadFault))) file.1
    ∙ ap (λ b. if b then Some (long place) else None) (le-ltb limits.MAX_FILE_BYTES (length bytes) file.0)

ends_at : (files : Files) (words : List Text) (before after : List ℕ) (place : ℕ) (read : List Text) (end : Ending) →
    AreFiles (Some files) (names_at words before) read → file_end files words place ≡ Some end
    → first_end files words (before ++ place ∷ after) ≡ Some end
ends_at files words [] after place read end are e = ap (λ (o : Option Ending). option_or o (first_end files words after)) e
ends_at files words (p ∷ before) after place [] end are e = absurd are
ends_at files words (p ∷ before) after place (bytes ∷ read) end are e =
    ap (λ (o : Option Ending). option_or o (first_end files words (before ++ place ∷ after))) (read_on files words p bytes are.0)
    ∙ ends_at files words before after place read end are.1 e

reached : (files : Files) (words : List Text) (places : List ℕ) (place : ℕ) (end : Ending) → Reaches (Some files) words places place →
    file_end files words place ≡ Some end → first_end files words places ≡ Some end
reached files words places place end r e = ap (first_end files words) r.order ∙ ends_at files words r.before r.after place r.read end r.are e

none_ends : (files : Files) (words : List Text) (places : List ℕ) (all : List Text) → AreFiles (Some files) (names_at words places) all →
    first_end files words places ≡ None
none_ends files words [] all are = refl
none_ends files words (p ∷ places) [] are = absurd are
none_ends files words (p ∷ places) (bytes ∷ all) are =
    ap (λ (o : Option Ending). option_or o (first_end files words places)) (read_on files words p bytes are.0) ∙ none_ends files words places all are.1

are_bytes : (files : Files) (words : List Text) (places : List ℕ) (all : List Text) → AreFiles (Some files) (names_at words places) all →
    bytes_at files words places ≡ all
are_bytes files words [] [] are = refl
are_bytes files words [] (bytes ∷ all) are = absurd are
are_bytes files words (p ∷ places) [] are = absurd are
are_bytes files words (p ∷ places) (bytes ∷ all) are =
    ap (λ (b : Text). b ∷ bytes_at files words places) (ap (λ (o : Option Text). unwrap_or o []) are.0.1)
    ∙ ap (λ (rest : List Text). bytes ∷ rest) (are_bytes files words places all are.1)

long_ends : (files : Files) (words : List Text) (place : ℕ) → IsTooLong (Some files) (word_at words place) →
    file_end files words place ≡ Some (long place)
long_ends files words place h = of (map.get files (word_at words place)) h
  where
    of : (o : Option Text) → IsSomeAnd o (λ bytes. limits.MAX_FILE_BYTES < length bytes) →
        option_map_or (λ b. if nat_lt limits.MAX_FILE_BYTES (length b) then Some (long place) else None) o (Some (about place statuses.ReadFault))
        ≡ Some (long place)
    of None k = absurd k
    of (Some bytes) k = ap (λ b. if b then Some (long place) else None) (lt-ltb limits.MAX_FILE_BYTES (length bytes) k)

unread_ends : (files : Files) (words : List Text) (place : ℕ) (faults faults' : ℕ) (blamed : Option Text) →
    IsUnread faults faults' blamed (Some files) (word_at words place) → IsQuiet faults faults' →
    file_end files words place ≡ Some (about place statuses.ReadFault)
unread_ends files words place faults faults' blamed u q = elim u [
  | inl counted ↦ absurd (rose_quiet faults faults' counted.0 q)
  | inr absent ↦ ap
      (λ (o : Option Text). option_map_or (λ b. if nat_lt limits.MAX_FILE_BYTES (length b) then Some (long place) else None) o
      (Some (about place statuses.ReadFault))) absent
]

expected_of : (throws : Throws) (files : Files) (words : List Text) (command : Command) → command_of words ≡ Some command →
    expected_end throws files words ≡ command_end throws files words command
expected_of throws files words command e = ap (λ (o : Option Command). option_map_or (command_end throws files words) o (plain statuses.BadWords)) e

ended_by_file : (throws : Throws) (files : Files) (words : List Text) (command : Command) (place : ℕ) (end : Ending) → command_of words ≡ Some command →
    Reaches (Some files) words (files_of command) place → file_end files words place ≡ Some end → expected_end throws files words ≡ end
ended_by_file throws files words command place end is r e =
    expected_of throws files words command is
    ∙ ap (λ (o : Option Ending). unwrap_or o (of_verdict (verdict_on throws command (bytes_at files words (files_of command)))))
    (reached files words (files_of command) place end r e)

ended_by_verdict : (throws : Throws) (files : Files) (words : List Text) (command : Command) (all : List Text) → command_of words ≡ Some command →
    AreFiles (Some files) (names_at words (files_of command)) all → expected_end throws files words ≡ of_verdict (verdict_on throws command all)
ended_by_verdict throws files words command all is are =
    expected_of throws files words command is
    ∙ (ap (λ (o : Option Ending). unwrap_or o (of_verdict (verdict_on throws command (bytes_at files words (files_of command)))))
    (none_ends files words (files_of command) all are)
    ∙ ap (λ (bytes : List Text). of_verdict (verdict_on throws command bytes)) (are_bytes files words (files_of command) all are))

verdict_end : (v : Verdict) (end : Ending) (old new : Option Text) → AnswersVerdict v end old new → (end.status ≡ statuses.WriteFault → ⊥) →
    (end ≡ plain statuses.NoMemory) ⊎ (end ≡ of_verdict v)
verdict_end (Ok printed) end old new a w = elim a [
  | inl whole ↦ inr whole.0
  | inr front ↦
      elim front.0 [ inl fault ↦ absurd (w (same_status end (plain statuses.WriteFault) fault)) | inr memory ↦ inl memory ]
]
verdict_end (Err fault) end old new a w = elim a.0 [ inl told ↦ inr told | inr memory ↦ inl memory ]

unread_expected : (throws : Throws) (files : Files) (words : List Text) (end : Ending) (place faults faults' : ℕ) (blamed : Option Text) →
    end ≡ about place statuses.ReadFault → IsUnreadFile faults faults' blamed (Some files) words end.word → IsQuiet faults faults' →
    end ≡ expected_end throws files words
unread_expected throws files words end place faults faults' blamed e u q =
    let word : end.word ≡ place = ap (λ (x : Ending). x.word) e in
    let ends : expected_end throws files words ≡ about end.word statuses.ReadFault =
    ended_by_file throws files words u.0 end.word (about end.word statuses.ReadFault) u.1 u.2 (unread_ends files words end.word faults faults' blamed u.3 q) in
    e ∙ (ap (λ (w : ℕ). about w statuses.ReadFault) (sym word) ∙ sym ends)

pub complete : (throws : Throws) (told : Option Files) (words : List Text) (end : Ending) (old new : Option Text) (heard heard' : Heard)
    (faults faults' out out' : ℕ) (blamed : Option Text) → Answers throws told words end old new heard heard'
    → (end.status ≡ statuses.ReadFault → IsUnreadFile faults faults' blamed told words end.word) →
    (end.status ≡ statuses.WriteFault → Rose out out') → Completes throws told words faults faults' out out' end
complete throws None words end old new heard heard' faults faults' out out' blamed a r w = tt
complete throws (Some files) words end old new heard heard' faults faults' out out' blamed a r w =
    λ q q'. elim a [
      | inl bad ↦ elim bad.1 [
        | inl no_command ↦ inr (no_command ∙ sym
            (ap (λ (o : Option Command). option_map_or (command_end throws files words) o (plain statuses.BadWords)) bad.0))
        | inr memory ↦ inl memory
      ]
      | inr good ↦ of_command q q' good.0 good.1 good.2
    ]
  where
    of_command : IsQuiet faults faults' → IsQuiet out out' → (command : Command) → command_of words ≡ Some command →
        AnswersCommand throws (Some files) words command end old new heard heard' → (end ≡ plain statuses.NoMemory) ⊎ (end ≡ expected_end throws files words)
    of_command q q' command is b =
        elim b [
          | inl memory ↦ inl memory.0
          | inr others ↦
              elim others [
                | inl unread ↦ inr (unread_expected throws files words end unread.0 faults faults' blamed unread.1
                    (r (same_status end (about unread.0 statuses.ReadFault) unread.1)) q)
                | inr rest ↦
                    elim rest [
                      | inl far ↦ inr (far.3 ∙ sym (ended_by_file throws files words command far.0 (long far.0) is far.1 (long_ends files words far.0 far.2)))
                      | inr done ↦ of_done command done.0 is done.1
                          (verdict_end (verdict_on throws command done.0) end old new done.2 (λ e. rose_quiet out out' (w e) q'))
                    ]
              ]
        ]
      where
        of_done : (command : Command) (all : List Text) → command_of words ≡ Some command →
            AreFiles (Some files) (names_at words (files_of command)) all →
            ((end ≡ plain statuses.NoMemory) ⊎ (end ≡ of_verdict (verdict_on throws command all))) →
            (end ≡ plain statuses.NoMemory) ⊎ (end ≡ expected_end throws files words)
        of_done command all is are v = elim v [ inl memory ↦ inl memory | inr same ↦ inr (same ∙ sym (ended_by_verdict throws files words command all is are)) ]
