-- What is printed for the reply to a step.
use Rattle.std.specs.Prelude.{◌++◌, [], ◌∷◌, codes, decimal}
use Rattle.rl_view_spec.specs.Closure.{Text}
use Rattle.rl_reply.specs.declared.reply.Reply.{Reply}
use Rattle.rl_reply.specs.declared.reply.Reply.TheVariants.{Revision, RefusedTitle, RefusedPolicy, RefusedConflict, RefusedLength, RefusedFull, RefusedKey}
use Rattle.rl_reply.specs.declared.reply.Reply.TheVariants.{Clock, View, UsingOk, UsingUnknown, UsingCycle, Dropped, Ask, TakeNone, Wire, NoAsk, Took}
use Rattle.rl_reply.specs.declared.reply.Reply.TheVariants.{NoWire, Again, GivenUp, Settled, LostBefore, Closed, NoView}

-- the wiki itself is the empty source
abbrev pub source_word : Text → Text
source_word [] = codes "local"
source_word (byte ∷ more) = byte ∷ more

-- One line each, by what the step is and how it went; numbers in decimal, names and queries raw.
abbrev pub reply_text : Reply → Text
reply_text (Revision revision) = codes "revision " ++ decimal revision
reply_text RefusedTitle = codes "refused title"
reply_text RefusedPolicy = codes "refused policy"
reply_text (RefusedConflict current) = codes "refused conflict " ++ decimal current
reply_text (RefusedLength len) = codes "refused length " ++ decimal len
reply_text RefusedFull = codes "refused full"
reply_text RefusedKey = codes "refused key"
reply_text (Clock now) = codes "clock " ++ decimal now
reply_text (View view rows) = codes "view " ++ decimal view ++ codes " rows " ++ decimal rows
reply_text UsingOk = codes "using ok"
reply_text (UsingUnknown name) = codes "using unknown " ++ name
reply_text (UsingCycle name) = codes "using cycle " ++ name
reply_text (Dropped count) = codes "load dropped " ++ decimal count
reply_text (Ask number source query) = codes "ask " ++ decimal number ++ codes " " ++ source_word source ++ codes " " ++ query
reply_text TakeNone = codes "take none"
reply_text (Wire wire) = codes "wire " ++ decimal wire
reply_text NoAsk = codes "no ask"
reply_text (Took used passed) = codes "took " ++ decimal used ++ codes " passed " ++ decimal passed
reply_text NoWire = codes "no wire"
reply_text (Again tries) = codes "again " ++ decimal tries
reply_text GivenUp = codes "given up"
reply_text Settled = codes "settled"
reply_text LostBefore = codes "lost before"
reply_text Closed = codes "closed"
reply_text NoView = codes "no view"
