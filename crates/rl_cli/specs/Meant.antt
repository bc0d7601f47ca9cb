-- The command that the code reads, as one over texts.
use Rattle.rl_cli.specs.Words as words
use Rattle.rl_cli.specs.declared.words.Command.{Command}
use Rattle.rl_cli.specs.declared.words.Command.TheVariants.{Drive, Load, Startup, Check}

abbrev pub meant : Command → words.Command
meant Drive = words.Drive
meant (Load paged viewer query) = words.Load paged viewer query.now
meant (Startup paged viewer lang skin) = words.Startup paged viewer lang.now skin.now
meant (Check paged) = words.Check paged
