use Rattle.std.proofs.Common.{◌≡◌, drop, take}
use Rattle.rl_wiki.specs.Opening.{first_bad, first_bad_after}
use Rattle.rl_wiki.proofs.opening.history_of.Given as goal

-- the history is what was read so far, and with the entries that are left the first bad one is that of all
abbrev pub invariant-entries : goal.invariant-entries
invariant-entries l = record {
  taken : l.pages.entries ≡ take l.entry-index l.entries;
  rest : first_bad_after l.pages.entries (drop l.entry-index l.entries) ≡ first_bad l.entries;
}
