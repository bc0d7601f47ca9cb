-- What comes over a connection, and the connection in memory: what it holds, what a call answers but for want of memory,
-- and what it leaves.
use Rattle.std.specs.Prelude.{ℕ, ◌++◌, List, Option, option_map, if◌then◌else◌, take, drop, length, min, Result, Ok, Err}
use Rattle.rl_base.specs.Causes.{next}
use Rattle.rl_base.specs.Memory.{fails}
use Rattle.rl_base.specs.declared.conn.ConnError.{ConnError}
use Rattle.rl_base.specs.declared.conn.ConnError.TheVariants.{Failed, NoMemory}

-- these bytes, and then what is still to come
abbrev pub after_front : List ℕ → Option (List ℕ) → Option (List ℕ)
after_front bytes left = option_map (λ rest. bytes ++ rest) left

-- what is still to come, what was written, how many bytes a call takes at most, which calls fail, and how many calls
-- there were
pub record ConnInMemory : Type 0 where
  pub left : List ℕ
  pub written : List ℕ
  pub most : ℕ
  pub failing : List ℕ
  pub calls : ℕ
  pub faults : ℕ

-- how many bytes come into a buffer of this length
abbrev pub came : ConnInMemory → ℕ → Result ℕ ConnError
came conn room = if fails conn.failing conn.calls then Err Failed else Ok (min (min room conn.most) (length conn.left))

-- how many bytes of a piece of this length are taken
abbrev pub sent : ConnInMemory → ℕ → Result ℕ ConnError
sent conn room = if fails conn.failing conn.calls then Err Failed else Ok (min room conn.most)

abbrev pub after_read : ConnInMemory → Result ℕ ConnError → ConnInMemory
after_read conn (Ok count) = record conn { left = drop count conn.left; calls = next conn.calls }
after_read conn (Err Failed) = record conn { calls = next conn.calls; faults = next conn.faults }
after_read conn (Err NoMemory) = record conn { calls = next conn.calls }

abbrev pub after_sent : ConnInMemory → List ℕ → Result ℕ ConnError → ConnInMemory
after_sent conn piece (Ok count) = record conn { written = conn.written ++ take count piece; calls = next conn.calls }
after_sent conn piece (Err Failed) = record conn { calls = next conn.calls; faults = next conn.faults }
after_sent conn piece (Err NoMemory) = record conn { calls = next conn.calls }
