-- When a fault may be answered.
use Rattle.std.specs.Prelude.{ℕ, ◌+◌, ◌-◌, ◌^◌, ◌<◌, ◌≤◌, min}

-- the count after a count that is kept in 64 bits: it stands still at the last value
abbrev pub next : ℕ → ℕ
next count = min (count + 1) (2 ^ 64 - 1)

-- a count of faults rose, or stands at the last value that 64 bits hold
abbrev pub Rose : ℕ → ℕ → Type 0
Rose before now = next before ≤ now

-- no fault was counted: the count could rise, and did not
abbrev pub IsQuiet : ℕ → ℕ → Type 0
IsQuiet before now = now < next before
