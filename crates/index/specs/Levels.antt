-- The levels of a map, by which the code fills it up: level e has the numbers from 2 ^ e to below 2 ^ (e + 1).
use Rattle.std.specs.Prelude.{ℕ, ◌+◌, ◌*◌, ◌&&◌, ◌||◌, nat_le, nat_lt}
use Rattle.index.specs.Numbers.{Numbers}

-- one level of filling up: a number from b to below 2 * b joins where one that is b or 2 * b above it is in
abbrev pub lowered : ℕ → Numbers → Numbers
lowered b s q = s q || ((s (q + b) || s (q + 2 * b)) && (nat_le b q && nat_lt q (2 * b)))
