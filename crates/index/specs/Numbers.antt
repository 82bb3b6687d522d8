-- Sets of numbers, and how words of 64 bits hold one.
use Rattle.std.specs.Prelude.{ℕ, zero, suc, ◌+◌, ◌/◌, ◌%◌, ◌^◌, Bool, false, cond, ◌||◌, T, List, ◌==◌, slice_index}

-- a set of numbers, by the test of what is in it
abbrev pub Numbers : Type 0
Numbers = ℕ → Bool

-- all of m is in n
abbrev pub Within : Numbers → Numbers → Type 0
Within m n = (q : ℕ) → T (m q) → T (n q)

-- what is in m or in n
abbrev pub union : Numbers → Numbers → Numbers
union m n q = m q || n q

-- some number below k passes the test
abbrev pub some_below : (ℕ → Bool) → ℕ → Bool
some_below t zero = false
some_below t (suc k) = t k || some_below t k

-- how many numbers below k are in m
unfoldable pub size : Numbers → ℕ → ℕ
size m zero = 0
size m (suc k) = cond (m k) (size m k + 1) (size m k)

-- binary digit k of n, the lowest being digit 0
abbrev pub bit : ℕ → ℕ → ℕ
bit n k = n / 2 ^ k % 2

-- the set that words of 64 bits hold: q is in it where bit q % 64 of word q / 64 is 1
abbrev pub bits : List ℕ → Numbers
bits ws q = bit (slice_index ws (q / 64)) (q % 64) == 1
