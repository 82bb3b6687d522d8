-- Depths, ranges of placements, and the partition for a placement.
use Rattle.std.specs.Prelude.{◌≡◌, ℕ, zero, suc, ◌+◌, ◌-◌, ◌*◌, ◌/◌, ◌%◌, ◌^◌, Bool, cond, not, ◌&&◌, T, nat_le, nat_lt}
use Rattle.index.specs.Numbers.{Numbers}

-- the first number from d on that passes the test, among the next n; d + n where none does
abbrev pub first : (ℕ → Bool) → ℕ → ℕ → ℕ
first t zero d = d
first t (suc n) d = cond (t d) d (first t n (d + 1))

-- the smallest d with p < 2 ^ d and p + 2 ^ d not in m
unfoldable pub depth : Numbers → ℕ → ℕ
depth m p = first (λ d. nat_lt p (2 ^ d) && not (m (p + 2 ^ d))) 10 0

-- the k lowest binary digits of n, in reverse order
unfoldable pub reversed : ℕ → ℕ → ℕ
reversed zero n = 0
reversed (suc k) n = (n % 2) * 2 ^ k + reversed k (n / 2)

-- where the range of p begins: its 32 binary digits in reverse order
unfoldable pub start : ℕ → ℕ
start p = reversed 32 p

-- how long the range of p is
abbrev pub width : Numbers → ℕ → ℕ
width m p = 2 ^ (32 - depth m p)

-- the range of p has x
unfoldable pub covers : Numbers → ℕ → ℕ → Bool
covers m p x = nat_le (start p) x && nat_lt x (start p + width m p)

-- the partition of m whose range has x
unfoldable pub part_for : Numbers → ℕ → ℕ
part_for m x = first (λ p. m p && covers m p x) 512 0

-- p is a partition of m whose range has x, and no other is
pub record Alone (m : Numbers) (x p : ℕ) : Type 0 where
  pub inside : T (m p)
  pub here : T (covers m p x)
  pub only : (q : ℕ) → T (m q) → T (covers m q x) → q ≡ p
