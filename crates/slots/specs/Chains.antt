-- Chains of places by their codes: each link points to the last place below that has the code.
use Rattle.std.specs.Prelude.{◌≡◌, ℕ, zero, suc, ◌+◌, ◌-◌, ◌<◌, ◌≤◌, cond, List, [], ◌∷◌, ◌==◌, ◌≢◌}

-- v - 1 is the last place below m whose code is b; v is 0 where there is none
abbrev pub Top : (ℕ → ℕ) → ℕ → ℕ → ℕ → Type 0
Top c m b v = (v ≤ m) × ((j : ℕ) → v ≤ j → j < m → c j ≢ b) × (0 < v → c (v - 1) ≡ b)

-- of u places with codes below n, the head of each code's chain
abbrev pub Heads : (ℕ → ℕ) → ℕ → ℕ → (ℕ → ℕ) → Type 0
Heads c u n heads = (b : ℕ) → b < n → Top c u b (heads b)

-- what is next after each place in its chain
abbrev pub Nexts : (ℕ → ℕ) → ℕ → ℕ → (ℕ → ℕ) → Type 0
Nexts c u n nexts = (j : ℕ) → j < u → c j < n → Top c j (c j) (nexts j)

-- the codes, with x at i
abbrev pub except : ℕ → ℕ → (ℕ → ℕ) → ℕ → ℕ
except i x c j = cond (j == i) x (c j)

-- the pointer m of code b's chain, which is its head where m is u, else what is next after m: it is above i, its value v is not
pub record Point (c : ℕ → ℕ) (u b i m v : ℕ) : Type 0 where
  pub past : i < m
  pub within : m ≤ u
  pub coded : m < u → c m ≡ b
  pub top : Top c m b v
  pub low : v ≤ i + 1

-- that pointer, and no other, is set to w
pub record Pointed (u b m w : ℕ) (heads nexts heads' nexts' : ℕ → ℕ) : Type 0 where
  pub head_set : m ≡ u → heads' b ≡ w
  pub head_kept : (q : ℕ) → (m ≡ u → q ≢ b) → heads' q ≡ heads q
  pub next_set : m < u → nexts' m ≡ w
  pub next_kept : (j : ℕ) → (m < u → j ≢ m) → nexts' j ≡ nexts j

-- the places below m whose code is b, from the last one on
abbrev pub members : (ℕ → ℕ) → ℕ → ℕ → List ℕ
members c zero b = []
members c (suc m) b = cond (c m == b) (m ∷ members c m b) (members c m b)
