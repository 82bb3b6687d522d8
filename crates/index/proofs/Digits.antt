-- Binary digits of placements and partition numbers: what a range has, in digits.
use Rattle.std.proofs.Common.{◌≡◌, ℕ, zero, suc, ◌+◌, ◌-◌, ◌*◌, ◌/◌, ◌%◌, ◌^◌, ◌<◌, ◌≤◌, ◌⊎◌, sym, refl, ap, ◌∙◌, subst, inl, inr, suc-add, pow-suc, zero-add, div-mul-le_self, arith, pow_pos, pow_mono, pow-add}
use lib.Arith.{digits_div, digits_mod}
use native.Mathlib.Nat.{div-eq_of_lt-le, div-eq_of_lt, lt-div-mul-add, div-div-eq-div-mul}
use Rattle.std.proofs.lemmas.Bool.{cases_lt, cases_eq}
use Rattle.index.specs.Numbers.{bit}
use Rattle.index.specs.Ranges.{reversed, start}
use Rattle.index.proofs.Bits.{reversed_lt}

-- the d-th of the 32 digits of a placement, the most significant first
abbrev pub digit : ℕ → ℕ → ℕ
digit x d = bit x (31 - d)

-- the number whose lowest d digits, the lowest first, are the first d digits of the placement
abbrev pub path : ℕ → ℕ → ℕ
path x zero = 0
path x (suc d) = path x d + digit x d * 2 ^ d

pub digit_bit : (x d : ℕ) → digit x d ≤ 1
digit_bit x d = omega arith

pub digit_cases : (x d : ℕ) → (digit x d ≡ 0) ⊎ (digit x d ≡ 1)
digit_cases x d = elim (cases_eq (digit x d) 0) [ inl e ↦ inl e | inr ne ↦ inr (omega (arith, digit_bit x d)) ]

pub path_zero : (x d : ℕ) → digit x d ≡ 0 → path x (suc d) ≡ path x d
path_zero x d e = rw e (omega arith)

pub path_one : (x d : ℕ) → digit x d ≡ 1 → path x (suc d) ≡ path x d + 2 ^ d
path_one x d e = rw e (omega arith)

pub path_lt : (x d : ℕ) → path x d < 2 ^ d
path_lt x zero = omega arith
path_lt x (suc d) = go (path_lt x d) (digit_cases x d)
  where
    go : path x d < 2 ^ d → (digit x d ≡ 0) ⊎ (digit x d ≡ 1) → path x (suc d) < 2 ^ suc d
    go h (inl e) = rw (path_zero x d e, pow-suc) (omega arith)
    go h (inr e) = rw (path_one x d e, pow-suc) (omega arith)

-- ---- reversal

reversed_none : (k : ℕ) → reversed k 0 ≡ 0
unfolding reversed
reversed_none zero = refl
reversed_none (suc k) = omega (arith, reversed_none k)

half_lt : (p d : ℕ) → p < 2 ^ suc d → p / 2 < 2 ^ d
half_lt p d h = omega (arith, pow-suc 2 d)

below_one : (p : ℕ) → p < 1 → p ≡ 0
below_one p h = omega arith

-- digits beyond the number's own are zeros, and come first
pub reversed_short : (d k p : ℕ) → p < 2 ^ d → reversed (d + k) p ≡ reversed d p * 2 ^ k
unfolding reversed
reversed_short zero k p h = rw (zero-add, below_one p h, reversed_none) (omega arith)
reversed_short (suc d) k p h =
    let ih : reversed (d + k) (p / 2) ≡ reversed d (p / 2) * 2 ^ k = reversed_short d k (p / 2) (half_lt p d h) in
    rw (suc-add, ih, pow-add) (omega arith)

step_half : (p b d : ℕ) → (p + b * 2 ^ suc d) / 2 ≡ p / 2 + b * 2 ^ d
step_half p b d = rw pow-suc (omega arith)

step_odd : (p b d : ℕ) → (p + b * 2 ^ suc d) % 2 ≡ p % 2
step_odd p b d = rw pow-suc (omega arith)

-- a digit put on top comes last
pub reversed_more : (d p b : ℕ) → p < 2 ^ d → b ≤ 1 → reversed (suc d) (p + b * 2 ^ d) ≡ 2 * reversed d p + b
unfolding reversed
reversed_more zero p b h k = rw (below_one p h) (omega arith)
reversed_more (suc d) p b h k =
    let ih : reversed (suc d) (p / 2 + b * 2 ^ d) ≡ 2 * reversed d (p / 2) + b = reversed_more d (p / 2) b (half_lt p d h) k in
    rw (step_half p b d, step_odd p b d, pow-suc) (omega arith)

pub reversed_apart : (d p q : ℕ) → p < 2 ^ d → q < 2 ^ d → reversed d p ≡ reversed d q → p ≡ q
unfolding reversed
reversed_apart zero p q h k e = omega arith
reversed_apart (suc d) p q h k e =
    let lp = reversed_lt d (p / 2) in
    let lq = reversed_lt d (q / 2) in
    let odd : p % 2 ≡ q % 2 = sym (digits_div (p % 2) lp) ∙ ap (λ (n : ℕ). n / 2 ^ d) e ∙ digits_div (q % 2) lq in
    let rest : reversed d (p / 2) ≡ reversed d (q / 2) = sym (digits_mod (p % 2) lp) ∙ ap (λ (n : ℕ). n % 2 ^ d) e ∙ digits_mod (q % 2) lq in
    omega (arith, odd, reversed_apart d (p / 2) (q / 2) (half_lt p d h) (half_lt q d k) rest)

-- ---- the first d digits

less : (d : ℕ) → d < 32 → 32 - d ≡ suc (31 - d)
less d h = omega arith

front_more : (x d : ℕ) → d < 32 → x / 2 ^ (32 - suc d) ≡ 2 * (x / 2 ^ (32 - d)) + digit x d
front_more x d h =
    let e : x / 2 ^ (32 - d) ≡ x / 2 ^ (31 - d) / 2 = rw (less d h, pow-suc) (sym (div-div-eq-div-mul x (2 ^ (31 - d)) 2)) in
    let f : 32 - suc d ≡ 31 - d = omega arith in
    rw (e, f) (omega arith)

pub front : (x d : ℕ) → x < 2 ^ 32 → d ≤ 32 → reversed d (path x d) ≡ x / 2 ^ (32 - d)
unfolding reversed
front x zero l h = sym (div-eq_of_lt l)
front x (suc d) l h =
    let ih = front x d l (omega arith) in
    reversed_more d (path x d) (digit x d) (path_lt x d) (digit_bit x d) ∙ rw (front_more x d h, ih)

pub start_short : (p d : ℕ) → p < 2 ^ d → d ≤ 32 → start p ≡ reversed d p * 2 ^ (32 - d)
unfolding start
start_short p d h l =
    let e : 32 ≡ d + (32 - d) = omega arith in
    subst (λ (n : ℕ). reversed n p ≡ reversed d p * 2 ^ (32 - d)) (sym e) (reversed_short d (32 - d) p h)

one_more : (a n x : ℕ) → x < a * n + n → x < (a + 1) * n
one_more a n x h = omega arith

-- in the range that begins at start p and is 2 ^ (32 - d) long: the first d digits of the placement are those of p
pub in_range : (x p d : ℕ) → x < 2 ^ 32 → p < 2 ^ d → d ≤ 32 → start p ≤ x → x < start p + 2 ^ (32 - d) → p ≡ path x d
in_range x p d l h k lo hi =
    let s = start_short p d h k in
    let q : x / 2 ^ (32 - d) ≡ reversed d p = div-eq_of_lt-le (2 ^ (32 - d)) (rw s at lo) (one_more _ _ x (rw s at hi)) in
    reversed_apart d p (path x d) h (path_lt x d) (sym (front x d l k ∙ q))

pub range_in : (x d : ℕ) → x < 2 ^ 32 → d ≤ 32 → (start (path x d) ≤ x) × (x < start (path x d) + 2 ^ (32 - d))
range_in x d l k =
    let s = start_short (path x d) d (path_lt x d) k in
    let f = front x d l k in
    rw (s, f) (div-mul-le_self x (2 ^ (32 - d)), lt-div-mul-add (pow_pos (32 - d)))

-- ---- the walk's steps

-- the path is the same number for as long as its digits are zeros
pub path_stays : (x e d : ℕ) → e ≤ d → path x d < 2 ^ e → path x d ≡ path x e
path_stays x e zero l h = let z : e ≡ 0 = omega arith in rw z
path_stays x e (suc d) l h = go (λ k n. path_stays x e d k n) (cases_lt d e) (digit_cases x d)
  where
    go : (e ≤ d → path x d < 2 ^ e → path x d ≡ path x e) → (d < e) ⊎ (e ≤ d) → (digit x d ≡ 0) ⊎ (digit x d ≡ 1) → path x (suc d) ≡ path x e
    go ih (inl k) c = let z : e ≡ suc d = omega arith in rw z
    go ih (inr k) (inl z) = path_zero x d z ∙ ih k (rw (path_zero x d z) at h)
    go ih (inr k) (inr z) = absurd (too_big (path x d) (2 ^ d) (2 ^ e) (pow_mono k) (rw (path_one x d z) at h))
      where
        too_big : (a b c : ℕ) → c ≤ b → a + b < c → ⊥
        too_big a b c u v = omega arith
