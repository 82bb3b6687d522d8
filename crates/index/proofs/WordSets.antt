-- Sets in words: what a word's operations do to the numbers in the set.
use Rattle.std.proofs.Common.{◌≡◌, ℕ, zero, suc, ◌+◌, ◌*◌, ◌/◌, ◌%◌, ◌^◌, ◌<◌, ◌≤◌, max, Bool, true, false, cond, ◌||◌, T, eqb, List, length, get_or, set, sym, refl, ap, ◌∙◌, subst, ap₂, inl, inr, add-zero, add-suc, mod-lt, mod-eq_of_lt, one-add, arith, pow_pos}
use mathlib.Core.Bool.{or-false}
use native.Mathlib.Nat.{mod-one}
use lib.Bits.{bit_or}
use lib.Count.{ones, ones_cat}
use lib.Pow.{mod-pow-add}
use Rattle.std.proofs.lemmas.Nat.{one_shl}
use Rattle.std.proofs.lemmas.List.{get_or-set_same, get_or-set_other, get_or_past}
use Rattle.std.proofs.lemmas.Bool.{cases_lt, cases_eq, eq-eqb, ne_eqb}
use Rattle.std.proofs.lemmas.Bool.Decides.{nat_tests}
use Rattle.std.proofs.lemmas.Nat.Bits.{bit_at-lt, bit_at-zero, bit_at_or, bit_at-pow_same, bit_at-pow_other}
use Rattle.index.specs.Numbers.{Numbers, bit, bits, size}

abbrev pub on : ℕ → ℕ → Bool
on w k = eqb (bit w k) 1

pub on_or : (a b k : ℕ) → on (bit_or a b) k ≡ (on a k || on b k)
on_or a b k = ap (λ (x : ℕ). eqb x 1) (bit_at_or a b k) ∙ either (bit a k) (bit b k) (bit_at-lt a k) (bit_at-lt b k)
  where
    either : (x y : ℕ) → x < 2 → y < 2 → eqb (max x y) 1 ≡ (eqb x 1 || eqb y 1)
    either x y hx hy = grind (arith, nat_tests)

on_one : (j k : ℕ) → on (2 ^ j) k ≡ eqb k j
on_one j k = elim (cases_eq k j) [
  | inl e ↦ rw e (ap (λ (x : ℕ). eqb x 1) (bit_at-pow_same j) ∙ sym (eq-eqb j j refl))
  | inr ne ↦ ap (λ (x : ℕ). eqb x 1) (bit_at-pow_other j k ne) ∙ sym (ne_eqb k j ne)
]

-- no number above 511
pub none_past : (ws : List ℕ) → length ws ≡ 8 → (q : ℕ) → 512 ≤ q → bits ws q ≡ false
none_past ws e q h =
    ap (λ (w : ℕ). on w (q % 64)) (get_or_past ws (q / 64) 0 (omega arith)) ∙ ap (λ (x : ℕ). eqb x 1) (bit_at-zero (q % 64))

pub below_512 : (ws : List ℕ) → length ws ≡ 8 → (q : ℕ) → T (bits ws q) → q < 512
below_512 ws e q t = elim (cases_lt q 512) [ inl h ↦ h | inr h ↦ absurd (subst T (none_past ws e q h) t) ]

-- q is added
pub bits_inserted : (ws : List ℕ) (q : ℕ) → q / 64 < length ws → (k : ℕ)
    → bits (set ws (q / 64) (bit_or (get_or ws (q / 64) 0) ((1 * 2 ^ (q % 64)) % 2 ^ 64))) k ≡ (bits ws k || eqb k q)
bits_inserted ws q h k = elim (cases_eq (k / 64) (q / 64)) [
  | inl e ↦
      ap (λ (i : ℕ). on (get_or (set ws (q / 64) new) i 0) (k % 64)) e ∙ ap (λ (w : ℕ). on w (k % 64)) (get_or-set_same ws (q / 64) new 0 h)
      ∙ ap (λ (n : ℕ). on (bit_or (get_or ws (q / 64) 0) n) (k % 64)) (one_shl (q % 64) 64 (omega arith))
      ∙ on_or (get_or ws (q / 64) 0) (2 ^ (q % 64)) (k % 64)
      ∙ ap₂ ◌||◌ (ap (λ (i : ℕ). on (get_or ws i 0) (k % 64)) (sym e)) (on_one (q % 64) (k % 64) ∙ same e)
  | inr ne ↦
      ap (λ (w : ℕ). on w (k % 64)) (get_or-set_other ws (q / 64) (k / 64) new 0 ne)
      ∙ sym (ap (λ (b : Bool). bits ws k || b) (ne_eqb k q (λ e. ne (ap (λ (n : ℕ). n / 64) e))) ∙ or-false (bits ws k))
]
  where
    new : ℕ
    new = bit_or (get_or ws (q / 64) 0) ((1 * 2 ^ (q % 64)) % 2 ^ 64)

    same : k / 64 ≡ q / 64 → eqb (k % 64) (q % 64) ≡ eqb k q
    same e = grind (arith, nat_tests)

-- word by word, the numbers of either set
pub bits_union : (xs ys zs : List ℕ) → ((i : ℕ) → get_or zs i 0 ≡ bit_or (get_or xs i 0) (get_or ys i 0)) → (k : ℕ) → bits zs k ≡ (bits xs k || bits ys k)
bits_union xs ys zs h k =
    ap (λ (w : ℕ). on w (k % 64)) (h (k / 64)) ∙ on_or (get_or xs (k / 64) 0) (get_or ys (k / 64) 0) (k % 64)

-- ---- counting

one_digit : (d : ℕ) → d < 2 → ones d ≡ d
unfolding ones
one_digit zero h = refl
one_digit (suc zero) h = refl
one_digit (suc (suc d)) h = absurd (omega arith)

counted : (d n : ℕ) → d < 2 → cond (eqb d 1) (n + 1) n ≡ n + d
counted d n h = grind (arith, nat_tests)

ones_more : (n k : ℕ) → ones (n % 2 ^ suc k) ≡ ones (n % 2 ^ k) + bit n k
ones_more n k =
    ap (λ (x : ℕ). ones (n % 2 ^ x)) (sym (one-add k)) ∙ ap ones (mod-pow-add n 1 k)
    ∙ ones_cat k (bit n k) (n % 2 ^ k) (mod-lt n (pow_pos k)) ∙ omega (arith, one_digit (bit n k) (bit_at-lt n k))

size_word : (ws : List ℕ) (i k : ℕ) → k ≤ 64 → size (bits ws) (64 * i + k) ≡ size (bits ws) (64 * i) + ones (get_or ws i 0 % 2 ^ k)
unfolding size ones
size_word ws i zero h =
    ap (size (bits ws)) (add-zero (64 * i)) ∙ sym (add-zero (size (bits ws) (64 * i)))
    ∙ ap (λ (x : ℕ). size (bits ws) (64 * i) + ones x) (sym (mod-one (get_or ws i 0)))
size_word ws i (suc k) h =
    let w = get_or ws i 0 in
    let n = size (bits ws) (64 * i + k) in
    let here : bits ws (64 * i + k) ≡ on w k = ap₂ (λ (x y : ℕ). on (get_or ws x 0) y) (omega arith) (omega arith) in
    ap (size (bits ws)) (add-suc (64 * i) k) ∙ ap (λ b. cond b (n + 1) n) here ∙ counted (bit w k) n (bit_at-lt w k)
    ∙ omega (arith, size_word ws i k (omega arith), ones_more w k)

-- one more word is counted
pub size_more : (ws : List ℕ) (i : ℕ) → get_or ws i 0 < 2 ^ 64 → size (bits ws) (64 * (i + 1)) ≡ size (bits ws) (64 * i) + ones (get_or ws i 0)
size_more ws i h =
    let e : 64 * (i + 1) ≡ 64 * i + 64 = omega arith in
    ap (size (bits ws)) e ∙ size_word ws i 64 (omega arith) ∙ ap (λ (x : ℕ). size (bits ws) (64 * i) + ones x) (mod-eq_of_lt h)

pub size_most : (m : Numbers) (k : ℕ) → size m k ≤ k
unfolding size
size_most m zero = omega arith
size_most m (suc k) = go (m k) (size_most m k)
  where
    go : (b : Bool) → size m k ≤ k → cond b (size m k + 1) (size m k) ≤ suc k
    go true h = omega arith
    go false h = omega arith
