-- What shifts and remainders do to a bit, and the digits in reverse.
use Rattle.std.proofs.Common.{◌≡◌, ℕ, zero, suc, ◌+◌, ◌-◌, ◌*◌, ◌/◌, ◌%◌, ◌^◌, ◌<◌, sym, ap, ◌∙◌, subst, inl, inr, add-zero, mod-lt, mod-eq_of_lt, mul_comm, pow-suc, div-add-mod', div-one, arith, shr-shr}
use lib.Pow.{shl-shr, high}
use lib.Arith.{digits_lt}
use Rattle.std.proofs.lemmas.Bool.{cases_lt}
use Rattle.std.proofs.lemmas.Nat.Bits.{bit_at_cat_low, bit_at-zero}
use Rattle.index.specs.Numbers.{bit}
use Rattle.index.specs.Ranges.{reversed}

pub bit_shr : (n s k : ℕ) → bit (n / 2 ^ s) k ≡ bit n (s + k)
bit_shr n s k = ap (λ (x : ℕ). x % 2) (shr-shr n s k)

pub bit_shl : (n s k : ℕ) → bit (n * 2 ^ s) (s + k) ≡ bit n k
bit_shl n s k = sym (bit_shr (n * 2 ^ s) s k) ∙ ap (λ (x : ℕ). bit x k) (shl-shr n s)

pub bit_shl_below : (n s k : ℕ) → k < s → bit (n * 2 ^ s) k ≡ 0
bit_shl_below n s k h = ap (λ (x : ℕ). bit x k) (sym (add-zero (n * 2 ^ s))) ∙ bit_at_cat_low n s 0 k h ∙ bit_at-zero k

-- the low w digits
pub bit_mod : (n w k : ℕ) → k < w → bit (n % 2 ^ w) k ≡ bit n k
bit_mod n w k h = sym (bit_at_cat_low (n / 2 ^ w) w (n % 2 ^ w) k h) ∙ ap (λ (x : ℕ). bit x k) (div-add-mod' n (2 ^ w))

-- ---- the digits in reverse

pub reversed_lt : (w n : ℕ) → reversed w n < 2 ^ w
unfolding reversed
reversed_lt zero n = omega arith
reversed_lt (suc w) n =
    subst (λ (x : ℕ). (n % 2) * 2 ^ w + reversed w (n / 2) < x) (mul_comm 2 (2 ^ w) ∙ sym (pow-suc 2 w))
    (digits_lt (mod-lt n (omega arith)) (reversed_lt w (n / 2)))

pub bit_reversed : (w n k : ℕ) → k < w → bit (reversed w n) k ≡ bit n (w - 1 - k)
unfolding reversed
bit_reversed zero n k h = omega arith
bit_reversed (suc w) n k h = elim (cases_lt k w) [
  | inl lt ↦
      let e : 1 + (w - 1 - k) ≡ suc w - 1 - k = omega arith in
      bit_at_cat_low (n % 2) w (reversed w (n / 2)) k lt ∙ bit_reversed w (n / 2) k lt ∙ bit_shr n 1 (w - 1 - k) ∙ ap (bit n) e
  | inr ge ↦
      let top : k ≡ w = omega arith in
      let first : 0 ≡ suc w - 1 - k = omega arith in
      ap (bit ((n % 2) * 2 ^ w + reversed w (n / 2))) top ∙ ap (λ (x : ℕ). x % 2) (high (n % 2) w (reversed_lt w (n / 2)))
      ∙ mod-eq_of_lt (mod-lt n (omega arith)) ∙ sym (ap (λ (x : ℕ). x % 2) (div-one n)) ∙ ap (bit n) first
]
