-- Five exchanges of groups of bits turn a word round.
use Rattle.std.proofs.Common.{◌≡◌, ℕ, ◌+◌, ◌-◌, ◌*◌, ◌/◌, ◌%◌, ◌^◌, ◌<◌, ◌≤◌, min, max, Bool, true, cond, ◌&&◌, ◌||◌, eqb, ltb, leb, sym, refl, ap, ◌∙◌, inl, inr, mod-lt, arith, pow_pos}
use lib.Bits.{bit_and, bit_or, and_le_r, or_lt}
use Rattle.std.proofs.lemmas.Bool.{cases_lt, cases_Bool, and_parts, or_cases, eqb-true, eqb-false, ltb-true, leb-true, cond-true, cond-false, agree_below, agree_below_at}
use Rattle.std.proofs.lemmas.Nat.Bits.{bit_at-lt, bit_at_and, bit_at_or, same_from_bits_below}
use Rattle.index.specs.Numbers.{bit}
use Rattle.index.specs.Ranges.{reversed}
use Rattle.index.proofs.Bits.{bit_shr, bit_shl, bit_shl_below, bit_mod, bit_reversed, reversed_lt}

-- the groups of bits under the mask and those above them change places
abbrev pub swapped : ℕ → ℕ → ℕ → ℕ
swapped x by mask = bit_or (bit_and (x / 2 ^ by) mask) ((bit_and x mask * 2 ^ by) % 2 ^ 32)

-- the bit that an exchange puts to place i, and that the mask is right there
abbrev source : ℕ → ℕ → ℕ → ℕ
source s mask i = cond (eqb (bit mask i) 1) (s + i) (i - s)

abbrev right : ℕ → ℕ → ℕ → Bool
right s mask i = cond (eqb (bit mask i) 1) (ltb i s || eqb (bit mask (i - s)) 0) (leb s i && eqb (bit mask (i - s)) 1)

-- what comes from below
below : (x s mask i : ℕ) → i < 32 → s ≤ i → bit ((bit_and x mask * 2 ^ s) % 2 ^ 32) i ≡ min (bit x (i - s)) (bit mask (i - s))
below x s mask i h le =
    let e : i ≡ s + (i - s) = omega arith in
    bit_mod (bit_and x mask * 2 ^ s) 32 i h ∙ ap (bit (bit_and x mask * 2 ^ s)) e ∙ bit_shl (bit_and x mask) s (i - s) ∙ bit_at_and x mask (i - s)

none : (x s mask i : ℕ) → i < 32 → i < s → bit ((bit_and x mask * 2 ^ s) % 2 ^ 32) i ≡ 0
none x s mask i h lt = bit_mod (bit_and x mask * 2 ^ s) 32 i h ∙ bit_shl_below (bit_and x mask) s i lt

parts : (x s mask i : ℕ)
    → bit (swapped x s mask) i ≡ max (min (bit x (s + i)) (bit mask i)) (bit ((bit_and x mask * 2 ^ s) % 2 ^ 32) i)
parts x s mask i =
    bit_at_or (bit_and (x / 2 ^ s) mask) ((bit_and x mask * 2 ^ s) % 2 ^ 32) i
    ∙ ap (λ (y : ℕ). max y (bit ((bit_and x mask * 2 ^ s) % 2 ^ 32) i)) (bit_at_and (x / 2 ^ s) mask i ∙ ap (λ (y : ℕ). min y (bit mask i)) (bit_shr x s i))

bit_swapped : (x s mask i : ℕ) → i < 32 → right s mask i ≡ true → bit (swapped x s mask) i ≡ bit x (source s mask i)
bit_swapped x s mask i h r = elim (cases_Bool (eqb (bit mask i) 1)) [
  | inl e ↦
      let one = eqb-true (bit mask i) 1 e in
      let r' = or_cases (ltb i s) (eqb (bit mask (i - s)) 0) (sym (cond-true (eqb (bit mask i) 1) _ _ e) ∙ r) in
      let d = bit_at-lt x (s + i) in
      let empty : bit ((bit_and x mask * 2 ^ s) % 2 ^ 32) i ≡ 0 = elim (cases_lt i s) [
        | inl lt ↦ none x s mask i h lt
        | inr ge ↦ elim r' [
          | inl t ↦ none x s mask i h (ltb-true i s t)
          | inr t ↦ below x s mask i h ge ∙ omega (arith, eqb-true (bit mask (i - s)) 0 t)
        ]
      ] in
      parts x s mask i ∙ omega (arith, one, empty, d) ∙ ap (bit x) (sym (cond-true (eqb (bit mask i) 1) (s + i) (i - s) e))
  | inr e ↦
      let zero' = eqb-false (bit mask i) 1 e in
      let r' = and_parts (leb s i) (eqb (bit mask (i - s)) 1) (sym (cond-false (eqb (bit mask i) 1) _ _ e) ∙ r) in
      let d = bit_at-lt x (i - s) in
      let m = bit_at-lt mask i in
      let one = eqb-true (bit mask (i - s)) 1 r'.1 in
      let full = below x s mask i h (leb-true s i r'.0) in
      parts x s mask i ∙ omega (arith, zero', one, full, d, m) ∙ ap (bit x) (sym (cond-false (eqb (bit mask i) 1) (s + i) (i - s) e))
]

-- one exchange, at each place of a word
exchange : (s mask : ℕ) → agree_below (λ i. right s mask i && ltb (source s mask i) 32) (λ i. true) 32 ≡ true → (x i : ℕ) → i < 32
    → (bit (swapped x s mask) i ≡ bit x (source s mask i)) × (source s mask i < 32)
exchange s mask t x i h =
    let p = and_parts (right s mask i) (ltb (source s mask i) 32) (agree_below_at (λ i. right s mask i && ltb (source s mask i) 32) (λ i. true) 32 i t h) in
    (bit_swapped x s mask i h p.0, ltb-true (source s mask i) 32 p.1)

swapped_lt : (x s mask : ℕ) → mask < 2 ^ 32 → swapped x s mask < 2 ^ 32
swapped_lt x s mask h =
    or_lt 32 (bit_and (x / 2 ^ s) mask) ((bit_and x mask * 2 ^ s) % 2 ^ 32) (omega (arith, and_le_r (x / 2 ^ s) mask)) (mod-lt (bit_and x mask * 2 ^ s) (pow_pos 32))

abbrev route : ℕ → ℕ
route i =
    source 1 0x5555_5555 (source 2 0x3333_3333 (source 4 0x0f0f_0f0f (source 8 0x00ff_00ff (source 16 0x0000_ffff i))))

pub turned : (x : ℕ)
    → swapped (swapped (swapped (swapped (swapped x 1 0x5555_5555) 2 0x3333_3333) 4 0x0f0f_0f0f) 8 0x00ff_00ff) 16 0x0000_ffff ≡ reversed 32 x
turned x =
    let a = swapped x 1 0x5555_5555 in
    let b = swapped a 2 0x3333_3333 in
    let c = swapped b 4 0x0f0f_0f0f in
    let d = swapped c 8 0x00ff_00ff in
    same_from_bits_below 32 (swapped d 16 0x0000_ffff) (reversed 32 x) (swapped_lt d 16 0x0000_ffff (omega arith)) (reversed_lt 32 x)
    (λ i h.
    let e5 = exchange 16 0x0000_ffff refl d i h in
    let e4 = exchange 8 0x00ff_00ff refl c (source 16 0x0000_ffff i) e5.1 in
    let e3 = exchange 4 0x0f0f_0f0f refl b (source 8 0x00ff_00ff (source 16 0x0000_ffff i)) e4.1 in
    let e2 = exchange 2 0x3333_3333 refl a (source 4 0x0f0f_0f0f (source 8 0x00ff_00ff (source 16 0x0000_ffff i))) e3.1 in
    let e1 = exchange 1 0x5555_5555 refl x (source 2 0x3333_3333 (source 4 0x0f0f_0f0f (source 8 0x00ff_00ff (source 16 0x0000_ffff i)))) e2.1 in
    e5.0 ∙ e4.0 ∙ e3.0 ∙ e2.0 ∙ e1.0
    ∙ ap (bit x) (eqb-true (route i) (32 - 1 - i) (agree_below_at (λ i. eqb (route i) (32 - 1 - i)) (λ i. true) 32 i refl h))
    ∙ sym (bit_reversed 32 x i h))
