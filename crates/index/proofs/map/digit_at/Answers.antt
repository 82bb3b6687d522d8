use Rattle.std.proofs.Common.{ℕ, ◌-◌, ◌*◌, ◌%◌, ◌^◌, ◌<◌, ◌≤◌, ap, ◌∙◌, mod-eq_of_lt, arith, pow_mono, pow_pos}
use Rattle.std.proofs.lemmas.Nat.{mul-add-lt}
use Rattle.std.proofs.lemmas.Nat.Bits.{bit_at-lt, shr_and_one}
use Rattle.index.specs.Numbers.{bit}
use Rattle.index.proofs.map.digit_at.Goals as goal

-- the digit is 0 or 1, and stays within a partition number's bits
fits : (x d : ℕ) → d < 9 → bit x (31 - d) * 2 ^ d < 2 ^ 32
fits x d h =
    let few : d ≤ 8 = omega arith in
    let most : 2 ^ d ≤ 2 ^ 8 = pow_mono few in
    omega (arith, mul-add-lt (bit x (31 - d)) (2 ^ d) 0 2 (bit_at-lt x (31 - d)) (pow_pos d))

pub returns : goal.returns
returns c =
    let x = c.args.placement in
    let d = c.args.d in
    ap (λ (b : ℕ). (b * 2 ^ d) % 2 ^ 32) (shr_and_one x (31 - d)) ∙ mod-eq_of_lt (fits x d c.requires)
