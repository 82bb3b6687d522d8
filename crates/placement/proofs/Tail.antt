-- What the last blocks hold once they are written.
use Rattle.std.proofs.Common.{◌≡◌, ℕ, suc, ◌+◌, ◌-◌, ◌*◌, ◌/◌, ◌%◌, ◌^◌, ◌<◌, ◌≤◌, List, [], ◌∷◌, ◌++◌, length, take, drop, set, replicate, sym, refl, ap, ◌∙◌, arith}
use native.Mathlib.Nat.{div-div-eq-div-mul}
use borrow.Rule.Slice.PartMut.{put_mid}
use Rattle.std.proofs.lemmas.List.{append_assoc, set_at, take_at, length-append, length-replicate, replicate-append-replicate, drop-replicate}
use Rattle.std.proofs.lemmas.Slice.{take-put_mid}
use Rattle.placement.specs.Rfc1321.{low_order, zeros, padding}

-- the bytes as `to_le_bytes` gives them
pub bytes4 : (n : ℕ) → (n % 256) ∷ (n / 256 % 256) ∷ (n / 65536 % 256) ∷ (n / 16777216 % 256) ∷ [] ≡ low_order 4 n
bytes4 n = simp div-div-eq-div-mul

pub bytes8 : (n : ℕ)
    → (n % 256) ∷ (n / 256 % 256) ∷ (n / 65536 % 256) ∷ (n / 16777216 % 256) ∷ (n / 4294967296 % 256) ∷ (n / 1099511627776 % 256) ∷ (n / 281474976710656 % 256) ∷ (n / 72057594037927936 % 256) ∷ [] ≡ low_order 8 n
bytes8 n = simp div-div-eq-div-mul

-- the 1 bit with the seven bits after it, and the 8 bytes at the end, are 9 bytes
pub length_padding : (n : ℕ) → length (padding n) ≡ zeros n + 9
length_padding n =
    ap suc (length-append (replicate (zeros n) 0) (low_order 8 ((n * 8) % 2 ^ 64)) ∙ ap (λ (k : ℕ). k + 8) (length-replicate (zeros n) 0)) ∙ omega arith

-- a number of zeros from which one is taken
fewer : (n k : ℕ) → n ≡ suc k → replicate {A = ℕ} n 0 ≡ 0 ∷ replicate k 0
fewer n k e = ap (λ (j : ℕ). replicate {A = ℕ} j 0) e

-- the rest of the message and the byte 128 stand in front of zeros
marked : (rest : List ℕ) (size : ℕ) → length rest < size
    → set (rest ++ drop (length rest) (replicate size 0)) (length rest) 128 ≡ rest ++ 128 ∷ replicate (size - length rest - 1) 0
marked rest size h =
    ap (λ (x : List ℕ). set (rest ++ x) (length rest) 128)
    (drop-replicate (length rest) size 0 ∙ fewer (size - length rest) (size - length rest - 1) (omega arith))
    ∙ set_at rest 0 (replicate (size - length rest - 1) 0) 128 (length rest) refl

-- that is as long as before
length_marked : (rest : List ℕ) (size : ℕ) → length rest < size → length (rest ++ 128 ∷ replicate (size - length rest - 1) 0) ≡ size
length_marked rest size h =
    length-append rest (128 ∷ replicate (size - length rest - 1) 0)
    ∙ ap (λ (k : ℕ). length rest + suc k) (length-replicate (size - length rest - 1) 0) ∙ omega arith

-- the first bytes of that
front : (rest : List ℕ) (size at : ℕ) → length rest < at → at ≤ size
    → take at (rest ++ 128 ∷ replicate (size - length rest - 1) 0) ≡ rest ++ 128 ∷ replicate (at - length rest - 1) 0
front rest size at h le =
    ap (λ (x : List ℕ). take at (rest ++ 128 ∷ x))
    (ap (λ (k : ℕ). replicate k 0) (omega arith) ∙ sym (replicate-append-replicate (at - length rest - 1) (size - at) 0))
    ∙ ap (take at) (sym (append_assoc rest (128 ∷ replicate (at - length rest - 1) 0) (replicate (size - at) 0)))
    ∙ take_at (rest ++ 128 ∷ replicate (at - length rest - 1) 0) (replicate (size - at) 0) at (length_marked rest at h)

-- what was written: the rest and the padding stand in front
pub padded_rest : (rest start bits : List ℕ) (n end : ℕ) → length rest ≡ n % 64 → end ≡ length rest + length (padding n)
    → start ≡ rest → bits ≡ low_order 8 ((n * 8) % 2 ^ 64)
    → take (length rest + length (padding n)) (put_mid (end - 8) (end - (end - 8)) (set (start ++ drop (length rest) (replicate 128 0)) (length rest) 128) bits)
    ≡ rest ++ padding n
padded_rest rest start bits n end h e s b =
    let l = length rest in
    let at = end - 8 in
    let whole = set (start ++ drop l (replicate 128 0)) l 128 in
    let long : end ≡ l + (zeros n + 9) = omega (arith, length_padding n) in
    let marks : whole ≡ rest ++ 128 ∷ replicate (128 - l - 1) 0 =
    ap (λ (x : List ℕ). set (x ++ drop l (replicate 128 0)) l 128) s ∙ marked rest 128 (omega arith) in
    let eight : length bits ≡ 8 = ap length b in
    let between : at - l - 1 ≡ zeros n = omega arith in
    take-put_mid at (end - at) whole bits (l + length (padding n)) (omega arith)
    (omega (arith, ap length marks, length_marked rest 128 (omega arith)))
    ∙ ap (λ (x : List ℕ). take at x ++ bits) marks ∙ ap (λ (x : List ℕ). x ++ bits) (front rest 128 at (omega arith) (omega arith))
    ∙ append_assoc rest (128 ∷ replicate (at - l - 1) 0) bits
    ∙ ap (λ (k : ℕ). rest ++ ((128 ∷ replicate {A = ℕ} k 0) ++ bits)) between
    ∙ ap (λ (x : List ℕ). rest ++ ((128 ∷ replicate {A = ℕ} (zeros n) 0) ++ x)) b
