-- The blocks of the padded message are those of the message, and then the last one or two.
use Rattle.std.proofs.Common.{◌≡◌, ℕ, zero, suc, ◌+◌, ◌*◌, ◌/◌, List, [], ◌∷◌, ◌++◌, length, take, drop, sym, refl, ap, ◌∙◌, add-one, arith}
use Rattle.std.specs.List.{fold}
use Rattle.std.specs.Simd.{first_chunks}
use Rattle.std.proofs.lemmas.List.{length-append, length-drop, drop-append-le}
use Rattle.std.proofs.lemmas.List.Sums.{fold-append}
use Rattle.placement.specs.Rfc1321.{Buffer, initial, padding, block, blocks, padded}
use Rattle.placement.proofs.Chunks.{first_chunks-add, first_chunks-append}

-- the words after each of the blocks, from the words w on
abbrev pub added : Buffer → List (List ℕ) → Buffer
added w xs = fold (λ (v : Buffer) (x : List ℕ). block x v) w xs

-- the blocks one after the other are the chunks of 64 bytes
pub blocks_are : (m : List ℕ) (n : ℕ) → blocks m n ≡ fold (λ (w : Buffer) (x : List ℕ). block x w) initial (first_chunks 64 n m)
unfolding blocks
blocks_are m zero = refl
blocks_are m (suc n) =
    let place : 64 * n ≡ n * 64 = omega arith in
    ap (λ (k : ℕ). block (take 64 (drop k m)) (blocks m n)) place ∙ ap (block (take 64 (drop (n * 64) m))) (blocks_are m n)
    ∙ sym (fold-append (λ (w : Buffer) (x : List ℕ). block x w) initial (first_chunks 64 n m) (take 64 (drop (n * 64) m) ∷ []))
    ∙ ap (added initial) (sym (first_chunks-add 64 n 1 m)) ∙ ap (λ (k : ℕ). added initial (first_chunks 64 k m)) (add-one n)

-- those of the end of a message and the padding come after the blocks that the message fills
pub all_blocks : (m : List ℕ) → blocks (padded m) (length (padded m) / 64)
    ≡ fold (λ (w : Buffer) (x : List ℕ). block x w) (blocks m (length m / 64))
    (first_chunks 64 (length (drop (length m / 64 * 64) m ++ padding (length m)) / 64) (drop (length m / 64 * 64) m ++ padding (length m)))
unfolding padded
all_blocks m =
    let p = padding (length m) in
    let k = length m / 64 in
    let l = drop (k * 64) m ++ p in
    let n = length l / 64 in
    let last : drop (k * 64) (m ++ p) ≡ l = drop-append-le (k * 64) m p (omega arith) in
    let parts : first_chunks 64 (k + n) (m ++ p) ≡ first_chunks 64 k m ++ first_chunks 64 n l =
    first_chunks-add 64 k n (m ++ p) ∙ ap (λ (x : List (List ℕ)). x ++ first_chunks 64 n (drop (k * 64) (m ++ p))) (first_chunks-append 64 k m p (omega arith))
    ∙ ap (λ (x : List ℕ). first_chunks 64 k m ++ first_chunks 64 n x) last in
    let count : length (m ++ p) / 64 ≡ k + n =
    omega (arith, length-append m p, length-append (drop (k * 64) m) p, length-drop (k * 64) m) in
    ap (blocks (m ++ p)) count ∙ blocks_are (m ++ p) (k + n) ∙ ap (added initial) parts
    ∙ fold-append (λ (w : Buffer) (x : List ℕ). block x w) initial (first_chunks 64 k m) (first_chunks 64 n l)
    ∙ ap (λ (w : Buffer). added w (first_chunks 64 n l)) (sym (blocks_are m k))
