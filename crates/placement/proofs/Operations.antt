-- The operations one after the other, and the words and amounts that they use.
use Rattle.std.proofs.Common.{◌≡◌, ℕ, zero, suc, ◌+◌, ◌-◌, ◌*◌, ◌/◌, ◌%◌, ◌<◌, ◌≤◌, List, [], ◌∷◌, Bool, true, false, cond, leb, ltb, length, get_or, take, drop, refl, sym, ap, ◌∙◌, arith}
use borrow.Author.Tests.{leb-true, ltb-true}
use Rattle.std.specs.Simd.{first_chunks}
use Rattle.std.proofs.lemmas.List.{get_or-take, get_or-drop}
use Rattle.placement.specs.Rfc1321.{auxiliary, word, word_numbers, word_number, shifts, shift, Listed, sine, Buffer, mixed, operation, operations}
use Rattle.placement.proofs.Chunks.{get_or-first_chunks}

-- byte j of word k of a block
byte : (x : List ℕ) (n k j i : ℕ) → k < n → j < 4 → i ≡ 4 * k + j → get_or (get_or (first_chunks 4 n x) k []) j 0 ≡ get_or x i 0
byte x n k j i h below e =
    ap (λ (l : List ℕ). get_or l j 0) (get_or-first_chunks 4 n x k h) ∙ get_or-take 4 (drop (k * 4) x) j 0 below
    ∙ get_or-drop (k * 4) x j 0 ∙ ap (λ (p : ℕ). get_or x p 0) (omega arith)

-- word k of a block that is read as arrays of four bytes
pub word_of : (words : List (List ℕ)) (x : List ℕ) (n k : ℕ) → words ≡ first_chunks 4 n x → k < n
    → get_or (get_or words k []) 0 0 + get_or (get_or words k []) 1 0 * 256 + get_or (get_or words k []) 2 0 * 65536 + get_or (get_or words k []) 3 0 * 16777216 ≡ word x k
word_of words x n k e h =
    let a = byte x n k 0 (4 * k) h (omega arith) (omega arith) in
    let b = byte x n k 1 (4 * k + 1) h (omega arith) (omega arith) in
    let c = byte x n k 2 (4 * k + 2) h (omega arith) (omega arith) in
    let d = byte x n k 3 (4 * k + 3) h (omega arith) (omega arith) in
    rw e (rw (a, b, c, d))

-- each number of the list is from a to below b
abbrev within : ℕ → ℕ → List ℕ → Bool
within a b [] = true
within a b (x ∷ xs) = cond (leb a x) (cond (ltb x b) (within a b xs) false) false

both : (p q : Bool) → cond p q false ≡ true → (p ≡ true) × (q ≡ true)
both true q h = (refl, h)
both false q h = cc

each_within : (a b : ℕ) (xs : List ℕ) (i : ℕ) → within a b xs ≡ true → i < length xs → (a ≤ get_or xs i 0) × (get_or xs i 0 < b)
each_within a b [] i h l = absurd (omega arith)
each_within a b (x ∷ xs) zero h l =
    let p = both (leb a x) (cond (ltb x b) (within a b xs) false) h in
    (leb-true a x p.0, ltb-true x b (both (ltb x b) (within a b xs) p.1).0)
each_within a b (x ∷ xs) (suc i) h l =
    let p = both (leb a x) (cond (ltb x b) (within a b xs) false) h in
    each_within a b xs i (both (ltb x b) (within a b xs) p.1).1 (omega arith)

-- operation n of the round numbered r from 0 on is among the 64 of the RFC
pub listed : (r n : ℕ) (numbers amounts : List ℕ) → r < 4 → n < 16
    → numbers ≡ take 16 (drop (16 * r) word_numbers) → amounts ≡ take 4 (drop (4 * r) shifts)
    → Listed (get_or numbers n 0) (get_or amounts (n % 4) 0) (16 * r + n + 1)
listed r n numbers amounts h l e f =
    let i = 16 * r + n + 1 in
    let place : 16 * r + n ≡ i - 1 = omega arith in
    let turn : 4 * r + n % 4 ≡ (i - 1) / 16 * 4 + (i - 1) % 4 = omega arith in
    let number : get_or numbers n 0 ≡ word_number i =
    ap (λ (xs : List ℕ). get_or xs n 0) e ∙ get_or-take 16 (drop (16 * r) word_numbers) n 0 l ∙ get_or-drop (16 * r) word_numbers n 0
    ∙ ap (λ (p : ℕ). get_or word_numbers p 0) place in
    let amount : get_or amounts (n % 4) 0 ≡ shift i =
    ap (λ (xs : List ℕ). get_or xs (n % 4) 0) f ∙ get_or-take 4 (drop (4 * r) shifts) (n % 4) 0 (omega arith) ∙ get_or-drop (4 * r) shifts (n % 4) 0
    ∙ ap (λ (p : ℕ). get_or shifts p 0) turn in
    let inside = each_within 0 16 word_numbers (i - 1) refl (omega arith) in
    let small = each_within 1 32 shifts ((i - 1) / 16 * 4 + (i - 1) % 4) refl (omega arith) in
    (omega arith, omega arith, number, omega (arith, number, inside.1), amount, omega (arith, amount, small.0), omega (arith, amount, small.1))

-- the shift amount of that operation
pub amount : (r n : ℕ) (amounts : List ℕ) → r < 4 → n < 16 → amounts ≡ take 4 (drop (4 * r) shifts) → get_or amounts (n % 4) 0 ≡ shift (16 * r + n + 1)
amount r n amounts h l e = (listed r n _ amounts h l refl e).4

-- what an operation makes of the words
pub operation_is : (x : List ℕ) (i r : ℕ) (w : Buffer) {f y t s next : ℕ} → (i - 1) / 16 ≡ r → f ≡ auxiliary r w.1 w.2 w.3
    → y ≡ word x (word_number i) → t ≡ sine i → s ≡ shift i → next ≡ mixed w.0 w.1 f y t s
    → ◌≡◌ {A = Buffer} (w.3, next, w.1, w.2) (operation x i w)
operation_is x i r w {y = y} {t = t} {s = s} er ef ey et es e =
    let g = auxiliary ((i - 1) / 16) w.1 w.2 w.3 in
    let k = word x (word_number i) in
    ap (λ (q : ℕ). (w.3, q, w.1, w.2))
    (e ∙ ap (λ (q : ℕ). mixed w.0 w.1 q y t s) (ef ∙ ap (λ (q : ℕ). auxiliary q w.1 w.2 w.3) (sym er))
    ∙ ap (λ (q : ℕ). mixed w.0 w.1 g q t s) ey ∙ ap (λ (q : ℕ). mixed w.0 w.1 g k q s) et ∙ ap (λ (q : ℕ). mixed w.0 w.1 g k (sine i) q) es)

-- four operations
pub four : (x : List ℕ) (i : ℕ) (w : Buffer) → operations x i 4 w ≡ operation x (i + 3) (operation x (i + 2) (operation x (i + 1) (operation x i w)))
unfolding operations
four x i w =
    let first : i + 0 ≡ i = omega arith in
    ap (λ (k : ℕ). operation x (i + 3) (operation x (i + 2) (operation x (i + 1) (operation x k w)))) first

-- n more operations
pub more : (x : List ℕ) (i m n j : ℕ) (w : Buffer) → j ≡ i + m → operations x j n (operations x i m w) ≡ operations x i (n + m) w
unfolding operations
more x i m zero j w h = ap (λ (k : ℕ). operations x i k w) (omega arith)
more x i m (suc n) j w h =
    let place : j + n ≡ i + (n + m) = omega arith in
    let count : suc (n + m) ≡ suc n + m = omega arith in
    ap (λ (k : ℕ). operation x k (operations x j n (operations x i m w))) place ∙ ap (operation x (i + (n + m))) (more x i m n j w h)
    ∙ ap (λ (k : ℕ). operations x i k w) count
