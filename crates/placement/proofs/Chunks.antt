-- The first chunks of a list.
use Rattle.std.proofs.Common.{◌≡◌, ℕ, zero, suc, ◌+◌, ◌*◌, ◌<◌, ◌≤◌, List, [], ◌∷◌, ◌++◌, length, get_or, take, drop, refl, ap, ◌∙◌, ap₂, zero-add, arith}
use Rattle.std.specs.Simd.{first_chunks}
use Rattle.std.proofs.lemmas.List.{length-drop, take-append-le, drop-append-le, drop-drop}

-- the chunk at k
pub get_or-first_chunks : (n c : ℕ) (xs : List ℕ) (k : ℕ) → k < c → get_or (first_chunks n c xs) k [] ≡ take n (drop (k * n) xs)
get_or-first_chunks n zero xs k h = absurd (omega arith)
get_or-first_chunks n (suc c) xs zero h =
    let none : 0 ≡ 0 * n = omega arith in
    ap (λ (j : ℕ). take n (drop j xs)) none
get_or-first_chunks n (suc c) xs (suc k) h =
    get_or-first_chunks n c (drop n xs) k (omega arith) ∙ ap (take n) (drop-drop (k * n) n xs ∙ ap (λ (j : ℕ). drop j xs) (omega arith))

-- the first a, and then b more
pub first_chunks-add : (n a b : ℕ) (xs : List ℕ) → first_chunks n (a + b) xs ≡ first_chunks n a xs ++ first_chunks n b (drop (a * n) xs)
first_chunks-add n zero b xs =
    let none : 0 ≡ 0 * n = omega arith in
    ap (λ (k : ℕ). first_chunks n k xs) (zero-add b) ∙ ap (λ (j : ℕ). first_chunks n b (drop j xs)) none
first_chunks-add n (suc a) b xs =
    let more : suc a + b ≡ suc (a + b) = omega arith in
    ap (λ (k : ℕ). first_chunks n k xs) more ∙ ap (λ (l : List (List ℕ)). take n xs ∷ l)
    (first_chunks-add n a b (drop n xs)
    ∙ ap (λ (l : List ℕ). first_chunks n a (drop n xs) ++ first_chunks n b l) (drop-drop (a * n) n xs ∙ ap (λ (j : ℕ). drop j xs) (omega arith)))

-- those that lie within the front
pub first_chunks-append : (n k : ℕ) (xs ys : List ℕ) → k * n ≤ length xs → first_chunks n k (xs ++ ys) ≡ first_chunks n k xs
first_chunks-append n zero xs ys h = refl
first_chunks-append n (suc k) xs ys h =
    ap₂ ◌∷◌ (take-append-le n xs ys (omega arith))
    (ap (first_chunks n k) (drop-append-le n xs ys (omega arith)) ∙ first_chunks-append n k (drop n xs) ys (omega (arith, length-drop n xs)))
