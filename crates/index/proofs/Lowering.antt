-- A level of filling up, in words.
use Rattle.std.proofs.Common.{◌≡◌, ℕ, ◌+◌, ◌-◌, ◌*◌, ◌/◌, ◌%◌, ◌^◌, ◌<◌, ◌≤◌, ◌≢◌, min, Bool, true, ◌&&◌, ◌||◌, eqb, ltb, leb, ◌⊎◌, List, length, get_or, set, sym, refl, ap, ◌∙◌, ap₂, inl, inr, arith, get_or-set_other, get_or-set_same}
use mathlib.Core.Bool.{or-false, or_assoc}
use mathlib.Core.Path.{fun_ext}
use lib.Bits.{bit_and, bit_or}
use Rattle.std.proofs.lemmas.Bool.{cases_lt, cases_eq, agree_below, agree_below_at}
use Rattle.std.proofs.lemmas.Bool.Decides.{nat_tests}
use Rattle.std.proofs.lemmas.List.{length-set}
use Rattle.std.proofs.lemmas.Nat.Bits.{bit_at-lt, bit_at_and}
use Rattle.index.specs.Numbers.{Numbers, bit, bits}
use Rattle.index.specs.Levels.{lowered}
use Rattle.index.proofs.Bits.{bit_shr, bit_shl, bit_shl_below, bit_mod}
use Rattle.index.proofs.Folding.{lowered_same, lowered_joins}
use Rattle.index.proofs.WordSets.{on, on_or}

-- ---- the first word

on_first : (ws : List ℕ) (q : ℕ) → q < 64 → bits ws q ≡ on (get_or ws 0 0) q
on_first ws q h = ap₂ (λ (i k : ℕ). on (get_or ws i 0) k) (omega arith) (omega arith)

on_new : (ws : List ℕ) (w q : ℕ) → 0 < length ws → q < 64 → bits (set ws 0 w) q ≡ on w q
on_new ws w q l h = on_first (set ws 0 w) q h ∙ ap (λ (n : ℕ). on n q) (get_or-set_same ws 0 w 0 l)

on_others : (ws : List ℕ) (w q : ℕ) → 64 ≤ q → bits (set ws 0 w) q ≡ bits ws q
on_others ws w q h = ap (λ (n : ℕ). on n (q % 64)) (get_or-set_other ws 0 (q / 64) w 0 (λ e. omega arith))

-- ---- levels of less than half a word

on_and : (a b k : ℕ) → on (bit_and a b) k ≡ (on a k && on b k)
on_and a b k = ap (λ (x : ℕ). eqb x 1) (bit_at_and a b k) ∙ both (bit a k) (bit b k) (bit_at-lt a k) (bit_at-lt b k)
  where
    both : (x y : ℕ) → x < 2 → y < 2 → eqb (min x y) 1 ≡ (eqb x 1 && eqb y 1)
    both x y hx hy = grind (arith, nat_tests)

on_shr : (n s k : ℕ) → on (n / 2 ^ s) k ≡ on n (k + s)
on_shr n s k = ap (λ (x : ℕ). eqb x 1) (bit_shr n s k ∙ ap (bit n) (omega arith))

-- the mask of a level of b bits
abbrev pub mask : ℕ → ℕ
mask b = (((1 * 2 ^ b) % 2 ^ 64 - 1) * 2 ^ b) % 2 ^ 64

marked : (b q : ℕ) → b ≤ 16 → q < 64 → on (mask b) q ≡ (leb b q && ltb q (2 * b))
marked b q few h = agree_below_at (on (mask b)) (λ k. leb b k && ltb k (2 * b)) 64 q (agree_below_at (λ n. agree_below (on (mask n)) (λ k. leb n k && ltb k (2 * n)) 64) (λ n. true) 17 b refl (omega arith)) h

pub lower_bits : (ws : List ℕ) (b : ℕ) → 0 < length ws → b ≤ 16 → (q : ℕ)
    → bits (set ws 0 (bit_or (get_or ws 0 0) (bit_and (bit_or (get_or ws 0 0 / 2 ^ b) (get_or ws 0 0 / 2 ^ (2 * b))) (mask b)))) q ≡ lowered b (bits ws) q
lower_bits ws b l few q = go (cases_lt q 64) (cases_lt q b) (cases_lt q (2 * b))
  where
    w : ℕ
    w = get_or ws 0 0

    new : ℕ
    new = bit_or w (bit_and (bit_or (w / 2 ^ b) (w / 2 ^ (2 * b))) (mask b))

    -- in the word alone
    here : q < 64 → bits (set ws 0 new) q ≡ lowered b (on w) q
    here h =
        on_new ws new q l h ∙ on_or w _ q
        ∙ ap (λ (x : Bool). on w q || x) (on_and _ (mask b) q ∙ ap₂ ◌&&◌ (on_or (w / 2 ^ b) (w / 2 ^ (2 * b)) q ∙ ap₂ ◌||◌ (on_shr w b q) (on_shr w (2 * b) q)) (marked b q few h))

    away : q < 64 → (q < b) ⊎ (2 * b ≤ q) → bits (set ws 0 new) q ≡ lowered b (bits ws) q
    away h o = here h ∙ lowered_same b (on w) q o ∙ sym (lowered_same b (bits ws) q o ∙ on_first ws q h)

    go : (q < 64) ⊎ (64 ≤ q) → (q < b) ⊎ (b ≤ q) → (q < 2 * b) ⊎ (2 * b ≤ q) → bits (set ws 0 new) q ≡ lowered b (bits ws) q
    go (inr h) c d = on_others ws new q h ∙ sym (lowered_same b (bits ws) q (inr (omega arith)))
    go (inl h) (inl c) d = away h (inl c)
    go (inl h) (inr c) (inr d) = away h (inr d)
    go (inl h) (inr c) (inl d) =
        here h ∙ lowered_joins b (on w) q c d
        ∙ sym (lowered_joins b (bits ws) q c d ∙ ap₂ ◌||◌ (ap₂ ◌||◌ (on_first ws q h) (on_first ws (q + b) (omega arith))) (on_first ws (q + 2 * b) (omega arith)))

-- ---- the level of half a word

pub lower_half : (ws : List ℕ) → 1 < length ws → (q : ℕ)
    → bits (set ws 0 (bit_or (get_or ws 0 0) ((bit_or (get_or ws 1 0) (get_or ws 1 0 / 2 ^ 32) * 2 ^ 32) % 2 ^ 64))) q ≡ lowered 32 (bits ws) q
lower_half ws l q = go (cases_lt q 64) (cases_lt q 32)
  where
    w : ℕ
    w = get_or ws 0 0

    v : ℕ
    v = get_or ws 1 0

    new : ℕ
    new = bit_or w ((bit_or v (v / 2 ^ 32) * 2 ^ 32) % 2 ^ 64)

    shifted : q < 64 → (x : ℕ) → bit ((x * 2 ^ 32) % 2 ^ 64) q ≡ bit (x * 2 ^ 32) q
    shifted h x = bit_mod (x * 2 ^ 32) 64 q h

    -- the bits of the second word
    second : (k i : ℕ) → i < 64 → k ≡ 64 + i → bits ws k ≡ on v i
    second k i h e = ap₂ (λ (j n : ℕ). on (get_or ws j 0) n) (omega arith) (omega arith)

    go : (q < 64) ⊎ (64 ≤ q) → (q < 32) ⊎ (32 ≤ q) → bits (set ws 0 new) q ≡ lowered 32 (bits ws) q
    go (inr h) c = on_others ws new q h ∙ sym (lowered_same 32 (bits ws) q (inr h))
    go (inl h) (inl c) =
        on_new ws new q (omega arith) h ∙ on_or w _ q
        ∙ ap (λ (x : ℕ). on w q || eqb x 1) (shifted h _ ∙ bit_shl_below (bit_or v (v / 2 ^ 32)) 32 q c) ∙ or-false (on w q)
        ∙ sym (lowered_same 32 (bits ws) q (inl c) ∙ on_first ws q h)
    go (inl h) (inr c) =
        let e : q ≡ 32 + (q - 32) = omega arith in
        on_new ws new q (omega arith) h ∙ on_or w _ q
        ∙ ap (λ (x : ℕ). on w q || eqb x 1) (shifted h _ ∙ ap (bit (bit_or v (v / 2 ^ 32) * 2 ^ 32)) e ∙ bit_shl (bit_or v (v / 2 ^ 32)) 32 (q - 32))
        ∙ ap (λ (x : Bool). on w q || x) (on_or v (v / 2 ^ 32) (q - 32) ∙ ap (λ (x : Bool). on v (q - 32) || x) (on_shr v 32 (q - 32) ∙ ap (on v) (omega arith)))
        ∙ sym (or_assoc (on w q) (on v (q - 32)) (on v q))
        ∙ sym (lowered_joins 32 (bits ws) q c h
        ∙ ap₂ ◌||◌ (ap₂ ◌||◌ (on_first ws q h) (second (q + 32) (q - 32) (omega arith) (omega arith))) (second (q + 64) q h (omega arith)))

-- ---- levels of whole words

lower_words : (xs ys : List ℕ) (b : ℕ)
    → ((i : ℕ) → b ≤ i → i < 2 * b → get_or ys i 0 ≡ bit_or (get_or xs i 0) (bit_or (get_or xs (i + b) 0) (get_or xs (i + 2 * b) 0)))
    → ((i : ℕ) → (i < b) ⊎ (2 * b ≤ i) → get_or ys i 0 ≡ get_or xs i 0) → (q : ℕ) → bits ys q ≡ lowered (64 * b) (bits xs) q
lower_words xs ys b new old q = go (cases_lt (q / 64) b) (cases_lt (q / 64) (2 * b))
  where
    i : ℕ
    i = q / 64

    k : ℕ
    k = q % 64

    at_word : (j n : ℕ) → n ≡ q + 64 * j → bits xs n ≡ on (get_or xs (i + j) 0) k
    at_word j n e = ap₂ (λ (a c : ℕ). on (get_or xs a 0) c) (omega arith) (omega arith)

    go : (i < b) ⊎ (b ≤ i) → (i < 2 * b) ⊎ (2 * b ≤ i) → bits ys q ≡ lowered (64 * b) (bits xs) q
    go (inl c) d = ap (λ (n : ℕ). on n k) (old i (inl c)) ∙ sym (lowered_same (64 * b) (bits xs) q (inl (omega arith)))
    go (inr c) (inr d) = ap (λ (n : ℕ). on n k) (old i (inr d)) ∙ sym (lowered_same (64 * b) (bits xs) q (inr (omega arith)))
    go (inr c) (inl d) =
        ap (λ (n : ℕ). on n k) (new i c d) ∙ on_or (get_or xs i 0) _ k
        ∙ ap (λ (x : Bool). on (get_or xs i 0) k || x) (on_or (get_or xs (i + b) 0) (get_or xs (i + 2 * b) 0) k)
        ∙ sym (or_assoc (on (get_or xs i 0) k) (on (get_or xs (i + b) 0) k) (on (get_or xs (i + 2 * b) 0) k))
        ∙ sym (lowered_joins (64 * b) (bits xs) q (omega arith) (omega arith)
        ∙ ap₂ ◌||◌ (ap (λ (x : Bool). bits xs q || x) (at_word b (q + 64 * b) refl)) (at_word (2 * b) (q + 2 * (64 * b)) (omega arith)))

-- the word at i joins those that are b and 2 * b above it
abbrev pub joined : List ℕ → ℕ → ℕ → List ℕ
joined ws i b = set ws i (bit_or (get_or ws i 0) (bit_or (get_or ws (i + b) 0) (get_or ws (i + 2 * b) 0)))

other : (ws : List ℕ) (i b k : ℕ) → k ≢ i → get_or (joined ws i b) k 0 ≡ get_or ws k 0
other ws i b k h = get_or-set_other ws i k _ 0 h

same : (ws : List ℕ) (i b : ℕ) → i < length ws → get_or (joined ws i b) i 0 ≡ bit_or (get_or ws i 0) (bit_or (get_or ws (i + b) 0) (get_or ws (i + 2 * b) 0))
same ws i b h = get_or-set_same ws i _ 0 h

two_words : (ws : List ℕ) → length ws ≡ 8 → (q : ℕ) → bits (joined (joined ws 2 2) 3 2) q ≡ lowered 128 (bits ws) q
two_words ws l = lower_words ws (joined (joined ws 2 2) 3 2) 2 new old
  where
    long : length (joined ws 2 2) ≡ 8
    long = length-set ws 2 _ ∙ l

    new : (i : ℕ) → 2 ≤ i → i < 4 → get_or (joined (joined ws 2 2) 3 2) i 0 ≡ bit_or (get_or ws i 0) (bit_or (get_or ws (i + 2) 0) (get_or ws (i + 4) 0))
    new i a b = elim (cases_eq i 2) [
      | inl e ↦ rw e (other (joined ws 2 2) 3 2 2 (λ z. omega arith) ∙ same ws 2 2 (omega arith))
      | inr ne ↦
          let e : i ≡ 3 = omega arith in
          rw e (same (joined ws 2 2) 3 2 (omega (arith, long)) ∙ ap₂ bit_or (other ws 2 2 3 (λ z. omega arith)) (ap₂ bit_or (other ws 2 2 5 (λ z. omega arith)) (other ws 2 2 7 (λ z. omega arith))))
    ]

    old : (i : ℕ) → (i < 2) ⊎ (4 ≤ i) → get_or (joined (joined ws 2 2) 3 2) i 0 ≡ get_or ws i 0
    old i (inl h) = other (joined ws 2 2) 3 2 i (λ z. omega arith) ∙ other ws 2 2 i (λ z. omega arith)
    old i (inr h) = other (joined ws 2 2) 3 2 i (λ z. omega arith) ∙ other ws 2 2 i (λ z. omega arith)

one_word : (ws : List ℕ) → length ws ≡ 8 → (q : ℕ) → bits (joined ws 1 1) q ≡ lowered 64 (bits ws) q
one_word ws l = lower_words ws (joined ws 1 1) 1 new old
  where
    new : (i : ℕ) → 1 ≤ i → i < 2 → get_or (joined ws 1 1) i 0 ≡ bit_or (get_or ws i 0) (bit_or (get_or ws (i + 1) 0) (get_or ws (i + 2) 0))
    new i a b = let e : i ≡ 1 = omega arith in rw e (same ws 1 1 (omega arith))

    old : (i : ℕ) → (i < 1) ⊎ (2 ≤ i) → get_or (joined ws 1 1) i 0 ≡ get_or ws i 0
    old i (inl h) = other ws 1 1 i (λ z. omega arith)
    old i (inr h) = other ws 1 1 i (λ z. omega arith)

pub three_words : (ws : List ℕ) → length ws ≡ 8 → (q : ℕ) → bits (joined (joined (joined ws 2 2) 3 2) 1 1) q ≡ lowered 64 (lowered 128 (bits ws)) q
three_words ws l q =
    one_word (joined (joined ws 2 2) 3 2) (length-set (joined ws 2 2) 3 _ ∙ length-set ws 2 _ ∙ l) q
    ∙ ap (λ (m : Numbers). lowered 64 m q) (fun_ext (two_words ws l))
