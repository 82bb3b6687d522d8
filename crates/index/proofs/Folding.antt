-- Filling up level by level, from the highest numbers down, gives what `filled` gives.
use Rattle.std.proofs.Common.{◌≡◌, ℕ, zero, suc, ◌+◌, ◌-◌, ◌*◌, ◌%◌, ◌^◌, ◌<◌, ◌≤◌, Bool, true, false, ◌&&◌, ◌||◌, T, eqb, ltb, leb, ◌⊎◌, sym, refl, ap, ◌∙◌, subst, ap₂, inl, inr, le_refl, mod-lt, pow-suc, one-add, arith, pow_pos, pow_mono}
use Rattle.std.proofs.lemmas.Float.{T_from_true}
use mathlib.Core.Bool.{and-true, and-false, or-true, or-false, or_assoc}
use lib.Pow.{mod-pow-add}
use Rattle.std.proofs.lemmas.Bool.{cases_lt, and_from, and_left, and_right, lt-ltb, le-ltb, le-leb, lt-leb, ne_eqb}
use Rattle.std.proofs.lemmas.Nat.Bits.{bit_at-lt}
use Rattle.index.specs.Numbers.{Numbers, bit}
use Rattle.index.specs.Maps.{IsMap, Fills, filled}
use Rattle.index.specs.Levels.{lowered}
use Rattle.index.proofs.Filling.{filled_fills, one_top, topped, ladder, top_mod, Why, why}
use Rattle.index.proofs.Truth.{T_true, T_same, T_or, T_left, T_right}
use Rattle.index.proofs.Walks.{none_above}

-- the levels below n, the highest first
abbrev pub folds : ℕ → Numbers → Numbers
folds zero s = s
folds (suc n) s = folds n (lowered (2 ^ n) s)

-- ---- what a level leaves, and what it changes

inside : (b q : ℕ) → b ≤ q → q < 2 * b → (leb b q && ltb q (2 * b)) ≡ true
inside b q l h = and_from _ _ (le-leb b q l) (lt-ltb q (2 * b) h)

outside : (b q : ℕ) → (q < b) ⊎ (2 * b ≤ q) → (leb b q && ltb q (2 * b)) ≡ false
outside b q (inl h) = and_left _ _ (lt-leb b q h)
outside b q (inr h) = and_right (leb b q) _ (le-ltb q (2 * b) h)

pub lowered_same : (b : ℕ) (s : Numbers) (q : ℕ) → (q < b) ⊎ (2 * b ≤ q) → lowered b s q ≡ s q
lowered_same b s q h =
    ap (λ (c : Bool). s q || ((s (q + b) || s (q + 2 * b)) && c)) (outside b q h)
    ∙ ap (λ (c : Bool). s q || c) (and-false (s (q + b) || s (q + 2 * b))) ∙ or-false (s q)

pub lowered_joins : (b : ℕ) (s : Numbers) (q : ℕ) → b ≤ q → q < 2 * b → lowered b s q ≡ ((s q || s (q + b)) || s (q + 2 * b))
lowered_joins b s q l h =
    ap (λ (c : Bool). s q || ((s (q + b) || s (q + 2 * b)) && c)) (inside b q l h)
    ∙ ap (λ (c : Bool). s q || c) (and-true (s (q + b) || s (q + 2 * b))) ∙ sym (or_assoc (s q) (s (q + b)) (s (q + 2 * b)))

twice : (n : ℕ) → 2 * 2 ^ n ≡ 2 ^ suc n
twice n = omega (arith, pow-suc 2 n)

folds_same : (n : ℕ) (s : Numbers) (q : ℕ) → 2 ^ n ≤ q → folds n s q ≡ s q
folds_same zero s q h = refl
folds_same (suc n) s q h =
    folds_same n (lowered (2 ^ n) s) q (omega (arith, twice n)) ∙ lowered_same (2 ^ n) s q (inr (omega (arith, twice n)))

-- the highest of the levels
highest : (n : ℕ) (s : Numbers) (q : ℕ) → 2 ^ n ≤ q → q < 2 ^ suc n
    → folds (suc n) s q ≡ ((s q || folds (suc n) s (q + 2 ^ n)) || folds (suc n) s (q + 2 ^ suc n))
highest n s q a b =
    folds_same n (lowered (2 ^ n) s) q a ∙ lowered_joins (2 ^ n) s q a (omega (arith, twice n))
    ∙ ap₂ (λ (x y : Bool). (s q || x) || y) (sym (folds_same (suc n) s (q + 2 ^ n) (omega (arith, twice n))))
    (ap (λ (k : ℕ). s (q + k)) (twice n) ∙ sym (folds_same (suc n) s (q + 2 ^ suc n) (omega arith)))

folds_joins : (n : ℕ) (s : Numbers) (e q : ℕ) → e < n → 2 ^ e ≤ q → q < 2 ^ suc e
    → folds n s q ≡ ((s q || folds n s (q + 2 ^ e)) || folds n s (q + 2 ^ suc e))
folds_joins zero s e q l a b = absurd (omega arith)
folds_joins (suc n) s e q l a b = go (cases_lt e n) (λ h. folds_joins n (lowered (2 ^ n) s) e q h a b)
  where
    m : Numbers
    m = lowered (2 ^ n) s

    go : (e < n) ⊎ (n ≤ e) → (e < n → folds n m q ≡ ((m q || folds n m (q + 2 ^ e)) || folds n m (q + 2 ^ suc e)))
        → folds n m q ≡ ((s q || folds n m (q + 2 ^ e)) || folds n m (q + 2 ^ suc e))
    go (inl h) ih =
        let g : 2 ^ suc e ≤ 2 ^ n = pow_mono h in
        ih h ∙ ap (λ (x : Bool). (x || folds n m (q + 2 ^ e)) || folds n m (q + 2 ^ suc e)) (lowered_same (2 ^ n) s q (inl (omega arith)))
    go (inr h) ih =
        let z : n ≡ e = omega arith in
        subst (λ (k : ℕ). 2 ^ k ≤ q → q < 2 ^ suc k → folds n m q ≡ ((s q || folds n m (q + 2 ^ k)) || folds n m (q + 2 ^ suc k))) z (highest n s q) a b

-- ---- there is one such set

-- 0 is in, no number past 511 is, those from 256 on are the set's, and each other one is in by the set or by the two that it is lowered from
pub record Folded (s f : Numbers) : Type 0 where
  pub root : f 0 ≡ true
  pub past : (q : ℕ) → 512 ≤ q → f q ≡ false
  pub high : (q : ℕ) → 256 ≤ q → q < 512 → f q ≡ s q
  pub joins : (e q : ℕ) → e < 8 → 2 ^ e ≤ q → q < 2 ^ suc e → f q ≡ ((s q || f (q + 2 ^ e)) || f (q + 2 ^ suc e))

pub folded_one : (s f g : Numbers) → Folded s f → Folded s g → (q : ℕ) → f q ≡ g q
folded_one s f g F G q = go (cases_lt q 512)
  where
    level : (k e q : ℕ) → e + k ≡ 8 → 2 ^ e ≤ q → q < 2 ^ suc e → f q ≡ g q
    level zero e q z a b =
        let y : e ≡ 8 = omega arith in
        let low : 256 ≤ q = subst (λ (n : ℕ). 2 ^ n ≤ q) y a in
        let below : q < 512 = subst (λ (n : ℕ). q < 2 ^ suc n) y b in
        F.high q low below ∙ sym (G.high q low below)
    level (suc k) e q z a b =
        let p = pow-suc 2 e in
        let r = pow-suc 2 (suc e) in
        F.joins e q (omega arith) a b
        ∙ ap₂ (λ (x y : Bool). (s q || x) || y) (level k (suc e) (q + 2 ^ e) (omega arith) (omega arith) (omega arith)) (level k (suc e) (q + 2 ^ suc e) (omega arith) (omega arith) (omega arith))
        ∙ sym (G.joins e q (omega arith) a b)

    place : (q ≡ 0) ⊎ ((t : ℕ) × (t < 9) × (2 ^ t ≤ q) × (q ≡ q % 2 ^ t + 2 ^ t)) → f q ≡ g q
    place (inl z) = ap f z ∙ F.root ∙ sym (ap g z ∙ G.root)
    place (inr (t, l, a, is)) = level (8 - t) t q (omega arith) a (omega (arith, mod-lt q (pow_pos t), pow-suc 2 t))

    go : (q < 512) ⊎ (512 ≤ q) → f q ≡ g q
    go (inl h) = place (topped 9 q h)
    go (inr h) = F.past q h ∙ sym (G.past q h)

pub folds_folded : (s f : Numbers) → ((q : ℕ) → T (s q) → q < 512) → ((q : ℕ) → f q ≡ (folds 8 s q || eqb q 0)) → Folded s f
folds_folded s f bounded e = record {
  root = e 0 ∙ or-true (folds 8 s 0);
  past = λ q h. is q (omega arith) ∙ folds_same 8 s q (omega arith) ∙ none q h (s q) refl;
  high = λ q h l. is q (omega arith) ∙ folds_same 8 s q h;
  joins = λ d q l a b.
      is q (omega (arith, pow_pos d)) ∙ folds_joins 8 s d q l a b
      ∙ sym (ap₂ (λ (x y : Bool). (s q || x) || y) (is (q + 2 ^ d) (omega (arith, pow_pos d))) (is (q + 2 ^ suc d) (omega (arith, pow_pos d))));
}
  where
    is : (q : ℕ) → 0 < q → f q ≡ folds 8 s q
    is q h = e q ∙ ap (λ (b : Bool). folds 8 s q || b) (ne_eqb q 0 (λ z. omega arith)) ∙ or-false (folds 8 s q)

    none : (q : ℕ) → 512 ≤ q → (b : Bool) → s q ≡ b → s q ≡ false
    none q h false z = z
    none q h true z = absurd (omega (arith, bounded q (T_from_true _ z)))

-- ---- and it is the filled-up one

module _ (s : Numbers) (bounded : (q : ℕ) → T (s q) → q < 512) where
  F : Fills s (filled s)
  F = filled_fills s bounded

  -- a number of level e is in by a number of the set that ends in the same digits
  by : (e q : ℕ) → 2 ^ e ≤ q → q < 2 ^ suc e → T (filled s q) → (r : ℕ) × (s r ≡ true) × (2 ^ e ≤ r) × (q ≡ r % 2 ^ e + 2 ^ e)
  by e q a b t = go (why s bounded q t)
    where
      go : Why s bounded q → (r : ℕ) × (s r ≡ true) × (2 ^ e ≤ r) × (q ≡ r % 2 ^ e + 2 ^ e)
      go (inl z) = absurd (omega (arith, pow_pos e))
      go (inr (r, d, in', l, h, is)) =
          let y : (q - 2 ^ e) + 2 ^ e ≡ r % 2 ^ d + 2 ^ d = omega arith in
          let z : e ≡ d = one_top (q - 2 ^ e) (r % 2 ^ d) e d (omega (arith, pow-suc 2 e)) (mod-lt r (pow_pos d)) y in
          (r, in', subst (λ (n : ℕ). 2 ^ n ≤ r) (sym z) h, subst (λ (n : ℕ). q ≡ r % 2 ^ n + 2 ^ n) (sym z) is)

  M : IsMap (filled s)
  M = F.is_map

  pub filled_folded : Folded s (filled s)
  filled_folded = record {
    root = T_true M.root;
    past = none_above (filled s) M;
    high = λ q a b. T_same (filled s q) (s q) (λ t. from_set q (by 8 q a b t)) (F.has q);
    joins = λ e q l a b. T_same (filled s q) ((s q || filled s (q + 2 ^ e)) || filled s (q + 2 ^ suc e)) (λ t. down e q (by e q a b t)) (λ t. up e q a b (T_or _ _ t));
  }
    where
      from_set : (q : ℕ) → (r : ℕ) × (s r ≡ true) × (256 ≤ r) × (q ≡ r % 256 + 256) → T (s q)
      from_set q (r, in', h, is) = let z : r ≡ q = omega (arith, bounded r (T_from_true _ in')) in subst (λ (n : ℕ). T (s n)) z (T_from_true _ in')

      sibling : (e q : ℕ) → 2 ^ e ≤ q → q < 2 ^ suc e → T (filled s (q + 2 ^ e)) → T (filled s q)
      sibling e q a b t =
          let p = pow-suc 2 e in
          let y : q + 2 ^ e ≡ (q - 2 ^ e) + 2 ^ suc e = omega arith in
          let z : (q - 2 ^ e) + 2 ^ e ≡ q = omega arith in
          subst (λ (n : ℕ). T (filled s n)) z (M.earlier (q - 2 ^ e) (suc e) e (omega arith) (le_refl (suc e)) (subst (λ (n : ℕ). T (filled s n)) y t))

      up : (e q : ℕ) → 2 ^ e ≤ q → q < 2 ^ suc e → T (s q || filled s (q + 2 ^ e)) ⊎ T (filled s (q + 2 ^ suc e)) → T (filled s q)
      up e q a b (inr t) = M.parent q (suc e) b t
      up e q a b (inl u) = elim (T_or (s q) (filled s (q + 2 ^ e)) u) [ inl t ↦ F.has q t | inr t ↦ sibling e q a b t ]

      down : (e q : ℕ) → (r : ℕ) × (s r ≡ true) × (2 ^ e ≤ r) × (q ≡ r % 2 ^ e + 2 ^ e) → T ((s q || filled s (q + 2 ^ e)) || filled s (q + 2 ^ suc e))
      down e q (r, in', h, is) = place (cases_lt r (2 ^ suc e))
        where
          has_r : T (s r)
          has_r = T_from_true _ in'

          next : 2 ^ suc e ≤ r → T (filled s (r % 2 ^ suc e + 2 ^ suc e))
          next k = ladder (filled s) M 9 r (suc e) (bounded r has_r) (F.has r has_r) k

          parts : r % 2 ^ suc e ≡ bit r e * 2 ^ e + r % 2 ^ e
          parts = ap (λ (n : ℕ). r % 2 ^ n) (sym (one-add e)) ∙ mod-pow-add r 1 e

          place : (r < 2 ^ suc e) ⊎ (2 ^ suc e ≤ r) → T ((s q || filled s (q + 2 ^ e)) || filled s (q + 2 ^ suc e))
          place (inl k) = T_left _ _ (T_left _ _ (subst (λ (n : ℕ). T (s n)) lone has_r))
            where
              lone : r ≡ q
              lone =
                  let y : r ≡ (r - 2 ^ e) + 2 ^ e = omega arith in
                  let low : r - 2 ^ e < 2 ^ e = omega (arith, pow-suc 2 e) in
                  let z : r % 2 ^ e ≡ r - 2 ^ e = ap (λ (n : ℕ). n % 2 ^ e) y ∙ top_mod (r - 2 ^ e) e low in
                  omega arith
          place (inr k) = which (bit r e) (bit_at-lt r e) parts
            where
              which : (b : ℕ) → b < 2 → r % 2 ^ suc e ≡ b * 2 ^ e + r % 2 ^ e → T ((s q || filled s (q + 2 ^ e)) || filled s (q + 2 ^ suc e))
              which zero l z =
                  let y : r % 2 ^ suc e + 2 ^ suc e ≡ q + 2 ^ e = omega (arith, pow-suc 2 e) in
                  T_left _ _ (T_right (s q) _ (subst (λ (n : ℕ). T (filled s n)) y (next k)))
              which (suc zero) l z =
                  let y : r % 2 ^ suc e + 2 ^ suc e ≡ q + 2 ^ suc e = omega arith in
                  T_right (s q || filled s (q + 2 ^ e)) _ (subst (λ (n : ℕ). T (filled s n)) y (next k))
              which (suc (suc b)) l z = absurd (omega arith)
