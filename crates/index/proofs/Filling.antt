-- Filling up a set: `filled` is the least map that has it.
use Rattle.std.proofs.Common.{◌≡◌, ℕ, zero, suc, ◌+◌, ◌-◌, ◌%◌, ◌^◌, ◌<◌, ◌≤◌, Bool, true, false, ◌&&◌, ◌||◌, T, eqb, leb, ◌⊎◌, sym, refl, ap, ◌∙◌, subst, ap₂, inl, inr, le_refl, mod-lt, mod-eq_of_lt, pow-suc, arith, pow_pos, pow_mono}
use Rattle.std.proofs.lemmas.Float.{T_from_true}
use mathlib.Core.Path.{fun_ext}
use mathlib.Core.Bool.{or-false}
use native.Mathlib.Nat.{add-mod_right}
use lib.Pow.{pow-lt, mod-mod-pow}
use Rattle.std.proofs.lemmas.Bool.{cases_lt, cases_order, and_parts, and_from, leb-true, le-leb, both_ways, or_cases, or_left, or_right, eqb-true, eq-eqb}
use Rattle.index.specs.Numbers.{Numbers, Within, some_below}
use Rattle.index.specs.Maps.{IsMap, Fills, wants, filled}
use Rattle.index.proofs.Truth.{T_true}

pub some_from : (t : ℕ → Bool) (n k : ℕ) → k < n → t k ≡ true → some_below t n ≡ true
some_from t zero k l h = absurd (omega arith)
some_from t (suc n) k l h = elim (cases_lt k n) [
  | inl a ↦ or_right _ _ (some_from t n k a h)
  | inr a ↦ let z : k ≡ n = omega arith in or_left _ _ (subst (λ (j : ℕ). t j ≡ true) z h)
]

pub some_gives : (t : ℕ → Bool) (n : ℕ) → some_below t n ≡ true → (k : ℕ) × (k < n) × (t k ≡ true)
some_gives t zero h = absurd (both_ways false refl h)
some_gives t (suc n) h = go (or_cases _ _ h) (λ a. some_gives t n a)
  where
    go : (t n ≡ true) ⊎ (some_below t n ≡ true) → (some_below t n ≡ true → (k : ℕ) × (k < n) × (t k ≡ true)) → (k : ℕ) × (k < suc n) × (t k ≡ true)
    go (inl a) ih = (n, le_refl _, a)
    go (inr a) ih = let r = ih a in (r.0, omega (arith, r.1), r.2)

-- ---- powers

-- the digits below e of a number that begins with the digits d
low_low : (n e f : ℕ) → f ≤ e → n % 2 ^ e % 2 ^ f ≡ n % 2 ^ f
low_low n e f l = let z : e ≡ (e - f) + f = omega arith in subst (λ (k : ℕ). n % 2 ^ k % 2 ^ f ≡ n % 2 ^ f) (sym z) (mod-mod-pow n (e - f) f)

pub top_mod : (p k : ℕ) → p < 2 ^ k → (p + 2 ^ k) % 2 ^ k ≡ p
top_mod p k h = add-mod_right p (2 ^ k) ∙ mod-eq_of_lt h

-- a number with a top digit is that digit and the rest, in one way
pub one_top : (p q r e : ℕ) → p < 2 ^ r → q < 2 ^ e → p + 2 ^ r ≡ q + 2 ^ e → r ≡ e
one_top p q r e h k s = go (cases_order r e)
  where
    apart : (p q a b : ℕ) → p < a → a + a ≤ b → p + a ≡ q + b → ⊥
    apart p q a b h l s = omega arith

    twice : (a b : ℕ) → a < b → 2 ^ a + 2 ^ a ≤ 2 ^ b
    twice a b l = let g : 2 ^ suc a ≤ 2 ^ b = pow_mono l in omega (arith, pow-suc 2 a)

    go : (r ≡ e) ⊎ ((r < e) ⊎ (e < r)) → r ≡ e
    go (inl z) = z
    go (inr (inl l)) = absurd (apart p q _ _ h (twice r e l) s)
    go (inr (inr l)) = absurd (apart q p _ _ k (twice e r l) (sym s))

-- a number below 2 ^ k that is not 0 has a top digit
pub topped : (k n : ℕ) → n < 2 ^ k → (n ≡ 0) ⊎ ((t : ℕ) × (t < k) × (2 ^ t ≤ n) × (n ≡ n % 2 ^ t + 2 ^ t))
topped zero n h = inl (omega arith)
topped (suc k) n h = go (cases_lt n (2 ^ k)) (λ l. topped k n l)
  where
    go : (n < 2 ^ k) ⊎ (2 ^ k ≤ n) → (n < 2 ^ k → (n ≡ 0) ⊎ ((t : ℕ) × (t < k) × (2 ^ t ≤ n) × (n ≡ n % 2 ^ t + 2 ^ t)))
        → (n ≡ 0) ⊎ ((t : ℕ) × (t < suc k) × (2 ^ t ≤ n) × (n ≡ n % 2 ^ t + 2 ^ t))
    go (inl l) ih = elim (ih l) [ inl z ↦ inl z | inr r ↦ inr (r.0, omega (arith, r.1), r.2, r.3) ]
    go (inr l) ih = inr (k, le_refl _, l, is)
      where
        rest : n - 2 ^ k < 2 ^ k
        rest = omega (arith, pow-suc 2 k)

        is : n ≡ n % 2 ^ k + 2 ^ k
        is = let e : n ≡ (n - 2 ^ k) + 2 ^ k = omega arith in e ∙ ap (λ (z : ℕ). z + 2 ^ k) (sym (top_mod _ k rest)) ∙ ap (λ (z : ℕ). z % 2 ^ k + 2 ^ k) (sym e)

-- ---- what a map that has r has

pub ladder : (m : Numbers) → IsMap m → (k r e : ℕ) → r < 2 ^ k → T (m r) → 2 ^ e ≤ r → T (m (r % 2 ^ e + 2 ^ e))
ladder m M zero r e h t l = absurd (omega (arith, pow_pos e))
ladder m M (suc k) r e h t l = go (λ r h t l. ladder m M k r e h t l) (topped (suc k) r h)
  where
    go : ((r : ℕ) → r < 2 ^ k → T (m r) → 2 ^ e ≤ r → T (m (r % 2 ^ e + 2 ^ e)))
        → (r ≡ 0) ⊎ ((t : ℕ) × (t < suc k) × (2 ^ t ≤ r) × (r ≡ r % 2 ^ t + 2 ^ t)) → T (m (r % 2 ^ e + 2 ^ e))
    go ih (inl z) = absurd (omega (arith, pow_pos e))
    go ih (inr (f, f<, f≤, is)) = place (cases_order e f) (cases_lt (r % 2 ^ f) (2 ^ e))
      where
        rest : r % 2 ^ f < 2 ^ f
        rest = mod-lt r (pow_pos f)

        whole : T (m (r % 2 ^ f + 2 ^ f))
        whole = subst (λ (z : ℕ). T (m z)) is t

        past : (a b c : ℕ) → a ≡ b + c → b < c → c + c ≤ a → ⊥
        past a b c s h k = omega arith

        place : (e ≡ f) ⊎ ((e < f) ⊎ (f < e)) → (r % 2 ^ f < 2 ^ e) ⊎ (2 ^ e ≤ r % 2 ^ f) → T (m (r % 2 ^ e + 2 ^ e))
        place (inl z) c = subst (λ (j : ℕ). T (m (r % 2 ^ j + 2 ^ j))) (sym z) whole
        place (inr (inr b)) c =
            let g : 2 ^ suc f ≤ 2 ^ e = pow_mono b in
            absurd (past r (r % 2 ^ f) (2 ^ f) is rest (omega (arith, pow-suc 2 f)))
        place (inr (inl b)) (inl c) =
            let same : r % 2 ^ e ≡ r % 2 ^ f = sym (low_low r f e (omega arith)) ∙ mod-eq_of_lt c in
            subst (λ (z : ℕ). T (m (z + 2 ^ e))) (sym same) (M.earlier (r % 2 ^ f) f e c b whole)
        place (inr (inl b)) (inr c) =
            let below : 2 ^ f ≤ 2 ^ k = pow_mono (omega arith) in
            let got = ih (r % 2 ^ f) (omega (arith, rest)) (M.parent (r % 2 ^ f) f rest whole) c in
            subst (λ (z : ℕ). T (m (z + 2 ^ e))) (low_low r f e (omega arith)) got

-- ---- `filled`

abbrev pub source : Numbers → ℕ → ℕ → Bool
source s q r = s r && wants r q

abbrev pub rung : ℕ → ℕ → ℕ → Bool
rung r q e = leb (2 ^ e) r && eqb q (r % 2 ^ e + 2 ^ e)

module _ (s : Numbers) (bounded : (q : ℕ) → T (s q) → q < 512) where
  -- why a number is in
  abbrev pub Why : ℕ → Type 0
  Why q = (q ≡ 0) ⊎ ((r : ℕ) × (e : ℕ) × (s r ≡ true) × (e < 9) × (2 ^ e ≤ r) × (q ≡ r % 2 ^ e + 2 ^ e))

  pub why : (q : ℕ) → T (filled s q) → Why q
  unfolding filled wants
  why q t = go (or_cases (eqb q 0) (some_below (source s q) 512) (T_true t))
    where
      go : (eqb q 0 ≡ true) ⊎ (some_below (source s q) 512 ≡ true) → Why q
      go (inl h) = inl (eqb-true q 0 h)
      go (inr h) =
          let a = some_gives (source s q) 512 h in
          let b = and_parts (s a.0) (wants a.0 q) a.2 in
          let c = some_gives (rung a.0 q) 9 b.1 in
          let d = and_parts (leb (2 ^ c.0) a.0) (eqb q (a.0 % 2 ^ c.0 + 2 ^ c.0)) c.2 in
          inr (a.0, c.0, b.0, c.1, leb-true _ _ d.0, eqb-true _ _ d.1)

  because : (q : ℕ) → Why q → T (filled s q)
  unfolding filled wants
  because q (inl z) = T_from_true _ (or_left (eqb q 0) (some_below (source s q) 512) (eq-eqb q 0 z))
  because q (inr (r, e, in', l, h, is)) =
      let a : rung r q e ≡ true = and_from _ _ (le-leb (2 ^ e) r h) (eq-eqb q (r % 2 ^ e + 2 ^ e) is) in
      let b : source s q r ≡ true = and_from _ _ in' (some_from (rung r q) 9 e l a) in
      T_from_true _ (or_right (eqb q 0) (some_below (source s q) 512) (some_from (source s q) 512 r (bounded r (T_from_true _ in')) b))

  filled_map : IsMap (filled s)
  filled_map = record {
    root = because 0 (inl refl);
    bounded = λ q t. low q (why q t);
    parent = λ p r l t. up p r l (why (p + 2 ^ r) t);
    earlier = λ p r j l k t. side p r j l k (why (p + 2 ^ r) t);
  }
    where
      low : (q : ℕ) → Why q → q < 512
      low q (inl z) = omega arith
      low q (inr (r, e, in', l, h, is)) =
          let g : 2 ^ suc e ≤ 2 ^ 9 = pow_mono l in
          omega (arith, mod-lt r (pow_pos e), pow-suc 2 e)

      up : (p r : ℕ) → p < 2 ^ r → Why (p + 2 ^ r) → T (filled s p)
      up p r l (inl z) = absurd (omega (arith, pow_pos r))
      up p r l (inr (r', e, in', k, h, is)) = place (topped e p below)
        where
          z : r ≡ e
          z = one_top p (r' % 2 ^ e) r e l (mod-lt r' (pow_pos e)) is

          below : p < 2 ^ e
          below = subst (λ (j : ℕ). p < 2 ^ j) z l

          rest : p ≡ r' % 2 ^ e
          rest = let g : 2 ^ r ≡ 2 ^ e = ap (λ (j : ℕ). 2 ^ j) z in omega (arith, is)

          place : (p ≡ 0) ⊎ ((t : ℕ) × (t < e) × (2 ^ t ≤ p) × (p ≡ p % 2 ^ t + 2 ^ t)) → T (filled s p)
          place (inl y) = because p (inl y)
          place (inr (t, a, b, c)) =
              because p (inr (r', t, in', omega arith, omega (arith, pow-lt a), c ∙ ap (λ (y : ℕ). y + 2 ^ t) (ap (λ (y : ℕ). y % 2 ^ t) rest ∙ low_low r' e t (omega arith))))

      side : (p r j : ℕ) → p < 2 ^ j → j < r → Why (p + 2 ^ r) → T (filled s (p + 2 ^ j))
      side p r j l k (inl z) = absurd (omega (arith, pow_pos r))
      side p r j l k (inr (r', e, in', k', h, is)) =
          because (p + 2 ^ j) (inr (r', j, in', omega (arith, j<e), omega (arith, pow-lt j<e), ap (λ (y : ℕ). y + 2 ^ j) (sym (mod-eq_of_lt l) ∙ ap (λ (y : ℕ). y % 2 ^ j) rest ∙ low_low r' e j (omega (arith, j<e)))))
        where
          z : r ≡ e
          z = one_top p (r' % 2 ^ e) r e (omega (arith, pow-lt k)) (mod-lt r' (pow_pos e)) is

          j<e : j < e
          j<e = omega (arith, z)

          rest : p ≡ r' % 2 ^ e
          rest = let g : 2 ^ r ≡ 2 ^ e = ap (λ (j : ℕ). 2 ^ j) z in omega (arith, is)

  pub filled_fills : Fills s (filled s)
  filled_fills = record { is_map = filled_map; has = has; least = λ m M w q t. least m M w q (why q t) }
    where
      has : Within s (filled s)
      has q t = because q (go (topped 9 q (bounded q t)))
        where
          go : (q ≡ 0) ⊎ ((e : ℕ) × (e < 9) × (2 ^ e ≤ q) × (q ≡ q % 2 ^ e + 2 ^ e)) → Why q
          go (inl z) = inl z
          go (inr (e, a, b, c)) = inr (q, e, T_true t, a, b, c)

      least : (m : Numbers) → IsMap m → Within s m → (q : ℕ) → Why q → T (m q)
      least m M w q (inl z) = rw z M.root
      least m M w q (inr (r, e, in', l, h, is)) = rw is (ladder m M 9 r e (bounded r (T_from_true _ in')) (w r (T_from_true _ in')) h)

-- the numbers of `filled s`, however they are held
pub fills_as : (s f : Numbers) → ((q : ℕ) → T (s q) → q < 512) → ((q : ℕ) → f q ≡ filled s q) → Fills s f
fills_as s f bounded e = subst (Fills s) (sym (fun_ext e)) (filled_fills s bounded)

-- the empty set gives 0 alone
pub filled_none : (s : Numbers) → ((q : ℕ) → s q ≡ false) → (q : ℕ) → filled s q ≡ eqb q 0
unfolding filled
filled_none s h q = ap (λ (b : Bool). eqb q 0 || b) (none 512) ∙ or-false (eqb q 0)
  where
    none : (n : ℕ) → some_below (source s q) n ≡ false
    none zero = refl
    none (suc n) = ap₂ (λ (a b : Bool). (a && wants n q) || b) (h n) (none n)
