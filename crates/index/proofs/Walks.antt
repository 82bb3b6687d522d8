-- The partition of a map for a placement: it is one, and a walk along the placement's digits ends at it.
use Rattle.std.proofs.Common.{◌≡◌, ℕ, zero, suc, ◌+◌, ◌^◌, ◌<◌, ◌≤◌, Bool, true, false, cond, not, ◌&&◌, ltb, ◌⊎◌, sym, refl, ap, ◌∙◌, subst, inl, inr, le_refl, arith, pow_mono}
use Rattle.std.proofs.lemmas.Float.{T_from_true}
use Rattle.std.proofs.lemmas.Bool.{cases_lt, cases_order, and_parts, and_from, and_left, and_right, leb-true, ltb-true, lt-ltb, le-ltb, le-leb, both_ways, not-true, not-false, not_from_true, not_from_false}
use Rattle.index.specs.Numbers.{Numbers}
use Rattle.index.specs.Maps.{IsMap}
use Rattle.index.specs.Ranges.{first, depth, covers, part_for, Alone}
use Rattle.index.proofs.Truth.{T_true}
use Rattle.index.proofs.Digits.{digit, path, digit_cases, path_zero, path_one, path_lt, path_stays, in_range, range_in}

-- ---- the first that passes

-- r is the first from d on that passes, among the next n, or d + n
pub record First (t : ℕ → Bool) (n d r : ℕ) : Type 0 where
  pub from : d ≤ r
  pub within : r ≤ d + n
  pub least : (k : ℕ) → d ≤ k → k < r → t k ≡ false
  pub passes : r < d + n → t r ≡ true

pub first_is : (t : ℕ → Bool) (n d : ℕ) → First t n d (first t n d)
first_is t zero d = record { from = le_refl d; within = omega arith; least = λ k a b. absurd (omega arith); passes = λ h. absurd (omega arith) }
first_is t (suc n) d = go (t d) refl (first_is t n (d + 1))
  where
    go : (b : Bool) → t d ≡ b → First t n (d + 1) (first t n (d + 1)) → First t (suc n) d (cond b d (first t n (d + 1)))
    go true e r = record { from = le_refl d; within = omega arith; least = λ k a b. absurd (omega arith); passes = λ h. e }
    go false e r = record {
      from = omega (arith, r.from);
      within = omega (arith, r.within);
      least = λ k a b. least k a b (cases_lt d k);
      passes = λ h. r.passes (omega arith);
    }
      where
        least : (k : ℕ) → d ≤ k → k < first t n (d + 1) → (d < k) ⊎ (k ≤ d) → t k ≡ false
        least k a b (inl c) = r.least k (omega arith) b
        least k a b (inr c) = let z : k ≡ d = omega arith in rw z e

pub first_same : {t : ℕ → Bool} {n d r s : ℕ} → First t n d r → First t n d s → r ≡ s
first_same {t} {n} {d} {r} {s} a b = go (cases_order r s)
  where
    go : (r ≡ s) ⊎ ((r < s) ⊎ (s < r)) → r ≡ s
    go (inl e) = e
    go (inr (inl h)) = absurd (both_ways (t r) (b.least r a.from h) (a.passes (omega (arith, b.within))))
    go (inr (inr h)) = absurd (both_ways (t s) (a.least s b.from h) (b.passes (omega (arith, a.within))))

-- ---- where a walk ends

-- after d turns the walk ends
pub record Ends (m : Numbers) (x d : ℕ) : Type 0 where
  pub few : d ≤ 9
  pub goes_on : (e : ℕ) → e < d → m (path x e + 2 ^ e) ≡ true
  pub shut : m (path x d + 2 ^ d) ≡ false

unfoldable pub turns : Numbers → ℕ → ℕ
turns m x = first (λ d. not (m (path x d + 2 ^ d))) 9 0

-- what the depth of a partition says
pub record Deep (m : Numbers) (q d : ℕ) : Type 0 where
  pub few : d ≤ 9
  pub low : q < 2 ^ d
  pub goes_on : (e : ℕ) → e < d → q < 2 ^ e → m (q + 2 ^ e) ≡ true
  pub shut : m (q + 2 ^ d) ≡ false

module _ (m : Numbers) (M : IsMap m) where
  pub none_above : (q : ℕ) → 512 ≤ q → m q ≡ false
  none_above q h = go (m q) refl
    where
      go : (b : Bool) → m q ≡ b → m q ≡ false
      go false e = e
      go true e = absurd (omega (arith, M.bounded q (T_from_true _ e)))

  pub deep : (q : ℕ) → m q ≡ true → Deep m q (depth m q)
  unfolding depth
  deep q h = record {
    few = few;
    low = ltb-true _ _ both.0;
    goes_on = λ e l k. not-false _ (left _ _ (lt-ltb _ _ k) (r.least e (omega arith) l));
    shut = not-true _ both.1;
  }
    where
      t : ℕ → Bool
      t d = ltb q (2 ^ d) && not (m (q + 2 ^ d))

      r : First t 10 0 (depth m q)
      r = first_is t 10 0

      below : q < 2 ^ 9
      below = M.bounded q (T_from_true _ h)

      nine : t 9 ≡ true
      nine = and_from _ _ (lt-ltb _ _ below) (not_from_false _ (none_above (q + 2 ^ 9) (omega arith)))

      few : depth m q ≤ 9
      few = go (cases_lt 9 (depth m q))
        where
          go : (9 < depth m q) ⊎ (depth m q ≤ 9) → depth m q ≤ 9
          go (inl k) = absurd (both_ways (t 9) (r.least 9 (omega arith) k) nine)
          go (inr k) = k

      both : (ltb q (2 ^ depth m q) ≡ true) × (not (m (q + 2 ^ depth m q)) ≡ true)
      both = and_parts _ _ (r.passes (omega (arith, few)))

      left : (a b : Bool) → a ≡ true → (a && b) ≡ false → b ≡ false
      left true b e f = f
      left false b e f = absurd (both_ways false refl e)

module _ (m : Numbers) (M : IsMap m) (x : ℕ) (placed : x < 2 ^ 32) where
  pub ends : Ends m x (turns m x)
  unfolding turns
  ends = let r = first_is (λ d. not (m (path x d + 2 ^ d))) 9 0 in record {
    few = r.within;
    goes_on = λ e h. not-false _ (r.least e (omega arith) h);
    shut = shut (cases_lt (turns m x) 9);
  }
    where
      shut : (turns m x < 9) ⊎ (9 ≤ turns m x) → m (path x (turns m x) + 2 ^ turns m x) ≡ false
      shut (inl h) = not-true _ ((first_is (λ d. not (m (path x d + 2 ^ d))) 9 0).passes h)
      shut (inr h) = let most : 512 ≤ 2 ^ turns m x = pow_mono h in none_above m M (path x (turns m x) + 2 ^ turns m x) (omega arith)

  pub one_end : (d e : ℕ) → Ends m x d → Ends m x e → d ≡ e
  one_end d e a b = go (cases_order d e)
    where
      go : (d ≡ e) ⊎ ((d < e) ⊎ (e < d)) → d ≡ e
      go (inl z) = z
      go (inr (inl h)) = absurd (both_ways _ a.shut (b.goes_on d h))
      go (inr (inr h)) = absurd (both_ways _ b.shut (a.goes_on e h))

  pub on_path : (d : ℕ) → ((e : ℕ) → e < d → m (path x e + 2 ^ e) ≡ true) → m (path x d) ≡ true
  on_path zero on = T_true M.root
  on_path (suc d) on = go (on_path d (λ e h. on e (omega arith))) (digit_cases x d)
    where
      go : m (path x d) ≡ true → (digit x d ≡ 0) ⊎ (digit x d ≡ 1) → m (path x (suc d)) ≡ true
      go h (inl z) = rw (path_zero x d z) h
      go h (inr z) = rw (path_one x d z) (on d (le_refl _))

  module _ (d : ℕ) (E : Ends m x d) where
    pub end_in : m (path x d) ≡ true
    end_in = on_path d E.goes_on

    pub end_depth : depth m (path x d) ≡ d
    unfolding depth
    end_depth = first_same (first_is (λ e. ltb (path x d) (2 ^ e) && not (m (path x d + 2 ^ e))) 10 0) record {
      from = omega arith;
      within = omega (arith, E.few);
      least = λ k a h. least k h (cases_lt (path x d) (2 ^ k));
      passes = λ h. and_from _ _ (lt-ltb _ _ (path_lt x d)) (not_from_false _ E.shut);
    }
      where
        least : (k : ℕ) → k < d → (path x d < 2 ^ k) ⊎ (2 ^ k ≤ path x d) → (ltb (path x d) (2 ^ k) && not (m (path x d + 2 ^ k))) ≡ false
        least k h (inl l) = and_right _ _ (not_from_true (m (path x d + 2 ^ k)) (rw (path_stays x k d (omega arith) l) (E.goes_on k h)))
        least k h (inr l) = and_left _ _ (le-ltb _ _ l)

    pub end_covers : covers m (path x d) x ≡ true
    unfolding covers
    end_covers =
        let r = range_in x d placed (omega (arith, E.few)) in
        rw end_depth (and_from _ _ (le-leb _ _ r.0) (lt-ltb _ _ r.1))

  -- with a partition on the path, all the turns up to its depth
  pub climb : (d : ℕ) → m (path x d) ≡ true → ((e : ℕ) → e < d → path x d < 2 ^ e → m (path x d + 2 ^ e) ≡ true)
      → (e : ℕ) → e < d → m (path x e + 2 ^ e) ≡ true
  climb zero h on e l = absurd (omega arith)
  climb (suc d) h on e l = go (λ h on l. climb d h on e l) (digit_cases x d) (cases_lt e d)
    where
      go : (m (path x d) ≡ true → ((e : ℕ) → e < d → path x d < 2 ^ e → m (path x d + 2 ^ e) ≡ true) → e < d → m (path x e + 2 ^ e) ≡ true)
          → (digit x d ≡ 0) ⊎ (digit x d ≡ 1) → (e < d) ⊎ (d ≤ e) → m (path x e + 2 ^ e) ≡ true
      go ih (inl z) (inl k) = ih (rw (path_zero x d z) at h) (λ f a b. rw (path_zero x d z) at (on f (omega arith) (rw (path_zero x d z) b))) k
      go ih (inl z) (inr k) =
          let s : e ≡ d = omega arith in
          rw s (rw (path_zero x d z) at (on d (le_refl _) (rw (path_zero x d z) (path_lt x d))))
      go ih (inr z) (inl k) =
          let here = T_from_true _ (rw (path_one x d z) at h) in
          ih (T_true (M.parent (path x d) d (path_lt x d) here)) (λ f a b. T_true (M.earlier (path x d) d f b a here)) k
      go ih (inr z) (inr k) = let s : e ≡ d = omega arith in rw (s, ← path_one x d z) h

  pub covered : (q : ℕ) → m q ≡ true → covers m q x ≡ true → Ends m x (depth m q) × (q ≡ path x (depth m q))
  unfolding covers
  covered q h c =
      let D = deep m M q h in
      let b = and_parts _ _ c in
      let s : q ≡ path x (depth m q) = in_range x q (depth m q) placed D.low (omega (arith, D.few)) (leb-true _ _ b.0) (ltb-true _ _ b.1) in (
        record {
          few = D.few;
          goes_on = climb (depth m q) (subst (λ (p : ℕ). m p ≡ true) s h) (λ e l k. subst (λ (p : ℕ). m (p + 2 ^ e) ≡ true) s (D.goes_on e l (subst (λ (p : ℕ). p < 2 ^ e) (sym s) k)));
          shut = subst (λ (p : ℕ). m (p + 2 ^ depth m q) ≡ false) s D.shut;
        },
        s,
      )

  -- exactly one
  pub only : (p q : ℕ) → m p ≡ true → covers m p x ≡ true → m q ≡ true → covers m q x ≡ true → p ≡ q
  only p q hp cp hq cq =
      let a = covered p hp cp in
      let b = covered q hq cq in
      a.1 ∙ ap (path x) (one_end _ _ a.0 b.0) ∙ sym b.1

  pub part_is_end : (d : ℕ) → Ends m x d → part_for m x ≡ path x d
  unfolding part_for
  part_is_end d E = first_same (first_is (λ p. m p && covers m p x) 512 0) record {
    from = omega arith;
    within = omega (arith, M.bounded (path x d) (T_from_true _ (end_in d E)));
    least = λ k a h. least k h (m k && covers m k x) refl;
    passes = λ h. and_from _ _ (end_in d E) (end_covers d E);
  }
    where
      least : (k : ℕ) → k < path x d → (b : Bool) → (m k && covers m k x) ≡ b → b ≡ false
      least k h false e = refl
      least k h true e = let b = and_parts (m k) (covers m k x) e in absurd (omega (arith, h, only k (path x d) b.0 b.1 (end_in d E) (end_covers d E)))

  pub part_is : part_for m x ≡ path x (turns m x)
  part_is = part_is_end (turns m x) ends

  pub part_in : m (part_for m x) ≡ true
  part_in = rw part_is (end_in _ ends)

  pub part_covers : covers m (part_for m x) x ≡ true
  part_covers = rw part_is (end_covers _ ends)

-- a placement lies in the range of exactly one partition
pub alone : (m : Numbers) → IsMap m → (x : ℕ) → x < 2 ^ 32 → Alone m x (part_for m x)
alone m M x l = record {
  inside = T_from_true _ (part_in m M x l);
  here = T_from_true _ (part_covers m M x l);
  only = λ q a b. only m M x l q (part_for m x) (T_true a) (T_true b) (part_in m M x l) (part_covers m M x l);
}

-- ---- for code that looks for a depth

-- the first d below 9 that passes, or 9
pub depth_found : (m : Numbers) (p d : ℕ) → p < 512 → m (p + 512) ≡ false → d ≤ 9 → ((k : ℕ) → k < d → (ltb p (2 ^ k) && not (m (p + 2 ^ k))) ≡ false)
    → (d < 9 → (ltb p (2 ^ d) && not (m (p + 2 ^ d))) ≡ true) → depth m p ≡ d
unfolding depth
depth_found m p d l none few least here = first_same (first_is (λ e. ltb p (2 ^ e) && not (m (p + 2 ^ e))) 10 0) record {
  from = omega arith;
  within = omega arith;
  least = λ k a h. least k h;
  passes = λ h. passes (cases_lt d 9);
}
  where
    passes : (d < 9) ⊎ (9 ≤ d) → (ltb p (2 ^ d) && not (m (p + 2 ^ d))) ≡ true
    passes (inl h) = here h
    passes (inr h) =
        let z : d ≡ 9 = omega arith in
        subst (λ (e : ℕ). (ltb p (2 ^ e) && not (m (p + 2 ^ e))) ≡ true) (sym z) (and_from _ _ (lt-ltb p 512 l) (not_from_false _ none))
