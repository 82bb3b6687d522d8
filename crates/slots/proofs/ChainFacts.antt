-- A place leaves its chain, and comes into another.
use Rattle.std.proofs.Common.{◌≡◌, ℕ, zero, suc, ◌+◌, ◌-◌, ◌<◌, ◌≤◌, eqb, List, ◌∷◌, sym, refl, ap, ◌∙◌, subst, ⊎_elim, arith}
use Rattle.std.proofs.lemmas.Bool.{cases_eq, cases_lt, cond-true, cond-false, eq-eqb, ne_eqb}
use Rattle.slots.specs.Chains.{Top, Heads, Nexts, Point, Pointed, except, members}

pub except_here : (i x : ℕ) (c : ℕ → ℕ) → except i x c i ≡ x
except_here i x c = cond-true (eqb i i) x (c i) (eq-eqb i i refl)

pub except_other : (i x : ℕ) (c : ℕ → ℕ) (j : ℕ) → (j ≡ i → ⊥) → except i x c j ≡ c j
except_other i x c j f = cond-false (eqb j i) x (c j) (ne_eqb j i f)

-- d is c but at i
module _ (c d : ℕ → ℕ) (i : ℕ) (like : (j : ℕ) → (j ≡ i → ⊥) → d j ≡ c j) where
  carry : (m b v : ℕ) → Top c m b v → (v ≤ i → i < m → d i ≡ b → ⊥) → (v ≡ i + 1 → d i ≡ b) → Top d m b v
  carry m b v t f g = (
    t.0,
    (λ j l h e. ⊎_elim {C = ⊥}
        (λ q. f (omega arith) (omega arith) (ap d (sym q) ∙ e))
        (λ q. t.1 j l h (sym (like j q) ∙ e))
        (cases_eq j i)),
    λ p. ⊎_elim {C = d (v - 1) ≡ b}
        (λ q. ap d q ∙ g (omega arith))
        (λ q. like (v - 1) q ∙ t.2 p)
        (cases_eq (v - 1) i),
  )

  -- i goes out of the chain of b, between a pointer m and the value w that i had
  gap : (m b v w : ℕ) → Top c m b v → v ≤ i + 1 → i < m → Top c i b w → (d i ≡ b → ⊥) → Top d m b w
  gap m b v w t l h s f = (
    omega (arith, s.0),
    (λ j p q e. ⊎_elim {C = ⊥}
        (λ z. f (ap d (sym z) ∙ e))
        (λ z. ⊎_elim {C = ⊥}
        (λ y. s.1 j p y (sym (like j z) ∙ e))
        (λ y. t.1 j (omega arith) q (sym (like j z) ∙ e))
        (cases_lt j i))
        (cases_eq j i)),
    λ p. like (w - 1) (λ z. absurd (omega (arith, s.0))) ∙ s.2 p,
  )

  -- i comes into it
  put : (m b v : ℕ) → Top c m b v → v ≤ i → i < m → d i ≡ b → Top d m b (i + 1)
  put m b v t l h e = (
    omega arith,
    (λ j p q z. t.1 j (omega arith) q (sym (like j (λ y. absurd (omega arith))) ∙ z)),
    λ p. (let k : i + 1 - 1 ≡ i = omega arith in ap d k ∙ e),
  )

  -- below i nothing changes
  low_carry : (m b v : ℕ) → m ≤ i → Top c m b v → Top d m b v
  low_carry m b v l t = carry m b v t (λ p q e. absurd (omega arith)) (λ e. absurd (omega (arith, t.0)))

module _ (c : ℕ → ℕ) (u n : ℕ) (heads nexts heads' nexts' : ℕ → ℕ) (hs : Heads c u n heads) (ns : Nexts c u n nexts) (i b m v w : ℕ) (at : Point c u b i m v) (now : Pointed u b m w heads nexts heads' nexts') where
  -- a link of b's chain from above m points above i
  above : (k t : ℕ) → m < k → k ≤ u → Top c k b t → i + 1 < t
  above k t h l s =
      ⊎_elim {C = i + 1 < t} (λ p. omega (arith, at.past)) (λ p. absurd (s.1 m p h (at.coded (omega arith)))) (cases_lt m t)

  module _ (d : ℕ → ℕ) (like : (j : ℕ) → (j ≡ i → ⊥) → d j ≡ c j) (done : Top d m b w) (other : (q t k : ℕ) → q < n → (q ≡ b → ⊥) → Top c k q t → Top d k q t) where
    new_heads : Heads d u n heads'
    new_heads q l =
        ⊎_elim {C = Top d u q (heads' q)}
        (λ e. ⊎_elim {C = Top d u q (heads' q)}
        (λ z.
        let s : Top c u b (heads b) = subst (λ (y : ℕ). Top c u y (heads y)) e (hs q l) in
        let far : i + 1 < heads b = above u (heads b) z (omega arith) s in
        let kept = now.head_kept q (λ y _. absurd (omega arith)) in
        let t : Top d u b (heads b) = carry c d i like u b (heads b) s (λ x _ _. absurd (omega arith)) (λ x. absurd (omega arith)) in
        subst (λ (y : ℕ). Top d u q y) (sym kept) (subst (λ (y : ℕ). Top d u y (heads y)) (sym e) t))
        (λ z.
        let same : m ≡ u = omega (arith, at.within) in
        subst (λ (y : ℕ). Top d u q y) (sym (ap heads' e ∙ now.head_set same)) (subst (λ (y : ℕ). Top d u y w) (sym e) (subst (λ (y : ℕ). Top d y b w) same done)))
        (cases_lt m u))
        (λ e. subst (λ (y : ℕ). Top d u q y) (sym (now.head_kept q (λ _ y. e y))) (other q (heads q) u l e (hs q l)))
        (cases_eq q b)

    new_next : (j : ℕ) → j < u → (j ≡ i → ⊥) → c j < n → Top d j (c j) (nexts' j)
    new_next j l f h =
        let s = ns j l h in
        ⊎_elim {C = Top d j (c j) (nexts' j)}
        (λ p.
        let kept = now.next_kept j (λ _ y. absurd (omega (arith, at.past))) in
        subst (λ (y : ℕ). Top d j (c j) y) (sym kept) (low_carry c d i like j (c j) (nexts j) (omega arith) s))
        (λ p. ⊎_elim {C = Top d j (c j) (nexts' j)}
        (λ e. ⊎_elim {C = Top d j (c j) (nexts' j)}
        (λ y.
        let z : m < u = omega arith in
        let t : Top d j b w = subst (λ (k : ℕ). Top d k b w) (sym y) done in
        subst (λ (k : ℕ). Top d j k (nexts' j)) (sym e) (subst (λ (k : ℕ). Top d j b k) (sym (ap nexts' y ∙ now.next_set z)) t))
        (λ y. ⊎_elim {C = Top d j (c j) (nexts' j)}
        (λ z. absurd (at.top.1 j (omega (arith, at.low)) z e))
        (λ z.
        let g : m < j = omega arith in
        let far : i + 1 < nexts j = above j (nexts j) g (omega arith) (subst (λ (k : ℕ). Top c j k (nexts j)) e s) in
        let kept = now.next_kept j (λ _ k. y k) in
        subst (λ (k : ℕ). Top d j (c j) k) (sym kept) (carry c d i like j (c j) (nexts j) s (λ k _ _. absurd (omega arith)) (λ k. absurd (omega arith))))
        (cases_lt j m))
        (cases_eq j m))
        (λ e.
        let kept = now.next_kept j (λ z y. e (ap c y ∙ at.coded z)) in
        subst (λ (k : ℕ). Top d j (c j) k) (sym kept) (other (c j) (nexts j) j h e s))
        (cases_eq (c j) b))
        (cases_lt j i)

  -- i leaves the chain of b: its code is x from now on, which no chain has
  module _ (x : ℕ) (d : ℕ → ℕ) (like : (j : ℕ) → (j ≡ i → ⊥) → d j ≡ c j) (free : d i ≡ x) (none : n ≤ x) (in' : i < u) (was : c i ≡ b) (bound : b < n) (is : w ≡ nexts i) where
    out_other : (q t k : ℕ) → q < n → (q ≡ b → ⊥) → Top c k q t → Top d k q t
    out_other q t k l e s =
        carry c d i like k q t s (λ _ _ y. absurd (omega arith)) (λ z. absurd (let y : t - 1 ≡ i = omega arith in e (sym (s.2 (omega arith)) ∙ ap c y ∙ was)))

    out_done : Top d m b w
    out_done =
        let s : Top c i b w = subst (λ (k : ℕ). Top c i b k) (sym is) (subst (λ (k : ℕ). Top c i k (nexts i)) was (ns i in' (omega arith))) in
        gap c d i like m b v w at.top at.low at.past s (λ y. absurd (omega arith))

    pub unlinked_heads : Heads d u n heads'
    unlinked_heads = new_heads d like out_done out_other

    pub unlinked_nexts : Nexts d u n nexts'
    unlinked_nexts j l h =
        ⊎_elim {C = Top d j (d j) (nexts' j)}
        (λ e. absurd (omega (arith, ap d e)))
        (λ e. subst (λ (k : ℕ). Top d j k (nexts' j)) (sym (like j e)) (new_next d like out_done out_other j l e (omega (arith, like j e))))
        (cases_eq j i)

  -- i comes into the chain of b
  module _ (d : ℕ → ℕ) (like : (j : ℕ) → (j ≡ i → ⊥) → d j ≡ c j) (in' : i < u) (free : n ≤ c i) (code : d i ≡ b) (bound : b < n) (is : w ≡ i + 1) (after : nexts i ≡ v) where
    in_other : (q t k : ℕ) → q < n → (q ≡ b → ⊥) → Top c k q t → Top d k q t
    in_other q t k l e s =
        carry c d i like k q t s (λ _ _ y. e (sym y ∙ code)) (λ z. absurd (let y : t - 1 ≡ i = omega arith in omega (arith, ap c y, s.2 (omega arith))))

    low : v ≤ i
    low =
        ⊎_elim {C = v ≤ i}
        (λ e. absurd (let y : v - 1 ≡ i = omega arith in omega (arith, ap c y, at.top.2 (omega arith))))
        (λ e. omega (arith, at.low))
        (cases_eq v (i + 1))

    in_done : Top d m b w
    in_done = subst (λ (k : ℕ). Top d m b k) (sym is) (put c d i like m b v at.top low at.past code)

    pub linked_heads : Heads d u n heads'
    linked_heads = new_heads d like in_done in_other

    here : Top d i b (nexts' i)
    here =
        let kept : nexts' i ≡ nexts i = now.next_kept i (λ _ y. absurd (omega (arith, at.past))) in
        let t : Top d i b v = (low, (λ j p q e. at.top.1 j p (omega (arith, at.past)) (sym (like j (λ z. absurd (omega arith))) ∙ e)), λ p. like (v - 1) (λ z. absurd (omega (arith, low))) ∙ at.top.2 p) in
        subst (λ (k : ℕ). Top d i b k) (sym (kept ∙ after)) t

    pub linked_nexts : Nexts d u n nexts'
    linked_nexts j l h =
        ⊎_elim {C = Top d j (d j) (nexts' j)}
        (λ e. subst (λ (k : ℕ). Top d k (d k) (nexts' k)) (sym e) (subst (λ (k : ℕ). Top d i k (nexts' i)) (sym code) here))
        (λ e. subst (λ (k : ℕ). Top d j k (nexts' j)) (sym (like j e)) (new_next d like in_done in_other j l e (omega (arith, like j e))))
        (cases_eq j i)

-- the places between the last one and m are not in the chain
members_gap : (c : ℕ → ℕ) (m b v : ℕ) → v ≤ m → ((j : ℕ) → v ≤ j → j < m → c j ≡ b → ⊥) → members c v b ≡ members c m b
members_gap c zero b v l f = let e : v ≡ 0 = omega arith in ap (λ (z : ℕ). members c z b) e
members_gap c (suc m) b v l f =
    ⊎_elim {C = members c v b ≡ members c (suc m) b}
    (λ e. ap (λ (z : ℕ). members c z b) e)
    (λ e. members_gap c m b v (omega arith) (λ j p q. f j p (omega arith)) ∙ sym (cond-false (eqb (c m) b) (m ∷ members c m b) (members c m b) (ne_eqb (c m) b (f m (omega arith) (omega arith)))))
    (cases_eq v (suc m))

-- the chain from its last place below m on
pub members_top : (c : ℕ → ℕ) (m b v : ℕ) → Top c m b v → members c v (c (v - 1)) ≡ members c m b
members_top c m b v t = same v t.2 ∙ members_gap c m b v t.0 t.1
  where
    same : (v : ℕ) → (0 < v → c (v - 1) ≡ b) → members c v (c (v - 1)) ≡ members c v b
    same zero f = refl
    same (suc v) f = ap (members c (suc v)) (f (omega arith))

-- a place of a chain, and those below it
pub members_first : (c : ℕ → ℕ) (i v : ℕ) → Top c i (c i) v → members c (suc i) (c i) ≡ i ∷ members c v (c (v - 1))
members_first c i v t = cond-true (eqb (c i) (c i)) (i ∷ members c i (c i)) (members c i (c i)) (eq-eqb (c i) (c i) refl) ∙ ap (λ (l : List ℕ). i ∷ l) (sym (members_top c i (c i) v t))
