-- The order by rank is a permutation of the items.
use Rattle.std.specs.Prelude.{◌≡◌, ℕ, zero, suc, ◌<◌, Bool, true, false, cond, ltb, List, [], ◌∷◌, ◌++◌, length, filter, ◌==◌, nat_eq, nat_lt, slice_index_or, refl}
use Rattle.std.proofs.Common.{sym, ap, subst, ◌∙◌, arith}
use Rattle.std.proofs.lemmas.Bool.{cond-true, cond-false, eqb-true, eqb-false, ltb-true, ltb-false, lt-ltb, le-ltb}
use Rattle.store.proofs.Shuffles.{Perm, perm_refl, perm_middle}
use Rattle.store.proofs.Shuffles.Perm.{none, keep, swap, then}
use Rattle.slots.specs.declared.slot.Item.{Item}
use Rattle.slots.specs.Ranks.{by_rank}

perm_after : {X : Type 0} (zs : List X) {xs ys : List X} → Perm xs ys → Perm (xs ++ zs) (ys ++ zs)
perm_after zs none = perm_refl zs
perm_after zs (keep a h) = keep a (perm_after zs h)
perm_after zs (swap a b xs) = swap a b (xs ++ zs)
perm_after zs (then h k) = then (perm_after zs h) (perm_after zs k)

split_one : (m : ℕ) (rs : List Item) → Perm (filter (λ x. ltb x.rank (suc m)) rs) (filter (λ x. ltb x.rank m) rs ++ filter (λ x. nat_eq m x.rank) rs)
split_one m [] = none
split_one m (x ∷ rs) = by (nat_lt x.rank (suc m)) (nat_lt x.rank m) (m == x.rank) refl refl refl _ (filter (λ x. ltb x.rank m) rs) (filter (λ x. nat_eq m x.rank) rs) (split_one m rs)
  where
    by : (a b e : Bool) → nat_lt x.rank (suc m) ≡ a → nat_lt x.rank m ≡ b → (m == x.rank) ≡ e → (A B E : List Item) → Perm A (B ++ E) → Perm (cond a (x ∷ A) A) (cond b (x ∷ B) B ++ cond e (x ∷ E) E)
    by true true true p q r A B E h = absurd (omega (arith, ltb-true _ _ q, eqb-true _ _ r))
    by true true false p q r A B E h = keep x h
    by true false true p q r A B E h = then (keep x h) (perm_middle x B E)
    by true false false p q r A B E h = absurd (eqb-false _ _ r (omega (arith, ltb-true _ _ p, ltb-false _ _ q)))
    by false true e p q r A B E h = absurd (omega (arith, ltb-false _ _ p, ltb-true _ _ q))
    by false false true p q r A B E h = absurd (omega (arith, ltb-false _ _ p, eqb-true _ _ r))
    by false false false p q r A B E h = h

none_below : (rs : List Item) → filter (λ x. ltb x.rank 0) rs ≡ []
none_below [] = refl
none_below (x ∷ rs) = cond-false (nat_lt x.rank 0) _ _ (le-ltb x.rank 0 (omega arith)) ∙ none_below rs

all_below : (m : ℕ) (rs : List Item) → ((j : ℕ) (d : Item) → j < length rs → (slice_index_or rs j d).rank < m) → filter (λ x. ltb x.rank m) rs ≡ rs
all_below m [] f = refl
all_below m (x ∷ rs) f =
    cond-true (nat_lt x.rank m) _ _ (lt-ltb x.rank m (f 0 x (omega arith))) ∙ ap (λ (l : List Item). x ∷ l) (all_below m rs (λ j d h. f (suc j) d (omega arith)))

ranked_below : (m : ℕ) (rs : List Item) → Perm (filter (λ x. ltb x.rank m) rs) (by_rank m rs)
ranked_below zero rs = subst (λ (l : List Item). Perm l []) (sym (none_below rs)) none
ranked_below (suc m) rs = then (split_one m rs) (perm_after (filter (λ x. nat_eq m x.rank) rs) (ranked_below m rs))

pub ranked_perm : (m : ℕ) (rs : List Item) → ((j : ℕ) (d : Item) → j < length rs → (slice_index_or rs j d).rank < m) → Perm rs (by_rank m rs)
ranked_perm m rs f = subst (λ (l : List Item). Perm l (by_rank m rs)) (all_below m rs f) (ranked_below m rs)
