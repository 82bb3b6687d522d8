-- The item of each rank, in the order by rank.
use Rattle.std.proofs.Common.{◌≡◌, ℕ, zero, suc, ◌+◌, ◌<◌, ◌≤◌, Bool, true, false, cond, ◌&&◌, eqb, ltb, List, [], ◌∷◌, ◌++◌, length, get_or, Some, count_by, filter, sym, refl, ap, ◌∙◌, subst, ⊎_elim, le_of_suc-le-suc, not-suc-le-zero, arith}
use Rattle.std.specs.List.{slice_get}
use Rattle.std.proofs.lemmas.Bool.{cond-true, cond-false, lt-ltb, le-ltb, cases_lt, cases_eq}
use Rattle.std.proofs.lemmas.List.{length-append, nil_from_length}
use Rattle.std.proofs.Math.ListN.{get_or-append}
use Rattle.std.proofs.Math.Seq.{get_or-append_seam}
use Rattle.std.proofs.lemmas.Option.{slice_get-get_or}
use Rattle.std.proofs.lemmas.List.Elements.{filter-append}
use Rattle.std.proofs.lemmas.List.Sums.{length-filter}
use Rattle.slots.specs.declared.slot.Item.{Item}
use Rattle.slots.specs.Ranks.{in_rank, Ranked, by_rank}

kept_twice : (p r : ℕ) (rs : List Item) → filter (λ x. eqb p x.partition) (filter (λ x. eqb r x.rank) rs) ≡ filter (in_rank p r) rs
kept_twice p r [] = refl
kept_twice p r (x ∷ rs) = by (eqb p x.partition) (eqb r x.rank) refl (filter (λ x. eqb r x.rank) rs) (filter (in_rank p r) rs) (kept_twice p r rs)
  where
    by : (a b : Bool) → eqb p x.partition ≡ a → (A B : List Item) → filter (λ x. eqb p x.partition) A ≡ B → filter (λ x. eqb p x.partition) (cond b (x ∷ A) A) ≡ cond (a && b) (x ∷ B) B
    by true true q A B h = cond-true _ _ _ q ∙ ap (λ (l : List Item). x ∷ l) h
    by true false q A B h = h
    by false true q A B h = cond-false _ _ _ q ∙ h
    by false false q A B h = h

-- the only element that passes
single : (f : Item → Bool) (rs : List Item) (j : ℕ) (d : Item) → j < length rs → f (get_or rs j d) ≡ true → count_by f rs ≡ 1 → filter f rs ≡ get_or rs j d ∷ []
single f rs j d h e c = only rs j h e (length-filter f rs ∙ c)
  where
    none_of : (rs : List Item) → length (filter f rs) ≡ 0 → filter f rs ≡ []
    none_of rs z = nil_from_length (filter f rs) z

    some_of : (rs : List Item) (j : ℕ) → j < length rs → f (get_or rs j d) ≡ true → 1 ≤ length (filter f rs)
    some_of [] j h e = absurd (not-suc-le-zero h)
    some_of (x ∷ rs) zero h e = subst (λ (l : List Item). 1 ≤ length l) (sym (cond-true (f x) (x ∷ filter f rs) (filter f rs) e)) (omega arith)
    some_of (x ∷ rs) (suc j) h e = more (f x) (filter f rs) (some_of rs j (le_of_suc-le-suc h) e)
      where
        more : (t : Bool) (l : List Item) → 1 ≤ length l → 1 ≤ length (cond t (x ∷ l) l)
        more true l z = omega arith
        more false l z = z

    only : (rs : List Item) (j : ℕ) → j < length rs → f (get_or rs j d) ≡ true → length (filter f rs) ≡ 1 → filter f rs ≡ get_or rs j d ∷ []
    only [] j h e c = absurd (not-suc-le-zero h)
    only (x ∷ rs) zero h e c =
        let q = cond-true (f x) (x ∷ filter f rs) (filter f rs) e in
        q ∙ ap (λ (l : List Item). x ∷ l) (none_of rs (omega (arith, ap length q)))
    only (x ∷ rs) (suc j) h e c = by (f x) refl c (some_of rs j (le_of_suc-le-suc h) e) (only rs j (le_of_suc-le-suc h) e)
      where
        by : (t : Bool) → f x ≡ t → length (cond t (x ∷ filter f rs) (filter f rs)) ≡ 1 → 1 ≤ length (filter f rs) → (length (filter f rs) ≡ 1 → filter f rs ≡ get_or rs j d ∷ []) → cond t (x ∷ filter f rs) (filter f rs) ≡ get_or rs j d ∷ []
        by true q c s g = absurd (omega arith)
        by false q c s g = g c

nth_at : {X : Type 0} (xs : List X) (x : X) (ys : List X) (k : ℕ) → length xs ≡ k → slice_get (xs ++ x ∷ ys) k ≡ Some x
nth_at {X} xs x ys k e =
    ap (slice_get (xs ++ x ∷ ys)) (sym e) ∙ slice_get-get_or (xs ++ x ∷ ys) (length xs) x (omega (arith, length-append xs (x ∷ ys))) ∙ ap (λ (y : X). Some y) (get_or-append_seam xs x ys x)

nth_left : {X : Type 0} (xs ys : List X) (x : X) (k : ℕ) → k < length xs → slice_get (xs ++ ys) k ≡ slice_get xs k
nth_left {X} xs ys x k h = slice_get-get_or (xs ++ ys) k x (omega (arith, length-append xs ys)) ∙ ap (λ (y : X). Some y) (get_or-append xs ys x k h) ∙ sym (slice_get-get_or xs k x h)

module _ (counts : List ℕ) (rs : List Item) (ok : Ranked counts rs) (p : ℕ) (low : p < 512) where
  abbrev part : ℕ → List Item
  part m = filter (λ x. eqb p x.partition) (by_rank m rs)

  part_more : (m : ℕ) → part (suc m) ≡ part m ++ filter (in_rank p m) rs
  part_more m = filter-append (λ x. eqb p x.partition) (by_rank m rs) (filter (λ x. eqb m x.rank) rs) ∙ ap (λ (l : List Item). part m ++ l) (kept_twice p m rs)

  length_more : (m : ℕ) → length (part (suc m)) ≡ length (part m) + cond (ltb m (get_or counts p 0)) 1 0
  length_more m = ap length (part_more m) ∙ length-append (part m) (filter (in_rank p m) rs) ∙ ap (λ (z : ℕ). length (part m) + z) (length-filter (in_rank p m) rs ∙ ok p m low)

  length_low : (m : ℕ) → m ≤ get_or counts p 0 → length (part m) ≡ m
  length_low zero h = refl
  length_low (suc m) h = omega (arith, length_more m, cond-true {A = ℕ} (ltb m (get_or counts p 0)) 1 0 (lt-ltb m (get_or counts p 0) (omega arith)), length_low m (omega arith))

  length_high : (m : ℕ) → get_or counts p 0 ≤ m → length (part m) ≡ get_or counts p 0
  length_high zero h = omega arith
  length_high (suc m) h =
      ⊎_elim {C = length (part (suc m)) ≡ get_or counts p 0}
      (λ e. omega (arith, length_low (suc m) (omega arith)))
      (λ e. omega (arith, length_more m, cond-false {A = ℕ} (ltb m (get_or counts p 0)) 1 0 (le-ltb m (get_or counts p 0) (omega arith)), length_high m (omega arith)))
      (cases_lt m (get_or counts p 0))

  pub nth_ranked : (m k j : ℕ) (d : Item) → k < m → j < length rs → in_rank p k (get_or rs j d) ≡ true → k < get_or counts p 0 → slice_get (part m) k ≡ Some (get_or rs j d)
  nth_ranked zero k j d l h e s = absurd (omega arith)
  nth_ranked (suc m) k j d l h e s =
      let one = single (in_rank p k) rs j d h e (ok p k low ∙ cond-true {A = ℕ} (ltb k (get_or counts p 0)) 1 0 (lt-ltb k (get_or counts p 0) s)) in
      ⊎_elim {C = slice_get (part (suc m)) k ≡ Some (get_or rs j d)}
      (λ z. ap (λ (l : List Item). slice_get l k) (part_more m ∙ ap (λ (q : ℕ). part m ++ filter (in_rank p q) rs) (sym z) ∙ ap (λ (l : List Item). part m ++ l) one) ∙ nth_at (part m) (get_or rs j d) [] k (length_low m (omega arith) ∙ sym z))
      (λ z.
      let more : k < length (part m) = ⊎_elim {C = k < length (part m)} (λ y. omega (arith, length_low m (omega arith))) (λ y. omega (arith, length_high m y)) (cases_lt m (get_or counts p 0)) in
      ap (λ (l : List Item). slice_get l k) (part_more m) ∙ nth_left (part m) (filter (in_rank p m) rs) (get_or rs j d) k more ∙ nth_ranked m k j d (omega arith) h e s)
      (cases_eq k m)
