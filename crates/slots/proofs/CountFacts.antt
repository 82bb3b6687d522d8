-- How many entries a partition has, as entries come and go.
use Rattle.std.proofs.Common.{◌≡◌, ℕ, ◌+◌, ◌-◌, ◌<◌, ◌≤◌, Bool, true, false, cond, eqb, List, ◌∷◌, length, get_or, set, refl, ap, ◌∙◌, ⊎_elim, arith}
use Rattle.std.proofs.lemmas.Bool.{cases_eq, cond-true, cond-false, eq-eqb, ne_eqb}
use Rattle.std.proofs.lemmas.List.{get_or-set_same, get_or-set_other}
use Rattle.std.proofs.lemmas.List.Sums.{length-filter, count_by-le-length}
use Rattle.store.specs.Entries.{Entry, inside}
use Rattle.store.proofs.Shuffles.{Perm, perm_fold}
use Rattle.slots.specs.Table.{Counts}

abbrev pub count : ℕ → List Entry → ℕ
count p es = length (inside es p)

pub count_cons : (p : ℕ) (e : Entry) (es : List Entry) → count p (e ∷ es) ≡ cond (eqb p e.partition) 1 0 + count p es
count_cons p e es = by (eqb p e.partition)
  where
    by : (t : Bool) → length (cond t (e ∷ inside es p) (inside es p)) ≡ cond t 1 0 + length (inside es p)
    by true = omega arith
    by false = omega arith

pub count_perm : (p : ℕ) {xs ys : List Entry} → Perm xs ys → count p xs ≡ count p ys
count_perm p = perm_fold (count p) (λ e m. cond (eqb p e.partition) 1 0 + m) (count_cons p) (λ a b y. omega arith)

pub count_le : (p : ℕ) (es : List Entry) → count p es ≤ length es
count_le p es = omega (arith, length-filter (λ e. eqb p e.partition) es, count_by-le-length (λ e. eqb p e.partition) es)

module _ (counts : List ℕ) (es es' : List Entry) (x : Entry) (c : Counts counts es) (wide : length counts ≡ 512) (low : x.partition < 512) where
  pub counts_add : Perm (x ∷ es) es' → Counts (set counts x.partition (get_or counts x.partition 0 + 1)) es'
  counts_add h p l =
      ⊎_elim {C = get_or (set counts x.partition (get_or counts x.partition 0 + 1)) p 0 ≡ count p es'}
      (λ e.
      let a = ap (λ (z : ℕ). get_or (set counts x.partition (get_or counts x.partition 0 + 1)) z 0) e ∙ get_or-set_same counts x.partition (get_or counts x.partition 0 + 1) 0 (omega arith) in
      let b = ap (λ (z : ℕ). get_or counts z 0) e in
      let k = cond-true {A = ℕ} (eqb p x.partition) 1 0 (eq-eqb p x.partition e) in
      omega (arith, a, b, k, c p l, count_perm p h, count_cons p x es))
      (λ e.
      let a = get_or-set_other counts x.partition p (get_or counts x.partition 0 + 1) 0 e in
      let k = cond-false {A = ℕ} (eqb p x.partition) 1 0 (ne_eqb p x.partition e) in
      omega (arith, a, k, c p l, count_perm p h, count_cons p x es))
      (cases_eq p x.partition)

  pub counts_drop : Perm es (x ∷ es') → Counts (set counts x.partition (get_or counts x.partition 0 - 1)) es'
  counts_drop h p l =
      ⊎_elim {C = get_or (set counts x.partition (get_or counts x.partition 0 - 1)) p 0 ≡ count p es'}
      (λ e.
      let a = ap (λ (z : ℕ). get_or (set counts x.partition (get_or counts x.partition 0 - 1)) z 0) e ∙ get_or-set_same counts x.partition (get_or counts x.partition 0 - 1) 0 (omega arith) in
      let b = ap (λ (z : ℕ). get_or counts z 0) e in
      let k = cond-true {A = ℕ} (eqb p x.partition) 1 0 (eq-eqb p x.partition e) in
      omega (arith, a, b, k, c p l, count_perm p h, count_cons p x es'))
      (λ e.
      let a = get_or-set_other counts x.partition p (get_or counts x.partition 0 - 1) 0 e in
      let k = cond-false {A = ℕ} (eqb p x.partition) 1 0 (ne_eqb p x.partition e) in
      omega (arith, a, k, c p l, count_perm p h, count_cons p x es'))
      (cases_eq p x.partition)

  pub counts_some : Perm es (x ∷ es') → 1 ≤ get_or counts x.partition 0
  counts_some h =
      let k = cond-true {A = ℕ} (eqb x.partition x.partition) 1 0 (eq-eqb x.partition x.partition refl) in
      omega (arith, k, c x.partition low, count_perm x.partition h, count_cons x.partition x es')
