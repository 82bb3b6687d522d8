-- Keys, and what stands at the place of one.
use Rattle.std.proofs.Common.{◌≡◌, ℕ, zero, suc, ◌<◌, ◌≤◌, Bool, true, false, cond, ◌||◌, eqb, List, [], ◌∷◌, length, get_or, set, Some, None, sym, refl, ap, ◌∙◌, ⊎_elim, le_of_suc-le-suc, not-suc-le-zero, arith}
use Rattle.std.specs.List.{remove}
use Rattle.std.specs.Str.{bytes_eq}
use Rattle.std.specs.List.Sorted.{IsPermutation}
use Rattle.std.proofs.lemmas.Slice.Eq.{bytes_eq-Decides}
use Rattle.std.proofs.lemmas.Bool.{and_parts, and_from, eqb-true, eq-eqb, cond-false, or_left, or_right, both_ways, cases_lt}
use Rattle.store.specs.Entries.{Entry, entry_of, has_key, found, holds, without, index}
use Rattle.store.proofs.Shuffles.{Perm, perm_fold, perm_in, shuffled_from}

pub key_true : (p : ℕ) (n : List ℕ) (e : Entry) → has_key p n e ≡ true → (p ≡ e.partition) × (n ≡ e.name)
key_true p n e h =
    let b = and_parts (eqb p e.partition) (bytes_eq n e.name) h in
    (eqb-true p e.partition b.0, (bytes_eq-Decides n e.name).0 b.1)

pub key_from : (p : ℕ) (n : List ℕ) (e : Entry) → p ≡ e.partition → n ≡ e.name → has_key p n e ≡ true
key_from p n e h k = and_from _ _ (eq-eqb p e.partition h) ((bytes_eq-Decides n e.name).1 k)

pub key_self : (e : Entry) → has_key e.partition e.name e ≡ true
key_self e = key_from e.partition e.name e refl refl

pub key_flip : (a b : Entry) → has_key a.partition a.name b ≡ has_key b.partition b.name a
key_flip a b =
    same_truth _ _
    (λ h. let t = key_true a.partition a.name b h in key_from b.partition b.name a (sym t.0) (sym t.1))
    (λ h. let t = key_true b.partition b.name a h in key_from a.partition a.name b (sym t.0) (sym t.1))
  where
    same_truth : (s t : Bool) → (s ≡ true → t ≡ true) → (t ≡ true → s ≡ true) → s ≡ t
    same_truth true t f g = sym (f refl)
    same_truth false true f g = g refl
    same_truth false false f g = refl

-- two entries with one key
pub key_both : (p : ℕ) (n : List ℕ) (a b : Entry) → has_key p n a ≡ true → has_key p n b ≡ true → has_key a.partition a.name b ≡ true
key_both p n a b h k =
    let s = key_true p n a h in
    let t = key_true p n b k in
    key_from a.partition a.name b (sym s.0 ∙ t.0) (sym s.1 ∙ t.1)

or_swap : (a b y : Bool) → (a || (b || y)) ≡ (b || (a || y))
or_swap true true y = refl
or_swap true false y = refl
or_swap false true y = refl
or_swap false false y = refl

pub perm_holds : (p : ℕ) (n : List ℕ) {xs ys : List Entry} → Perm xs ys → holds xs p n ≡ holds ys p n
perm_holds p n = perm_fold (λ l. holds l p n) (λ a y. has_key p n a || y) (λ a l. refl) (λ a b y. or_swap (has_key p n a) (has_key p n b) y)

-- what the place of a key tells
pub record Hit (es : List Entry) (p : ℕ) (n : List ℕ) (d : Entry) : Type 0 where
  pub here : has_key p n (get_or es (index es p n) d) ≡ true
  pub gives : found es p n ≡ Some (get_or es (index es p n) d).number
  pub has : holds es p n ≡ true
  pub leaves : without es p n ≡ remove es (index es p n)

pub hit : (es : List Entry) (p : ℕ) (n : List ℕ) (d : Entry) → index es p n < length es → Hit es p n d
hit [] p n d h = absurd (not-suc-le-zero h)
hit (e ∷ es) p n d h = by (has_key p n e) refl (hit es p n d) h
  where
    by : (t : Bool) → has_key p n e ≡ t → (index es p n < length es → Hit es p n d) → index (e ∷ es) p n < length (e ∷ es) → Hit (e ∷ es) p n d
    by true q f k = record { here = simp q; gives = simp q; has = simp q; leaves = simp q }
    by false q f k =
        let r = f (le_of_suc-le-suc (simp q at k)) in
        record { here = simp q r.here; gives = simp q r.gives; has = simp q r.has; leaves = simp q (ap (λ (l : List Entry). e ∷ l) r.leaves) }

pub index_le : (es : List Entry) (p : ℕ) (n : List ℕ) → index es p n ≤ length es
index_le [] p n = omega arith
index_le (e ∷ es) p n = by (has_key p n e) (index_le es p n)
  where
    by : (t : Bool) → index es p n ≤ length es → cond t 0 (suc (index es p n)) ≤ suc (length es)
    by true h = omega arith
    by false h = omega arith

pub record Miss (es : List Entry) (p : ℕ) (n : List ℕ) : Type 0 where
  pub gives : found es p n ≡ None
  pub has : holds es p n ≡ false
  pub leaves : without es p n ≡ es

pub miss : (es : List Entry) (p : ℕ) (n : List ℕ) → length es ≤ index es p n → Miss es p n
miss [] p n h = record { gives = refl; has = refl; leaves = refl }
miss (e ∷ es) p n h = by (has_key p n e) refl (miss es p n) h
  where
    by : (t : Bool) → has_key p n e ≡ t → (length es ≤ index es p n → Miss es p n) → length (e ∷ es) ≤ index (e ∷ es) p n → Miss (e ∷ es) p n
    by true q f k = absurd (not-suc-le-zero (simp q at k))
    by false q f k =
        let r = f (le_of_suc-le-suc (simp q at k)) in
        record { gives = simp q r.gives; has = simp q r.has; leaves = simp q (ap (λ (l : List Entry). e ∷ l) r.leaves) }

module _ (es : List Entry) (p : ℕ) (n : List ℕ) (d : Entry) (h : index es p n < length es) where
  pub leaves_set : (x : Entry) → IsPermutation (x ∷ without es p n) (set es (index es p n) x)
  leaves_set x = rw (hit es p n d h).leaves (shuffled_from (perm_in d x es (index es p n) h))

pub holds_at : (es : List Entry) (p : ℕ) (n : List ℕ) (j : ℕ) (d : Entry) → j < length es → has_key p n (get_or es j d) ≡ true → holds es p n ≡ true
holds_at [] p n j d h e = absurd (not-suc-le-zero h)
holds_at (x ∷ es) p n zero d h e = or_left _ _ e
holds_at (x ∷ es) p n (suc j) d h e = or_right _ _ (holds_at es p n j d (le_of_suc-le-suc h) e)

pub index_none : (es : List Entry) (p : ℕ) (n : List ℕ) (d : Entry) → ((j : ℕ) → j < length es → has_key p n (get_or es j d) ≡ false) → index es p n ≡ length es
index_none [] p n d f = refl
index_none (x ∷ es) p n d f = cond-false _ _ _ (f 0 (omega arith)) ∙ ap suc (index_none es p n d (λ j h. f (suc j) (omega arith)))

-- a key that no entry has
pub unheld : (es : List Entry) (p : ℕ) (n : List ℕ) → holds es p n ≡ false → Miss es p n
unheld es p n h =
    ⊎_elim {C = Miss es p n} (λ l. absurd (both_ways (holds es p n) h (hit es p n (entry_of 0 [] 0) l).has)) (miss es p n) (cases_lt (index es p n) (length es))
