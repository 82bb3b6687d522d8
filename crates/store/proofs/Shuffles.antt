-- Shuffles by steps that an induction can follow.
use Rattle.std.proofs.Common.{◌≡◌, ℕ, zero, suc, ◌<◌, Bool, true, false, cond, List, [], ◌∷◌, ◌++◌, map, length, get_or, take, set, filter, sym, refl, ap, ◌∙◌, le_of_suc-le-suc, not-suc-le-zero, arith}
use Rattle.std.specs.List.Sorted.{IsPermutation}
use Rattle.std.specs.List.{swap as exchanged, remove}
use Rattle.std.proofs.lemmas.List.Sorted.{IsPermutation-refl, IsPermutation-cons, IsPermutation-trans, IsPermutation-swap, IsPermutation-keeps}

pub data Perm {X : Type 0} : List X → List X → Type 0 where
  none : Perm [] []
  keep : (a : X) {xs ys : List X} → Perm xs ys → Perm (a ∷ xs) (a ∷ ys)
  swap : (a b : X) (xs : List X) → Perm (a ∷ b ∷ xs) (b ∷ a ∷ xs)
  then : {xs ys zs : List X} → Perm xs ys → Perm ys zs → Perm xs zs

module _ {X : Type 0} where
  pub perm_refl : (xs : List X) → Perm xs xs
  perm_refl [] = none
  perm_refl (x ∷ xs) = keep x (perm_refl xs)

  -- a head trades places with a later element
  head_for : (d x : X) (xs : List X) (j : ℕ) → j < length xs → Perm (x ∷ xs) (get_or xs j d ∷ set xs j x)
  head_for d x [] j h = absurd (not-suc-le-zero h)
  head_for d x (y ∷ ys) zero h = swap x y ys
  head_for d x (y ∷ ys) (suc j) h =
      then (swap x y ys) (then (keep y (head_for d x ys j (le_of_suc-le-suc h))) (swap y (get_or ys j d) (set ys j x)))

  traded : (d : X) (xs : List X) (i j : ℕ) → i < length xs → j < length xs → Perm xs (set (set xs i (get_or xs j d)) j (get_or xs i d))
  traded d [] i j p q = none
  traded d (x ∷ xs) zero zero p q = perm_refl (x ∷ xs)
  traded d (x ∷ xs) zero (suc j) p q = head_for d x xs j (le_of_suc-le-suc q)
  traded d (x ∷ xs) (suc i) zero p q = head_for d x xs i (le_of_suc-le-suc p)
  traded d (x ∷ xs) (suc i) (suc j) p q = keep x (traded d xs i j (le_of_suc-le-suc p) (le_of_suc-le-suc q))

  step : (l : List X) (i j : ℕ) → i < length l → j < length l → Perm l (exchanged l i j)
  step [] i j p q = none
  step (d ∷ ys) i j p q = traded d (d ∷ ys) i j p q

  pub perm_from : (xs ys : List X) → IsPermutation xs ys → Perm xs ys
  perm_from xs ys = IsPermutation-keeps xs (Perm xs) (perm_refl xs) (λ l i j p q h. then h (step l i j p q)) ys

  pub shuffled_from : {xs ys : List X} → Perm xs ys → IsPermutation xs ys
  shuffled_from none = IsPermutation-refl []
  shuffled_from (keep a {xs} {ys} h) = IsPermutation-cons a xs ys (shuffled_from h)
  shuffled_from (swap a b xs) = IsPermutation-swap (a ∷ b ∷ xs) (b ∷ a ∷ xs) 0 1 (omega arith) (omega arith) refl
  shuffled_from (then {xs} {ys} {zs} h k) = IsPermutation-trans xs ys zs (shuffled_from h) (shuffled_from k)

  pub perm_back : {xs ys : List X} → Perm xs ys → Perm ys xs
  perm_back none = none
  perm_back (keep a h) = keep a (perm_back h)
  perm_back (swap a b xs) = swap b a xs
  perm_back (then h k) = then (perm_back k) (perm_back h)

  pub perm_middle : (x : X) (xs ys : List X) → Perm (x ∷ xs ++ ys) (xs ++ x ∷ ys)
  perm_middle x [] ys = perm_refl (x ∷ ys)
  perm_middle x (a ∷ xs) ys = then (swap x a (xs ++ ys)) (keep a (perm_middle x xs ys))

  pub perm_before : (xs : List X) {ys zs : List X} → Perm ys zs → Perm (xs ++ ys) (xs ++ zs)
  perm_before [] h = h
  perm_before (x ∷ xs) h = keep x (perm_before xs h)

  -- any fold that does not mind the order
  pub perm_fold : {Y : Type 0} (f : List X → Y) (g : X → Y → Y) → ((a : X) (l : List X) → f (a ∷ l) ≡ g a (f l)) → ((a b : X) (y : Y) → g a (g b y) ≡ g b (g a y)) → {xs ys : List X} → Perm xs ys → f xs ≡ f ys
  perm_fold f g is ex none = refl
  perm_fold f g is ex (keep a {xs} {ys} h) = is a xs ∙ ap (g a) (perm_fold f g is ex h) ∙ sym (is a ys)
  perm_fold f g is ex (swap a b xs) =
      is a (b ∷ xs) ∙ ap (g a) (is b xs) ∙ ex a b (f xs) ∙ sym (is b (a ∷ xs) ∙ ap (g b) (is a xs))
  perm_fold f g is ex (then h k) = perm_fold f g is ex h ∙ perm_fold f g is ex k

  cond_keep : (b : Bool) (a : X) {xs ys : List X} → Perm xs ys → Perm (cond b (a ∷ xs) xs) (cond b (a ∷ ys) ys)
  cond_keep true a h = keep a h
  cond_keep false a h = h

  cond_swap : (s t : Bool) (a b : X) (xs : List X) → Perm (cond s (a ∷ cond t (b ∷ xs) xs) (cond t (b ∷ xs) xs)) (cond t (b ∷ cond s (a ∷ xs) xs) (cond s (a ∷ xs) xs))
  cond_swap true true a b xs = swap a b xs
  cond_swap true false a b xs = perm_refl (a ∷ xs)
  cond_swap false true a b xs = perm_refl (b ∷ xs)
  cond_swap false false a b xs = perm_refl xs

  pub perm_kept_by : (t : X → Bool) {xs ys : List X} → Perm xs ys → Perm (filter t xs) (filter t ys)
  perm_kept_by t none = none
  perm_kept_by t (keep a h) = cond_keep (t a) a (perm_kept_by t h)
  perm_kept_by t (swap a b xs) = cond_swap (t a) (t b) a b (filter t xs)
  perm_kept_by t (then h k) = then (perm_kept_by t h) (perm_kept_by t k)

pub perm_map : {X Y : Type 0} (f : X → Y) {xs ys : List X} → Perm xs ys → Perm (map f xs) (map f ys)
perm_map f none = none
perm_map f (keep a h) = keep (f a) (perm_map f h)
perm_map f (swap a b xs) = swap (f a) (f b) (map f xs)
perm_map f (then h k) = then (perm_map f h) (perm_map f k)

module _ {X : Type 0} (d : X) where
  -- an element comes out of its place, another goes into it, and the last one fills it
  pub perm_out : (xs : List X) (i : ℕ) → i < length xs → Perm xs (get_or xs i d ∷ remove xs i)
  perm_out [] i h = absurd (not-suc-le-zero h)
  perm_out (x ∷ xs) zero h = perm_refl (x ∷ xs)
  perm_out (x ∷ xs) (suc i) h = then (keep x (perm_out xs i (le_of_suc-le-suc h))) (swap x (get_or xs i d) (remove xs i))

  pub perm_in : (y : X) (xs : List X) (i : ℕ) → i < length xs → Perm (y ∷ remove xs i) (set xs i y)
  perm_in y [] i h = absurd (not-suc-le-zero h)
  perm_in y (x ∷ xs) zero h = perm_refl (y ∷ xs)
  perm_in y (x ∷ xs) (suc i) h = then (swap y x (remove xs i)) (keep x (perm_in y xs i (le_of_suc-le-suc h)))

  last_first : (xs : List X) (m : ℕ) → length xs ≡ suc m → Perm xs (get_or xs m d ∷ take m xs)
  last_first [] m e = absurd (omega arith)
  last_first (x ∷ []) zero e = perm_refl (x ∷ [])
  last_first (x ∷ y ∷ ys) zero e = absurd (omega arith)
  last_first (x ∷ xs) (suc m) e = then (keep x (last_first xs m (omega arith))) (swap x (get_or xs m d) (take m xs))

  pub perm_fill : (xs : List X) (i m : ℕ) → i < length xs → length xs ≡ suc m → Perm (remove xs i) (take m (set xs i (get_or xs m d)))
  perm_fill [] i m h e = absurd (not-suc-le-zero h)
  perm_fill (x ∷ []) zero zero h e = none
  perm_fill (x ∷ y ∷ ys) zero zero h e = absurd (omega arith)
  perm_fill (x ∷ xs) zero (suc m) h e = last_first xs m (omega arith)
  perm_fill (x ∷ xs) (suc i) zero h e = absurd (omega arith)
  perm_fill (x ∷ xs) (suc i) (suc m) h e = keep x (perm_fill xs i m (le_of_suc-le-suc h) (omega arith))

pub perm_push : {X : Type 0} (x : X) (xs : List X) → Perm (x ∷ xs) (xs ++ x ∷ [])
perm_push x [] = perm_refl (x ∷ [])
perm_push x (a ∷ xs) = then (swap x a xs) (keep a (perm_push x xs))
