-- Lists of entries that can be written: every key is a good one, none comes twice, and every number fits.
use Rattle.std.proofs.Common.{◌≡◌, ℕ, zero, suc, ◌<◌, ◌≤◌, Bool, true, false, cond, ◌&&◌, ◌||◌, eqb, leb, List, [], ◌∷◌, ◌++◌, length, get_or, set, is_some, is_ok, Some, None, Ok, Err, Option, Result, sym, refl, ap, ◌∙◌, subst, ⊎_elim}
use Rattle.std.specs.List.{list_all, remove, slice_get}
use Rattle.std.proofs.lemmas.Bool.{and_parts, and_from, or_parts, or_from, both_ways, cases_lt, leb-true, false≢true}
use Rattle.names.specs.Names.{class, is_short}
use Rattle.store.specs.Entries.{Entry, has_key, found, holds, without, index, inside, entry_of, is_key, sound}
use Rattle.store.proofs.KeyFacts.{hit, miss, perm_holds}
use Rattle.store.proofs.Shuffles.{Perm, perm_fold, perm_push, perm_middle, perm_back, perm_out, perm_in}
use Rattle.store.proofs.SoundFacts.{sound_parts, sound_from, perm_sound}
use Rattle.image.specs.Format.{number_fits, Packed}
use Rattle.image.specs.Promises.{Sought}
use Rattle.image.specs.declared.search.Placed.{Placed}
use Rattle.std.proofs.lemmas.Option.{none-some}

pub record Lawful (es : List Entry) : Type 0 where
  pub keys : sound class es ≡ true
  pub numbers : list_all number_fits es ≡ true

-- what the first entry has, and the others
pub record Front (e : Entry) (es : List Entry) : Type 0 where
  pub key : is_key class e.partition e.name ≡ true
  pub number : number_fits e ≡ true
  pub alone : holds es e.partition e.name ≡ false
  pub rest : Lawful es

pub lawful_parts : (e : Entry) (es : List Entry) → Lawful (e ∷ es) → Front e es
lawful_parts e es l =
    let h = sound_parts class e es l.keys in
    let n = and_parts (number_fits e) (list_all number_fits es) l.numbers in
    record { key = h.good; number = n.0; alone = h.alone; rest = record { keys = h.rest; numbers = n.1 } }

pub lawful_from : (e : Entry) (es : List Entry) → Front e es → Lawful (e ∷ es)
lawful_from e es f = record {
  keys = sound_from class e es (record { good = f.key; alone = f.alone; rest = f.rest.keys });
  numbers = and_from _ _ f.number f.rest.numbers;
}

and_swap : (a b y : Bool) → (a && (b && y)) ≡ (b && (a && y))
and_swap true true y = refl
and_swap true false y = refl
and_swap false true y = refl
and_swap false false y = refl

pub perm_lawful : {xs ys : List Entry} → Perm xs ys → Lawful xs → Lawful ys
perm_lawful p l = record {
  keys = perm_sound class p l.keys;
  numbers = sym (perm_fold (list_all number_fits) (λ a y. number_fits a && y) (λ a l. refl) (λ a b y. and_swap (number_fits a) (number_fits b) y) p) ∙ l.numbers;
}

-- an entry more at the end
pub lawful_push : (es : List Entry) (e : Entry) → Front e es → Lawful (es ++ e ∷ [])
lawful_push es e f = perm_lawful (perm_push e es) (lawful_from e es f)

-- an entry in the middle
pub lawful_at : (xs : List Entry) (e : Entry) (es : List Entry) → Lawful (xs ++ e ∷ es) → Front e (xs ++ es)
lawful_at xs e es l = lawful_parts e (xs ++ es) (perm_lawful (perm_back (perm_middle e xs es)) l)

-- the last ones
pub lawful_back : (xs ys : List Entry) → Lawful (xs ++ ys) → Lawful ys
lawful_back [] ys l = l
lawful_back (x ∷ xs) ys l = lawful_back xs ys (lawful_parts x (xs ++ ys) l).rest

pub holds_front : (xs ys : List Entry) (p : ℕ) (n : List ℕ) → holds (xs ++ ys) p n ≡ false → holds xs p n ≡ false
holds_front [] ys p n h = refl
holds_front (x ∷ xs) ys p n h = let k = or_parts (has_key p n x) (holds (xs ++ ys) p n) h in or_from _ _ k.0 (holds_front xs ys p n k.1)

module _ (es : List Entry) (p : ℕ) (n : List ℕ) (there : holds es p n ≡ true) where
  pub index_in : index es p n < length es
  index_in = ⊎_elim (λ below. below) (λ above. absurd (both_ways _ (miss es p n above).has there)) (cases_lt (index es p n) (length es))

  d : Entry
  d = entry_of p n 0

  -- an entry goes
  out : Lawful es → Front (get_or es (index es p n) d) (remove es (index es p n))
  out l = lawful_parts _ _ (perm_lawful (perm_out d es (index es p n) index_in) l)

  pub lawful_without : Lawful es → Lawful (without es p n)
  lawful_without l = subst Lawful (sym (hit es p n d index_in).leaves) (out l).rest

  -- an entry gets another key that is new
  pub lawful_set : (x : Entry) → is_key class x.partition x.name ≡ true → number_fits x ≡ true → holds es x.partition x.name ≡ false → Lawful es → Lawful (set es (index es p n) x)
  lawful_set x k f a l =
      let i = index es p n in
      let b = or_parts (has_key x.partition x.name (get_or es i d)) (holds (remove es i) x.partition x.name) (sym (perm_holds x.partition x.name (perm_out d es i index_in)) ∙ a) in
      perm_lawful (perm_in d x es i index_in) (lawful_from x (remove es i) (record { key = k; number = f; alone = b.1; rest = (out l).rest }))

pub packed_lawful : (bs : List ℕ) (es : List Entry) → Packed class bs es → Lawful es
packed_lawful bs es h = record { keys = h.keys; numbers = h.numbers }

-- whether an entry is found
found_by : {X : Type 0} (b : Bool) (x : X) (o : Option X) (t : Bool) → is_some o ≡ t → is_some (cond b (Some x) o) ≡ (b || t)
found_by true x o t h = refl
found_by false x o t h = h

pub found_holds : (es : List Entry) (p : ℕ) (n : List ℕ) → is_some (found es p n) ≡ holds es p n
found_holds [] p n = refl
found_holds (e ∷ es) p n = found_by (has_key p n e) e.number (found es p n) (holds es p n) (found_holds es p n)

pub found_is : (es : List Entry) (p : ℕ) (n : List ℕ) (k : ℕ) → found es p n ≡ Some k → holds es p n ≡ true
found_is es p n k h = sym (found_holds es p n) ∙ ap is_some h

pub found_not : (es : List Entry) (p : ℕ) (n : List ℕ) → found es p n ≡ None → holds es p n ≡ false
found_not es p n h = sym (found_holds es p n) ∙ ap is_some h

-- what a search answered, by whether it is `Ok`
pub sought_is : (r : Result Placed ℕ) (es : List Entry) (p : ℕ) (n : List ℕ) → Sought r es p n → is_ok r ≡ true → holds es p n ≡ true
sought_is (Ok s) es p n h o = found_is es p n s.number h.2
sought_is (Err end) es p n h o = absurd (false≢true o)

pub sought_not : (r : Result Placed ℕ) (es : List Entry) (p : ℕ) (n : List ℕ) → Sought r es p n → is_ok r ≡ false → holds es p n ≡ false
sought_not (Ok s) es p n h o = absurd (false≢true (sym o))
sought_not (Err end) es p n h o = found_not es p n h.1

-- a name among the entries of a partition is a short form
pub nth_key : (es : List Entry) (p k : ℕ) (e : Entry) → sound class es ≡ true → slice_get (inside es p) k ≡ Some e → is_key class e.partition e.name ≡ true
nth_key [] p k e s i = absurd (none-some e i)
nth_key (d ∷ es) p k e s i = let h = sound_parts class d es s in by (eqb p d.partition) k i h.good (λ j. nth_key es p j e h.rest)
  where
    by : (b : Bool) (k : ℕ) → slice_get (cond b (d ∷ inside es p) (inside es p)) k ≡ Some e → is_key class d.partition d.name ≡ true → ((j : ℕ) → slice_get (inside es p) j ≡ Some e → is_key class e.partition e.name ≡ true) → is_key class e.partition e.name ≡ true
    by true zero i h f = let s : d ≡ e = cc in ap (λ x. is_key class x.partition x.name) (sym s) ∙ h
    by true (suc k) i h f = f k i
    by false k i h f = f k i

pub nth_short : (es : List Entry) (p k : ℕ) (e : Entry) → sound class es ≡ true → slice_get (inside es p) k ≡ Some e → length e.name ≤ 32
nth_short es p k e s i =
    let a = and_parts (leb e.partition 511) (is_short class e.name) (nth_key es p k e s i) in
    leb-true _ _ (and_parts _ _ (and_parts _ _ a.1).0).1
