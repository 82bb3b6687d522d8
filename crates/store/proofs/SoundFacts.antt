-- Sound lists of entries: every key is a good one, and none comes twice. cls gives the class of each byte.
use Rattle.std.proofs.Common.{◌≡◌, ℕ, zero, suc, ◌<◌, ◌≤◌, Bool, true, false, cond, not, ◌&&◌, ◌||◌, leb, List, [], ◌∷◌, ◌++◌, length, get_or, take, set, Some, Option, sym, refl, ap, ◌∙◌, le_of_suc-le-suc, not-suc-le-zero}
use Rattle.std.specs.List.{list_all, remove}
use Rattle.std.proofs.lemmas.Bool.{and_parts, and_from, or_parts, or_from, not-true, not_from_false, both_ways, le-leb, leb-true, cond-true}
use Rattle.names.specs.Names.{is_kept, is_short}
use Rattle.names.specs.declared.byte_class.ByteClass.{ByteClass}
use Rattle.store.specs.Entries.{Entry, has_key, found, holds, without, index, is_key, sound}
use Rattle.store.proofs.KeyFacts.{key_true, key_flip, key_both, holds_at, perm_holds}
use Rattle.store.proofs.Shuffles.{Perm, perm_refl, perm_push, perm_out, perm_in, perm_fill}
use Rattle.store.proofs.Shuffles.Perm.{none, keep, swap, then}

pub record Heads (cls : ℕ → ByteClass) (e : Entry) (es : List Entry) : Type 0 where
  pub good : is_key cls e.partition e.name ≡ true
  pub alone : holds es e.partition e.name ≡ false
  pub rest : sound cls es ≡ true

module _ (cls : ℕ → ByteClass) where
  pub sound_parts : (e : Entry) (es : List Entry) → sound cls (e ∷ es) ≡ true → Heads cls e es
  sound_parts e es h =
      let a = and_parts (is_key cls e.partition e.name) (not (holds es e.partition e.name) && sound cls es) h in
      let b = and_parts (not (holds es e.partition e.name)) (sound cls es) a.1 in
      record { good = a.0; alone = not-true _ b.0; rest = b.1 }

  pub sound_from : (e : Entry) (es : List Entry) → Heads cls e es → sound cls (e ∷ es) ≡ true
  sound_from e es h = and_from _ _ h.good (and_from _ _ (not_from_false _ h.alone) h.rest)

  pub perm_sound : {xs ys : List Entry} → Perm xs ys → sound cls xs ≡ true → sound cls ys ≡ true
  perm_sound none s = s
  perm_sound (keep a {xs} {ys} h) s =
      let t = sound_parts a xs s in
      sound_from a ys (record { good = t.good; alone = sym (perm_holds a.partition a.name h) ∙ t.alone; rest = perm_sound h t.rest })
  perm_sound (swap a b xs) s =
      let t = sound_parts a (b ∷ xs) s in
      let u = sound_parts b xs t.rest in
      let v = or_parts (has_key a.partition a.name b) (holds xs a.partition a.name) t.alone in
      sound_from b (a ∷ xs) (record {
        good = u.good;
        alone = or_from _ _ (sym (key_flip a b) ∙ v.0) u.alone;
        rest = sound_from a xs (record { good = t.good; alone = v.1; rest = u.rest });
      })
  perm_sound (then h k) s = perm_sound k (perm_sound h s)

  -- one of two heads at most has the key
  apart_heads : (p : ℕ) (n : List ℕ) (a b : Entry) (xs : List Entry) → sound cls (a ∷ b ∷ xs) ≡ true → has_key p n a ≡ true → has_key p n b ≡ true → ⊥
  apart_heads p n a b xs s h k =
      both_ways (has_key a.partition a.name b) (or_parts (has_key a.partition a.name b) (holds xs a.partition a.name) (sound_parts a (b ∷ xs) s).alone).0 (key_both p n a b h k)

  pub perm_found : (p : ℕ) (n : List ℕ) {xs ys : List Entry} → Perm xs ys → sound cls xs ≡ true → found xs p n ≡ found ys p n
  perm_found p n none s = refl
  perm_found p n (keep a {xs} {ys} h) s = ap (λ (o : Option ℕ). cond (has_key p n a) (Some a.number) o) (perm_found p n h (sound_parts a xs s).rest)
  perm_found p n (swap a b xs) s = swapped (has_key p n a) (has_key p n b) (apart_heads p n a b xs s)
    where
      swapped : (t u : Bool) → (t ≡ true → u ≡ true → ⊥) → cond t (Some a.number) (cond u (Some b.number) (found xs p n)) ≡ cond u (Some b.number) (cond t (Some a.number) (found xs p n))
      swapped true true f = absurd (f refl refl)
      swapped true false f = refl
      swapped false true f = refl
      swapped false false f = refl
  perm_found p n (then h k) s = perm_found p n h s ∙ perm_found p n k (perm_sound h s)

  pub perm_without : (p : ℕ) (n : List ℕ) {xs ys : List Entry} → Perm xs ys → sound cls xs ≡ true → Perm (without xs p n) (without ys p n)
  perm_without p n none s = none
  perm_without p n (keep a {xs} {ys} h) s = kept (has_key p n a) (perm_without p n h (sound_parts a xs s).rest)
    where
      kept : (t : Bool) → Perm (without xs p n) (without ys p n) → Perm (cond t xs (a ∷ without xs p n)) (cond t ys (a ∷ without ys p n))
      kept true k = h
      kept false k = keep a k
  perm_without p n (swap a b xs) s = swapped (has_key p n a) (has_key p n b) (apart_heads p n a b xs s)
    where
      swapped : (t u : Bool) → (t ≡ true → u ≡ true → ⊥) → Perm (cond t (b ∷ xs) (a ∷ cond u xs (b ∷ without xs p n))) (cond u (a ∷ xs) (b ∷ cond t xs (a ∷ without xs p n)))
      swapped true true f = absurd (f refl refl)
      swapped true false f = perm_refl (b ∷ xs)
      swapped false true f = perm_refl (a ∷ xs)
      swapped false false f = swap a b (without xs p n)
  perm_without p n (then h k) s = then (perm_without p n h s) (perm_without p n k (perm_sound h s))

  -- an entry comes, goes, or is changed in its place
  pub sound_push : (x : Entry) (es : List Entry) → is_key cls x.partition x.name ≡ true → holds es x.partition x.name ≡ false → sound cls es ≡ true → sound cls (es ++ x ∷ []) ≡ true
  sound_push x es k h s = perm_sound (perm_push x es) (sound_from x es (record { good = k; alone = h; rest = s }))

  module _ (es : List Entry) (i : ℕ) (d : Entry) (s : sound cls es ≡ true) (h : i < length es) where
    out : Heads cls (get_or es i d) (remove es i)
    out = sound_parts (get_or es i d) (remove es i) (perm_sound (perm_out d es i h) s)

    pub sound_fill : (m : ℕ) → length es ≡ suc m → sound cls (take m (set es i (get_or es m d))) ≡ true
    sound_fill m e = perm_sound (perm_fill d es i m h e) out.rest

    pub sound_set : (x : Entry) → is_key cls x.partition x.name ≡ true → holds es x.partition x.name ≡ false → sound cls (set es i x) ≡ true
    sound_set x k a =
        let b = or_parts (has_key x.partition x.name (get_or es i d)) (holds (remove es i) x.partition x.name) (sym (perm_holds x.partition x.name (perm_out d es i h)) ∙ a) in
        perm_sound (perm_in d x es i h) (sound_from x (remove es i) (record { good = k; alone = b.1; rest = out.rest }))

  -- a sound list has good keys only
  pub holds_key : (es : List Entry) (p : ℕ) (n : List ℕ) → sound cls es ≡ true → holds es p n ≡ true → is_key cls p n ≡ true
  holds_key [] p n s h = absurd (both_ways false refl h)
  holds_key (e ∷ es) p n s h = by (has_key p n e) refl h (sound_parts e es s) (holds_key es p n)
    where
      by : (t : Bool) → has_key p n e ≡ t → (t || holds es p n) ≡ true → Heads cls e es → (sound cls es ≡ true → holds es p n ≡ true → is_key cls p n ≡ true) → is_key cls p n ≡ true
      by true q o k f = let r = key_true p n e q in rw (r.0, r.1) k.good
      by false q o k f = f k.rest o

  pub key_other : (p q : ℕ) (n : List ℕ) → is_key cls p n ≡ true → q ≤ 511 → is_key cls q n ≡ true
  key_other p q n k h = and_from (leb q 511) (is_short cls n) (le-leb q 511 h) (and_parts (leb p 511) (is_short cls n) k).1

  -- an entry with the key is the only one
  pub index_unique : (es : List Entry) (p : ℕ) (n : List ℕ) (j : ℕ) (d : Entry) → sound cls es ≡ true → j < length es → has_key p n (get_or es j d) ≡ true → index es p n ≡ j
  index_unique [] p n j d s h e = absurd (not-suc-le-zero h)
  index_unique (x ∷ es) p n zero d s h e = cond-true _ _ _ e
  index_unique (x ∷ es) p n (suc j) d s h e =
      let k = sound_parts x es s in
      let l = le_of_suc-le-suc h in
      by (has_key p n x) refl k (index_unique es p n j d k.rest l e) (λ q. holds_at es x.partition x.name j d l (key_both p n x (get_or es j d) q e))
    where
      by : (t : Bool) → has_key p n x ≡ t → Heads cls x es → index es p n ≡ j → (has_key p n x ≡ true → holds es x.partition x.name ≡ true) → cond t 0 (suc (index es p n)) ≡ suc j
      by true q k r f = absurd (both_ways _ k.alone (f q))
      by false q k r f = ap suc r

  pub key_long : (p : ℕ) (n : List ℕ) → is_key cls p n ≡ true → 1 ≤ length n
  key_long p n k =
      let a = and_parts (leb p 511) (is_short cls n) k in
      let b = and_parts (leb 1 (length n) && leb (length n) 32) (list_all (is_kept cls) n) a.1 in
      leb-true 1 (length n) (and_parts (leb 1 (length n)) (leb (length n) 32) b.0).0
