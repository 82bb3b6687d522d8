-- A table before and after a change.
use Rattle.std.proofs.Common.{◌≡◌, ℕ, zero, suc, ◌+◌, ◌-◌, ◌<◌, ◌≤◌, true, false, eqb, leb, List, [], ◌∷◌, ◌++◌, map, length, get_or, take, set, replicate, Some, None, Option, sym, refl, ap, ◌∙◌, subst, arith}
use Rattle.std.specs.List.{remove}
use Rattle.std.proofs.lemmas.Bool.{and_parts, leb-true, cond-false, ne_eqb}
use Rattle.std.proofs.lemmas.List.{take_more_set, map_push, map-set, take-map, take-take, get_or-map, get_or-take, length-map}
use Rattle.names.specs.Names.{class, is_short}
use Rattle.store.specs.Entries.{Entry, has_key, index, found, holds, without, is_key, sound, inside, entry_of}
use Rattle.store.specs.Calls.{number_in}
use Rattle.store.proofs.Shuffles.{Perm, perm_out, perm_in, perm_fill}
use Rattle.store.proofs.SoundFacts.{perm_found, sound_parts, holds_key, key_long, key_other, sound_fill, sound_set}
use Rattle.store.proofs.KeyFacts.{perm_holds, hit, Miss, miss, key_self, key_true, holds_at}
use Rattle.slots.specs.declared.slot.Item.{Item}
use Rattle.slots.specs.declared.slot.Slot.{Slot}
use Rattle.slots.specs.declared.table.SlotTable.{SlotTable}
use Rattle.slots.specs.Chains.{Top}
use Rattle.slots.specs.Columns.{items, lengths, BothLinked, Linked, codes, heads, head_in}
use Rattle.slots.specs.Table.{entry_in, entries_in, Counts, Free}
use Rattle.slots.specs.Held.{held, entries_by_rank, found_at, number_of}
use Rattle.slots.proofs.LinkFacts.{items_read, length_items, code_free}
use Rattle.slots.specs.Lawful.{length_held, by_rank_perm}
use Rattle.slots.proofs.HeldFacts.{blank, no_slot, held_at, nth_held, long}
use Rattle.slots.proofs.CountFacts.{counts_drop}

pub entries_push : (u : ℕ) (rs : List Item) (r : Item) → u < length rs → entries_in (u + 1) (set rs u r) ≡ entries_in u rs ++ entry_in r ∷ []
entries_push u rs r h = ap (map entry_in) (take_more_set rs u r h) ∙ map_push entry_in (take u rs) r

pub take_set_in : (n : ℕ) (rs : List Item) (i : ℕ) (r : Item) → take n (set rs i r) ≡ set (take n rs) i r
take_set_in zero rs i r = refl
take_set_in (suc n) [] i r = refl
take_set_in (suc n) (x ∷ xs) zero r = refl
take_set_in (suc n) (x ∷ xs) (suc i) r = ap (λ (l : List Item). x ∷ l) (take_set_in n xs i r)

pub entries_set : (u : ℕ) (rs : List Item) (i : ℕ) (r : Item) → entries_in u (set rs i r) ≡ set (entries_in u rs) i (entry_in r)
entries_set u rs i r = ap (map entry_in) (take_set_in u rs i r) ∙ map-set entry_in (take u rs) i r

entries_less : (m u : ℕ) (rs : List Item) → m ≤ u → entries_in m rs ≡ take m (entries_in u rs)
entries_less m u rs h = sym (take-map entry_in m (take u rs) ∙ ap (map entry_in) (take-take m u rs h))

pub key_low : (p : ℕ) (n : List ℕ) → is_key class p n ≡ true → p ≤ 511
key_low p n k = leb-true p 511 (and_parts (leb p 511) (is_short class n) k).0

module _ (t : SlotTable) where
  pub filled : (j : ℕ) (d : Slot) → j < t.used → 0 < lengths t.lent.slots.now j
  filled j d h =
      let r = (get_or t.lent.slots.now j d).item in
      let e = entry_in r in
      let a = ap (has_key e.partition e.name) (held_at t j d blank h) ∙ key_self e in
      let k = key_long class e.partition e.name (holds_key class (held t) e.partition e.name t.lawful (holds_at (held t) e.partition e.name j blank (omega (arith, length_held t)) a)) in
      omega (arith, items_read (λ r. r.len) t.lent.slots.now j d (omega (arith, t.within)), long r.len r.name k)

  -- a place that `place` gave
  module _ (i p : ℕ) (n : List ℕ) (e : i ≡ index (held t) p n) where
    pub missed : t.used ≤ i → Miss (held t) p n
    missed h = miss (held t) p n (omega (arith, length_held t))

    pub within_held : i < t.used → index (held t) p n < length (held t)
    within_held h = omega (arith, length_held t)

    pub present : i < t.used → holds (held t) p n ≡ true
    present h = (hit (held t) p n blank (within_held h)).has

    pub low_part : i < t.used → p < 512
    low_part h = omega (arith, key_low p n (holds_key class (held t) p n t.lawful (present h)))

    module _ (h : i < t.used) (d : Slot) where
      here : get_or (held t) (index (held t) p n) blank ≡ entry_in (get_or t.lent.slots.now i d).item
      here = ap (λ (j : ℕ). get_or (held t) j blank) (sym e) ∙ held_at t i d blank h

      pub key_here : has_key p n (entry_in (get_or t.lent.slots.now i d).item) ≡ true
      key_here = ap (has_key p n) (sym here) ∙ (hit (held t) p n blank (within_held h)).here

      pub gives_here : found (held t) p n ≡ Some (get_or t.lent.slots.now i d).item.number
      gives_here = (hit (held t) p n blank (within_held h)).gives ∙ ap (λ (x : Entry). Some x.number) here

      -- the entry comes out
      pub out : Perm (held t) (get_or (held t) i blank ∷ remove (held t) i)
      out = perm_out blank (held t) i (omega (arith, length_held t))

      pub out_part : (get_or (held t) i blank).partition ≡ p
      out_part = ap (λ (x : Entry). x.partition) (held_at t i d blank h) ∙ sym (key_true p n (entry_in (get_or t.lent.slots.now i d).item) key_here).0

      pub out_counts : Counts (set t.counts p (get_or t.counts p 0 - 1)) (remove (held t) i)
      out_counts =
          subst (λ (z : ℕ). Counts (set t.counts z (get_or t.counts z 0 - 1)) (remove (held t) i)) out_part
          (counts_drop t.counts (held t) (remove (held t) i) (get_or (held t) i blank) t.counted t.wide (omega (arith, out_part, low_part h)) out)

      -- rs₁ are items of the same entries
      module _ (rs₁ : List Item) (same : entries_in t.used rs₁ ≡ held t) where
        size₁ : t.used ≤ length (take t.used rs₁)
        size₁ = omega (arith, length_held t, ap length same, length-map (take t.used rs₁) entry_in)

        -- the last entry goes into its place: rs are the items then
        module _ (rs : List Item) (now : take (t.used - 1) rs ≡ take (t.used - 1) (set rs₁ i (get_or rs₁ (t.used - 1) d.item))) where
          pub closed : entries_in (t.used - 1) rs ≡ take (t.used - 1) (set (held t) i (get_or (held t) (t.used - 1) blank))
          closed =
              let l = t.used - 1 in
              let v = get_or rs₁ l d.item in
              let w : entry_in v ≡ get_or (held t) l blank = sym (get_or-map entry_in (take t.used rs₁) l d.item blank (omega (arith, size₁)) ∙ ap entry_in (get_or-take t.used rs₁ l d.item (omega arith))) ∙ ap (λ (es : List Entry). get_or es l blank) same in
              ap (map entry_in) now ∙ entries_less l t.used (set rs₁ i v) (omega arith) ∙ ap (take l) (entries_set t.used rs₁ i v ∙ ap (λ (es : List Entry). set es i (entry_in v)) same) ∙ ap (λ (x : Entry). take l (set (held t) i x)) w

          pub closed_sound : sound class (entries_in (t.used - 1) rs) ≡ true
          closed_sound = ap (sound class) closed ∙ sound_fill class (held t) i blank t.lawful (omega (arith, length_held t)) (t.used - 1) (omega (arith, length_held t))

          pub closed_leaves : Perm (without (held t) p n) (entries_in (t.used - 1) rs)
          closed_leaves = rw ((hit (held t) p n blank (within_held h)).leaves, closed, e) (perm_fill blank (held t) (index (held t) p n) (t.used - 1) (within_held h) (omega (arith, length_held t)))

          pub closed_perm : Perm (remove (held t) i) (entries_in (t.used - 1) rs)
          closed_perm = rw closed (perm_fill blank (held t) i (t.used - 1) (omega (arith, length_held t)) (omega (arith, length_held t)))

        -- it goes to partition q
        module _ (q : ℕ) (r : Item) (is : entry_in r ≡ entry_of q (entry_in (get_or t.lent.slots.now i d).item).name (get_or t.lent.slots.now i d).item.number) (rs : List Item) (now : rs ≡ set rs₁ i r) where
          pub moved : entry_in r ≡ entry_of q n (number_in (found (held t) p n))
          moved =
              let v = (get_or t.lent.slots.now i d).item in
              is ∙ ap (λ (x : List ℕ). entry_of q x v.number) (sym (key_true p n (entry_in v) key_here).1) ∙ ap (λ (o : Option ℕ). entry_of q n (number_in o)) (sym gives_here)

          pub moved_is : entries_in t.used rs ≡ set (held t) i (entry_of q n (number_in (found (held t) p n)))
          moved_is = ap (entries_in t.used) now ∙ entries_set t.used rs₁ i r ∙ ap (λ (es : List Entry). set es i (entry_in r)) same ∙ ap (set (held t) i) moved

          pub moved_sound : q ≤ 511 → holds (held t) q n ≡ false → sound class (entries_in t.used rs) ≡ true
          moved_sound l f =
              ap (sound class) moved_is ∙ sound_set class (held t) i blank t.lawful (omega (arith, length_held t)) (entry_of q n (number_in (found (held t) p n))) (key_other class p q n (holds_key class (held t) p n t.lawful (present h)) l) f

          pub moved_leaves : Perm (entry_of q n (number_in (found (held t) p n)) ∷ without (held t) p n) (entries_in t.used rs)
          moved_leaves = rw ((hit (held t) p n blank (within_held h)).leaves, moved_is, e) (perm_in blank (entry_of q n (number_in (found (held t) p n))) (held t) (index (held t) p n) (within_held h))

          pub moved_perm : Perm (entry_of q n (number_in (found (held t) p n)) ∷ remove (held t) i) (entries_in t.used rs)
          moved_perm = rw moved_is (perm_in blank (entry_of q n (number_in (found (held t) p n))) (held t) i (omega (arith, length_held t)))

-- what `place` tells of the entries in the order of the store
module _ (t : SlotTable) (i p : ℕ) (n : List ℕ) (e : i ≡ index (held t) p n) where
  pub found_here : i < t.used → found (entries_by_rank t) p n ≡ found_at t i
  found_here h = sym (perm_found class p n (by_rank_perm t) t.lawful) ∙ gives_here t i p n e h no_slot ∙ sym (ap number_of (nth_held t i no_slot h))

  pub holds_here : i < t.used → holds (entries_by_rank t) p n ≡ true
  holds_here h = sym (perm_holds p n (by_rank_perm t)) ∙ present t i p n e h

  pub none_found : t.used ≤ i → found (entries_by_rank t) p n ≡ None
  none_found h = sym (perm_found class p n (by_rank_perm t) t.lawful) ∙ (missed t i p n e h).gives

pub inside_high : (es : List Entry) (p : ℕ) → sound class es ≡ true → 511 < p → inside es p ≡ []
inside_high [] p s h = refl
inside_high (e ∷ es) p s h =
    let k = sound_parts class e es s in
    cond-false (eqb p e.partition) _ _ (ne_eqb p e.partition (λ q. absurd (omega (arith, key_low e.partition e.name k.good)))) ∙ inside_high es p k.rest h

-- all slots are vacant and all heads are 0
pub empty_linked : (k : ℕ) (ss : List Slot) → ((j : ℕ) → j < length ss → lengths ss j ≡ 0) → ((j : ℕ) → j < length ss → heads k ss j ≡ 0) → Linked k ss
empty_linked k ss f g =
    let n = length ss in
    let c = codes k n (items ss) in
    let free : (j : ℕ) → j < n → c j ≡ n = λ j l. code_free k n (items ss) j (omega (arith, length_items ss)) (f j l) in (
      λ b l. subst (λ (v : ℕ). Top c n b v) (sym (g b l)) (omega arith, (λ j z y e. absurd (omega (arith, free j y))), λ z. absurd (omega arith)),
      λ j l z. absurd (omega (arith, free j l)),
    )

-- slots that are all s, which is vacant and has no heads
module _ (s : Slot) (vacant : s.item.len ≡ 0) (h₀ : head_in 0 s ≡ 0) (h₁ : head_in 1 s ≡ 0) where
  lengths_all : (n j : ℕ) → lengths (replicate n s) j ≡ 0
  lengths_all zero j = refl
  lengths_all (suc n) zero = vacant
  lengths_all (suc n) (suc j) = lengths_all n j

  heads_all : (k n j : ℕ) → head_in k s ≡ 0 → heads k (replicate n s) j ≡ 0
  heads_all k zero j e = refl
  heads_all k (suc n) zero e = e
  heads_all k (suc n) (suc j) e = heads_all k n j e

  pub all_free : (n : ℕ) (ss : List Slot) → ss ≡ replicate n s → Free 0 ss
  all_free n ss e j _ _ = ap (λ (l : List Slot). lengths l j) e ∙ lengths_all n j

  pub all_linked : (n : ℕ) (ss : List Slot) → ss ≡ replicate n s → BothLinked ss
  all_linked n ss e = (
    empty_linked 0 ss (λ j l. all_free n ss e j (omega arith) l) (λ j _. ap (λ (l : List Slot). heads 0 l j) e ∙ heads_all 0 n j h₀),
    empty_linked 1 ss (λ j l. all_free n ss e j (omega arith) l) (λ j _. ap (λ (l : List Slot). heads 1 l j) e ∙ heads_all 1 n j h₁),
  )
