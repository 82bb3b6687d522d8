-- A table after a put, a take and a move.
use Rattle.std.proofs.Common.{◌≡◌, ℕ, suc, ◌+◌, ◌-◌, ◌<◌, ◌≤◌, Bool, true, false, cond, ◌&&◌, eqb, ltb, List, [], ◌∷◌, ◌++◌, map, length, get_or, take, set, Some, count_by, filter, sym, refl, ap, ◌∙◌, subst, ⊎_elim, arith, length-set}
use Rattle.std.specs.List.{remove, slice_get}
use Rattle.std.proofs.lemmas.Bool.{cond-true, cond-false, eq-eqb, ne_eqb, eqb-true, lt-ltb, le-ltb, cases_eq, cases_order, and_from, and_parts}
use Rattle.std.proofs.lemmas.List.{get_or-set_same, get_or-set_other, take_more_set, take-take, get_or-take, get_or-map}
use Rattle.std.proofs.lemmas.List.Sums.{sum_by_push, sum_by-set, sum_by-cons, get_or-le-sum_by, length-filter}
use Rattle.std.specs.Option.{option_map}
use Rattle.std.proofs.lemmas.Option.{slice_get-map}
use Rattle.names.specs.Names.{class}
use Rattle.store.specs.Entries.{Entry, inside, sound, is_key, holds}
use Rattle.store.proofs.Shuffles.{Perm, perm_push, perm_fold, perm_out, perm_fill}
use Rattle.store.proofs.SoundFacts.{sound_push}
use Rattle.slots.specs.declared.slot.Item.{Item}
use Rattle.slots.specs.declared.slot.Slot.{Slot}
use Rattle.slots.specs.declared.table.Lent.{Lent}
use Rattle.slots.specs.declared.table.SlotTable.{SlotTable}
use Rattle.slots.specs.Columns.{items, partitions, ranks}
use Rattle.slots.specs.Ranks.{in_rank, Ranked, by_rank}
use Rattle.slots.specs.Table.{entry_in, entries_in}
use Rattle.slots.specs.Held.{held, in_use, entries_by_rank}
use Rattle.slots.specs.Lawful.{length_use, counts_le}
use Rattle.slots.specs.Lookup.{LacksRank}
use Rattle.slots.proofs.LinkFacts.{length_items, items_length, lengths_other}
use Rattle.slots.proofs.CountFacts.{counts_add}
use Rattle.slots.proofs.NthFacts.{nth_ranked}
use Rattle.slots.proofs.StateFacts.{entries_push, key_low, take_set_in}

-- how often each rank comes, after one more and one fewer
abbrev pub RankedBy : List ℕ → (ℕ → ℕ → ℕ) → Type 0
RankedBy counts T = (p r : ℕ) → p < 512 → T p r ≡ cond (ltb r (get_or counts p 0)) 1 0

one_more : (r c : ℕ) → cond (ltb r c) 1 0 + cond (eqb r c) 1 0 ≡ cond (ltb r (c + 1)) 1 0
one_more r c =
    ⊎_elim {C = cond (ltb r c) 1 0 + cond (eqb r c) 1 0 ≡ cond (ltb r (c + 1)) 1 0}
    (λ e. omega (arith, cond-false {A = ℕ} (ltb r c) 1 0 (le-ltb r c (omega arith)), cond-true {A = ℕ} (eqb r c) 1 0 (eq-eqb r c e), cond-true {A = ℕ} (ltb r (c + 1)) 1 0 (lt-ltb r (c + 1) (omega arith))))
    (⊎_elim {C = cond (ltb r c) 1 0 + cond (eqb r c) 1 0 ≡ cond (ltb r (c + 1)) 1 0}
    (λ e. omega (arith, cond-true {A = ℕ} (ltb r c) 1 0 (lt-ltb r c e), cond-false {A = ℕ} (eqb r c) 1 0 (ne_eqb r c (λ q. absurd (omega arith))), cond-true {A = ℕ} (ltb r (c + 1)) 1 0 (lt-ltb r (c + 1) (omega arith))))
    (λ e. omega (arith, cond-false {A = ℕ} (ltb r c) 1 0 (le-ltb r c (omega arith)), cond-false {A = ℕ} (eqb r c) 1 0 (ne_eqb r c (λ q. absurd (omega arith))), cond-false {A = ℕ} (ltb r (c + 1)) 1 0 (le-ltb r (c + 1) (omega arith)))))
    (cases_order r c)

both_eq : (q p r k : ℕ) → q ≡ p → ◌≡◌ {A = ℕ} (cond (eqb q p && eqb r k) 1 0) (cond (eqb r k) 1 0)
both_eq q p r k e = ap (λ (b : Bool). cond (b && eqb r k) 1 0) (eq-eqb q p e)

one_off : (q p r k : ℕ) → (q ≡ p → ⊥) → ◌≡◌ {A = ℕ} (cond (eqb q p && eqb r k) 1 0) 0
one_off q p r k f = ap (λ (b : Bool). cond (b && eqb r k) 1 0) (ne_eqb q p f)

module _ (counts : List ℕ) (T T' : ℕ → ℕ → ℕ) (ok : RankedBy counts T) (wide : length counts ≡ 512) (p : ℕ) (low : p < 512) where
  pub ranked_add : ((q r : ℕ) → T' q r ≡ T q r + cond (eqb q p && eqb r (get_or counts p 0)) 1 0) → RankedBy (set counts p (get_or counts p 0 + 1)) T'
  ranked_add f q r l =
      let c = get_or counts p 0 in
      ⊎_elim {C = T' q r ≡ cond (ltb r (get_or (set counts p (c + 1)) q 0)) 1 0}
      (λ e.
      let a : get_or (set counts p (c + 1)) q 0 ≡ c + 1 = ap (λ (z : ℕ). get_or (set counts p (c + 1)) z 0) e ∙ get_or-set_same counts p (c + 1) 0 (omega arith) in
      let b : get_or counts q 0 ≡ c = ap (λ (z : ℕ). get_or counts z 0) e in
      f q r ∙ omega (arith, ok q r l ∙ ap (λ (z : ℕ). cond (ltb r z) 1 0) b, both_eq q p r c e, one_more r c) ∙ ap (λ (z : ℕ). cond (ltb r z) 1 0) (sym a))
      (λ e.
      let a = get_or-set_other counts p q (c + 1) 0 e in
      f q r ∙ omega (arith, ok q r l, one_off q p r c e) ∙ ap (λ (z : ℕ). cond (ltb r z) 1 0) (sym a))
      (cases_eq q p)

  pub ranked_drop : 1 ≤ get_or counts p 0 → ((q r : ℕ) → T' q r + cond (eqb q p && eqb r (get_or counts p 0 - 1)) 1 0 ≡ T q r) → RankedBy (set counts p (get_or counts p 0 - 1)) T'
  ranked_drop pos f q r l =
      let c = get_or counts p 0 in
      ⊎_elim {C = T' q r ≡ cond (ltb r (get_or (set counts p (c - 1)) q 0)) 1 0}
      (λ e.
      let a : get_or (set counts p (c - 1)) q 0 ≡ c - 1 = ap (λ (z : ℕ). get_or (set counts p (c - 1)) z 0) e ∙ get_or-set_same counts p (c - 1) 0 (omega arith) in
      let b : get_or counts q 0 ≡ c - 1 + 1 = ap (λ (z : ℕ). get_or counts z 0) e ∙ omega arith in
      omega (arith, f q r, ok q r l ∙ ap (λ (z : ℕ). cond (ltb r z) 1 0) b, both_eq q p r (c - 1) e, one_more r (c - 1)) ∙ ap (λ (z : ℕ). cond (ltb r z) 1 0) (sym a))
      (λ e.
      let a = get_or-set_other counts p q (c - 1) 0 e in
      omega (arith, f q r, ok q r l, one_off q p r (c - 1) e) ∙ ap (λ (z : ℕ). cond (ltb r z) 1 0) (sym a))
      (cases_eq q p)

pub in_rank_is : (q r : ℕ) (x : Item) (p k : ℕ) → x.partition ≡ p → x.rank ≡ k → ◌≡◌ {A = ℕ} (cond (in_rank q r x) 1 0) (cond (eqb q p && eqb r k) 1 0)
in_rank_is q r x p k e f = ap (λ (z : ℕ). cond (eqb q z && eqb r x.rank) 1 0) e ∙ ap (λ (z : ℕ). cond (eqb q p && eqb r z) 1 0) f

-- after a put
module _ (t : SlotTable) (lent : Lent) (item : Item) (x : Entry) (now : items lent.slots.now ≡ set (items t.lent.slots.now) t.used item)
    (room : t.used < length t.lent.slots.now) (is : entry_in item ≡ x) (k : is_key class x.partition x.name ≡ true) (new : holds (held t) x.partition x.name ≡ false) (rank : item.rank ≡ get_or t.counts x.partition 0) where
  pub added : entries_in (t.used + 1) (items lent.slots.now) ≡ held t ++ x ∷ []
  added =
      ap (entries_in (t.used + 1)) now ∙ entries_push t.used (items t.lent.slots.now) item (omega (arith, length_items t.lent.slots.now)) ∙ ap (λ (y : Entry). held t ++ y ∷ []) is

  pub added_perm : Perm (x ∷ held t) (entries_in (t.used + 1) (items lent.slots.now))
  added_perm = subst (Perm (x ∷ held t)) (sym added) (perm_push x (held t))

  pub low : x.partition < 512
  low = omega (arith, key_low x.partition x.name k)

  pub size : length lent.slots.now ≡ length t.lent.slots.now
  size = items_length t.lent.slots.now lent.slots.now t.used item now

  pub ranked : Ranked (set t.counts x.partition (get_or t.counts x.partition 0 + 1)) (take (t.used + 1) (items lent.slots.now))
  ranked =
      let e : take (t.used + 1) (items lent.slots.now) ≡ in_use t ++ item ∷ [] = ap (take (t.used + 1)) now ∙ take_more_set (items t.lent.slots.now) t.used item (omega (arith, length_items t.lent.slots.now)) in
      subst (λ (rs : List Item). Ranked (set t.counts x.partition (get_or t.counts x.partition 0 + 1)) rs) (sym e)
      (ranked_add t.counts (λ q r. count_by (in_rank q r) (in_use t)) (λ q r. count_by (in_rank q r) (in_use t ++ item ∷ [])) t.ranks t.wide x.partition low
      (λ q r. sum_by_push (λ y. cond (in_rank q r y) 1 0) (in_use t) item ∙ ap (λ (z : ℕ). count_by (in_rank q r) (in_use t) + z) (in_rank_is q r item x.partition (get_or t.counts x.partition 0) (ap (λ (y : Entry). y.partition) is) rank)))

  abbrev pub put_made : SlotTable
  put_made = record {
    lent = lent;
    beyond = t.beyond;
    used = t.used + 1;
    counts = set t.counts x.partition (get_or t.counts x.partition 0 + 1);
    within = omega (arith, size);
    lawful = ap (sound class) added ∙ sound_push class x (held t) k new t.lawful;
    free = λ j z y. lengths_other t.lent.slots.now lent.slots.now t.used item now j (λ e. absurd (omega arith)) ∙ t.free j (omega arith) (omega (arith, size));
    wide = length-set _ _ _ ∙ t.wide;
    ranks = ranked;
    counted = counts_add t.counts (held t) (entries_in (t.used + 1) (items lent.slots.now)) x t.counted t.wide low added_perm;
  }

-- how often a rank comes, as items change places
times_perm : (q r : ℕ) {xs ys : List Item} → Perm xs ys → count_by (in_rank q r) xs ≡ count_by (in_rank q r) ys
times_perm q r = perm_fold (count_by (in_rank q r)) (λ x n. cond (in_rank q r x) 1 0 + n) (λ x xs. sum_by-cons (λ y. cond (in_rank q r y) 1 0) x xs) (λ a b y. omega arith)

module _ (t : SlotTable) where
  -- an item in use, by the columns
  pub use_read : (f : Item → ℕ) (j : ℕ) (d : Slot) → j < t.used → f (get_or (in_use t) j d.item) ≡ get_or (map f (items t.lent.slots.now)) j 0
  use_read f j d h =
      sym (get_or-map f (items t.lent.slots.now) j d.item 0 (omega (arith, length_items t.lent.slots.now, t.within)) ∙ ap f (sym (get_or-take t.used (items t.lent.slots.now) j d.item h)))

  pub use_item : (j : ℕ) (d : Slot) → j < t.used → get_or (in_use t) j d.item ≡ (get_or t.lent.slots.now j d).item
  use_item j d h = get_or-take t.used (items t.lent.slots.now) j d.item h ∙ get_or-map (λ s. s.item) t.lent.slots.now j d d.item (omega (arith, t.within))

  -- slot j gets the rank r of slot i, which is of the same partition p; the rank of j was the last
  module _ (i j p r : ℕ) (d : Slot) (x : Item) (rs₁ : List Item) (hi : i < t.used) (hj : j < t.used)
      (pi : partitions t.lent.slots.now i ≡ p) (ri : ranks t.lent.slots.now i ≡ r) (pj : partitions t.lent.slots.now j ≡ p) (rj : ranks t.lent.slots.now j ≡ get_or t.counts p 0 - 1)
      (xp : x.partition ≡ p) (xr : x.rank ≡ r) (now₁ : rs₁ ≡ set (items t.lent.slots.now) j x) where
    use₁ : take t.used rs₁ ≡ set (in_use t) j x
    use₁ = ap (take t.used) now₁ ∙ take_set_in t.used (items t.lent.slots.now) j x

    -- slot i has the rank r then
    at₁ : (q k : ℕ) → ◌≡◌ {A = ℕ} (cond (in_rank q k (get_or (set (in_use t) j x) i d.item)) 1 0) (cond (in_rank q k x) 1 0)
    at₁ q k =
        ⊎_elim {C = ◌≡◌ {A = ℕ} (cond (in_rank q k (get_or (set (in_use t) j x) i d.item)) 1 0) (cond (in_rank q k x) 1 0)}
        (λ e. ap (λ (z : ℕ). cond (in_rank q k (get_or (set (in_use t) j x) z d.item)) 1 0) e ∙ ap (λ (y : Item). cond (in_rank q k y) 1 0) (get_or-set_same (in_use t) j x d.item (omega (arith, length_use t))))
        (λ e. ap (λ (y : Item). cond (in_rank q k y) 1 0) (get_or-set_other (in_use t) j i x d.item e) ∙ in_rank_is q k (get_or (in_use t) i d.item) p r (use_read (λ r. r.partition) i d hi ∙ pi) (use_read (λ r. r.rank) i d hi ∙ ri) ∙ sym (in_rank_is q k x p r xp xr))
        (cases_eq i j)

    changed : (q k : ℕ) → count_by (in_rank q k) (set (in_use t) j x) + cond (eqb q p && eqb k (get_or t.counts p 0 - 1)) 1 0 ≡ count_by (in_rank q k) (in_use t) + cond (in_rank q k x) 1 0
    changed q k =
        ap (λ (z : ℕ). count_by (in_rank q k) (set (in_use t) j x) + z) (sym (in_rank_is q k (get_or (in_use t) j d.item) p (get_or t.counts p 0 - 1) (use_read (λ r. r.partition) j d hj ∙ pj) (use_read (λ r. r.rank) j d hj ∙ rj)))
        ∙ sum_by-set (λ y. cond (in_rank q k y) 1 0) (in_use t) j x d.item (omega (arith, length_use t))

    -- the last item goes into slot i
    pub closed_ranked : (rs : List Item) → p < 512 → 1 ≤ get_or t.counts p 0 → take (t.used - 1) rs ≡ take (t.used - 1) (set rs₁ i (get_or rs₁ (t.used - 1) d.item)) → Ranked (set t.counts p (get_or t.counts p 0 - 1)) (take (t.used - 1) rs)
    closed_ranked rs low pos now =
        let l = t.used - 1 in
        let U = set (in_use t) j x in
        let v = get_or rs₁ l d.item in
        let n : length U ≡ suc l = length-set (in_use t) j x ∙ length_use t ∙ omega arith in
        let w : v ≡ get_or U l d.item = sym (get_or-take t.used rs₁ l d.item (omega arith)) ∙ ap (λ (y : List Item). get_or y l d.item) use₁ in
        let e : take l rs ≡ take l (set U i (get_or U l d.item)) = now ∙ sym (take-take l t.used (set rs₁ i v) (omega arith)) ∙ ap (take l) (take_set_in t.used rs₁ i v ∙ ap (λ (y : List Item). set y i v) use₁ ∙ ap (set U i) w) in
        subst (λ (y : List Item). Ranked (set t.counts p (get_or t.counts p 0 - 1)) y) (sym e)
        (ranked_drop t.counts (λ q k. count_by (in_rank q k) (in_use t)) (λ q k. count_by (in_rank q k) (take l (set U i (get_or U l d.item)))) t.ranks t.wide p low pos
        (λ q k. omega (arith, changed q k, at₁ q k, times_perm q k (perm_out d.item U i (omega arith)), sum_by-cons (λ y. cond (in_rank q k y) 1 0) (get_or U i d.item) (remove U i), times_perm q k (perm_fill d.item U i l (omega arith) n))))

    -- an item of partition q goes into slot i
    pub moved_ranked : (rs : List Item) (q : ℕ) (z : Item) → p < 512 → q < 512 → 1 ≤ get_or t.counts p 0 → (q ≡ p → ⊥) → z.partition ≡ q → z.rank ≡ get_or t.counts q 0 → rs ≡ set rs₁ i z → Ranked (set (set t.counts p (get_or t.counts p 0 - 1)) q (get_or (set t.counts p (get_or t.counts p 0 - 1)) q 0 + 1)) (take t.used rs)
    moved_ranked rs q z lp lq pos ne zp zr now =
        let U = set (in_use t) j x in
        let c = set t.counts p (get_or t.counts p 0 - 1) in
        let o = get_or-set_other t.counts p q (get_or t.counts p 0 - 1) 0 ne in
        let e : take t.used rs ≡ set U i z = ap (take t.used) now ∙ take_set_in t.used rs₁ i z ∙ ap (λ (y : List Item). set y i z) use₁ in
        let n : length U ≡ t.used = length-set (in_use t) j x ∙ length_use t in
        let T : ℕ → ℕ → ℕ = λ a k. count_by (in_rank a k) (in_use t) - cond (eqb a p && eqb k (get_or t.counts p 0 - 1)) 1 0 in
        let s : (a k : ℕ) → count_by (in_rank a k) (set U i z) + cond (in_rank a k x) 1 0 ≡ count_by (in_rank a k) U + cond (in_rank a k z) 1 0 =
        λ a k. ap (λ (y : ℕ). count_by (in_rank a k) (set U i z) + y) (sym (at₁ a k)) ∙ sum_by-set (λ y. cond (in_rank a k y) 1 0) U i z d.item (omega arith) in
        let m : (a k : ℕ) → cond (eqb a p && eqb k (get_or t.counts p 0 - 1)) 1 0 ≤ count_by (in_rank a k) (in_use t) =
        λ a k. omega (arith, in_rank_is a k (get_or (in_use t) j d.item) p (get_or t.counts p 0 - 1) (use_read (λ r. r.partition) j d hj ∙ pj) (use_read (λ r. r.rank) j d hj ∙ rj), get_or-le-sum_by (λ y. cond (in_rank a k y) 1 0) (in_use t) j d.item (omega (arith, length_use t))) in
        let dropped = ranked_drop t.counts (λ a k. count_by (in_rank a k) (in_use t)) T t.ranks t.wide p lp pos (λ a k. omega (arith, m a k)) in
        subst (λ (y : List Item). Ranked (set c q (get_or c q 0 + 1)) y) (sym e)
        (ranked_add c T (λ a k. count_by (in_rank a k) (set U i z)) dropped (length-set _ _ _ ∙ t.wide) q lq
        (λ a k. omega (arith, s a k, changed a k, m a k, in_rank_is a k z q (get_or c q 0) zp (zr ∙ sym o))))

inside_map : (p : ℕ) (ys : List Item) → inside (map entry_in ys) p ≡ map entry_in (filter (λ x. eqb p x.partition) ys)
inside_map p [] = refl
inside_map p (y ∷ ys) = by (eqb p y.partition) (inside_map p ys)
  where
    by : (b : Bool) → inside (map entry_in ys) p ≡ map entry_in (filter (λ x. eqb p x.partition) ys) → cond b (entry_in y ∷ inside (map entry_in ys) p) (inside (map entry_in ys) p) ≡ map entry_in (cond b (y ∷ filter (λ x. eqb p x.partition) ys) (filter (λ x. eqb p x.partition) ys))
    by true h = ap (λ (l : List Entry). entry_in y ∷ l) h
    by false h = h

index_of : (f : Item → Bool) (rs : List Item) (d : Item) → 1 ≤ length (filter f rs) → (j : ℕ) × (j < length rs) × (f (get_or rs j d) ≡ true)
index_of f [] d h = absurd (omega arith)
index_of f (x ∷ rs) d h = by (f x) refl h (index_of f rs d)
  where
    by : (b : Bool) → f x ≡ b → 1 ≤ length (cond b (x ∷ filter f rs) (filter f rs)) → (1 ≤ length (filter f rs) → (j : ℕ) × (j < length rs) × (f (get_or rs j d) ≡ true)) → (j : ℕ) × (j < suc (length rs)) × (f (get_or (x ∷ rs) j d) ≡ true)
    by true q h g = (0, omega arith, q)
    by false q h g = let r = g h in (suc r.0, omega (arith, r.1), r.2)

module _ (t : SlotTable) (p k : ℕ) (low : p < 512) where
  -- the entry of that rank
  pub nth_some : (j : ℕ) (d : Slot) → j < t.used → partitions t.lent.slots.now j ≡ p → ranks t.lent.slots.now j ≡ k → k < get_or t.counts p 0 → slice_get (inside (entries_by_rank t) p) k ≡ Some (entry_in (get_or t.lent.slots.now j d).item)
  nth_some j d h e f l =
      let y = get_or (in_use t) j d.item in
      let m : in_rank p k y ≡ true = and_from _ _ (eq-eqb p y.partition (sym (use_read t (λ r. r.partition) j d h ∙ e))) (eq-eqb k y.rank (sym (use_read t (λ r. r.rank) j d h ∙ f))) in
      ap (λ (es : List Entry). slice_get es k) (inside_map p (by_rank t.used (in_use t)))
      ∙ slice_get-map entry_in _ k ∙ ap (option_map entry_in) (nth_ranked t.counts (in_use t) t.ranks p low t.used k j d.item (omega (arith, counts_le t p low)) (omega (arith, length_use t)) m l)
      ∙ ap (λ (x : Item). Some (entry_in x)) (use_item t j d h)

  -- each rank below the count is there
  pub rank_there : k < get_or t.counts p 0 → (d : Slot) → LacksRank t p k → ⊥
  rank_there l d miss =
      let one = t.ranks p k low ∙ cond-true {A = ℕ} (ltb k (get_or t.counts p 0)) 1 0 (lt-ltb k (get_or t.counts p 0) l) in
      let r = index_of (in_rank p k) (in_use t) d.item (omega (arith, one, length-filter (in_rank p k) (in_use t))) in
      let u : r.0 < t.used = omega (arith, r.1, length_use t) in
      let g = and_parts (eqb p (get_or (in_use t) r.0 d.item).partition) (eqb k (get_or (in_use t) r.0 d.item).rank) r.2 in
      miss.none r.0 u (sym (use_read t (λ r. r.partition) r.0 d u) ∙ sym (eqb-true p _ g.0)) (sym (use_read t (λ r. r.rank) r.0 d u) ∙ sym (eqb-true k _ g.1))
