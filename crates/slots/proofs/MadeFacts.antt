-- The table after a take and after a move.
use Rattle.std.proofs.Common.{◌≡◌, ℕ, ◌+◌, ◌-◌, ◌<◌, ◌≤◌, false, List, length, get_or, take, set, sym, refl, ap, ◌∙◌, subst, ⊎_elim, arith, length-set}
use Rattle.std.specs.List.{remove}
use Rattle.std.proofs.lemmas.Bool.{cases_eq, both_ways}
use Rattle.std.proofs.lemmas.List.{set-get_or}
use Rattle.store.specs.Entries.{Entry, index, found, holds, entry_of}
use Rattle.store.specs.Calls.{number_in}
use Rattle.store.proofs.Shuffles.{Perm}
use Rattle.store.proofs.KeyFacts.{key_true}
use Rattle.slots.specs.declared.slot.Item.{Item}
use Rattle.slots.specs.declared.slot.Slot.{Slot}
use Rattle.slots.specs.declared.table.Lent.{Lent}
use Rattle.slots.specs.declared.table.SlotTable.{SlotTable}
use Rattle.slots.specs.Columns.{items, partitions, ranks, lengths}
use Rattle.slots.specs.Table.{entry_in, entries_in, Counts}
use Rattle.slots.specs.Held.{held}
use Rattle.slots.specs.Lawful.{length_use, rank_counted}
use Rattle.slots.specs.Lookup.{HasKeyAt, HasRankAt, LacksRank, TakesOver}
use Rattle.slots.proofs.LinkFacts.{items_read, items_length, lengths_other, lengths_here}
use Rattle.slots.proofs.HeldFacts.{blank, held_at}
use Rattle.slots.proofs.CountFacts.{count_perm, counts_add, counts_some}
use Rattle.slots.proofs.StateFacts.{filled, entries_set, present, low_part, key_here, out, out_part, out_counts, closed_sound, closed_perm, moved_sound, moved_perm}
use Rattle.slots.proofs.RankState.{closed_ranked, moved_ranked, rank_there, use_item}

pub counts_perm : (counts : List ℕ) {xs ys : List Entry} → Counts counts xs → Perm xs ys → Counts counts ys
counts_perm counts c h p l = c p l ∙ count_perm p h

pub after : (f g : ℕ → ℕ) (l j : ℕ) → l ≤ j → f l ≡ 0 → ((k : ℕ) → l < k → f k ≡ g k) → (l < j → g j ≡ 0) → f j ≡ 0
after f g l j h a b k = ⊎_elim {C = f j ≡ 0} (λ e. ap f e ∙ a) (λ e. b j (omega arith) ∙ k (omega arith)) (cases_eq j l)

module _ (t : SlotTable) (i p : ℕ) (n : List ℕ) (k : HasKeyAt t p n i) (d : Slot) where
  pub e : i ≡ index (held t) p n
  e = k.is

  pub h : i < t.used
  h = k.used

  pub some_count : 1 ≤ get_or t.counts p 0
  some_count =
      let o = out_part t i p n e h d in
      omega (arith, counts_some t.counts (held t) (remove (held t) i) (get_or (held t) i blank) t.counted t.wide (omega (arith, o, low_part t i p n e h)) (out t i p n e h d), ap (λ (z : ℕ). get_or t.counts z 0) o)

  pub part_here : partitions t.lent.slots.now i ≡ p
  part_here = items_read (λ r. r.partition) t.lent.slots.now i d (omega (arith, t.within)) ∙ sym (key_true p n (entry_in (get_or t.lent.slots.now i d).item) (key_here t i p n e h d)).0

  -- x takes over: slot j, the last of the partition, has the rank of slot i then
  module _ (j : ℕ) (x : Item) (v : TakesOver t i j x) (lent₁ : Lent) (now₁ : items lent₁.slots.now ≡ set (items t.lent.slots.now) j x) where
    pub pj : partitions t.lent.slots.now j ≡ p
    pj = v.partition ∙ part_here

    pub rj : ranks t.lent.slots.now j ≡ get_or t.counts p 0 - 1
    rj = v.last ∙ ap (λ (q : ℕ). get_or t.counts q 0 - 1) part_here

    pub same : entries_in t.used (items lent₁.slots.now) ≡ held t
    same = ap (entries_in t.used) now₁ ∙ entries_set t.used (items t.lent.slots.now) j x ∙ ap (set (held t) j) (v.entry blank) ∙ set-get_or (held t) j blank

    pub size₁ : length lent₁.slots.now ≡ length t.lent.slots.now
    size₁ = items_length t.lent.slots.now lent₁.slots.now j x now₁

    pub free₁ : (k : ℕ) → t.used ≤ k → k < length t.lent.slots.now → lengths lent₁.slots.now k ≡ 0
    free₁ k l m = lengths_other t.lent.slots.now lent₁.slots.now j x now₁ k (λ z. absurd (omega arith)) ∙ t.free k l m

    pub filled₁ : (k : ℕ) → k < t.used → 0 < lengths lent₁.slots.now k
    filled₁ k m =
        ⊎_elim {C = 0 < lengths lent₁.slots.now k}
        (λ z. omega (arith, ap (lengths lent₁.slots.now) z, lengths_here t.lent.slots.now lent₁.slots.now j x (omega (arith, v.used, t.within)) now₁, v.long))
        (λ z. omega (arith, lengths_other t.lent.slots.now lent₁.slots.now j x now₁ k z, filled t k d m))
        (cases_eq k j)

    module _ (lent : Lent) where
      module _ (size : length lent.slots.now ≡ length lent₁.slots.now) (vacant : lengths lent.slots.now (t.used - 1) ≡ 0) (others : (k : ℕ) → t.used - 1 < k → lengths lent.slots.now k ≡ lengths lent₁.slots.now k)
          (now : take (t.used - 1) (items lent.slots.now) ≡ take (t.used - 1) (set (items lent₁.slots.now) i (get_or (items lent₁.slots.now) (t.used - 1) d.item))) where
        abbrev pub take_made : SlotTable
        take_made = record {
          lent = lent;
          beyond = t.beyond;
          used = t.used - 1;
          counts = set t.counts p (get_or t.counts p 0 - 1);
          within = omega (arith, size, size₁, t.within);
          lawful = closed_sound t i p n e h d (items lent₁.slots.now) same (items lent.slots.now) now;
          free = λ k l m. after (lengths lent.slots.now) (lengths lent₁.slots.now) (t.used - 1) k l vacant others (λ z. free₁ k (omega arith) (omega (arith, size, size₁)));
          wide = length-set _ _ _ ∙ t.wide;
          ranks = closed_ranked t i j p (ranks t.lent.slots.now i) d x (items lent₁.slots.now) h v.used part_here refl pj rj (v.same ∙ part_here) v.rank now₁ (items lent.slots.now) (low_part t i p n e h) some_count now;
          counted = counts_perm _ (out_counts t i p n e h d) (closed_perm t i p n e h d (items lent₁.slots.now) same (items lent.slots.now) now);
        }

      module _ (q : ℕ) (z : Item) (is : entry_in z ≡ entry_of q (entry_in (get_or t.lent.slots.now i d).item).name (get_or t.lent.slots.now i d).item.number) (zp : z.partition ≡ q) (zr : z.rank ≡ get_or t.counts q 0)
          (lq : q ≤ 511) (new : holds (held t) q n ≡ false) (now : items lent.slots.now ≡ set (items lent₁.slots.now) i z) where
        pub apart_parts : q ≡ p → ⊥
        apart_parts w = both_ways (holds (held t) q n) new (ap (λ (y : ℕ). holds (held t) y n) w ∙ present t i p n e h)

        pub size₂ : length lent.slots.now ≡ length t.lent.slots.now
        size₂ = items_length lent₁.slots.now lent.slots.now i z now ∙ size₁

        abbrev pub move_made : SlotTable
        move_made = record {
          lent = lent;
          beyond = t.beyond;
          used = t.used;
          counts = set (set t.counts p (get_or t.counts p 0 - 1)) q (get_or (set t.counts p (get_or t.counts p 0 - 1)) q 0 + 1);
          within = omega (arith, size₂, t.within);
          lawful = moved_sound t i p n e h d (items lent₁.slots.now) same q z is (items lent.slots.now) now lq new;
          free = λ y l m. lengths_other lent₁.slots.now lent.slots.now i z now y (λ w. absurd (omega arith)) ∙ free₁ y l (omega (arith, size₂));
          wide = length-set _ _ _ ∙ length-set _ _ _ ∙ t.wide;
          ranks = moved_ranked t i j p (ranks t.lent.slots.now i) d x (items lent₁.slots.now) h v.used part_here refl pj rj (v.same ∙ part_here) v.rank now₁ (items lent.slots.now) q z (low_part t i p n e h) (omega arith) some_count apart_parts zp zr now;
          counted = counts_add _ (remove (held t) i) _ (entry_of q n (number_in (found (held t) p n))) (out_counts t i p n e h d) (length-set _ _ _ ∙ t.wide) (omega arith) (moved_perm t i p n e h d (items lent₁.slots.now) same q z is (items lent.slots.now) now);
        }

-- what takes over from slot i
module _ (t : SlotTable) (i : ℕ) (h : i < t.used) (d : Slot) where
  pub heir_low : (get_or t.lent.slots.now i d).item.partition < 512
  heir_low = subst (λ (x : Item). x.partition < 512) (use_item t i d h) (Rattle.slots.specs.Lawful.part_low t i d.item (omega (arith, length_use t)))

  pub heir_some : 1 ≤ get_or t.counts (get_or t.lent.slots.now i d).item.partition 0
  heir_some =
      let l : (get_or t.lent.slots.now i d).item.rank < get_or t.counts (get_or t.lent.slots.now i d).item.partition 0 = subst (λ (x : Item). x.rank < get_or t.counts x.partition 0) (use_item t i d h) (rank_counted t i d.item (omega (arith, length_use t))) in
      omega arith

  pub heir_there : LacksRank t (get_or t.lent.slots.now i d).item.partition (get_or t.counts (get_or t.lent.slots.now i d).item.partition 0 - 1) → ⊥
  heir_there = rank_there t _ _ heir_low (omega (arith, heir_some)) d

  pub heir_takes : (j : ℕ) (g : Slot) (x : Item) → HasRankAt t (get_or t.lent.slots.now i d).item.partition (get_or t.counts (get_or t.lent.slots.now i d).item.partition 0 - 1) j
      → entry_in x ≡ entry_in (get_or t.lent.slots.now j g).item → x.len ≡ (get_or t.lent.slots.now j g).item.len → x.rank ≡ (get_or t.lent.slots.now i d).item.rank → TakesOver t i j x
  heir_takes j g x r e l k =
      let p : partitions t.lent.slots.now i ≡ (get_or t.lent.slots.now i d).item.partition = items_read (λ r. r.partition) t.lent.slots.now i d (omega (arith, t.within)) in
      record {
        used = r.used;
        some = omega (arith, heir_some, ap (λ (q : ℕ). get_or t.counts q 0) p);
        partition = r.partition ∙ sym p;
        last = r.rank ∙ ap (λ (q : ℕ). get_or t.counts q 0 - 1) (sym p);
        entry = λ b. e ∙ sym (held_at t j g b r.used);
        long = omega (arith, l, filled t j g r.used, items_read (λ r. r.len) t.lent.slots.now j g (omega (arith, r.used, t.within)));
        same = ap (λ (x : Entry). x.partition) e ∙ sym (items_read (λ r. r.partition) t.lent.slots.now j g (omega (arith, r.used, t.within))) ∙ r.partition ∙ sym p;
        rank = k ∙ sym (items_read (λ r. r.rank) t.lent.slots.now i d (omega (arith, t.within)));
      }
