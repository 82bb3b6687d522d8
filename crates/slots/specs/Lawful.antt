-- A table keeps what a store promises of itself.
use Rattle.std.specs.Prelude.{◌≡◌, ℕ, suc, ◌<◌, ◌≤◌, true, cond, length, get_or, count_by, nat_eq, nat_le, nat_lt, slice_index, slice_index_or, refl}
use Rattle.std.proofs.Common.{sym, subst, ◌∙◌, arith, ⊎_elim}
use Rattle.std.proofs.lemmas.List.{length-map, length-take-le, get_or-map}
use Rattle.std.proofs.lemmas.List.Sums.{get_or-le-sum_by, length-filter, count_by-le-length}
use Rattle.std.proofs.lemmas.Bool.{cond-true, cond-false, eq-eqb, and_from, and_parts, leb-true, ltb-true, cases_Bool}
use Rattle.names.specs.Names.{class, is_short}
use Rattle.store.specs.Entries.{Entry, used, sound, has_key}
use Rattle.store.proofs.Shuffles.{Perm, perm_map, perm_fold}
use Rattle.store.proofs.KeyFacts.{key_self, holds_at}
use Rattle.store.proofs.SoundFacts.{holds_key, perm_sound}
use Rattle.store.proofs.AnswerFacts.{used_ones}
use Rattle.slots.specs.declared.slot.Item.{Item}
use Rattle.slots.specs.declared.table.SlotTable.{SlotTable}
use Rattle.slots.specs.Columns.{items}
use Rattle.slots.specs.Ranks.{in_rank}
use Rattle.slots.specs.Order.{ranked_perm}
use Rattle.slots.specs.Table.{entry_in}
use Rattle.slots.specs.Held.{held, room_of, in_use, entries_by_rank}

module _ (t : SlotTable) where
  pub length_use : length (in_use t) ≡ t.used
  length_use = length-take-le t.used (items t.lent.slots.now) (omega (arith, length-map t.lent.slots.now (λ s. s.item), t.within))

  pub length_held : length (held t) ≡ t.used
  length_held = length-map (in_use t) entry_in ∙ length_use

  pub used_held : used (λ _. 1) (held t) ≡ t.used
  used_held = used_ones (held t) ∙ length_held

  -- an entry's rank is below the count of its partition, and that is at most `used`
  pub part_low : (j : ℕ) (d : Item) → j < length (in_use t) → (get_or (in_use t) j d).partition < 512
  part_low j d h =
      let e = entry_in (slice_index_or (in_use t) j d) in
      let a = holds_at (held t) e.partition e.name j e (omega (arith, length_held, length_use)) (subst (λ (x : Entry). has_key e.partition e.name x ≡ true) (sym (get_or-map entry_in (in_use t) j d e h)) (key_self e)) in
      let k = and_parts (nat_le e.partition 511) (is_short class e.name) (holds_key class (held t) e.partition e.name t.lawful a) in
      omega (arith, leb-true e.partition 511 k.0)

  pub rank_below : (p r : ℕ) → p < 512 → 1 ≤ count_by (in_rank p r) (in_use t) → r < slice_index t.counts p
  rank_below p r l h =
      ⊎_elim {C = r < slice_index t.counts p} (λ q. ltb-true _ _ q) (λ q. absurd (omega (arith, t.ranks p r l, cond-false {A = ℕ} (nat_lt r (slice_index t.counts p)) 1 0 q))) (cases_Bool (nat_lt r (slice_index t.counts p)))

  pub counts_le : (p : ℕ) → p < 512 → slice_index t.counts p ≤ t.used
  counts_le p l = omega (arith, t.counted p l, length-filter (λ e. nat_eq p e.partition) (held t), count_by-le-length (λ e. nat_eq p e.partition) (held t), length_held)

  pub rank_counted : (j : ℕ) (d : Item) → j < length (in_use t) → (get_or (in_use t) j d).rank < slice_index t.counts (get_or (in_use t) j d).partition
  rank_counted j d h =
      let x = get_or (in_use t) j d in
      let f = in_rank x.partition x.rank in
      let s = get_or-le-sum_by (λ y. cond (f y) 1 0) (in_use t) j d h in
      let k = cond-true {A = ℕ} (f x) 1 0 (and_from _ _ (eq-eqb x.partition x.partition refl) (eq-eqb x.rank x.rank refl)) in
      rank_below x.partition x.rank (part_low j d h) (omega (arith, s, k))

  pub rank_low : (j : ℕ) (d : Item) → j < length (in_use t) → (get_or (in_use t) j d).rank < t.used
  rank_low j d h = omega (arith, rank_counted j d h, counts_le (get_or (in_use t) j d).partition (part_low j d h))

  pub by_rank_perm : Perm (held t) (entries_by_rank t)
  by_rank_perm = perm_map entry_in (ranked_perm t.used (in_use t) rank_low)

  pub lawful : sound class (entries_by_rank t) ≡ true
  lawful = perm_sound class by_rank_perm t.lawful

  pub weighty : (n : ℕ) → 1 ≤ (room_of t).weight n
  weighty n = omega arith

  pub length_by_rank : length (entries_by_rank t) ≡ t.used
  length_by_rank = sym (perm_fold length (λ _ n. suc n) (λ a l. refl) (λ a b y. refl) by_rank_perm) ∙ length_held

  pub within : used (room_of t).weight (entries_by_rank t) ≤ (room_of t).capacity
  within = omega (arith, used_ones (entries_by_rank t), length_by_rank, t.within)
