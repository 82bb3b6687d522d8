-- What a walk of a chain looks for: the entry with a key, or the entry with a rank.
use Rattle.std.proofs.Common.{◌≡◌, ℕ, ◌<◌, true, false, List, length, get_or, sym, ap, ◌∙◌, ⊎_elim, arith}
use Rattle.std.proofs.lemmas.Bool.{false_from_ne_true, cases_lt, and_parts, and_from, eqb-true, eq-eqb, both_ways}
use Rattle.std.proofs.lemmas.List.{get_or-map}
use Rattle.names.specs.Names.{class}
use Rattle.store.specs.Entries.{has_key, index}
use Rattle.store.proofs.KeyFacts.{index_none}
use Rattle.store.proofs.SoundFacts.{index_unique}
use Rattle.slots.specs.declared.slot.Item.{Item}
use Rattle.slots.specs.declared.table.SlotTable.{SlotTable}
use Rattle.slots.specs.Columns.{items, code, codes, key_code, rank_code, partitions, ranks}
use Rattle.slots.specs.Held.{held}
use Rattle.slots.specs.Lawful.{length_held}
use Rattle.slots.specs.Lookup.{HasKeyAt, LacksKey, HasRankAt, LacksRank}
use Rattle.slots.specs.Ranks.{in_rank}
use Rattle.slots.specs.Table.{entry_in}
use Rattle.slots.specs.Walk.{blank_item}
use Rattle.slots.proofs.LinkFacts.{items_read, code_rank, code_free, length_items}
use Rattle.slots.proofs.HeldFacts.{blank, no_slot, held_at, key_coded}
use Rattle.slots.proofs.StateFacts.{filled, found_here, holds_here, none_found}

module _ (t : SlotTable) where
  -- a vacant slot is in no chain
  used_in : (k i : ℕ) → i < length t.lent.slots.now → codes k (length t.lent.slots.now) (items t.lent.slots.now) i < length t.lent.slots.now → i < t.used
  used_in k i h l =
      ⊎_elim {C = i < t.used} (λ z. z)
      (λ z. absurd (omega (arith, code_free k (length t.lent.slots.now) (items t.lent.slots.now) i (omega (arith, length_items t.lent.slots.now)) (t.free i z h))))
      (cases_lt i t.used)

  item_at : (i : ℕ) → i < length t.lent.slots.now → get_or (items t.lent.slots.now) i blank_item ≡ (get_or t.lent.slots.now i no_slot).item
  item_at i h = get_or-map (λ s. s.item) t.lent.slots.now i no_slot blank_item h

module _ (t : SlotTable) (p : ℕ) (n : List ℕ) (b : ℕ) (is : b ≡ key_code (length t.lent.slots.now) p n) (below : b < length t.lent.slots.now) where
  -- the entry in slot i
  keyed_at : (i : ℕ) → i < t.used → get_or (held t) i blank ≡ entry_in (get_or (items t.lent.slots.now) i blank_item)
  keyed_at i h = held_at t i no_slot blank h ∙ ap entry_in (sym (item_at t i (omega (arith, t.within))))

  pub key_found : (i : ℕ) → i < length t.lent.slots.now → codes 0 (length t.lent.slots.now) (items t.lent.slots.now) i ≡ b → has_key p n (entry_in (get_or (items t.lent.slots.now) i blank_item)) ≡ true → HasKeyAt t p n i
  key_found i h c k =
      let u : i < t.used = used_in t 0 i h (omega arith) in
      let e : i ≡ index (held t) p n = sym (index_unique class (held t) p n i blank t.lawful (omega (arith, length_held t)) (ap (has_key p n) (keyed_at i u) ∙ k)) in
      record { used = u; is = e; gives = found_here t i p n e u; there = holds_here t i p n e u }

  pub key_lacks : ((j : ℕ) → j < length t.lent.slots.now → codes 0 (length t.lent.slots.now) (items t.lent.slots.now) j ≡ b → has_key p n (entry_in (get_or (items t.lent.slots.now) j blank_item)) ≡ false) → LacksKey t p n
  key_lacks f =
      let e : t.used ≡ index (held t) p n = sym (index_none (held t) p n blank (λ j h. false_from_ne_true _ (λ k. both_ways _ (f j (omega (arith, length_held t, t.within)) (key_coded t p n j no_slot (omega (arith, length_held t)) k ∙ sym is)) (ap (has_key p n) (sym (keyed_at j (omega (arith, length_held t)))) ∙ k))) ∙ length_held t) in
      record { is = e; gives = none_found t t.used p n e (omega arith) }

module _ (t : SlotTable) (p r b : ℕ) (is : b ≡ rank_code (length t.lent.slots.now) p r) (below : b < length t.lent.slots.now) where
  -- an item by its columns
  part_read : (i : ℕ) → i < length t.lent.slots.now → partitions t.lent.slots.now i ≡ (get_or (items t.lent.slots.now) i blank_item).partition
  part_read i h = items_read (λ y. y.partition) t.lent.slots.now i no_slot h ∙ ap (λ (x : Item). x.partition) (sym (item_at t i h))

  rank_read : (i : ℕ) → i < length t.lent.slots.now → ranks t.lent.slots.now i ≡ (get_or (items t.lent.slots.now) i blank_item).rank
  rank_read i h = items_read (λ y. y.rank) t.lent.slots.now i no_slot h ∙ ap (λ (x : Item). x.rank) (sym (item_at t i h))

  rank_coded : (j : ℕ) → j < t.used → partitions t.lent.slots.now j ≡ p → ranks t.lent.slots.now j ≡ r → codes 1 (length t.lent.slots.now) (items t.lent.slots.now) j ≡ b
  rank_coded j h e f =
      let ss = t.lent.slots.now in
      let x = (get_or ss j no_slot).item in
      let l : j < length ss = omega (arith, t.within) in
      let pos : 0 < x.len = omega (arith, filled t j no_slot h, items_read (λ y. y.len) ss j no_slot l) in
      items_read (code 1 (length ss)) ss j no_slot l ∙ code_rank (length ss) x pos
      ∙ ap (λ (z : ℕ). rank_code (length ss) z x.rank) (sym (items_read (λ y. y.partition) ss j no_slot l) ∙ e) ∙ ap (rank_code (length ss) p) (sym (items_read (λ y. y.rank) ss j no_slot l) ∙ f) ∙ sym is

  pub rank_found : (i : ℕ) → i < length t.lent.slots.now → codes 1 (length t.lent.slots.now) (items t.lent.slots.now) i ≡ b → in_rank p r (get_or (items t.lent.slots.now) i blank_item) ≡ true → HasRankAt t p r i
  rank_found i h c k =
      let g = and_parts _ _ k in
      record { used = used_in t 1 i h (omega arith); partition = part_read i h ∙ sym (eqb-true p _ g.0); rank = rank_read i h ∙ sym (eqb-true r _ g.1) }

  pub rank_lacks : ((j : ℕ) → j < length t.lent.slots.now → codes 1 (length t.lent.slots.now) (items t.lent.slots.now) j ≡ b → in_rank p r (get_or (items t.lent.slots.now) j blank_item) ≡ false) → LacksRank t p r
  rank_lacks f = record {
    none = λ j h e g.
        let l : j < length t.lent.slots.now = omega (arith, t.within) in
        both_ways _ (f j l (rank_coded j h e g)) (and_from _ _ (eq-eqb p _ (sym e ∙ part_read j l)) (eq-eqb r _ (sym g ∙ rank_read j l)));
  }
