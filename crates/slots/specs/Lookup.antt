-- What a look-up in a table tells.
use Rattle.std.specs.Prelude.{◌≡◌, ℕ, ◌-◌, ◌<◌, ◌≤◌, true, List, None, ◌≢◌, slice_index, slice_index_or}
use Rattle.store.specs.Entries.{Entry, found, holds, index}
use Rattle.slots.specs.declared.slot.Item.{Item}
use Rattle.slots.specs.declared.table.SlotTable.{SlotTable}
use Rattle.slots.specs.Columns.{partitions, ranks}
use Rattle.slots.specs.Held.{held, found_at, entries_by_rank}
use Rattle.slots.specs.Table.{entry_in}

-- slot i has the entry with the key
pub record HasKeyAt (t : SlotTable) (p : ℕ) (n : List ℕ) (i : ℕ) : Type 0 where
  pub used : i < t.used
  pub is : i ≡ index (held t) p n
  pub gives : found (entries_by_rank t) p n ≡ found_at t i
  pub there : holds (entries_by_rank t) p n ≡ true

-- no slot has it
pub record LacksKey (t : SlotTable) (p : ℕ) (n : List ℕ) : Type 0 where
  pub is : t.used ≡ index (held t) p n
  pub gives : found (entries_by_rank t) p n ≡ None

-- slot i has the entry with rank r in the partition
pub record HasRankAt (t : SlotTable) (p r i : ℕ) : Type 0 where
  pub used : i < t.used
  pub partition : partitions t.lent.slots.now i ≡ p
  pub rank : ranks t.lent.slots.now i ≡ r

-- no slot has it
pub record LacksRank (t : SlotTable) (p r : ℕ) : Type 0 where
  pub none : (j : ℕ) → j < t.used → partitions t.lent.slots.now j ≡ p → ranks t.lent.slots.now j ≢ r

-- slot j has the last entry of slot i's partition, and x is that entry's item with the rank of slot i
pub record TakesOver (t : SlotTable) (i j : ℕ) (x : Item) : Type 0 where
  pub used : j < t.used
  pub some : 1 ≤ slice_index t.counts (partitions t.lent.slots.now i)
  pub partition : partitions t.lent.slots.now j ≡ partitions t.lent.slots.now i
  pub last : ranks t.lent.slots.now j ≡ slice_index t.counts (partitions t.lent.slots.now i) - 1
  pub entry : (d : Entry) → entry_in x ≡ slice_index_or (held t) j d
  pub long : 0 < x.len
  pub same : x.partition ≡ partitions t.lent.slots.now i
  pub rank : x.rank ≡ ranks t.lent.slots.now i
