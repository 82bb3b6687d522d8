-- What a table stands for.
use Rattle.std.specs.Prelude.{◌≡◌, ℕ, List, map, length, take, Some, None, Option}
use Rattle.std.specs.List.{slice_get}
use Rattle.store.specs.Entries.{Entry, Room}
use Rattle.slots.specs.declared.table.SlotTable.{SlotTable}
use Rattle.slots.specs.Columns.{items}
use Rattle.slots.specs.Table.{entries_in, entry_in}
use Rattle.slots.specs.Ranks.{by_rank}
use Rattle.slots.specs.declared.slot.Item.{Item}
use Rattle.slots.specs.declared.slot.Slot.{Slot}

-- the record number of an entry that may be there
abbrev pub number_of : Option Entry → Option ℕ
number_of None = None
number_of (Some e) = Some e.number

-- the entries in the order of their slots
abbrev pub held : SlotTable → List Entry
held t = entries_in t.used (items t.lent.slots.now)

-- a capacity of n, where each entry weighs 1
abbrev pub room_for : ℕ → Room
room_for n = record { capacity = n; weight = λ _. 1 }

-- a table has room for as many entries as it has slots
abbrev pub room_of : SlotTable → Room
room_of t = room_for (length t.lent.slots.now)

-- the items in use
abbrev pub in_use : SlotTable → List Item
in_use t = take t.used (items t.lent.slots.now)

-- the entries in the order of their ranks, which is the order of the store
abbrev pub entries_by_rank : SlotTable → List Entry
entries_by_rank t = map entry_in (by_rank t.used (in_use t))

-- the record number of the entry in slot i
abbrev pub found_at : SlotTable → ℕ → Option ℕ
found_at t i = number_of (slice_get (held t) i)

-- the caller's slots that the table does not lie in
abbrev pub beyond : SlotTable → List Slot
beyond t = t.beyond.now

-- a call changes the table's own slots alone: the capacity and the weights stay, and so do the slots beyond
pub record ChangesWithin (t t' : SlotTable) : Type 0 where
  pub keeps : room_of t' ≡ room_of t
  pub spares : beyond t' ≡ beyond t
