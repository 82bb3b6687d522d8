-- What the slots hold.
use Rattle.std.specs.Prelude.{◌≡◌, ℕ, ◌<◌, ◌≤◌, List, map, length, take, slice_index}
use Rattle.store.specs.Entries.{Entry, inside}
use Rattle.slots.specs.declared.slot.Item.{Item}
use Rattle.slots.specs.declared.slot.Slot.{Slot}
use Rattle.slots.specs.Columns.{lengths}

-- the entry in an item
abbrev pub entry_in : Item → Entry
entry_in r = record { partition = r.partition; name = take r.len r.name; number = r.number }

-- the entries of the first u items
abbrev pub entries_in : ℕ → List Item → List Entry
entries_in u rs = map entry_in (take u rs)

-- from u on the slots are vacant
abbrev pub Free : ℕ → List Slot → Type 0
Free u ss = (j : ℕ) → u ≤ j → j < length ss → lengths ss j ≡ 0

-- the counts are how many entries each partition has
abbrev pub Counts : List ℕ → List Entry → Type 0
Counts counts es = (p : ℕ) → p < 512 → slice_index counts p ≡ length (inside es p)
