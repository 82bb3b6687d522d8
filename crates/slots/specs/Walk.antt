-- What a walk of a chain has left.
use Rattle.std.specs.Prelude.{ℕ, ◌-◌, List, [], map, length, slice_index_or}
use Rattle.std.proofs.Common.{arith}
use Rattle.slots.specs.declared.chains.Chain.{Chain}
use Rattle.slots.specs.declared.slot.Item.{Item}
use Rattle.slots.specs.declared.slot.Slot.{Slot}
use Rattle.slots.specs.Chains.{members}
use Rattle.slots.specs.Columns.{codes, items}
use Rattle.slots.specs.Links.{family_number}

-- an item to read at, where none was read yet
abbrev pub blank_item : Item
blank_item = record { partition = 0; len = 0; name = []; number = 0; rank = 0; short = omega arith }

-- a slot's number with its item
abbrev pub numbered : List Slot → ℕ → ℕ × Item
numbered ss j = (j, slice_index_or (items ss) j blank_item)

-- the slots of chain b of family k that are below m, from the last one on
abbrev pub chain_below : ℕ → List Slot → ℕ → ℕ → List ℕ
chain_below k ss m b = members (codes k (length ss) (items ss)) m b

-- the slots that a walk has left, where the link that it is at goes to the first
abbrev pub slots_left : Chain → List ℕ
slots_left w =
    chain_below (family_number w.family) w.slots.now w.at.0 (codes (family_number w.family) (length w.slots.now) (items w.slots.now) (w.at.0 - 1))

-- those slots with their items
abbrev pub items_left : Chain → List (ℕ × Item)
items_left w = map (numbered w.slots.now) (slots_left w)
