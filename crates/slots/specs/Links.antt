-- The families of chains, and where a link goes.
use Rattle.std.specs.Prelude.{ℕ, zero, suc, Some, None, Option}
use Rattle.slots.specs.declared.links.Family.{Family}
use Rattle.slots.specs.declared.links.Family.TheVariants.{Key, Rank}

-- the number of a family in the columns of the slots
abbrev pub family_number : Family → ℕ
family_number Key = 0
family_number Rank = 1

-- the slot that a link goes to: a link is one more than the slot's number, or 0
abbrev pub slot_of : ℕ → Option ℕ
slot_of zero = None
slot_of (suc i) = Some i
