-- Where a link stands.
use Rattle.std.specs.Prelude.{ℕ}
use Rattle.slots.specs.declared.chains.Pointer.{Pointer}
use Rattle.slots.specs.declared.chains.Pointer.TheVariants.{Head, Next}

-- the place of a pointer among u slots: the head of a chain is at u, above all slots
abbrev pub place_of : ℕ → Pointer → ℕ
place_of u (Head b) = u
place_of u (Next m) = m

-- the chain of a pointer, which the next after a slot does not say: there it is b
abbrev pub chain_of : ℕ → Pointer → ℕ
chain_of b (Head q) = q
chain_of b (Next m) = b

-- the slot that a pointer stands in
abbrev pub stands_in : Pointer → ℕ
stands_in (Head b) = b
stands_in (Next m) = m
