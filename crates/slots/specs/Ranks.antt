-- The order of the entries of each partition: by rank, from 0 on without a gap.
use Rattle.std.specs.Prelude.{◌≡◌, ℕ, zero, suc, ◌<◌, Bool, cond, ◌&&◌, List, [], ◌++◌, count_by, filter, ◌==◌, nat_eq, nat_lt, slice_index}
use Rattle.slots.specs.declared.slot.Item.{Item}

-- whether an item has rank r in partition p
abbrev pub in_rank : ℕ → ℕ → Item → Bool
in_rank p r x = p == x.partition && r == x.rank

-- in each partition every rank below its count is there once, and no other
abbrev pub Ranked : List ℕ → List Item → Type 0
Ranked counts rs = (p r : ℕ) → p < 512 → count_by (in_rank p r) rs ≡ cond (nat_lt r (slice_index counts p)) 1 0

-- the items in the order of their ranks below m
abbrev pub by_rank : ℕ → List Item → List Item
by_rank zero rs = []
by_rank (suc m) rs = by_rank m rs ++ filter (λ x. nat_eq m x.rank) rs
