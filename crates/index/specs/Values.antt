-- What the values of the crate's types mean.
use Rattle.std.specs.Prelude.{ℕ, zero, suc, ◌+◌, ◌-◌, cond, List, [], ◌∷◌, ◌++◌, Some, None, decimal, Option}
use Rattle.index.specs.declared.map.Map.{Map}
use Rattle.index.specs.declared.partition_set.PartitionSet.{PartitionSet}
use Rattle.index.specs.declared.range.PlacementRange.{PlacementRange}
use Rattle.index.specs.Numbers.{Numbers, bits}
use Rattle.index.specs.Ranges.{depth, start, width}

abbrev pub members : PartitionSet → Numbers
members s = bits s.words

abbrev pub has : Map → Numbers
has m = members m.set

-- the depth of p in m; nothing where m has no p
abbrev pub depth_of : Numbers → ℕ → Option ℕ
depth_of m p = cond (m p) (Some (depth m p)) None

-- the range of p in m; nothing where m has no p
abbrev pub range_of : Numbers → ℕ → Option PlacementRange
range_of m p = cond (m p) (Some (record { first = start p; last = start p + (width m p - 1) })) None

-- the numbers of m from 1 to k in decimal, rising, each behind a space
unfoldable pub listed : Numbers → ℕ → List ℕ
listed m zero = []
listed m (suc k) = cond (m (suc k)) (listed m k ++ (32 ∷ decimal (suc k))) (listed m k)
