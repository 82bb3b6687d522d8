use Rattle.std.proofs.Common.{◌≡◌, ℕ, ◌||◌}
use Rattle.index.specs.declared.map.Map.{Map}
use Rattle.index.specs.declared.partition_set.PartitionSet.{PartitionSet}
use Rattle.index.specs.Numbers.{union}
use Rattle.index.specs.Maps.{IsMap}
use Rattle.index.specs.Values.{has, members}
use Rattle.index.proofs.MapFacts.{map_of, map_same, union_map}
use Rattle.index.proofs.map.Map.union.Goals as goal

joined : (m n : Map) (s : PartitionSet) → ((q : ℕ) → members s q ≡ (has m q || has n q)) → IsMap (members s)
joined m n s e = map_same (union (has m) (has n)) (members s) e (union_map (has m) (has n) (map_of m.lawful) (map_of n.lawful))

pub invariant_of-result : goal.invariant_of-result
invariant_of-result c = record { lawful = ∣ joined c.args.self.now c.args.other.now _ c.union.ensures ∣₁ }

pub returns-clause-is_map : goal.returns-clause-is_map
returns-clause-is_map c = joined c.args.self.now c.args.other.now _ c.union.ensures
