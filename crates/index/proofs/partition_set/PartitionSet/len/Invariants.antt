use Rattle.std.proofs.Common.{◌≡◌, ◌*◌}
use Rattle.index.specs.Numbers.{size}
use Rattle.index.specs.Values.{members}
use Rattle.index.proofs.partition_set.PartitionSet.len.Given as goal

abbrev pub invariant-loop-word : goal.invariant-loop-word
invariant-loop-word l = l.n ≡ size (members l.self) (64 * l.word-index)
