use Rattle.std.proofs.Common.{arith}
use Rattle.index.proofs.WordSets.{bits_inserted}
use Rattle.index.proofs.partition_set.PartitionSet.insert.Goals as goal

pub returns : goal.returns
returns c k = rw c.from.ensures (bits_inserted c.args.self.now.words c.args.p (omega arith) k)
