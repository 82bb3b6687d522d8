use Rattle.std.proofs.Common.{arith}
use Rattle.index.proofs.Lowering.{lower_bits}
use Rattle.index.proofs.partition_set.PartitionSet.lower_bits.Goals as goal

pub returns : goal.returns
returns c = lower_bits c.args.self.now.words c.args.by (omega arith) c.requires
