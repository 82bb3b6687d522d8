use Rattle.std.proofs.Common.{arith}
use Rattle.index.proofs.Lowering.{lower_half}
use Rattle.index.proofs.partition_set.PartitionSet.lower_half.Goals as goal

pub returns : goal.returns
returns c = lower_half c.args.self.now.words (omega arith)
