use Rattle.std.proofs.Common.{arith}
use Rattle.index.proofs.Lowering.{three_words}
use Rattle.index.proofs.partition_set.PartitionSet.lower_words.Goals as goal

pub returns : goal.returns
returns c = three_words c.args.self.now.words (omega arith)
