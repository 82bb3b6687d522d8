use Rattle.std.proofs.Common.{◌*◌, ◌^◌, ◌<◌, get_or, refl, arith, rules}
use lib.Count.{ones-le}
use Rattle.index.specs.Numbers.{size}
use Rattle.index.specs.Values.{members}
use Rattle.index.proofs.WordSets.{size_more, size_most}
use Rattle.index.proofs.partition_set.PartitionSet.len.Goals as goal

pub loop-word-init : goal.loop-word-init
unfolding size
loop-word-init c = refl

pub overflow_add-n : goal.overflow_add-n
overflow_add-n c =
    let word : get_or c.args.self.now.words c.loop-word.word-index 0 < 2 ^ 64 = search rules in
    record { fits = omega (arith, ones-le 64 (get_or c.args.self.now.words c.loop-word.word-index 0) word, size_most (members c.args.self.now) (64 * c.loop-word.word-index)) }

pub loop-word-preserved : goal.loop-word-preserved
loop-word-preserved c =
    let word : get_or c.args.self.now.words c.loop-word.word-index 0 < 2 ^ 64 = search rules in
    omega (arith, size_more c.args.self.now.words c.loop-word.word-index word)
