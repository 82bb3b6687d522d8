use Rattle.std.proofs.Common.{refl}
use Rattle.slots.proofs.ChainWalk.{some_of}
use Rattle.slots.proofs.MadeFacts.{heir_low, heir_some, heir_there, heir_takes}
use Rattle.slots.proofs.table.SlotTable.heir.Goals as goal

pub bounds-self-gone : goal.bounds-self-gone
bounds-self-gone c = heir_low c.args.self.now c.args.i c.requires c.index-slots-i.result

pub overflow_sub-last : goal.overflow_sub-last
overflow_sub-last c = heir_some c.args.self.now c.args.i c.requires c.index-slots-i.result

pub unwrap-j-requires : goal.unwrap-j-requires
unwrap-j-requires c = some_of c.at_rank.result c.at_rank.ensures.miss (heir_there c.args.self.now c.args.i c.requires c.index-slots-i.result)

pub returns : goal.returns
returns c = heir_takes c.args.self.now c.args.i c.requires c.index-slots-i.result c.unwrap-j.result c.index-slots-j.result _ (rw c.unwrap-j.ensures at c.at_rank.ensures.hit) refl refl refl
