use Rattle.std.proofs.Common.{ap}
use Rattle.slots.specs.Held.{number_of}
use Rattle.slots.proofs.HeldFacts.{nth_held}
use Rattle.slots.proofs.table.SlotTable.number_at.Goals as goal

pub returns : goal.returns
returns c = ap number_of (nth_held c.args.self.now c.args.i c.index-self-i.result c.requires)
