use Rattle.std.proofs.Common.{List, set, ap, ◌∙◌, arith}
use Rattle.std.proofs.lemmas.List.{set-set}
use Rattle.slots.specs.declared.slot.Item.{Item}
use Rattle.slots.specs.Columns.{items}
use Rattle.slots.proofs.LinkFacts.{lengths_here, items_length}
use Rattle.slots.proofs.table.Lent.rewrite.Goals as goal

pub occupy-requires : goal.occupy-requires
occupy-requires c =
    let ss = c.args.self.now.slots.now in
    let v = c.vacate.ensures.now in
    let l = items_length ss c.vacate.new.slots c.args.i v.0 v.2 in
    record { place = (omega (arith, l), (omega (arith, l, c.args.self.now.few), omega arith)); linked = c.vacate.ensures.linked; vacant = lengths_here ss c.vacate.new.slots c.args.i v.0 (omega arith) v.2 ∙ v.1 }

pub returns : goal.returns
returns c =
    let v = c.vacate.ensures.now in
    record { now = c.occupy.ensures.now ∙ ap (λ (rs : List Item). set rs c.args.i c.args.item) v.2 ∙ set-set (items c.args.self.now.slots.now) c.args.i v.0 c.args.item }
