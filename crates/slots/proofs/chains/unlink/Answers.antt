use Rattle.std.proofs.Common.{length, sym, ◌∙◌, arith}
use Rattle.slots.specs.Columns.{code}
use Rattle.slots.specs.Links.{family_number}
use Rattle.slots.proofs.LinkFacts.{items_read, unlink_chained}
use Rattle.slots.proofs.chains.unlink.Goals as goal

pub chain-b-requires : goal.chain-b-requires
chain-b-requires c = (omega arith, omega (arith, items_read (λ r. r.len) c.args.slots.now c.args.i c.index-slots-i.result c.requires.place, c.requires.filled))

pub returns : goal.returns
returns c =
    let ss = c.args.slots.now in
    let k = family_number c.args.family in
    let seek = c.seek-pointer.ensures in
    let coded = items_read (code k (length ss)) ss c.args.i c.index-slots-i.result c.requires.place ∙ sym c.chain-b.ensures.is in
    record {
      chained = unlink_chained k c.chain-b.result c.args.i _ _ ss c.set.new.slots c.requires.linked c.requires.place c.chain-b.ensures.below seek.point coded (c.link-after.ensures.next c.requires.place) (c.set.ensures.pointed c.chain-b.result seek.chain) c.set.ensures.framed;
      framed = c.set.ensures.framed;
    }
