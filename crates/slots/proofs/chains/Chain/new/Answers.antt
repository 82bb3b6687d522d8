use Rattle.std.proofs.Common.{refl, arith}
use Rattle.slots.proofs.ChainFacts.{members_top}
use Rattle.slots.proofs.ChainWalk.{walk_first}
use Rattle.slots.proofs.chains.Chain.new.Goals as goal

pub invariant_of-result : goal.invariant_of-result
invariant_of-result c =
    let t = walk_first _ c.args.slots.now c.requires.linked _ c.index.ensures.is c.index.ensures.below c.args.b c.index-slots-b.result c.requires.below in
    record { linked = c.requires.linked; within = t.0; coded = λ p. omega (arith, t.2 p, c.requires.below) }

pub returns : goal.returns
returns c =
    let t = walk_first _ c.args.slots.now c.requires.linked _ c.index.ensures.is c.index.ensures.below c.args.b c.index-slots-b.result c.requires.below in
    record { slots = refl; left = members_top _ _ _ _ t }
