use Rattle.std.proofs.Common.{length, sym, ap, ◌∙◌, rules, arith}
use Rattle.slots.proofs.ChainWalk.{above, walk_next, walk_coded, walk_gives}
use Rattle.slots.proofs.chains.ChainIterator.next.Goals as goal

pub invariant_of-self : goal.invariant_of-self
invariant_of-self c =
    let s = c.args.self.now in
    let at = above _ _ (sym c.slot.ensures ∙ c.in_ok-i.was) in
    let t = walk_next _ s.slots.now s.linked _ c.index.ensures.is c.index.ensures.below _ _ c.index-self-i.result at s.within s.coded in
    record { linked = s.linked; within = omega (arith, t.0, at, s.within); coded = walk_coded _ s.slots.now s.linked _ c.index.ensures.is c.index.ensures.below _ _ c.index-self-i.result at s.within s.coded }

pub returns-clause-steps : goal.returns-clause-steps
returns-clause-steps c =
    let s = c.args.self.now in
    walk_gives _ s.slots.now s.linked _ c.index.ensures.is c.index.ensures.below _ _ c.index-self-i.result (above _ _ (sym c.slot.ensures ∙ c.in_ok-i.was)) s.within s.coded

pub returns-clause-goes : goal.returns-clause-goes
returns-clause-goes c =
    let s = c.args.self.now in
    let e = ap length (walk_gives _ s.slots.now s.linked _ c.index.ensures.is c.index.ensures.below _ _ c.index-self-i.result (above _ _ (sym c.slot.ensures ∙ c.in_ok-i.was)) s.within s.coded) in
    search rules
