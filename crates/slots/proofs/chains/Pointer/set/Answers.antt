use Rattle.std.proofs.Common.{◌<◌, length, sym, ap, refl, ◌∙◌, arith}
use Rattle.slots.specs.Pointers.{chain_of, place_of, stands_in}
use Rattle.slots.proofs.ColumnFacts.{head_written, next_written}
use Rattle.slots.proofs.chains.Pointer.set.Goals as goal

pub returns-in-Head : goal.returns-in-Head
returns-in-Head c =
    let ss = c.args.slots.now in
    let h : c.in-Head.b < length ss = omega (arith, ap stands_in c.in-Head.is) in
    let w = head_written ss c.in-Head.b c.index-slots-b.result h _ c.index.result _ c.index.ensures.is c.index.ensures.below c.args.link refl refl in
    record { pointed = λ b e. w.1 b _ (sym (ap (chain_of b) c.in-Head.is) ∙ e) (ap (place_of (length ss)) c.in-Head.is); framed = w.0 }

pub returns-in-Next : goal.returns-in-Next
returns-in-Next c =
    let ss = c.args.slots.now in
    let h : c.in-Next.i < length ss = omega (arith, ap stands_in c.in-Next.is) in
    let w = next_written ss c.in-Next.i c.index-slots-i.result h _ c.index-in-Next.result _ c.index-in-Next.ensures.is c.index-in-Next.ensures.below c.args.link refl refl in
    record { pointed = λ b _. w.1 b _ (ap (place_of (length ss)) c.in-Next.is); framed = w.0 }
