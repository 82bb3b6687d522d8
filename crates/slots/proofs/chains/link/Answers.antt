use Rattle.std.proofs.Common.{ℕ, ◌≤◌, length, refl, subst, arith}
use Rattle.slots.specs.Chains.{Pointed, except}
use Rattle.slots.specs.Columns.{Chained, codes, heads, items, nexts}
use Rattle.slots.specs.Links.{family_number}
use Rattle.slots.specs.Pointers.{place_of}
use Rattle.slots.proofs.LinkFacts.{code_free, length_items, link_chained, framed_then, framed_length}
use Rattle.slots.proofs.chains.link.Goals as goal

pub returns : goal.returns
returns c =
    let ss = c.args.slots.now in
    let k = family_number c.args.family in
    let b = c.chain-b.result in
    let s₁ = c.set.new.slots in
    let s₂ = c.set-2.new.slots in
    let seek = c.seek-pointer.ensures in
    let free : length ss ≤ codes k (length ss) (items ss) c.args.i = omega (arith, code_free k (length ss) (items ss) c.args.i (omega (arith, length_items ss, c.requires.place.0)) c.requires.vacant) in
    let then = subst (λ (z : ℕ). Pointed (length s₁) b (place_of z c.seek-pointer.result) c.to.result.0 (heads k s₁) (nexts k s₁) (heads k s₂) (nexts k s₂)) (framed_length k ss s₁ c.set.ensures.framed) (c.set-2.ensures.pointed b seek.chain) in
    let chained = link_chained k b c.args.i _ _ ss s₂ c.requires.linked c.requires.place.0 c.chain-b.ensures.below seek.point _ s₁ (c.link-after.ensures.head b seek.chain) c.link-after.ensures.next free (c.set.ensures.pointed b refl) c.set.ensures.framed c.to.ensures then c.set-2.ensures.framed in
    record {
      chained = subst (λ (z : ℕ). Chained k (except c.args.i z (codes k (length ss) (items ss))) s₂) c.chain-b.ensures.is chained;
      framed = framed_then k ss s₁ s₂ c.set.ensures.framed c.set-2.ensures.framed;
    }
