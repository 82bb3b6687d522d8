use Rattle.std.proofs.Common.{refl}
use Rattle.slots.proofs.LinkFacts.{framed_length, written_items, vacated_linked}
use Rattle.slots.proofs.places.vacate.Goals as goal

pub returns : goal.returns
returns c =
    let ss = c.args.slots.now in
    let s₁ = c.unlink.new.slots in
    let s₂ = c.unlink-2.new.slots in
    let f₀ = c.unlink.ensures.framed in
    let f₁ = c.unlink-2.ensures.framed in
    record {
      linked = vacated_linked ss s₁ s₂ c.args.i _ _ c.requires.place f₀ f₁ c.unlink.ensures.chained c.unlink-2.ensures.chained c.index-slots-i.result _ refl refl (framed_length 0 ss s₁ f₀) refl;
      now = (_, refl, written_items ss s₁ s₂ c.args.i _ _ c.requires.place f₀ f₁ c.unlink.ensures.chained c.unlink-2.ensures.chained c.index-slots-i.result _ refl);
    }
