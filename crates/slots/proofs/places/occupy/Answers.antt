use Rattle.std.proofs.Common.{ℕ, refl, sym, ap}
use Rattle.slots.specs.Columns.{code}
use Rattle.slots.proofs.LinkFacts.{framed_length, written_items, written_linked}
use Rattle.slots.proofs.places.occupy.Goals as goal

pub returns : goal.returns
returns c =
    let ss = c.args.slots.now in
    let s₁ = c.link.new.slots in
    let s₂ = c.link-2.new.slots in
    let f₀ = c.link.ensures.framed in
    let f₁ = c.link-2.ensures.framed in
    record {
      linked = written_linked ss s₁ s₂ c.args.i _ _ c.requires.place.0 f₀ f₁ c.link.ensures.chained c.link-2.ensures.chained c.index-slots-i.result _ refl refl (ap (λ (z : ℕ). code 1 z c.args.item) (sym (framed_length 0 ss s₁ f₀)));
      now = written_items ss s₁ s₂ c.args.i _ _ c.requires.place.0 f₀ f₁ c.link.ensures.chained c.link-2.ensures.chained c.index-slots-i.result _ refl;
    }
