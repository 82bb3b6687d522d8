use Rattle.std.proofs.Common.{List, get_or, take, set, sym, ap, ◌∙◌, arith}
use Rattle.std.proofs.lemmas.List.{take-set-le, set_comm, get_or-map}
use Rattle.slots.specs.declared.slot.Item.{Item}
use Rattle.slots.specs.Columns.{items}
use Rattle.slots.proofs.LinkFacts.{lengths_here, lengths_other, items_length, items_read}
use Rattle.slots.proofs.table.Lent.remove.Goals as goal

pub returns-then-i-last : goal.returns-then-i-last
returns-then-i-last c =
    let ss = c.args.self.now.slots.now in
    let s₁ = c.vacate.new.slots in
    let i = c.args.i in
    let last = c.args.last in
    let v = c.vacate.ensures.now in
    record {
      vacant = lengths_here ss s₁ last v.0 (omega arith) v.2 ∙ v.1;
      others = λ j h. lengths_other ss s₁ last v.0 v.2 j (λ e. absurd (omega arith));
      now = λ d. ap (take last) v.2 ∙ take-set-le last (items ss) last v.0 (omega arith) ∙ sym (take-set-le last (items ss) i (get_or (items ss) last d) (omega arith));
      size = items_length ss s₁ last v.0 v.2;
    }

pub rewrite-requires : goal.rewrite-requires
rewrite-requires c =
    let ss = c.args.self.now.slots.now in
    let s₁ = c.vacate.new.slots in
    let v = c.vacate.ensures.now in
    record { place = (omega (arith, items_length ss s₁ c.args.last v.0 v.2), omega (arith, items_read (λ r. r.len) ss c.args.last c.index-self-last.result (omega arith))); filled = omega (arith, lengths_other ss s₁ c.args.last v.0 v.2 c.args.i c.if-i-last.false) }

pub returns : goal.returns
returns c =
    let ss = c.args.self.now.slots.now in
    let s₁ = c.vacate.new.slots in
    let s₂ = c.rewrite.new.self.slots.now in
    let i = c.args.i in
    let last = c.args.last in
    let v = c.vacate.ensures.now in
    let item = (get_or ss last c.index-self-last.result).item in
    let w = c.rewrite.ensures.now in
    record {
      vacant = lengths_other s₁ s₂ i item w last (λ e. c.if-i-last.false (sym e)) ∙ lengths_here ss s₁ last v.0 (omega arith) v.2 ∙ v.1;
      others = λ j h. lengths_other s₁ s₂ i item w j (λ e. absurd (omega arith)) ∙ lengths_other ss s₁ last v.0 v.2 j (λ e. absurd (omega arith));
      now = λ d. ap (take last) (w ∙ ap (λ (rs : List Item). set rs i item) v.2 ∙ set_comm (items ss) last i v.0 item (λ e. c.if-i-last.false (sym e)))
          ∙ take-set-le last (set (items ss) i item) last v.0 (omega arith)
          ∙ ap (λ (r : Item). take last (set (items ss) i r)) (sym (get_or-map (λ s. s.item) ss last c.index-self-last.result d (omega arith)));
      size = items_length s₁ s₂ i item w ∙ items_length ss s₁ last v.0 v.2;
    }
