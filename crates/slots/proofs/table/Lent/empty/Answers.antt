use Rattle.std.proofs.Common.{refl, rules, arith}
use Rattle.slots.proofs.StateFacts.{all_free, all_linked}
use Rattle.slots.proofs.table.Lent.empty.Goals as goal

pub invariant_of-self : goal.invariant_of-self
invariant_of-self c = record {
  few = omega (arith, c.fill.ensures.len);
  linked = all_linked _ refl refl refl _ _ (c.fill.ensures.after (λ y h. search rules));
}

pub returns : goal.returns
returns c = record { free = all_free _ refl refl refl _ _ (c.fill.ensures.after (λ y h. search rules)); size = c.fill.ensures.len }
