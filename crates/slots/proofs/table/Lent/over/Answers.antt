use Rattle.std.proofs.Common.{refl, rules, arith}
use Rattle.slots.proofs.StateFacts.{all_free, all_linked}
use Rattle.slots.proofs.table.Lent.over.Goals as goal

pub invariant_of-result : goal.invariant_of-result
invariant_of-result c = record {
  few = omega (arith, c.fill.ensures.len);
  linked = all_linked _ refl refl refl _ _ (c.fill.ensures.after (λ y h. search rules));
}

pub returns : goal.returns
returns c = record { free = all_free _ refl refl refl _ _ (c.fill.ensures.after (λ y h. search rules)); size = c.fill.ensures.len }
