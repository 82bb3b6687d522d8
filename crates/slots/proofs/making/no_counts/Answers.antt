use Rattle.std.proofs.Common.{ℕ, sym, refl, arith}
use Rattle.std.proofs.lemmas.List.{get_or-replicate}
use Rattle.std.proofs.lemmas.Bool.{cond-false, le-ltb}
use Rattle.slots.proofs.making.no_counts.Goals as goal

pub returns : goal.returns
returns c = record {
  wide = refl;
  ranked = λ p r h. sym (cond-false {A = ℕ} _ 1 0 (le-ltb r _ (omega (arith, get_or-replicate {A = ℕ} 512 p 0 0 h))));
  counted = λ p h. get_or-replicate 512 p 0 0 h;
}
