use Rattle.std.proofs.Common.{◌≡◌, get_or, sym, ap, ◌∙◌, inl, inr, arith, rules}
use lib.Bits.{bit_or, or_zero_r}
use Rattle.std.proofs.lemmas.List.{get_or_past}
use Rattle.std.proofs.lemmas.Bool.{cases_lt}
use Rattle.index.proofs.WordSets.{bits_union}
use Rattle.index.proofs.partition_set.PartitionSet.union.Goals as goal

pub returns : goal.returns
returns c =
    let xs = c.args.self.now.words in
    let ys = c.args.other.now.words in
    bits_union xs ys c.from_fn.result (λ i. elim (cases_lt i 8) [
      | inl lt ↦ (let h : get_or c.from_fn.result i 0 ≡ bit_or (get_or xs i 0) (get_or ys i 0) = search rules in h)
      | inr ge ↦
          get_or_past c.from_fn.result i 0 (omega (arith, c.from_fn.ensures.items.long)) ∙ sym (get_or_past xs i 0 (omega arith)) ∙ sym (or_zero_r (get_or xs i 0))
          ∙ ap (bit_or (get_or xs i 0)) (sym (get_or_past ys i 0 (omega arith)))
    ])
