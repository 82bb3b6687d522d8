-- The levels one after the other, and then 0.
use Rattle.std.proofs.Common.{◌≡◌, ℕ, ◌||◌, eqb, ap, ◌∙◌, arith}
use mathlib.Core.Path.{fun_ext}
use Rattle.index.specs.Numbers.{Numbers}
use Rattle.index.specs.Values.{members}
use Rattle.index.specs.Maps.{filled}
use Rattle.index.specs.Levels.{lowered}
use Rattle.index.proofs.Filling.{fills_as}
use Rattle.index.proofs.Folding.{folds, folds_folded, filled_folded, folded_one}
use Rattle.index.proofs.WordSets.{below_512}
use Rattle.index.proofs.partition_set.PartitionSet.filled.Goals as goal

pub returns : goal.returns
returns c =
    let s = members c.args.self in
    let b = below_512 c.args.self.words (omega arith) in
    let level6 = fun_ext c.lower_words.ensures in
    let level5 = fun_ext c.lower_half.ensures ∙ ap (lowered 32) level6 in
    let level4 = fun_ext c.lower_bits.ensures ∙ ap (lowered 16) level5 in
    let level3 = fun_ext c.lower_bits-2.ensures ∙ ap (lowered 8) level4 in
    let level2 = fun_ext c.lower_bits-3.ensures ∙ ap (lowered 4) level3 in
    let level1 = fun_ext c.lower_bits-4.ensures ∙ ap (lowered 2) level2 in
    let level0 = fun_ext c.lower_bits-5.ensures ∙ ap (lowered 1) level1 in
    let f : (q : ℕ) → members c.insert.new.self q ≡ (folds 8 s q || eqb q 0) = λ q. c.insert.ensures q ∙ ap (λ (m : Numbers). m q || eqb q 0) level0 in
    let e : (q : ℕ) → members c.insert.new.self q ≡ filled s q = folded_one s (members c.insert.new.self) (filled s) (folds_folded s (members c.insert.new.self) b f) (filled_folded s b) in
    record {
      value = e;
      least = fills_as s (members c.insert.new.self) b e;
    }
