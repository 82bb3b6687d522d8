use Rattle.std.proofs.Common.{◌≡◌, ◌+◌, ◌-◌, ◌≤◌, ap, ap₂, ◌∙◌, arith, pow_pos}
use Rattle.std.proofs.lemmas.Nat.Bits.{ones_shr}
use Rattle.index.specs.Ranges.{start}
use Rattle.index.proofs.MapFacts.{range_fits}
use Rattle.index.proofs.range.PlacementRange.at.Goals as goal

pub overflow_add-last : goal.overflow_add-last
overflow_add-last c =
    let d = c.args.depth in
    let few : d ≤ 32 = omega arith in
    let s : c.reverse_bits-first.result ≡ start c.args.p = c.reverse_bits-first.ensures ∙ ap start c.from.ensures in
    record { fits = omega (arith, range_fits c.args.p d c.requires.0 few, ones_shr 32 d few, pow_pos (32 - d)) }

pub returns-clause-last : goal.returns-clause-last
returns-clause-last c = let few : c.args.depth ≤ 32 = omega arith in ap₂ ◌+◌ (c.reverse_bits-first.ensures ∙ ap start c.from.ensures) (ones_shr 32 c.args.depth few)
