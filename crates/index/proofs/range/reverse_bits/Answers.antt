use Rattle.std.proofs.Common.{ℕ, ap, ◌∙◌}
use Rattle.index.specs.Ranges.{start}
use Rattle.index.proofs.Reverse.{swapped, turned}
use Rattle.index.proofs.range.reverse_bits.Goals as goal

pub returns : goal.returns
unfolding start
returns c =
    c.swap.ensures
    ∙ ap (λ (x : ℕ). swapped x 16 0x0000_ffff)
    (c.swap-bytes.ensures
    ∙ ap (λ (x : ℕ). swapped x 8 0x00ff_00ff)
    (c.swap-nibbles.ensures
    ∙ ap (λ (x : ℕ). swapped x 4 0x0f0f_0f0f)
    (c.swap-pairs.ensures ∙ ap (λ (x : ℕ). swapped x 2 0x3333_3333) c.swap-singles.ensures)))
    ∙ turned c.args.x
