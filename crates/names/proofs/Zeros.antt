-- Short forms in memory, with zeros behind them.
use Rattle.std.proofs.Common.{◌≡◌, ℕ, suc, ◌+◌, ◌-◌, ◌<◌, List, [], ◌∷◌, ◌++◌, length, set, replicate, ap, ◌∙◌, append_assoc, length-append, arith}
use Rattle.std.proofs.Math.Seq.{set-append_seam}
use Rattle.names.specs.Shortening.{padded}

-- a byte that is written behind a name stands at its end
pub padded_more : (name : List ℕ) (byte : ℕ) → length name < 32 → set (padded name) (length name) byte ≡ padded (name ++ byte ∷ [])
padded_more name byte room =
    let left : 32 - length name ≡ suc (32 - (length name + 1)) = omega arith in
    ap (λ (n : ℕ). set (name ++ replicate n 0) (length name) byte) left
    ∙ set-append_seam name 0 (replicate (32 - (length name + 1)) 0) byte
    ∙ simp (append_assoc, length-append)
