-- The two placements of a name, which is a list of bytes.
use Rattle.std.specs.Prelude.{ℕ, ◌+◌, ◌*◌, ◌%◌, ◌^◌, ◌<◌, List, slice_index}
use Rattle.std.proofs.Common.{arith}
use Rattle.placement.specs.Rfc1321.{digest}

-- the number that the first four elements of a list make, the most significant first, with 0 for a missing one;
-- of bytes it is below 2^32, so that the remainder is the number itself
abbrev pub leading : List ℕ → ℕ
leading b = (slice_index b 0 * 16777216 + slice_index b 1 * 65536 + slice_index b 2 * 256 + slice_index b 3) % 2 ^ 32

pub leading_small : (b : List ℕ) → leading b < 2 ^ 32
leading_small b = omega arith

-- by the digest of the name
abbrev pub digest_placement : List ℕ → ℕ
digest_placement name = leading (digest name)

-- by the name itself
abbrev pub prefix_placement : List ℕ → ℕ
prefix_placement name = leading name
