-- Maps: the sets of partition numbers that splitting can lead to. Partition numbers run from 0 to 511,
-- and p + 2 ^ r with p < 2 ^ r is a child of p.
use Rattle.std.specs.Prelude.{ℕ, ◌+◌, ◌%◌, ◌^◌, ◌<◌, Bool, ◌&&◌, ◌||◌, T, ◌==◌, nat_le}
use Rattle.index.specs.Numbers.{Numbers, Within, some_below}

-- a map has 0 and, with each child, its parent and the parent's earlier children
pub record IsMap (m : Numbers) : Type 0 where
  pub root : T (m 0)
  pub bounded : (q : ℕ) → T (m q) → q < 512
  pub parent : (p r : ℕ) → p < 2 ^ r → T (m (p + 2 ^ r)) → T (m p)
  pub earlier : (p r s : ℕ) → p < 2 ^ s → s < r → T (m (p + 2 ^ r)) → T (m (p + 2 ^ s))

-- f is the least map that has all of s
pub record Fills (s f : Numbers) : Type 0 where
  pub is_map : IsMap f
  pub has : Within s f
  pub least : (m : Numbers) → IsMap m → Within s m → Within f m

-- a map that has r also has q, if q is not 0: the digits of q below its highest are those of r
unfoldable pub wants : ℕ → ℕ → Bool
wants r q = some_below (λ e. nat_le (2 ^ e) r && q == r % 2 ^ e + 2 ^ e) 9

-- a set of numbers below 512, filled up to a map
unfoldable pub filled : Numbers → Numbers
filled s q = q == 0 || some_below (λ r. s r && wants r q) 512
