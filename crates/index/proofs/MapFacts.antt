-- Maps as the types hold them: the invariant in hand, and what keeps it.
use Rattle.std.proofs.Common.{◌≡◌, ℕ, ◌+◌, ◌-◌, ◌*◌, ◌^◌, ◌<◌, ◌≤◌, sym, ap, ◌∙◌, inl, inr, mul-le-mul_left, arith, pow-add}
use mathlib.Core.HLevel.{Π_prop}
use mathlib.Core.Logic.{∥∥₁_elim}
use native.Mathlib.Bridge.{le_prop}
use lib.Dec.{T_prop}
use Rattle.index.specs.Numbers.{Numbers, Within, union}
use Rattle.index.specs.Maps.{IsMap}
use Rattle.index.proofs.Truth.{T_or, T_left, T_right}
use Rattle.index.specs.Ranges.{reversed, start}
use Rattle.index.proofs.Bits.{reversed_lt}
use Rattle.index.proofs.Digits.{start_short}

map_prop : (m : Numbers) → IsProp (IsMap m)
map_prop m a b = λ i. record {
  root = T_prop _ a.root b.root i;
  bounded = Π_prop (λ q. Π_prop (λ _. le_prop)) a.bounded b.bounded i;
  parent = Π_prop (λ p. Π_prop (λ r. Π_prop (λ _. Π_prop (λ _. T_prop _)))) a.parent b.parent i;
  earlier = Π_prop (λ p. Π_prop (λ r. Π_prop (λ s. Π_prop (λ _. Π_prop (λ _. Π_prop (λ _. T_prop _)))))) a.earlier b.earlier i;
}

-- out of a map's invariant
pub map_of : {m : Numbers} → ∥ IsMap m ∥₁ → IsMap m
map_of {m} t = ∥∥₁_elim t (map_prop m) (λ a. a)

-- a map is a set: the same numbers make the same map
pub map_same : (m n : Numbers) → ((q : ℕ) → n q ≡ m q) → IsMap m → IsMap n
map_same m n e M = record {
  root = rw (e 0) M.root;
  bounded = λ q t. M.bounded q (rw (e q) at t);
  parent = λ p r l t. rw (e p) (M.parent p r l (rw (e (p + 2 ^ r)) at t));
  earlier = λ p r s l k t. rw (e (p + 2 ^ s)) (M.earlier p r s l k (rw (e (p + 2 ^ r)) at t));
}

-- ---- unions

within_left : (m n : Numbers) → Within m (union m n)
within_left m n q t = T_left (m q) (n q) t

within_right : (m n : Numbers) → Within n (union m n)
within_right m n q t = T_right (m q) (n q) t

pub union_map : (m n : Numbers) → IsMap m → IsMap n → IsMap (union m n)
union_map m n M N = record {
  root = within_left m n 0 M.root;
  bounded = λ q t. elim (T_or (m q) (n q) t) [ inl h ↦ M.bounded q h | inr h ↦ N.bounded q h ];
  parent = λ p r l t. elim (T_or (m (p + 2 ^ r)) (n (p + 2 ^ r)) t) [
    | inl h ↦ within_left m n p (M.parent p r l h)
    | inr h ↦ within_right m n p (N.parent p r l h)
  ];
  earlier = λ p r s l k t. elim (T_or (m (p + 2 ^ r)) (n (p + 2 ^ r)) t) [
    | inl h ↦ within_left m n (p + 2 ^ s) (M.earlier p r s l k h)
    | inr h ↦ within_right m n (p + 2 ^ s) (N.earlier p r s l k h)
  ];
}

-- ---- ranges

-- a range ends below 2 ^ 32
pub range_fits : (p d : ℕ) → p < 2 ^ d → d ≤ 32 → start p + 2 ^ (32 - d) ≤ 4294967296
range_fits p d l h = ends (start p) (reversed d p) (2 ^ d) (2 ^ (32 - d)) (start_short p d l h) (reversed_lt d p) whole
  where
    whole : 2 ^ d * 2 ^ (32 - d) ≡ 4294967296
    whole = let e : d + (32 - d) ≡ 32 = omega arith in sym (pow-add 2 d (32 - d)) ∙ ap (λ (n : ℕ). 2 ^ n) e

    ends : (s r a b : ℕ) → s ≡ r * b → r < a → a * b ≡ 4294967296 → s + b ≤ 4294967296
    ends s r a b e f g = omega (arith, mul-le-mul_left b f)
