-- What the code that looks for a depth or walks has to know of a map.
use Rattle.std.proofs.Common.{◌≡◌, ℕ, suc, ◌+◌, ◌*◌, ◌^◌, ◌<◌, ◌≤◌, Bool, true, false, cond, Option, Some, None, refl, subst, sym, ap, ap₂, ◌∙◌, add-one, arith, pow_mono, pow-suc}
use Rattle.index.specs.declared.map.Map.{Map}
use Rattle.index.specs.Ranges.{depth, part_for, Alone}
use Rattle.index.specs.Values.{has, depth_of}
use Rattle.index.proofs.Digits.{digit, path, path_lt}
use Rattle.index.proofs.MapFacts.{map_of}
use Rattle.index.proofs.Walks.{deep, alone, none_above, part_is_end}

-- ---- depths

depth_fits : (m : Map) (p d : ℕ) → Some d ≡ depth_of (has m) p → (p < 2 ^ d) × (d ≤ 9)
depth_fits m p d e = go (has m p) refl e
  where
    go : (b : Bool) → has m p ≡ b → Some d ≡ cond b (Some (depth (has m) p)) None → (p < 2 ^ d) × (d ≤ 9)
    go false h k = absurd (cc)
    go true h k =
        let D = deep (has m) (map_of m.lawful) p h in
        let s : depth (has m) p ≡ d = cc in
        (subst (λ (n : ℕ). p < 2 ^ n) s D.low, subst (λ (n : ℕ). n ≤ 9) s D.few)

-- what a depth says of its partition
pub depth_low : (m : Map) (p d : ℕ) (r : Option ℕ) → r ≡ depth_of (has m) p → r ≡ Some d → p < 2 ^ d
depth_low m p d r e is = (depth_fits m p d (sym is ∙ e)).0

pub depth_few : (m : Map) (p d : ℕ) (r : Option ℕ) → r ≡ depth_of (has m) p → r ≡ Some d → d ≤ 9
depth_few m p d r e is = (depth_fits m p d (sym is ∙ e)).1

-- ---- the walk

-- the walk stays below 512
pub walk_low : (x d p e : ℕ) → p ≡ path x d → e ≡ 2 ^ d → d < 9 → p + e < 512
walk_low x d p e at is h = let most : 2 ^ suc d ≤ 2 ^ 9 = pow_mono h in omega (arith, path_lt x d, pow-suc 2 d)

-- a turn of the walk
pub walk_turn : (x d p b : ℕ) → p ≡ path x d → b ≡ digit x d * 2 ^ d → p + b ≡ path x (d + 1)
walk_turn x d p b at is = ap₂ ◌+◌ at is ∙ ap (path x) (sym (add-one d))

pub walk_turn_low : (x d p b : ℕ) → p ≡ path x d → b ≡ digit x d * 2 ^ d → d < 9 → p + b < 512
walk_turn_low x d p b at is h = let most : 2 ^ suc d ≤ 2 ^ 9 = pow_mono h in omega (arith, path_lt x (suc d), at, is)

-- a walk that is at `path x d` after d turns ends where the map lets it
pub walk_stops : (m : Map) (x p d e : ℕ) → p ≡ path x d → e ≡ 2 ^ d → ((k : ℕ) → k < d → has m (path x k + 2 ^ k) ≡ true) → has m (p + e) ≡ false → d < 9 → x < 2 ^ 32
    → p ≡ part_for (has m) x
walk_stops m x p d e at is on stop h l =
    at ∙ sym (part_is_end (has m) (map_of m.lawful) x l d record { few = omega arith; goes_on = on; shut = rw (← at, ← is) stop })

-- or after nine turns
pub walk_ends : (m : Map) (x p d : ℕ) → p ≡ path x d → ((k : ℕ) → k < d → has m (path x k + 2 ^ k) ≡ true) → 9 ≤ d → d ≤ 9 → x < 2 ^ 32 → p ≡ part_for (has m) x
walk_ends m x p d at on h k l =
    let M = map_of m.lawful in
    let most : 512 ≤ 2 ^ d = pow_mono h in
    at ∙ sym (part_is_end (has m) M x l d record { few = k; goes_on = on; shut = none_above (has m) M (path x d + 2 ^ d) (omega arith) })

pub is_alone : (m : Map) (x p : ℕ) → x < 2 ^ 32 → p ≡ part_for (has m) x → Alone (has m) x p
is_alone m x p l e = subst (Alone (has m) x) (sym e) (alone (has m) (map_of m.lawful) x l)

pub ruleset depths = (depth_low, depth_few)

pub ruleset walking = (walk_low, walk_turn, walk_turn_low, walk_stops, walk_ends)
