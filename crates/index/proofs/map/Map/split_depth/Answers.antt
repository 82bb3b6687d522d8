use Rattle.std.proofs.Common.{◌≡◌, ℕ, ◌+◌, ◌^◌, ◌<◌, ◌≤◌, Bool, true, false, not, ◌&&◌, T, ltb, Option, Some, None, sym, ◌∙◌, arith, rules}
use Rattle.std.specs.Option.{MatchOption, unwrap_or}
use Rattle.std.proofs.lemmas.Iterator.{first_from_Range}
use Rattle.index.specs.Numbers.{Numbers}
use Rattle.index.specs.Maps.{IsMap}
use Rattle.index.specs.Ranges.{depth}
use Rattle.index.specs.Values.{has}
use Rattle.index.proofs.MapFacts.{map_of}
use Rattle.index.proofs.Walks.{depth_found, none_above}
use Rattle.index.proofs.map.Map.split_depth.Goals as goal

abbrev ends : Numbers → ℕ → ℕ → Bool
ends m p d = ltb p (2 ^ d) && not (m (p + 2 ^ d))

-- the first d below 9 that will do, or 9, is the depth of p
depth_is : (m : Numbers) → IsMap m → (p : ℕ) → T (m p) → (r : Option ℕ)
    → MatchOption r ((k : ℕ) → 0 ≤ k → k < 9 → ends m p k ≡ false) (λ d. (0 ≤ d) × (d < 9) × (ends m p d ≡ true) × ((k : ℕ) → 0 ≤ k → k < d → ends m p k ≡ false))
    → unwrap_or r 9 ≡ depth m p
depth_is m M p h None none = sym (depth_found m p 9 (M.bounded p h) (none_above m M (p + 512) (omega arith)) (omega arith) (λ k l. none k (omega arith) l) (λ l. absurd (omega arith)))
depth_is m M p h (Some d) d_is =
    sym (depth_found m p d (M.bounded p h) (none_above m M (p + 512) (omega arith)) (omega (arith, d_is.1)) (λ k l. d_is.3 k (omega arith) l) (λ l. d_is.2))

pub returns : goal.returns
returns c =
    let m = has c.args.self.now in
    let p = c.args.p in
    c.unwrap_or.ensures
    ∙ depth_is m (map_of c.args.self.now.lawful) p c.requires c.find.result
    (first_from_Range _ _ _ c.find.result (λ d. ends m p d ≡ true) (λ d. ends m p d ≡ false) c.find.ensures.ran (λ x q k. search rules) (λ x q k. search rules))
