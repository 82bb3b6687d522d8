use Rattle.std.proofs.Common.{◌≡◌, ℕ, ◌+◌, ◌^◌, ◌<◌, true}
use Rattle.index.specs.Values.{has}
use Rattle.index.proofs.Digits.{path}
use Rattle.index.proofs.map.Map.partition_for.Given as goal

-- the walk is at the number that the first d digits make, and each partition on its way was split
abbrev pub invariant-loop-d : goal.invariant-loop-d
invariant-loop-d l = record {
  at : l.p ≡ path l.placement l.d;
  split : (e : ℕ) → e < l.d → has l.self (path l.placement e + 2 ^ e) ≡ true;
}
