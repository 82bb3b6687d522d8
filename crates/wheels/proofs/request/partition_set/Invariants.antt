use Rattle.std.proofs.Common.{◌≡◌, ℕ, true, map}
use Rattle.index.specs.Values.{members}
use Rattle.wheels.specs.Readings.{some_writes, all_write}
use Rattle.wheels.proofs.request.partition_set.Given as goal

-- the words so far all write a partition, and the set has those
abbrev pub invariant-loop-word : goal.invariant-loop-word
invariant-loop-word l =
    (all_write (map (λ w. w.now) l.yielded) ≡ true) × ((q : ℕ) → members l.set q ≡ some_writes (map (λ w. w.now) l.yielded) q)
