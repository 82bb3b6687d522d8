use Rattle.std.proofs.Common.{◌-◌, length}
use Rattle.image.proofs.Checking.{Checking}
use Rattle.image.proofs.check.check_records.Given as goal

abbrev pub invariant-loop-at : goal.invariant-loop-at
invariant-loop-at l = Checking l.image l.at

abbrev pub decreases-loop-at : goal.decreases-loop-at
decreases-loop-at l = length l.image - l.at
