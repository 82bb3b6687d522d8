use Rattle.std.proofs.Common.{◌-◌}
use Rattle.std.specs.Fmt.{IsPlainFormatter, HasWritten}
use Rattle.index.specs.Values.{has, listed}
use Rattle.index.proofs.map.Map.write_partitions.Given as goal

-- the numbers below p were written
abbrev pub invariant-loop-p : goal.invariant-loop-p
invariant-loop-p g l = IsPlainFormatter l.initial.f → HasWritten g.W.Write.write_str_gives l.initial.f (listed (has l.self) (l.p-counter - 1)) l.f
