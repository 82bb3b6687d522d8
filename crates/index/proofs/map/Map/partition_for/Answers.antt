use Rattle.std.proofs.Common.{sym}
use Rattle.index.proofs.MapWalks.{is_alone, walk_stops, walk_ends}
use Rattle.index.proofs.map.Map.partition_for.Goals as goal

pub returns-then-not-has-clause-alone : goal.returns-then-not-has-clause-alone
returns-then-not-has-clause-alone c =
    is_alone c.args.self.now c.args.placement c.loop-d.p c.ranges.placement.fits
    (walk_stops c.args.self.now _ _ c.loop-d.d _ c.loop-d.invariant.at c.power.ensures.0 c.loop-d.invariant.split (sym c.if-not-has.ensures) c.loop-d-test.true c.ranges.placement.fits)

pub returns-clause-alone : goal.returns-clause-alone
returns-clause-alone c =
    is_alone c.args.self.now c.args.placement c.loop-d.p c.ranges.placement.fits
    (walk_ends c.args.self.now _ _ c.loop-d.d c.loop-d.invariant.at c.loop-d.invariant.split c.loop-d-test.false c.loop-d.auto.d-end c.ranges.placement.fits)
