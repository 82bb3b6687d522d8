use Rattle.std.proofs.Common.{arith}
use Rattle.std.proofs.Math.Seq.{take-append_seam}
use Rattle.std.proofs.lemmas.Bool.Decides.{nat_tests}
use Rattle.names.specs.Names.{class, short}
use Rattle.names.proofs.Laws.{short_is_short, short_stays}
use Rattle.names.proofs.short_name.shortening.shorten.Goals as goal

pub invariant_of-result : goal.invariant_of-result
invariant_of-result c =
    let good = short_is_short class c.args.raw.now (grind (arith, nat_tests)) in
    rw (c.in_ok-bytes.ensures.1.0, c.in_ok-bytes.ensures.1.1, take-append_seam) (good, tt)

pub returns-clause-again : goal.returns-clause-again
returns-clause-again c =
    let good = short_is_short class c.args.raw.now (grind (arith, nat_tests)) in
    rw (c.in_ok-bytes.ensures.1.0, c.in_ok-bytes.ensures.1.1, take-append_seam) (short_stays class (short class c.args.raw.now) good)
