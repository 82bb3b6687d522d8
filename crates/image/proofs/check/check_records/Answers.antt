use Rattle.std.proofs.Common.{◌≡◌, ◌+◌, true, drop, sym, subst, arith}
use Rattle.std.proofs.lemmas.Result.{err_from_is_err_and}
use Rattle.image.specs.Promises.{entry_in, Tells}
use Rattle.image.specs.Reading.{ended}
use Rattle.image.proofs.Checking.{Checking, check_start, check_end, check_fault, check_second, check_more, goes_on, ends_long, ends_zero}
use Rattle.image.proofs.check.check_records.Goals as goal
use Rattle.image.proofs.check.check_records.Goals.{then-loop-at-test+else-image-at-ne0, else-loop-at-test}

pub loop-at-init : goal.loop-at-init
loop-at-init c = check_start c.args.image.now

pub returns-in_err-record : goal.returns-in_err-record
returns-in_err-record c =
    let p = err_from_is_err_and c.from_residual.result c.from_residual.ensures.1 in
    let bs = c.args.image.now in
    let at = c.loop-at.at in
    rw (p.1, p.2) (check_fault bs at c.loop-at.invariant (goes_on bs at (omega arith) (λ z. omega arith)) (omega arith) _ c.in_err-record.ensures)

pub returns-then-has_before : goal.returns-then-has_before
returns-then-has_before c =
    let bs = c.args.image.now in
    let at = c.loop-at.at in
    let e = entry_in c.in_ok-record.record in
    let read = c.in_ok-record.ensures in
    check_second bs at c.loop-at.invariant (goes_on bs at (omega arith) (λ z. omega arith)) (omega arith) read.0 e read.1 (sym c.if-has_before.ensures)

pub loop-at-preserved : goal.loop-at-preserved
loop-at-preserved c =
    let bs = c.args.image.now in
    let at = c.loop-at.at in
    let e = entry_in c.in_ok-record.record in
    let read = c.in_ok-record.ensures in
    let more = check_more bs at c.loop-at.invariant (goes_on bs at (omega arith) (λ z. omega arith)) (omega arith) read.0 e read.1 (λ i. let f = c.type_inv.image i in omega arith) (sym c.if-has_before.ensures) in
    subst (λ w. Checking bs (at + w)) (sym c.length-at.ensures) more

pub returns : goal.returns
returns c =
    let bs = c.args.image.now in
    let at = c.loop-at.at in
    let over : ended (drop at bs) ≡ true = elim c.loop-at-test.branch [
      | then-loop-at-test+else-image-at-ne0 w ↦ ends_zero bs at w.if-image-at-ne0.false
      | else-loop-at-test w ↦ ends_long bs at w.loop-at-test.false
    ] in
    subst (Tells c.check_zeros.result) (sym (check_end bs at c.loop-at.invariant over)) c.check_zeros.ensures
