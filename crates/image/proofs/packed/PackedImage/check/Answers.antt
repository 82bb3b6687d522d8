use Rattle.std.proofs.Common.{arith}
use Rattle.std.proofs.lemmas.Result.{err_from_is_err_and}
use Rattle.image.proofs.Checking.{checked_fine, checked_fault}
use Rattle.image.proofs.packed.PackedImage.check.Goals as goal

pub returns-in_err-check_records-clause-checked : goal.returns-in_err-check_records-clause-checked
returns-in_err-check_records-clause-checked c =
    let p = err_from_is_err_and c.from_residual.result c.from_residual.ensures.1 in
    rw (p.1, p.2) (checked_fault c.args.image.now (λ i. let f = c.type_inv.image i in omega arith) (omega arith) _ c.in_err-check_records.ensures)

pub returns-clause-checked : goal.returns-clause-checked
returns-clause-checked c = checked_fine c.args.image.now (λ i. let f = c.type_inv.image i in omega arith) (omega arith) c.in_ok-check_records.ensures
