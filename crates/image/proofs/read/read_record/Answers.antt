use Rattle.std.proofs.lemmas.Result.{err_from_is_err_and}
use Rattle.image.proofs.ThreeFields.{record_second, record_third, record_fine, record_entry}
use Rattle.image.proofs.read.read_record.Goals as goal

pub returns-in_err-name : goal.returns-in_err-name
returns-in_err-name c =
    let p = err_from_is_err_and c.from_residual-in_err-name.result c.from_residual-in_err-name.ensures.1 in
    rw (p.1, p.2) (record_second c.args.image.now c.args.place c.in_ok-partition.ensures.0 _ c.in_err-name.ensures)

pub returns-in_err-number : goal.returns-in_err-number
returns-in_err-number c =
    let p = err_from_is_err_and c.from_residual-in_err-number.result c.from_residual-in_err-number.ensures.1 in
    let name = rw c.in-Name.is at c.in_ok-name.ensures in
    rw (p.1, p.2) (record_third c.args.image.now c.args.place c.in_ok-partition.ensures.0 c.in-Name.name.now name.0 name.1.1 _ c.in_err-number.ensures)

pub returns : goal.returns
returns c =
    let part = rw c.in-Partition.is at c.in_ok-partition.ensures in
    let name = rw c.in-Name.is at c.in_ok-name.ensures in
    let number = rw c.in-Number.is at c.in_ok-number.ensures in (
      record_fine c.args.image.now c.args.place part.0 c.in-Name.name.now name.0 name.1.1 number.0,
      record_entry c.args.image.now c.args.place part.0 c.in-Name.name.now name.0 name.1.1 _ _ part.1.1 number.1.1,
    )
