use Rattle.std.proofs.Common.{◌≡◌, ◌+◌, ◌≤◌, List, length, drop, Some, None, Ok, Err, Result, sym, ap, ◌∙◌, subst, arith, rules, ℕ}
use Rattle.std.specs.Result.{result_ok}
use Rattle.std.proofs.lemmas.List.{take_rest}
use Rattle.names.specs.Names.{class}
use Rattle.image.specs.Promises.{entry_in, RecordRead, FirstEntry}
use Rattle.image.specs.Reading.{record_fault, read_entry}
use Rattle.image.specs.declared.fault.RecordFault.{RecordFault}
use Rattle.image.specs.declared.field.Record.{Record}
use Rattle.std.proofs.lemmas.Option.{none-some}
use Rattle.image.proofs.Listing.{first_entry}
use Rattle.image.proofs.records.split_record.Goals as goal
use Rattle.image.proofs.records.split_record.Goals.{In_ok-record}

read : (r : Result Record RecordFault) (x : Record) (bs : List ℕ) → Some x ≡ result_ok r → RecordRead class r 0 bs → (record_fault class 0 bs ≡ None) × (entry_in x ≡ read_entry bs)
read (Ok y) x bs h g = let s : x ≡ y = cc in (g.0, ap entry_in s ∙ g.1)
read (Err f) x bs h g = absurd (none-some x (sym h))

first : (c : goal.In_ok-record) → FirstEntry class c.args.bytes.now (entry_in c.in_ok-record.record) (drop (19 + length c.in_ok-record.record.name.now) c.args.bytes.now)
first c =
    let said = read c.read_record.result c.in_ok-record.record c.args.bytes.now c.in_ok-record.ensures.value c.read_record.ensures in
    first_entry c.args.bytes.now (entry_in c.in_ok-record.record) 0 said.0 said.1

pub slice_bounds-result-count : goal.slice_bounds-result-count
slice_bounds-result-count c = omega (arith, c.length.ensures, (first (goal.at.slice_bounds-result-count c).In_ok-record).2)

pub slice_bounds-result-start : goal.slice_bounds-result-start
slice_bounds-result-start c =
    let fits : c.length.result ≤ length c.args.bytes.now = omega (arith, c.length.ensures, (first (goal.at.slice_bounds-result-start c).In_ok-record).2) in
    search (rules, fits)

pub returns : goal.returns
returns c =
    let bs = c.args.bytes.now in
    subst (FirstEntry class bs (entry_in c.in_ok-record.record)) (sym (take_rest bs c.length.result ∙ ap (λ k. drop k bs) c.length.ensures)) (first (goal.at.returns c).In_ok-record)
