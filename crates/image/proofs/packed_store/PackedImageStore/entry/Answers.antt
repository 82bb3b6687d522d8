use Rattle.std.proofs.Common.{◌≡◌, ℕ, ◌≤◌, List, length, Some, Option, sym, ap, ◌∙◌, arith}
use Rattle.std.specs.List.{slice_get}
use Rattle.names.specs.Names.{class}
use Rattle.store.specs.Calls.{padded}
use Rattle.store.specs.Entries.{Entry, inside}
use Rattle.image.specs.Held.{held, own_bytes}
use Rattle.image.specs.Promises.{entry_in}
use Rattle.image.specs.Reading.{listed}
use Rattle.image.specs.declared.field.Record.{Record}
use Rattle.image.specs.declared.packed.PackedImage.{PackedImage}
use Rattle.image.proofs.LawfulLists.{nth_short}
use Rattle.image.proofs.packed_store.PackedImageStore.entry.Goals as goal

-- the record that was found among the store's own bytes is that of entry k
found : (s : PackedImage) (p k : ℕ) (r : Record) (own : List ℕ) → own ≡ own_bytes s → slice_get (inside (listed class own) p) k ≡ Some (entry_in r) → slice_get (inside (held class s) p) k ≡ Some (entry_in r)
found s p k r own e shows = ap (λ l. slice_get (inside (listed class l) p) k) (sym e) ∙ shows

fits : (s : PackedImage) (p k : ℕ) (r : Record) → slice_get (inside (held class s) p) k ≡ Some (entry_in r) → length r.name.now ≤ 32
fits s p k r e = nth_short (held class s) p k (entry_in r) s.filled.keys e

pub overflow_cast-result : goal.overflow_cast-result
overflow_cast-result c =
    let e = found c.args.self.now c.args.partition c.args.k c.in_ok-record.record _ c.own_bytes.ensures c.in_ok-record.ensures in
    omega (arith, fits c.args.self.now c.args.partition c.args.k c.in_ok-record.record e)

pub returns-clause-writes : goal.returns-clause-writes
returns-clause-writes c =
    let e = found c.args.self.now c.args.partition c.args.k c.in_ok-record.record _ c.own_bytes.ensures c.in_ok-record.ensures in
    c.padded.ensures.short (fits c.args.self.now c.args.partition c.args.k c.in_ok-record.record e) ∙ ap (λ (o : Option Entry). padded o c.args.name.now) (sym e)
