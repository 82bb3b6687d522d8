use Rattle.std.proofs.Common.{◌≡◌, ℕ, ◌-◌, arith, ◌++◌, length, get_or, take, replicate, List, Some, Option, sym, ap, ◌∙◌}
use Rattle.std.specs.List.{slice_get}
use Rattle.store.specs.Calls.{listed, padded}
use Rattle.store.specs.Entries.{Entry}
use Rattle.slots.specs.Held.{held}
use Rattle.slots.specs.Table.{entry_in}
use Rattle.slots.proofs.HeldFacts.{nth_held}
use Rattle.slots.proofs.table.SlotTable.listed_at.Goals as goal

pub returns : goal.returns
returns c =
    let t = c.args.self.now in
    let s = get_or t.lent.slots.now c.args.i c.index-slots-i.result in
    let l : length (take s.item.len s.item.name) ≡ s.item.len = ap length (sym c.name.ensures.is) ∙ c.name.ensures.long in
    let e : slice_get (held t) c.args.i ≡ Some (entry_in s.item) = nth_held t c.args.i c.index-slots-i.result c.requires in
    record {
      gives = ap listed e ∙ ap (λ (m : ℕ). Some (record { len = m; number = s.item.number })) l;
      writes =
          c.padded.ensures.short (omega (arith, c.name.ensures.long, s.item.short))
          ∙ ap (λ (m : List ℕ). m ++ replicate (32 - length m) 0) c.name.ensures.is
          ∙ ap (λ (o : Option Entry). padded o c.args.name.now) (sym e);
    }
