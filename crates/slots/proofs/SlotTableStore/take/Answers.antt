use Rattle.std.proofs.Common.{◌-◌, refl, sym, ap, ◌∙◌, arith}
use Rattle.names.specs.Names.{class}
use Rattle.store.proofs.Shuffles.{shuffled_from, perm_back}
use Rattle.store.proofs.Shuffles.Perm.{then}
use Rattle.store.proofs.SoundFacts.{perm_without}
use Rattle.slots.specs.Columns.{items}
use Rattle.slots.specs.Held.{room_for}
use Rattle.slots.specs.Lawful.{by_rank_perm, lawful}
use Rattle.slots.proofs.HeldFacts.{no_slot}
use Rattle.slots.proofs.LinkFacts.{items_length}
use Rattle.slots.proofs.StateFacts.{filled, low_part, closed_leaves}
use Rattle.slots.proofs.MadeFacts.{some_count, same, filled₁, take_made}
use Rattle.slots.proofs.SlotTableStore.take.Goals as goal

pub rewrite-requires : goal.rewrite-requires
rewrite-requires c =
    let t = c.args.self.now in
    let v = c.heir-j.ensures in
    record { place = (omega (arith, v.used, t.within), v.long); filled = filled t _ no_slot v.used }

pub remove-requires : goal.remove-requires
remove-requires c =
    let t = c.args.self.now in
    let k = c.in_ok-i.ensures.hit in
    let f = filled₁ t _ _ _ k no_slot _ _ c.heir-j.ensures c.rewrite.new.self c.rewrite.ensures.now in
    let s = items_length t.lent.slots.now c.rewrite.new.self.slots.now c.heir-j.result.0 _ c.rewrite.ensures.now in
    record {
      place = (omega (arith, k.used), omega (arith, k.used, t.within, s));
      filled = (f _ k.used, f (t.used - 1) (omega (arith, k.used)));
    }

pub bounds-self-partition : goal.bounds-self-partition
bounds-self-partition c = let k = c.in_ok-i.ensures.hit in low_part c.args.self.now _ _ _ k.is k.used

pub bounds-self-partition-2 : goal.bounds-self-partition-2
bounds-self-partition-2 c = let k = c.in_ok-i.ensures.hit in low_part c.args.self.now _ _ _ k.is k.used

pub overflow_sub-self : goal.overflow_sub-self
overflow_sub-self c = some_count c.args.self.now _ _ _ c.in_ok-i.ensures.hit no_slot

pub invariant_of-self : goal.invariant_of-self
invariant_of-self c =
    let d = no_slot in
    let z = take_made c.args.self.now _ _ _ c.in_ok-i.ensures.hit d _ _ c.heir-j.ensures c.rewrite.new.self c.rewrite.ensures.now c.remove.new.self c.remove.ensures.size c.remove.ensures.vacant c.remove.ensures.others (c.remove.ensures.now d.item) in
    record { within = z.within; lawful = z.lawful; free = z.free; wide = z.wide; ranks = z.ranks; counted = z.counted }

pub returns : goal.returns
returns c =
    let t = c.args.self.now in
    let k = c.in_ok-i.ensures.hit in
    let d = no_slot in
    let z = take_made t _ _ _ k d _ _ c.heir-j.ensures c.rewrite.new.self c.rewrite.ensures.now c.remove.new.self c.remove.ensures.size c.remove.ensures.vacant c.remove.ensures.others (c.remove.ensures.now d.item) in
    let eq = same t _ _ _ k d _ _ c.heir-j.ensures c.rewrite.new.self c.rewrite.ensures.now in
    record {
      gives = sym (k.gives ∙ c.number_at-number.ensures);
      leaves = shuffled_from (then (perm_without class c.args.partition c.args.name.now (perm_back (by_rank_perm t)) (lawful t)) (then (closed_leaves t _ _ _ k.is k.used d (items c.rewrite.new.self.slots.now) eq (items c.remove.new.self.slots.now) (c.remove.ensures.now d.item)) (by_rank_perm z)));
      within = record { keeps = ap room_for (c.remove.ensures.size ∙ items_length t.lent.slots.now c.rewrite.new.self.slots.now c.heir-j.result.0 _ c.rewrite.ensures.now); spares = refl };
    }
