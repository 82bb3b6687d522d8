use Rattle.std.proofs.Common.{◌≡◌, ℕ, ◌∷◌, get_or, Option, Err, sym, refl, ap, ◌∙◌, subst, rules, arith}
use Rattle.std.specs.List.{remove}
use Rattle.store.specs.declared.answers.MoveError.TheVariants.{Absent}
use Rattle.names.specs.Names.{class}
use Rattle.store.specs.Entries.{Entry, found, entry_of, without}
use Rattle.store.specs.Calls.{number_in}
use Rattle.store.proofs.Shuffles.{Perm, shuffled_from, perm_back}
use Rattle.store.proofs.Shuffles.Perm.{keep, then}
use Rattle.store.proofs.SoundFacts.{perm_found, perm_without}
use Rattle.store.proofs.AnswerFacts.{move_absent, move_moved, move_answer_perm}
use Rattle.slots.specs.Columns.{items}
use Rattle.slots.specs.Held.{held, entries_by_rank, room_for}
use Rattle.slots.specs.Lawful.{length_held, by_rank_perm, lawful}
use Rattle.slots.proofs.ChainWalk.{lacks}
use Rattle.slots.proofs.LinkFacts.{items_read, items_length}
use Rattle.slots.proofs.HeldFacts.{blank}
use Rattle.slots.proofs.CountFacts.{count_le, count_cons, count_perm}
use Rattle.slots.proofs.StateFacts.{missed, present, filled, low_part, out, out_counts, moved_leaves}
use Rattle.slots.proofs.MadeFacts.{some_count, same, filled₁, move_made}
use Rattle.slots.proofs.SlotTableStore.relocate.Goals as goal

pub returns-in_err-i-clause-gives : goal.returns-in_err-i-clause-gives
returns-in_err-i-clause-gives c =
    let t = c.args.self.now in
    let l = rw c.in_err-i.ensures.ok_part at c.place.ensures.miss in
    let e = rw c.in_err-i.ensures.ok_part at c.in_err-i.ensures.value in
    let m : c.from_residual.result ≡ Err Absent = search rules in
    m ∙ sym (move_absent (held t) c.args.from c.args.to c.args.name.now (missed t t.used _ _ l.is (omega arith)).has) ∙ move_answer_perm c.args.from c.args.to c.args.name.now (by_rank_perm t)

pub rewrite-requires : goal.rewrite-requires
rewrite-requires c =
    let t = c.args.self.now in
    let v = c.heir-j.ensures in
    record { place = (omega (arith, v.used, t.within), v.long); filled = filled t _ c.index-self-i.result v.used }

pub rewrite-requires-2 : goal.rewrite-requires-2
rewrite-requires-2 c =
    let t = c.args.self.now in
    let k = rw c.in_ok-i.ensures.ok_part at c.place.ensures.hit in
    let d = c.index-self-i.result in
    let f = filled₁ t _ _ _ k d _ _ c.heir-j.ensures c.rewrite.new.self c.rewrite.ensures.now in
    let s = items_length t.lent.slots.now c.rewrite.new.self.slots.now c.heir-j.result.0 _ c.rewrite.ensures.now in
    record { place = (omega (arith, k.used, t.within, s), omega (arith, filled t _ d k.used, items_read (λ r. r.len) t.lent.slots.now c.in_ok-i.i d (omega (arith, k.used, t.within)))); filled = f _ k.used }

pub bounds-self-from : goal.bounds-self-from
bounds-self-from c = let k = rw c.in_ok-i.ensures.ok_part at c.place.ensures.hit in low_part c.args.self.now _ _ _ k.is k.used

pub overflow_sub-self : goal.overflow_sub-self
overflow_sub-self c = some_count c.args.self.now _ _ _ (rw c.in_ok-i.ensures.ok_part at c.place.ensures.hit) c.index-self-i.result

pub bounds-self-from-2 : goal.bounds-self-from-2
bounds-self-from-2 c = let k = rw c.in_ok-i.ensures.ok_part at c.place.ensures.hit in low_part c.args.self.now _ _ _ k.is k.used

pub overflow_add-self : goal.overflow_add-self
overflow_add-self c =
    let t = c.args.self.now in
    let k = rw c.in_ok-i.ensures.ok_part at c.place.ensures.hit in
    let i = c.in_ok-i.i in
    let d = c.index-self-i.result in
    let n = out_counts t i _ _ k.is k.used d c.args.to (omega (arith, c.if-to-gt-LAST_PARTITION.false)) in
    let x = get_or (held t) i blank in
    omega (arith, n, count_le c.args.to (held t), count_perm c.args.to (out t i _ _ k.is k.used d), count_cons c.args.to x (remove (held t) i), length_held t, t.within, t.lent.few)

pub invariant_of-self : goal.invariant_of-self
invariant_of-self c =
    let t = c.args.self.now in
    let k = rw c.in_ok-i.ensures.ok_part at c.place.ensures.hit in
    let l = lacks c.place-2.result c.place-2.ensures.miss (sym c.is_some.ensures ∙ c.if-is_some.false) in
    let z = move_made t _ _ _ k c.index-self-i.result _ _ c.heir-j.ensures c.rewrite.new.self c.rewrite.ensures.now c.rewrite-2.new.self c.args.to _ refl refl refl c.if-to-gt-LAST_PARTITION.false (missed t t.used _ _ l.is (omega arith)).has c.rewrite-2.ensures.now in
    record { within = z.within; lawful = z.lawful; free = z.free; wide = z.wide; ranks = z.ranks; counted = z.counted }

pub returns : goal.returns
returns c =
    let t = c.args.self.now in
    let k = rw c.in_ok-i.ensures.ok_part at c.place.ensures.hit in
    let d = c.index-self-i.result in
    let l = lacks c.place-2.result c.place-2.ensures.miss (sym c.is_some.ensures ∙ c.if-is_some.false) in
    let f = (missed t t.used _ _ l.is (omega arith)).has in
    let z = move_made t _ _ _ k d _ _ c.heir-j.ensures c.rewrite.new.self c.rewrite.ensures.now c.rewrite-2.new.self c.args.to _ refl refl refl c.if-to-gt-LAST_PARTITION.false f c.rewrite-2.ensures.now in
    let eq = same t _ _ _ k d _ _ c.heir-j.ensures c.rewrite.new.self c.rewrite.ensures.now in
    let x : Option ℕ → Entry = λ o. entry_of c.args.to c.args.name.now (number_in o) in
    let g = perm_found class c.args.from c.args.name.now (by_rank_perm t) t.lawful in
    let p = then (keep (x (found (held t) c.args.from c.args.name.now)) (perm_without class c.args.from c.args.name.now (perm_back (by_rank_perm t)) (lawful t))) (then (moved_leaves t _ _ _ k.is k.used d (items c.rewrite.new.self.slots.now) eq c.args.to _ refl (items c.rewrite-2.new.self.slots.now) c.rewrite-2.ensures.now) (by_rank_perm z)) in
    record {
      gives = sym (move_moved (held t) c.args.from c.args.to c.args.name.now (present t _ _ _ k.is k.used) c.if-to-gt-LAST_PARTITION.false f) ∙ move_answer_perm c.args.from c.args.to c.args.name.now (by_rank_perm t);
      leaves = shuffled_from (subst (λ (o : Option ℕ). Perm (x o ∷ without (entries_by_rank t) c.args.from c.args.name.now) (entries_by_rank z)) g p);
      within = record { keeps = ap room_for (items_length c.rewrite.new.self.slots.now c.rewrite-2.new.self.slots.now c.in_ok-i.i _ c.rewrite-2.ensures.now ∙ items_length t.lent.slots.now c.rewrite.new.self.slots.now c.heir-j.result.0 _ c.rewrite.ensures.now); spares = refl };
    }
