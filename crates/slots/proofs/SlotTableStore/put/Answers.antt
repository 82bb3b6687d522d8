use Rattle.std.proofs.Common.{sym, refl, ap, ◌∙◌, arith}
use Rattle.names.specs.Names.{class}
use Rattle.store.specs.Entries.{entry_of}
use Rattle.store.proofs.Shuffles.{shuffled_from, perm_back}
use Rattle.store.proofs.Shuffles.Perm.{keep, then}
use Rattle.store.proofs.AnswerFacts.{put_full, put_added, put_answer_perm}
use Rattle.slots.specs.Held.{held, room_for, room_of}
use Rattle.slots.specs.Lawful.{used_held, length_held, by_rank_perm}
use Rattle.slots.proofs.LinkFacts.{items_length}
use Rattle.slots.proofs.ChainWalk.{lacks}
use Rattle.slots.proofs.CountFacts.{count_le}
use Rattle.slots.proofs.StateFacts.{missed, key_low}
use Rattle.slots.proofs.RankState.{put_made, added_perm}
use Rattle.slots.proofs.SlotTableStore.put.Goals as goal

pub returns-then-self-clause-gives : goal.returns-then-self-clause-gives
returns-then-self-clause-gives c =
    let t = c.args.self.now in
    let h = missed t t.used _ _ (lacks c.place.result c.place.ensures.miss (sym c.is_some.ensures ∙ c.if-is_some.false)).is (omega arith) in
    sym (put_full class (room_of t) (held t) _ _ (sym c.if-not-is_key.ensures) h.has (omega (arith, used_held t))) ∙ put_answer_perm class (room_of t) c.args.partition c.args.name.now (by_rank_perm t)

pub overflow_add-self-2 : goal.overflow_add-self-2
overflow_add-self-2 c =
    let t = c.args.self.now in
    let k = key_low c.args.partition c.args.name.now (sym c.if-not-is_key.ensures) in
    omega (arith, t.counted c.args.partition (omega arith), count_le c.args.partition (held t), length_held t, t.within, t.lent.few)

pub invariant_of-self : goal.invariant_of-self
invariant_of-self c =
    let t = c.args.self.now in
    let x = entry_of c.args.partition c.args.name.now c.args.number in
    let h = missed t t.used _ _ (lacks c.place.result c.place.ensures.miss (sym c.is_some.ensures ∙ c.if-is_some.false)).is (omega arith) in
    let z = put_made t c.add.new.self c.holding-item.result x c.add.ensures.now c.if-self.false c.holding-item.ensures.holds (sym c.if-not-is_key.ensures) h.has c.holding-item.ensures.rank in
    record { within = z.within; lawful = z.lawful; free = z.free; wide = z.wide; ranks = z.ranks; counted = z.counted }

pub returns : goal.returns
returns c =
    let t = c.args.self.now in
    let x = entry_of c.args.partition c.args.name.now c.args.number in
    let h = missed t t.used _ _ (lacks c.place.result c.place.ensures.miss (sym c.is_some.ensures ∙ c.if-is_some.false)).is (omega arith) in
    let z = put_made t c.add.new.self c.holding-item.result x c.add.ensures.now c.if-self.false c.holding-item.ensures.holds (sym c.if-not-is_key.ensures) h.has c.holding-item.ensures.rank in
    let p = added_perm t c.add.new.self c.holding-item.result x c.add.ensures.now c.if-self.false c.holding-item.ensures.holds (sym c.if-not-is_key.ensures) h.has c.holding-item.ensures.rank in
    record {
      gives = sym (put_added class (room_of t) (held t) _ _ (sym c.if-not-is_key.ensures) h.has (omega (arith, used_held t, c.if-self.false))) ∙ put_answer_perm class (room_of t) c.args.partition c.args.name.now (by_rank_perm t);
      leaves = shuffled_from (then (keep x (perm_back (by_rank_perm t))) (then p (by_rank_perm z)));
      within = record { keeps = ap room_for (items_length t.lent.slots.now c.add.new.self.slots.now t.used c.holding-item.result c.add.ensures.now); spares = refl };
    }
