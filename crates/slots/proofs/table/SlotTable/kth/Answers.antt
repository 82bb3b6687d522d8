use Rattle.std.proofs.Common.{ℕ, ◌<◌, length, get_or, sym, ap, ◌∙◌, ⊎_elim, arith}
use Rattle.std.proofs.lemmas.Option.{IfSome_then}
use Rattle.std.proofs.lemmas.Bool.{cases_lt}
use Rattle.store.specs.Entries.{inside}
use Rattle.slots.specs.declared.table.SlotTable.{SlotTable}
use Rattle.slots.specs.Held.{entries_by_rank}
use Rattle.slots.specs.Lawful.{by_rank_perm, lawful}
use Rattle.slots.proofs.ChainWalk.{misses}
use Rattle.slots.proofs.CountFacts.{count_perm}
use Rattle.slots.proofs.HeldFacts.{no_slot, nth_held}
use Rattle.slots.proofs.StateFacts.{inside_high}
use Rattle.slots.proofs.RankState.{nth_some, rank_there}
use Rattle.slots.proofs.table.SlotTable.kth.Goals as goal

-- a partition that has an entry is one
low : (t : SlotTable) (p k : ℕ) → k < length (inside (entries_by_rank t) p) → p < 512
low t p k h = ⊎_elim {C = p < 512} (λ z. z) (λ z. absurd (omega (arith, ap length (inside_high (entries_by_rank t) p (lawful t) (omega arith))))) (cases_lt p 512)

pub returns-then-k-count_in : goal.returns-then-k-count_in
returns-then-k-count_in c =
    let t = c.args.self.now in
    let p = c.args.partition in
    let k = c.args.k in
    let l = low t p k (omega (arith, c.count_in.ensures)) in
    let f : k < get_or t.counts p 0 = omega (arith, c.count_in.ensures, t.counted p l, count_perm p (by_rank_perm t)) in
    record {
      hit = IfSome_then c.at_rank.result c.at_rank.ensures.hit (λ j h. (h.used, nth_some t p k l j no_slot h.used h.partition h.rank f ∙ sym (nth_held t j no_slot h.used)));
      miss = misses _ c.at_rank.result c.at_rank.ensures.miss (λ h. absurd (rank_there t p k l f no_slot h));
    }
