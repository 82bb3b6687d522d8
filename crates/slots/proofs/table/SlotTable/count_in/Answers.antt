use Rattle.std.proofs.Common.{◌≡◌, get_or, length, rules, sym, ap, ◌∙◌, ⊎_elim, arith}
use Rattle.std.proofs.lemmas.Bool.{cases_lt}
use Rattle.std.proofs.lemmas.List.{get_or_past}
use Rattle.std.proofs.lemmas.Option.{unwrap_or-slice_get}
use Rattle.store.specs.Entries.{inside}
use Rattle.slots.specs.Held.{held}
use Rattle.slots.specs.Lawful.{by_rank_perm}
use Rattle.slots.proofs.CountFacts.{count_perm}
use Rattle.slots.proofs.StateFacts.{inside_high}
use Rattle.slots.proofs.table.SlotTable.count_in.Goals as goal

pub returns : goal.returns
returns c =
    let t = c.args.self.now in
    let p = c.args.partition in
    let read : c.unwrap_or.result ≡ get_or t.counts p 0 = search (rules, unwrap_or-slice_get) in
    let count : get_or t.counts p 0 ≡ length (inside (held t) p) =
    ⊎_elim {C = get_or t.counts p 0 ≡ length (inside (held t) p)}
    (λ h. t.counted p h)
    (λ h. get_or_past t.counts p 0 (omega (arith, t.wide)) ∙ sym (ap length (inside_high (held t) p t.lawful h)))
    (cases_lt p 512) in
    read ∙ count ∙ count_perm p (by_rank_perm t)
