use Rattle.std.proofs.Common.{ℕ, Bool, length, rules, tests}
use Rattle.std.proofs.lemmas.Iterator.Consumers.{YieldsList-from_first}
use Rattle.std.proofs.lemmas.Iterator.Search.{find_from_yields_List}
use Rattle.store.specs.Entries.{has_key}
use Rattle.slots.specs.Table.{entry_in}
use Rattle.slots.specs.declared.slot.Item.{Item}
use Rattle.slots.specs.Columns.{codes, items}
use Rattle.slots.specs.Walk.{items_left}
use Rattle.slots.proofs.ChainWalk.{chain_items, found_in, mapped, hits, misses}
use Rattle.slots.proofs.Walks.{key_found, key_lacks}
use Rattle.slots.proofs.table.SlotTable.place.Goals as goal

pub returns : goal.returns
returns c =
    let t = c.args.self.now in
    let ss = t.lent.slots.now in
    let n = length ss in
    let b = c.key_chain-b.result in
    let test : ℕ × Item → Bool = λ x. has_key c.args.partition c.args.name.now (entry_in x.1) in
    let left = chain_items c.new.result 0 ss b c.new.ensures.slots c.new.ensures.left in
    let find = find_from_yields_List test c.find.new.self _ c.find.result c.find.ensures.ran (YieldsList-from_first (λ x. (x.0, x.1.now)) items_left _ left) (λ x b q k. search (rules, tests)) in
    let r = found_in test ss (codes 0 n (items ss)) n b (λ x. (x.0, x.1.now)) c.find.result c.map.result find (mapped test ss (codes 0 n (items ss)) n b (λ x. (x.0, x.1.now)) c.find.result c.map.result c.map.ensures.cases (λ x y h. search rules)) in
    let k = c.key_chain-b.ensures in
    record {
      hit = hits _ c.map.result r (λ i h. key_found t c.args.partition c.args.name.now b k.is k.below i h.0 h.1 h.2);
      miss = misses _ c.map.result r (λ h. key_lacks t c.args.partition c.args.name.now b k.is k.below h);
    }
