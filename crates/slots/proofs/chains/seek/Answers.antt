use Rattle.std.proofs.Common.{◌≡◌, ℕ, ltb, List, map, length, take, None, sym, ap, ◌∙◌, subst, rules, tests, arith}
use Rattle.std.specs.List.{prefix_len, last_or}
use Rattle.std.proofs.lemmas.Iterator.{YieldsList-from_map, items_from_drains}
use Rattle.std.proofs.lemmas.Iterator.Consumers.{YieldsList-from_first, YieldsList-at}
use Rattle.std.proofs.lemmas.Iterator.Search.{YieldsList-from_take_while}
use Rattle.slots.specs.Columns.{codes, items}
use Rattle.slots.specs.Links.{family_number}
use Rattle.slots.specs.Walk.{chain_below, numbered, items_left}
use Rattle.slots.proofs.ChainWalk.{chain_items, Passes, pass, passed, numbers_of}
use Rattle.std.proofs.lemmas.List.{map-id}
use Rattle.slots.proofs.chains.seek.Goals as goal

pub returns : goal.returns
returns c =
    let ss = c.args.slots.now in
    let n = length ss in
    let k = family_number c.args.family in
    let ms = chain_below k ss n c.args.b in
    let test : ℕ → _ = λ j. ltb c.args.i j in
    let left = chain_items c.new.result k ss c.args.b c.new.ensures.slots c.new.ensures.left in
    let ran = c.last.ensures.ran in
    let gave =
    items_from_drains ran.0 (ran.1.1.0, ran.1.1.1, λ _. (ran.1.0, ran.1.1.2))
    (YieldsList-from_take_while _ test
    (YieldsList-at c.take_while.ensures.source (YieldsList-from_map _ (λ x. x.0) (YieldsList-at c.map.ensures.source (YieldsList-from_first (λ x. (x.0, x.1.now)) items_left (map (numbered ss) ms) left)) c.map.ensures.closure (λ x r q k. search rules)))
    c.take_while.ensures.closure c.take_while.ensures.done (λ x b q k. search (rules, tests))) in
    let xs : ran.0 ≡ take (prefix_len test ms) ms = sym (map-id ran.0) ∙ gave ∙ ap (λ (l : List ℕ). take (prefix_len test l) l) (numbers_of ss ms) in
    let last : c.last.result ≡ last_or None (take (prefix_len test ms) ms) = ran.2 ∙ ap (last_or None) xs in
    let p = pass (codes k n (items ss)) n c.args.b c.args.i n None (omega arith) (omega arith) (omega arith) (λ h. absurd (omega arith)) tt (λ j a b. absurd (omega arith)) in
    let r = passed (codes k n (items ss)) n c.args.b c.args.i c.last.result c.map_or.result (omega arith) (subst (Passes (codes k n (items ss)) n c.args.b c.args.i) (sym last) p) (λ e. let h = rw e at c.map_or.ensures in h) (λ j e. let h = rw e at c.map_or.ensures in search rules) in
    record { chain = r.0; stands = r.1; point = (r.2, r.3) }
