use Rattle.std.proofs.Common.{◌≡◌, ℕ, List, [], ◌∷◌, map, Ok, sym, ◌∙◌, Bor, rules}
use mathlib.Core.List.{map-append}
use Rattle.wheels.specs.Readings.{partition_reading}
use Rattle.wheels.proofs.Lists.{all_write_more, some_writes_more}
use Rattle.wheels.proofs.request.partition_set.Goals as goal

pub loop-word-preserved : goal.loop-word-preserved
loop-word-preserved c =
    let reads : partition_reading c.in-Some.word.now ≡ Ok c.in_ok-partition.partition = sym c.read_partition.ensures ∙ search rules in
    let words : List (List ℕ) = map (λ (w : Bor (List ℕ)). w.now) c.loop-word.yielded in
    rw (map-append (λ (w : Bor (List ℕ)). w.now) c.loop-word.yielded (c.in-Some.word ∷ [])) (
      all_write_more words c.in-Some.word.now _ reads c.loop-word.invariant.0,
      λ q. some_writes_more words c.in-Some.word.now _ q _ _ reads (c.loop-word.invariant.1 q) (c.add.ensures.after q),
    )
