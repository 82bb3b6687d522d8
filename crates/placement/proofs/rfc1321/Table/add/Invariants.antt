use Rattle.std.proofs.Common.{◌≡◌, take}
use Rattle.std.specs.List.{fold}
use Rattle.placement.specs.Rfc1321.{block}
use Rattle.placement.proofs.rfc1321.Table.add.Given as goal

abbrev pub invariant-loop-x : goal.invariant-loop-x
invariant-loop-x l = l.words ≡ fold (λ w x. block x w) l.initial.words (take l.x-index l.blocks)
