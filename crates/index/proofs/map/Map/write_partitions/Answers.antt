use Rattle.std.proofs.Common.{◌≡◌, ℕ, zero, suc, ◌+◌, ◌-◌, ◌<◌, cond, ◌∷◌, ◌++◌, decimal, sym, refl, ap, ◌∙◌, arith}
use Rattle.std.proofs.lemmas.Bool.{cond-true, cond-false}
use Rattle.std.proofs.Output.{writes_in_calls_nil, has_written_append, has_written_of_eq, has_written_to_eq}
use Rattle.index.specs.Numbers.{Numbers}
use Rattle.index.specs.Values.{has, listed}
use Rattle.index.proofs.map.Map.write_partitions.Goals as goal
use Rattle.index.proofs.map.Map.write_partitions.Goals.{then-has+in_ok-write, else-has}

-- one number more is looked at: it is listed, or it is not there
listed_more : (m : Numbers) (k : ℕ) → 0 < k → listed m (k + 1 - 1) ≡ cond (m k) (listed m (k - 1) ++ (32 ∷ decimal k)) (listed m (k - 1))
unfolding listed
listed_more m zero h = absurd (omega arith)
listed_more m (suc j) h =
    let after : suc j + 1 - 1 ≡ suc j = omega arith in
    let before : j ≡ suc j - 1 = omega arith in
    ap (listed m) after ∙ ap (λ (k : ℕ). cond (m (suc j)) (listed m k ++ (32 ∷ decimal (suc j))) (listed m k)) before

pub loop-p-init : goal.loop-p-init
unfolding listed
loop-p-init g c plain = record { wrote = writes_in_calls_nil g.W.Write.write_str_gives c.write_str.new.self.writer; plain = plain }

pub loop-p-preserved : goal.loop-p-preserved
loop-p-preserved g c plain =
    let took = g.W.Write.write_str_gives in
    let m = has c.args.self.now in
    let p = c.loop-p.p-counter in
    let start = c.write_str.new.self in
    let so_far = c.loop-p.invariant plain in
    let more = listed_more m p c.loop-p.auto.p-counter in
    elim c.if-has.branch [
      | then-has+in_ok-write w ↦
          has_written_to_eq took start _ w.write.new.self c.if-has.f w.f-is
          (has_written_of_eq took start _ _ w.write.new.self (sym (more ∙ cond-true (m p) _ _ (sym w.if-has.ensures)))
          (has_written_append took start _ c.loop-p.f _ w.write.new.self so_far (w.in_ok-write.ensures.writes so_far.plain refl)))
      | else-has w ↦
          has_written_to_eq took start _ c.loop-p.f c.if-has.f w.f-is
          (has_written_of_eq took start _ _ c.loop-p.f (sym (more ∙ cond-false (m p) _ _ (sym w.if-has.ensures))) so_far)
    ]
