use Rattle.std.proofs.Common.{◌≡◌, ℕ, ◌+◌, ◌<◌, ◌≤◌, List, [], ◌∷◌, ◌++◌, length, get_or, take, sym, ap, ◌∙◌, append-nil, length-append, arith}
use Rattle.std.proofs.lemmas.List.{length-take-le}
use Rattle.std.proofs.lemmas.List.Elements.{filter_more}
use Rattle.std.proofs.lemmas.List.Sums.{count_by-le-length, count_by_more_no, length-filter}
use Rattle.names.specs.Names.{class, forbids, is_kept, is_forbidden, short}
use Rattle.names.proofs.Zeros.{padded_more}
use Rattle.names.proofs.short_name.shortening.kept_bytes.Goals.{in-Dropped, in-Kept}
use Rattle.names.proofs.short_name.shortening.kept_bytes.Goals as goal

-- the bytes kept so far are no more than the bytes read
kept_at_most : (name : List ℕ) (i : ℕ) → i ≤ length name → length (short class (take i name)) ≤ i
kept_at_most name i h =
    let count = length-filter (is_kept class) (take i name) in
    let fewer = count_by-le-length (is_kept class) (take i name) in
    let size = length-take-le i name h in
    omega arith

pub bounds-bytes-len : goal.bounds-bytes-len
bounds-bytes-len c =
    let most = kept_at_most c.args.name.now c.loop-byte.byte-index (omega (arith, c.loop-byte-test.true)) in
    omega (arith, c.loop-byte.invariant.counted, c.loop-byte-test.true, c.requires)

pub overflow_add-len : goal.overflow_add-len
overflow_add-len c = let room = bounds-bytes-len c in omega arith

pub loop-byte-preserved : goal.loop-byte-preserved
loop-byte-preserved c =
    let name : List ℕ = c.args.name.now in
    let i : ℕ = c.loop-byte.byte-index in
    let more = filter_more (is_kept class) name i 0 c.loop-byte-test.true in
    let clean = count_by_more_no (is_forbidden class) name i 0 c.loop-byte-test.true in
    elim c.match-class_of.branch [
      | in-Dropped w ↦
          let same : short class (take (i + 1) name) ≡ short class (take i name) = simp (sym w.in-Dropped.ensures) at more ∙ append-nil _ in
          rw (w.bytes-is, w.len-is, same) record {
            allowed = clean (ap forbids (sym w.in-Dropped.ensures)) ∙ c.loop-byte.invariant.allowed;
            padded = c.loop-byte.invariant.padded;
            counted = c.loop-byte.invariant.counted;
          }
      | in-Kept w ↦
          let longer : short class (take (i + 1) name) ≡ short class (take i name) ++ get_or name i 0 ∷ [] = simp (sym w.in-Kept.ensures) at more in
          let most = kept_at_most name i (omega (arith, c.loop-byte-test.true)) in
          let room : length (short class (take i name)) < 32 = omega (arith, c.loop-byte-test.true, c.requires) in
          rw (w.bytes-is, w.len-is, longer, c.loop-byte.invariant.padded, c.loop-byte.invariant.counted) record {
            allowed = clean (ap forbids (sym w.in-Kept.ensures)) ∙ c.loop-byte.invariant.allowed;
            padded = padded_more _ (get_or name i 0) room;
            counted = sym (length-append (short class (take i name)) (get_or name i 0 ∷ []));
          }
    ]
