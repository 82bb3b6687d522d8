-- One word more in a list of partitions.
use Rattle.std.proofs.Common.{◌≡◌, ℕ, Bool, true, false, cond, ◌&&◌, ◌||◌, eqb, ltb, List, [], ◌∷◌, ◌++◌, is_ok, Ok, Err, Result, sym, refl, ap, ◌∙◌}
use Rattle.std.proofs.lemmas.Bool.{and_parts, and_from}
use Rattle.wheels.specs.declared.fault.Problem.{Problem}
use Rattle.wheels.specs.declared.fault.Problem.TheVariants.{NoPartition}
use Rattle.wheels.specs.Readings.{as_partition, number_reading, partition_reading, is_read, some_writes, all_write}

or_last : (a b c : Bool) → (a || (b || c)) ≡ ((a || b) || c)
or_last true b c = refl
or_last false b c = refl

or_swap : (a : Bool) → (a || false) ≡ (false || a)
or_swap true = refl
or_swap false = refl

some_more : (words : List (List ℕ)) (w : List ℕ) (q : ℕ) → some_writes (words ++ (w ∷ [])) q ≡ (some_writes words q || is_read (partition_reading w) q)
some_more [] w q = or_swap (is_read (partition_reading w) q)
some_more (x ∷ xs) w q =
    ap (λ (b : Bool). is_read (partition_reading x) q || b) (some_more xs w q)
    ∙ or_last (is_read (partition_reading x) q) (some_writes xs q) (is_read (partition_reading w) q)

pub all_write_more : (words : List (List ℕ)) (w : List ℕ) (p : ℕ) → partition_reading w ≡ Ok p → all_write words ≡ true → all_write (words ++ (w ∷ [])) ≡ true
all_write_more [] w p e h = ap (λ (r : Result ℕ Problem). is_ok r && true) e
all_write_more (x ∷ xs) w p e h =
    let parts = and_parts (is_ok (partition_reading x)) (all_write xs) h in
    and_from (is_ok (partition_reading x)) (all_write (xs ++ (w ∷ []))) parts.0 (all_write_more xs w p e parts.1)

-- where a partition is read, it is below 512
small : Result ℕ Problem → Bool
small (Ok n) = ltb n 512
small (Err _) = true

always_small : (r : Result ℕ Problem) → small (as_partition r) ≡ true
unfolding small
always_small (Ok n) = go (ltb n 512) refl
  where
    go : (b : Bool) → ltb n 512 ≡ b → small (cond b (Ok n) (Err NoPartition)) ≡ true
    go true e = e
    go false _ = refl
always_small (Err _) = refl

-- what adding the partition of one word more leads to
pub some_writes_more : (words : List (List ℕ)) (w : List ℕ) (p q : ℕ) (before after : Bool) → partition_reading w ≡ Ok p → before ≡ some_writes words q
    → after ≡ (before || (ltb p 512 && eqb q p)) → after ≡ some_writes (words ++ (w ∷ [])) q
unfolding small
some_writes_more words w p q before after e old new =
    new
    ∙ ap (λ (b : Bool). before || (b && eqb q p)) (sym (ap small e) ∙ always_small (number_reading w))
    ∙ ap (λ (b : Bool). b || eqb q p) old
    ∙ ap (λ (r : Result ℕ Problem). some_writes words q || is_read r q) (sym e)
    ∙ sym (some_more words w q)
