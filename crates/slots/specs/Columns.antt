-- The columns of the slots: their items, and for each of two families of chains the heads, the nexts and the codes, which say
-- in which chain each slot is.
use Rattle.std.specs.Prelude.{◌≡◌, ℕ, ◌+◌, ◌*◌, ◌%◌, cond, List, map, length, take, fold, ◌==◌, ◌≢◌, slice_index}
use Rattle.slots.specs.declared.slot.Item.{Item}
use Rattle.slots.specs.declared.slot.Slot.{Slot}
use Rattle.slots.specs.Chains.{Heads, Nexts}

-- what the chains multiply by: a prime near 2 ^ 32 divided by the golden ratio
abbrev pub spread : ℕ
spread = 2654435761

-- the hash of a key: its partition and then each byte of its name are worked in
abbrev pub hash : ℕ → List ℕ → ℕ
hash p name = fold (λ a b. (a * spread + b) % 4294967296) p name

-- the chain of a key, among n
abbrev pub key_code : ℕ → ℕ → List ℕ → ℕ
key_code n p name = hash p name % n

-- the chain of a rank in partition p, among n
abbrev pub rank_code : ℕ → ℕ → ℕ → ℕ
rank_code n p rank = (p * spread + rank) % n

-- the chain that an item is in: in family 0 that of its key, in family 1 that of its rank; where it is vacant, n, which is none
abbrev pub code : ℕ → ℕ → Item → ℕ
code k n r =
    cond (r.len == 0) n (cond (k == 0) (key_code n r.partition (take r.len r.name)) (rank_code n r.partition r.rank))

-- the items in the slots
abbrev pub items : List Slot → List Item
items ss = map (λ s. s.item) ss

-- the head in a slot, in family k
abbrev pub head_in : ℕ → Slot → ℕ
head_in k s = slice_index (map (λ l. l.head.0) s.links) k

-- the next in a slot, in family k
abbrev pub next_in : ℕ → Slot → ℕ
next_in k s = slice_index (map (λ l. l.next.0) s.links) k

-- the heads in the slots, in family k
abbrev pub head_column : ℕ → List Slot → List ℕ
head_column k ss = map (head_in k) ss

-- the nexts in the slots, in family k
abbrev pub next_column : ℕ → List Slot → List ℕ
next_column k ss = map (next_in k) ss

-- the head of chain b
abbrev pub heads : ℕ → List Slot → ℕ → ℕ
heads k ss b = slice_index (head_column k ss) b

-- what is next after slot j
abbrev pub nexts : ℕ → List Slot → ℕ → ℕ
nexts k ss j = slice_index (next_column k ss) j

-- the chain that slot j is in
abbrev pub codes : ℕ → ℕ → List Item → ℕ → ℕ
codes k n rs j = slice_index (map (code k n) rs) j

-- the heads and nexts of family k are as the codes c of the slots say
abbrev pub Chained : ℕ → (ℕ → ℕ) → List Slot → Type 0
Chained k c ss = Heads c (length ss) (length ss) (heads k ss) × Nexts c (length ss) (length ss) (nexts k ss)

-- they are as the items in the slots say
abbrev pub Linked : ℕ → List Slot → Type 0
Linked k ss = Chained k (codes k (length ss) (items ss)) ss

-- all but the heads and nexts of family k is as it was
pub record Framed (k : ℕ) (ss ss' : List Slot) : Type 0 where
  pub items : items ss' ≡ items ss
  pub heads : (q : ℕ) → (q ≢ k) → head_column q ss' ≡ head_column q ss
  pub nexts : (q : ℕ) → (q ≢ k) → next_column q ss' ≡ next_column q ss

-- how long the name in each slot is: 0 where the slot is vacant
abbrev pub lengths : List Slot → ℕ → ℕ
lengths ss j = slice_index (map (λ r. r.len) (items ss)) j

-- in both families
abbrev pub BothLinked : List Slot → Type 0
BothLinked ss = Linked 0 ss × Linked 1 ss

-- the partition in each slot
abbrev pub partitions : List Slot → ℕ → ℕ
partitions ss j = slice_index (map (λ r. r.partition) (items ss)) j

-- the rank in each slot
abbrev pub ranks : List Slot → ℕ → ℕ
ranks ss j = slice_index (map (λ r. r.rank) (items ss)) j
