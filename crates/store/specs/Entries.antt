-- What a store holds: a set of entries, as a list in the store's own order.
use Rattle.std.specs.Prelude.{ℕ, suc, Bool, true, false, cond, not, ◌&&◌, ◌||◌, List, [], ◌∷◌, length, Some, None, sum_by, filter, Option, ◌==◌, nat_eq, nat_le}
use Rattle.std.specs.Str.{bytes_eq}
use Rattle.names.specs.Names.{is_short}
use Rattle.names.specs.declared.byte_class.ByteClass.{ByteClass}

-- an entry: its partition, its name as a short form, and its record number
pub record Entry : Type 0 where
  pub partition : ℕ
  pub name : List ℕ
  pub number : ℕ

abbrev pub entry_of : ℕ → List ℕ → ℕ → Entry
entry_of p n k = record { partition = p; name = n; number = k }

-- what never changes of a store: its capacity, and the weight of a name of each length
pub record Room : Type 0 where
  pub capacity : ℕ
  pub weight : ℕ → ℕ

-- whether the key of an entry is the partition p and the name n
abbrev pub has_key : ℕ → List ℕ → Entry → Bool
has_key p n e = p == e.partition && bytes_eq n e.name

-- the record number under a key, or absent
abbrev pub found : List Entry → ℕ → List ℕ → Option ℕ
found [] p n = None
found (e ∷ es) p n = cond (has_key p n e) (Some e.number) (found es p n)

-- whether there is an entry under a key
abbrev pub holds : List Entry → ℕ → List ℕ → Bool
holds [] p n = false
holds (e ∷ es) p n = has_key p n e || holds es p n

-- the entries but for the one under a key
abbrev pub without : List Entry → ℕ → List ℕ → List Entry
without [] p n = []
without (e ∷ es) p n = cond (has_key p n e) es (e ∷ without es p n)

-- the place of the entry under a key, or how many entries there are
abbrev pub index : List Entry → ℕ → List ℕ → ℕ
index [] p n = 0
index (e ∷ es) p n = cond (has_key p n e) 0 (suc (index es p n))

-- the entries of a partition
abbrev pub inside : List Entry → ℕ → List Entry
inside es p = filter (λ e. nat_eq p e.partition) es

-- the weights of all entries
abbrev pub used : (ℕ → ℕ) → List Entry → ℕ
used weight es = sum_by (λ e. weight (length e.name)) es

-- whether an entry may have this key, where cls gives the class of each byte: a partition up to 511 and a short form
abbrev pub is_key : (ℕ → ByteClass) → ℕ → List ℕ → Bool
is_key cls p n = nat_le p 511 && is_short cls n

-- every entry may have its key, and no two have the same
abbrev pub sound : (ℕ → ByteClass) → List Entry → Bool
sound cls [] = true
sound cls (e ∷ es) = is_key cls e.partition e.name && (not (holds es e.partition e.name) && sound cls es)
