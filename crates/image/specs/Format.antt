-- A packed image as it is written: the records of its entries, one after the other, and then zeros.
use Rattle.std.specs.Prelude.{◌≡◌, ℕ, ◌+◌, ◌/◌, ◌%◌, ◌^◌, Bool, true, List, [], ◌∷◌, ◌++◌, length, replicate, nat_lt}
use Rattle.std.specs.List.{list_all, flat_map}
use Rattle.names.specs.declared.byte_class.ByteClass.{ByteClass}
use Rattle.store.specs.Entries.{Entry, Room, sound}

-- a field: its tag, the length of its content in two bytes, most significant first, and the content
abbrev pub field : ℕ → List ℕ → List ℕ
field tag content = tag ∷ length content / 256 ∷ length content % 256 ∷ content

-- a number in two bytes, most significant first
abbrev pub two_bytes : ℕ → List ℕ
two_bytes n = n / 256 ∷ n % 256 ∷ []

-- a number in eight bytes, most significant first
abbrev pub eight_bytes : ℕ → List ℕ
eight_bytes n =
    n / 72057594037927936 % 256 ∷ n / 281474976710656 % 256 ∷ n / 1099511627776 % 256 ∷ n / 4294967296 % 256 ∷ n / 16777216 % 256 ∷ n / 65536 % 256 ∷ n / 256 % 256 ∷ n % 256 ∷ []

-- the record of an entry: the fields of its partition, its name and its record number
abbrev pub record_bytes : Entry → List ℕ
record_bytes e = field 1 (two_bytes e.partition) ++ (field 2 e.name ++ field 3 (eight_bytes e.number))

-- the records of entries, one after the other
abbrev pub encoded : List Entry → List ℕ
encoded es = flat_map record_bytes es

-- the weight of a name of len bytes, which is the length of its entry's record
abbrev pub weight : ℕ → ℕ
weight len = 19 + len

-- what an image of so many bytes has room for
abbrev pub image_room : ℕ → Room
image_room capacity = record { capacity = capacity; weight = weight }

-- whether the record number of an entry has at most 64 bits
abbrev pub number_fits : Entry → Bool
number_fits e = nat_lt e.number (2 ^ 64)

-- bs is the image of the entries es: their records, and then zeros. Every key is a good one, none comes twice, and every number fits
pub record Packed (cls : ℕ → ByteClass) (bs : List ℕ) (es : List Entry) : Type 0 where
  pub free : ℕ
  pub shape : bs ≡ encoded es ++ replicate free 0
  pub keys : sound cls es ≡ true
  pub numbers : list_all number_fits es ≡ true
