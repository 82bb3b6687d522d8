-- The refusals of names: their numbers and words.
use Rattle.std.specs.Prelude.{ℕ, List, codes}
use Rattle.names.specs.declared.name_refusal.NameRefusal.{NameRefusal}
use Rattle.names.specs.declared.name_refusal.NameRefusal.TheVariants.{Length, Forbidden, Empty}

-- the number of a refusal
abbrev pub refusal_number : NameRefusal → ℕ
refusal_number Length = 3
refusal_number Forbidden = 4
refusal_number Empty = 5

-- a refusal in words
abbrev pub refusal_words : NameRefusal → List ℕ
refusal_words Length = codes "the length is 0 or above 32"
refusal_words Forbidden = codes "it has a forbidden byte"
refusal_words Empty = codes "it has no kept byte"
