-- What a word of the arguments is read as.
use Rattle.std.specs.Prelude.{◌≡◌, ℕ, ◌^◌, Bool, true, false, cond, ◌&&◌, ◌||◌, List, [], ◌∷◌, length, is_ok, Ok, Err, Result, ◌==◌, nat_lt}
use Rattle.index.specs.Numbers.{Numbers}
use Rattle.std.specs.List.{join_with_byte, list_all}
use Rattle.std.specs.Str.Parse.{digits_value}
use Rattle.std.specs.Str.{all_ascii_digits}
use Rattle.wheels.specs.declared.fault.Problem.{Problem}
use Rattle.wheels.specs.declared.fault.Problem.TheVariants.{NoNumber, TooLarge, NoPartition}

-- one decimal digit or more, and nothing else
abbrev pub is_numeral : List ℕ → Bool
is_numeral word = nat_lt 0 (length word) && all_ascii_digits word

-- the number that a word writes, or what is wrong with the word
abbrev pub number_reading : List ℕ → Result ℕ Problem
number_reading word =
    cond (is_numeral word) (cond (nat_lt (digits_value 10 word) (2 ^ 64)) (Ok (digits_value 10 word)) (Err TooLarge)) (Err NoNumber)

-- the same for a number that is a partition
abbrev pub as_partition : Result ℕ Problem → Result ℕ Problem
as_partition (Ok n) = cond (nat_lt n 512) (Ok n) (Err NoPartition)
as_partition (Err problem) = Err problem

-- the partition whose number a word writes, or what is wrong with the word
abbrev pub partition_reading : List ℕ → Result ℕ Problem
partition_reading word = as_partition (number_reading word)

-- q is the number that was read
abbrev pub is_read : Result ℕ Problem → ℕ → Bool
is_read (Ok n) q = q == n
is_read (Err _) q = false

-- some word writes the partition q
abbrev pub some_writes : List (List ℕ) → ℕ → Bool
some_writes [] q = false
some_writes (word ∷ words) q = is_read (partition_reading word) q || some_writes words q

-- every word writes a partition
abbrev pub all_write : List (List ℕ) → Bool
all_write words = list_all (λ word. is_ok (partition_reading word)) words

-- the text is words with commas between them, each writes a partition, and the numbers are those partitions
abbrev pub ListsAll : List ℕ → Numbers → Type 0
ListsAll text numbers = (words : List (List ℕ)) × (text ≡ join_with_byte 44 words) × (all_write words ≡ true) × ((q : ℕ) → numbers q ≡ some_writes words q)
