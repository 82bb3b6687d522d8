-- Which slots a table may lie in, and what the check of slots answers.
use Rattle.std.specs.Prelude.{ℕ, Bool, cond, List, Ok, Err, codes, Result, nat_le}
use Rattle.slots.specs.declared.making.SlotsRefusal.{SlotsRefusal}
use Rattle.slots.specs.declared.making.SlotsRefusal.TheVariants.{TooMany}

-- whether a table may lie in n slots
abbrev pub slots_fit : ℕ → Bool
slots_fit n = nat_le n 1048576

-- the number that n slots are refused with, or 0, which is no refusal
abbrev pub slots_refusal : ℕ → ℕ
slots_refusal n = cond (slots_fit n) 0 32

-- how many of n slots a table lies in: all of them, and none of those that are refused
abbrev pub slots_taken : ℕ → ℕ
slots_taken n = cond (slots_fit n) n 0

-- the number of a refusal
abbrev pub refusal_number : SlotsRefusal → ℕ
refusal_number TooMany = 32

-- a refusal in words
abbrev pub refusal_words : SlotsRefusal → List ℕ
refusal_words TooMany = codes "there are too many slots"

-- an answer as a number: 0, or the number of the refusal
abbrev pub slots_answer : Result (Unit {0}) SlotsRefusal → ℕ
slots_answer (Ok done) = 0
slots_answer (Err refusal) = refusal_number refusal
