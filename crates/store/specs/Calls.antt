-- What each call of a store answers, and what it leaves.
use Rattle.std.specs.Prelude.{◌≡◌, ℕ, ◌+◌, ◌-◌, cond, ◌&&◌, List, ◌∷◌, ◌++◌, length, replicate, Some, None, Option, Ok, Err, Result, nat_le, nat_lt}
use Rattle.std.specs.List.Sorted.{IsPermutation}
use Rattle.names.specs.declared.byte_class.ByteClass.{ByteClass}
use Rattle.store.specs.Entries.{Entry, Room, entry_of, found, holds, without, used, is_key}
use Rattle.store.specs.declared.answers.ListedEntry.{ListedEntry}
use Rattle.store.specs.declared.answers.MoveError.{MoveError}
use Rattle.store.specs.declared.answers.MoveError.TheVariants.{Absent, Present as Taken}
use Rattle.store.specs.declared.answers.PutError.{PutError}
use Rattle.store.specs.declared.answers.PutError.TheVariants.{Present, Full, BadKey}

-- put: bad key; else present where the partition has the name; else full where all weights and the new one exceed the capacity; else added
abbrev pub put_answer : (ℕ → ByteClass) → Room → List Entry → ℕ → List ℕ → Result Unit PutError
put_answer cls room es p n =
    cond (is_key cls p n)
    (cond (holds es p n) (Err Present) (cond (nat_lt room.capacity (used room.weight es + room.weight (length n))) (Err Full) (Ok tt)))
    (Err BadKey)

-- the entries es' after a put of e into es: e is added in any place, or nothing changed
abbrev pub PutLeaves : Result Unit PutError → List Entry → Entry → List Entry → Type 0
PutLeaves (Ok _) es e es' = IsPermutation (e ∷ es) es'
PutLeaves (Err _) es e es' = es' ≡ es

-- the entries es' after a take from es
abbrev pub TakeLeaves : Option ℕ → List Entry → ℕ → List ℕ → List Entry → Type 0
TakeLeaves None es p n es' = es' ≡ es
TakeLeaves (Some k) es p n es' = IsPermutation (without es p n) es'

-- the record number in an answer, or 0
abbrev pub number_in : Option ℕ → ℕ
number_in None = 0
number_in (Some k) = k

-- move from p to q: absent where p has no such name or q is no partition; else present where q has the name; else moved
abbrev pub move_answer : List Entry → ℕ → ℕ → List ℕ → Result Unit MoveError
move_answer es p q n = cond (holds es p n && nat_le q 511) (cond (holds es q n) (Err Taken) (Ok tt)) (Err Absent)

-- the entries es' after a move in es: the entry is in q, or nothing changed
abbrev pub MoveLeaves : Result Unit MoveError → List Entry → ℕ → ℕ → List ℕ → List Entry → Type 0
MoveLeaves (Ok _) es p q n es' = IsPermutation (entry_of q n (number_in (found es p n)) ∷ without es p n) es'
MoveLeaves (Err _) es p q n es' = es' ≡ es

-- what is told of an entry
abbrev pub listed : Option Entry → Option ListedEntry
listed None = None
listed (Some e) = Some (record { len = length e.name; number = e.number })

-- what the caller's bytes hold then: the name and zeros up to 32 bytes, or what they held
abbrev pub padded : Option Entry → List ℕ → List ℕ
padded None old = old
padded (Some e) old = e.name ++ replicate (32 - length e.name) 0
