-- Sensor names: the classes of their bytes, their short forms, and which names are refused.
use Rattle.std.specs.Prelude.{ℕ, Bool, true, false, cond, not, ◌&&◌, ◌||◌, List, [], length, count_by, filter, ◌==◌, nat_le, nat_lt}
use Rattle.std.specs.List.{list_all}
use Rattle.names.specs.declared.byte_class.ByteClass.{ByteClass}
use Rattle.names.specs.declared.byte_class.ByteClass.TheVariants.{Forbidden, Dropped, Kept}

-- the byte table: 0x00 and 0x2F are forbidden, 0x20 is dropped, every other byte is kept
abbrev pub class : ℕ → ByteClass
class b = cond (b == 0x00 || b == 0x2F) Forbidden (cond (b == 0x20) Dropped Kept)

-- whether bytes of a class are kept
abbrev pub keeps : ByteClass → Bool
keeps Forbidden = false
keeps Dropped = false
keeps Kept = true

-- whether bytes of a class are forbidden
abbrev pub forbids : ByteClass → Bool
forbids Forbidden = true
forbids Dropped = false
forbids Kept = false

-- whether a byte is kept, where cls gives the class of each byte
abbrev pub is_kept : (ℕ → ByteClass) → ℕ → Bool
is_kept cls b = keeps (cls b)

-- whether a byte is forbidden
abbrev pub is_forbidden : (ℕ → ByteClass) → ℕ → Bool
is_forbidden cls b = forbids (cls b)

-- a name's short form: its kept bytes in their order. Two names are the same where their short forms are equal
abbrev pub short : (ℕ → ByteClass) → List ℕ → List ℕ
short cls raw = filter (is_kept cls) raw

-- whether a name has 1 to 32 bytes
abbrev pub length_fits : List ℕ → Bool
length_fits name = nat_le 1 (length name) && nat_le (length name) 32

-- whether a name is a short form: 1 to 32 bytes, all of them kept
abbrev pub is_short : (ℕ → ByteClass) → List ℕ → Bool
is_short cls name = length_fits name && list_all (is_kept cls) name

-- whether a name has a forbidden byte
abbrev pub has_forbidden : (ℕ → ByteClass) → List ℕ → Bool
has_forbidden cls raw = nat_lt 0 (count_by (is_forbidden cls) raw)

-- the number that a name is refused with: 3 where its length is 0 or above 32, else 4 where it has a forbidden byte,
-- else 5 where it has no kept byte, else 0, which is no refusal
abbrev pub name_refusal : (ℕ → ByteClass) → List ℕ → ℕ
name_refusal cls raw =
    cond (not (length_fits raw)) 3
    (cond (has_forbidden cls raw) 4 (cond (length (short cls raw) == 0) 5 0))

-- what a name is answered: 0 and its short form, or the number that it is refused with and nothing
abbrev pub shortened : (ℕ → ByteClass) → List ℕ → ℕ × List ℕ
shortened cls raw = cond (name_refusal cls raw == 0) (0, short cls raw) (name_refusal cls raw, [])
