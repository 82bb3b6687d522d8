-- Lines of text, and how bytes are printed.
use Rattle.std.specs.Prelude.{◌≡◌, ℕ, ◌+◌, ◌-◌, ◌/◌, ◌%◌, Bool, true, cond, not, ◌&&◌, ◌||◌, List, [], ◌∷◌, length, take, drop, ◌==◌, nat_eq, nat_le}
use Rattle.std.specs.List.{ends_with}
use Rattle.std.specs.Fmt.{digit_glyph}

-- how many bytes stand before the first newline
abbrev pub line_length : List ℕ → ℕ
line_length [] = 0
line_length (b ∷ bs) = cond (b == 10) 0 (line_length bs + 1)

-- the first line of a text, without its end, and what follows the end
abbrev pub FirstLine : List ℕ → List ℕ → List ℕ → Type 0
FirstLine text line rest = (line ≡ take (line_length text) text) × (rest ≡ drop (line_length text + 1) text)

-- a line without the newline at its end
abbrev pub without_newline : List ℕ → List ℕ
without_newline line = cond (ends_with nat_eq line (10 ∷ [])) (take (length line - 1) line) line

-- printable ASCII, but for the percent sign and the quote
abbrev pub plain : ℕ → Bool
plain b = (nat_le 0x20 b && nat_le b 0x7E) && (not (b == 0x25) && not (b == 0x22))

-- an ASCII letter or digit
abbrev pub alphanumeric : ℕ → Bool
alphanumeric b = (nat_le 0x30 b && nat_le b 0x39) || ((nat_le 0x41 b && nat_le b 0x5A) || (nat_le 0x61 b && nat_le b 0x7A))

-- a byte as itself, or as a percent sign and two hexadecimal digits
abbrev pub byte_text : Bool → ℕ → List ℕ
byte_text as_itself b = cond as_itself (b ∷ []) (37 ∷ digit_glyph true (b / 16) ∷ digit_glyph true (b % 16) ∷ [])
