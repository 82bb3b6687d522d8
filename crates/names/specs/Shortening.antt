-- What a short name is, how it lies in memory, and what the shortening of a name answers.
use Rattle.std.specs.Prelude.{◌≡◌, ℕ, ◌-◌, true, false, List, [], ◌++◌, length, replicate, take, Ok, Err, Result}
use Rattle.std.proofs.Common.{ap, ◌∙◌}
use Rattle.std.proofs.Math.Bool.{Bool-set}
use Rattle.std.proofs.Math.Seq.{take-append_seam}
use mathlib.Core.Path.{PathP}
use mathlib.Core.HLevel.{is_prop→PathP}
use Rattle.names.specs.Names.{class, short, is_short, has_forbidden}
use Rattle.names.specs.Refusals.{refusal_number}
use Rattle.names.specs.declared.name_refusal.NameRefusal.{NameRefusal}
use Rattle.names.specs.declared.name_refusal.NameRefusal.TheVariants.{Forbidden}

-- a short form: its bytes, and that they are one
pub record ShortForm : Type 0 where
  pub bytes : List ℕ
  pub short : is_short class bytes ≡ true

-- the 32 bytes of a short form in memory: zeros follow it
abbrev pub padded : List ℕ → List ℕ
padded name = name ++ replicate (32 - length name) 0

-- a short form is found again at the front of those bytes
pub padded_short : (name : List ℕ) → is_short class name ≡ true → is_short class (take (length name) (padded name)) ≡ true
padded_short name short = ap (is_short class) (take-append_seam name _) ∙ short

-- that bytes are a short form has one proof
pub same_short : {one other : List ℕ} (e : one ≡ other) (p : is_short class one ≡ true) (q : is_short class other ≡ true) → PathP (λ i. is_short class (e i) ≡ true) p q
same_short e p q = is_prop→PathP (λ i. is_short class (e i) ≡ true) (λ i. Bool-set (is_short class (e i)) true) p q

-- an answer as numbers: 0 and the short form, or the refusal's number and nothing
abbrev pub answer : Result ShortForm NameRefusal → ℕ × List ℕ
answer (Ok name) = (0, name.bytes)
answer (Err refusal) = (refusal_number refusal, [])

-- what reading a name through gives: its kept bytes as they lie in memory, and how many they are, unless a byte is forbidden
abbrev pub KeptBytes : Result (List ℕ × ℕ) NameRefusal → List ℕ → Type 0
KeptBytes (Ok kept) name = (has_forbidden class name ≡ false) × ((kept.0 ≡ padded (short class name)) × (kept.1 ≡ length (short class name)))
KeptBytes (Err refusal) name = (has_forbidden class name ≡ true) × (refusal ≡ Forbidden)
