-- The first line of a text, by the place of its first newline.
use Rattle.std.proofs.Common.{◌≡◌, ℕ, suc, zero, min, ◌+◌, false, List, [], ◌∷◌, ◌++◌, ◌==◌, length, take, drop, refl, arith, ⊎_elim}
use Rattle.std.proofs.lemmas.Bool.{cases_lt}
use Rattle.std.proofs.lemmas.Grind.{common_steps}
use Rattle.std.proofs.lemmas.List.{drop_more, take_at, take_more, take_min, drop_min}
use Rattle.std.specs.List.{AllWithin, IsFirstMatchOrLen}
use Rattle.wheels.specs.Texts.{line_length, without_newline, FirstLine}

-- the first newline's place, or the text's length
line_length_at : (text : List ℕ) (i : ℕ) → IsFirstMatchOrLen (λ b. b == 10) text i → line_length text ≡ i
line_length_at [] zero h = refl
line_length_at [] (suc i) h = grind (arith, common_steps, h.0 0 10)
line_length_at (b ∷ bs) zero h = grind (arith, common_steps, h.1 (omega arith) 0)
line_length_at (b ∷ bs) (suc i) h =
    let more = line_length_at bs i ((λ k d _ l. h.0 (suc k) d (omega arith) (omega arith)), (λ l. h.1 (omega arith))) in
    grind (arith, common_steps, h.0 0 0)

-- a line keeps an end that is no newline
kept : (line : List ℕ) → AllWithin (λ b. (b == 10) ≡ false) line 0 (length line) → without_newline line ≡ line
kept [] _ = refl
kept (x ∷ xs) h = grind (arith, common_steps, drop_more (x ∷ xs) (length xs) 0, h (length xs) 0)

-- what ends at that place, without its newline
ended : (text : List ℕ) (i : ℕ) → IsFirstMatchOrLen (λ b. b == 10) text i → without_newline (take (i + 1) text) ≡ take i text
ended text i h =
    ⊎_elim
    (λ l. grind (arith, common_steps, take_more text i 10, h.1 l 10))
    (λ l. let all = kept text (λ k d _ m. h.0 k d (omega arith) (omega arith)) in grind (arith, common_steps))
    (cases_lt i (length text))

-- a piece that reaches through the first newline, or to the end
pub first_line : (text piece rest : List ℕ) (i : ℕ) → text ≡ piece ++ rest → length piece ≡ min (i + 1) (length text) → IsFirstMatchOrLen (λ b. b == 10) text i
    → FirstLine text (without_newline piece) (drop (length piece) text)
first_line text piece rest i e n h =
    let whole : piece ≡ take (i + 1) text = cc (take_min (i + 1) text, take_at piece rest (length piece) refl) in
    rw (line_length_at text i h) (rw whole (ended text i h), rw n (drop_min (i + 1) text))
