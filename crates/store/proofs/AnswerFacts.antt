-- Each answer of a put and of a move, from its conditions; and that no answer depends on the order.
use Rattle.std.proofs.Common.{◌≡◌, ℕ, ◌+◌, ◌<◌, ◌≤◌, Bool, true, false, cond, ◌&&◌, ltb, leb, List, [], ◌∷◌, length, Ok, Err, refl, ap, ◌∙◌, arith}
use Rattle.std.proofs.lemmas.List.Sums.{sum_by-cons}
use Rattle.std.proofs.lemmas.Bool.{lt-ltb, le-ltb, le-leb, and_left, and_from}
use Rattle.names.specs.declared.byte_class.ByteClass.{ByteClass}
use Rattle.store.specs.Entries.{Entry, Room, holds, is_key, used}
use Rattle.store.specs.Calls.{put_answer, move_answer}
use Rattle.store.proofs.Shuffles.{Perm, perm_fold}
use Rattle.store.proofs.KeyFacts.{perm_holds}
use Rattle.store.specs.declared.answers.PutError.TheVariants.{Present, Full, BadKey}
use Rattle.store.specs.declared.answers.MoveError.TheVariants.{Absent, Present as Taken}

module _ (cls : ℕ → ByteClass) (room : Room) (es : List Entry) (p : ℕ) (n : List ℕ) (k : is_key cls p n ≡ true) where
  pub put_present : holds es p n ≡ true → put_answer cls room es p n ≡ Err Present
  put_present h = simp (k, h)

  pub put_full : holds es p n ≡ false → room.capacity < used room.weight es + room.weight (length n) → put_answer cls room es p n ≡ Err Full
  put_full h l = let b = lt-ltb _ _ l in simp (k, h, b)

  pub put_added : holds es p n ≡ false → used room.weight es + room.weight (length n) ≤ room.capacity → put_answer cls room es p n ≡ Ok tt
  put_added h l = let b = le-ltb _ _ l in simp (k, h, b)

module _ (es : List Entry) (p q : ℕ) (n : List ℕ) where
  pub move_absent : holds es p n ≡ false → move_answer es p q n ≡ Err Absent
  move_absent h = let b = and_left _ (leb q 511) h in simp b

  pub move_taken : holds es p n ≡ true → q ≤ 511 → holds es q n ≡ true → move_answer es p q n ≡ Err Taken
  move_taken h l t = let b = and_from _ _ h (le-leb _ _ l) in simp (b, t)

  pub move_moved : holds es p n ≡ true → q ≤ 511 → holds es q n ≡ false → move_answer es p q n ≡ Ok tt
  move_moved h l t = let b = and_from _ _ h (le-leb _ _ l) in simp (b, t)

pub used_ones : (es : List Entry) → used (λ _. 1) es ≡ length es
used_ones [] = refl
used_ones (e ∷ es) = sum_by-cons (λ (_ : Entry). 1) e es ∙ omega (arith, used_ones es)

-- the answers do not depend on the order
pub perm_used : (w : ℕ → ℕ) {xs ys : List Entry} → Perm xs ys → used w xs ≡ used w ys
perm_used w = perm_fold (used w) (λ e n. w (length e.name) + n) (λ e l. sum_by-cons (λ (e : Entry). w (length e.name)) e l) (λ a b y. omega arith)

pub put_answer_perm : (cls : ℕ → ByteClass) (room : Room) (p : ℕ) (n : List ℕ) {xs ys : List Entry} → Perm xs ys → put_answer cls room xs p n ≡ put_answer cls room ys p n
put_answer_perm cls room p n {xs} {ys} h =
    ap (λ (b : Bool). cond (is_key cls p n) (cond b (Err Present) (cond (ltb room.capacity (used room.weight xs + room.weight (length n))) (Err Full) (Ok tt))) (Err BadKey)) (perm_holds p n h)
    ∙ ap (λ (u : ℕ). cond (is_key cls p n) (cond (holds ys p n) (Err Present) (cond (ltb room.capacity (u + room.weight (length n))) (Err Full) (Ok tt))) (Err BadKey)) (perm_used room.weight h)

pub move_answer_perm : (p q : ℕ) (n : List ℕ) {xs ys : List Entry} → Perm xs ys → move_answer xs p q n ≡ move_answer ys p q n
move_answer_perm p q n {xs} {ys} h =
    ap (λ (b : Bool). cond (b && leb q 511) (cond (holds xs q n) (Err Taken) (Ok tt)) (Err Absent)) (perm_holds p n h)
    ∙ ap (λ (b : Bool). cond (holds ys p n && leb q 511) (cond b (Err Taken) (Ok tt)) (Err Absent)) (perm_holds q n h)
