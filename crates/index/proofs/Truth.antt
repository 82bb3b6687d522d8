-- Tests that are true.
use Rattle.std.proofs.Common.{◌≡◌, Bool, true, false, ◌||◌, T, ◌⊎◌, refl, inl, inr}

pub T_true : {b : Bool} → T b → b ≡ true
T_true {b} = go b
  where
    go : (b : Bool) → T b → b ≡ true
    go true t = refl
    go false t = absurd t

pub T_same : (a b : Bool) → (T a → T b) → (T b → T a) → a ≡ b
T_same true true h k = refl
T_same true false h k = absurd (h tt)
T_same false true h k = absurd (k tt)
T_same false false h k = refl

pub T_or : (a b : Bool) → T (a || b) → T a ⊎ T b
T_or true b t = inl tt
T_or false b t = inr t

pub T_left : (a b : Bool) → T a → T (a || b)
T_left true b t = tt
T_left false b t = absurd t

pub T_right : (a b : Bool) → T b → T (a || b)
T_right true b t = tt
T_right false b t = t
