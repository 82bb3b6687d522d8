-- Bad keys, and the entries of one partition.
use Rattle.std.proofs.Common.{◌≡◌, ℕ, zero, suc, ◌<◌, Bool, true, false, cond, ◌&&◌, ◌||◌, eqb, leb, List, [], ◌∷◌, Some, Option, Err, sym, refl, ap, ◌∙◌, subst, arith}
use Rattle.std.specs.List.{slice_get}
use Rattle.std.proofs.lemmas.Bool.{and_parts, and_from, and_right, both_ways, cond-false, leb-true, ne_eqb, eqb-true, or_left, or_right}
use Rattle.names.specs.Names.{is_short}
use Rattle.names.specs.declared.byte_class.ByteClass.{ByteClass}
use Rattle.store.specs.Calls.{move_answer}
use Rattle.store.specs.Entries.{Entry, has_key, holds, inside, is_key, sound}
use Rattle.store.specs.Laws.{Unanswered}
use Rattle.store.specs.declared.answers.MoveError.TheVariants.{Absent}
use Rattle.store.proofs.AnswerFacts.{move_absent}
use Rattle.store.proofs.KeyFacts.{unheld, key_from}
use Rattle.store.proofs.SoundFacts.{sound_parts, holds_key}

module _ (cls : ℕ → ByteClass) where
  -- a partition above 511 has no entry
  none_above : (es : List Entry) (p : ℕ) → sound cls es ≡ true → 511 < p → inside es p ≡ []
  none_above [] p s l = refl
  none_above (e ∷ es) p s l =
      let k = sound_parts cls e es s in
      let low = leb-true e.partition 511 (and_parts (leb e.partition 511) (is_short cls e.name) k.good).0 in
      cond-false (eqb p e.partition) (e ∷ inside es p) (inside es p) (ne_eqb p e.partition (omega arith)) ∙ none_above es p k.rest l

  -- no entry is under a bad key
  not_bad : (es : List Entry) (p : ℕ) (n : List ℕ) → sound cls es ≡ true → is_key cls p n ≡ false → holds es p n ≡ false
  not_bad es p n s b = by (holds es p n) refl
    where
      by : (t : Bool) → holds es p n ≡ t → holds es p n ≡ false
      by true h = absurd (both_ways (is_key cls p n) b (holds_key cls es p n s h))
      by false h = h

  -- a move to a bad key: its partition is above 511, or its name is no short form
  not_to : (es : List Entry) (p q : ℕ) (n : List ℕ) → sound cls es ≡ true → is_key cls p n ≡ false → move_answer es q p n ≡ Err Absent
  not_to es p q n s b = by (leb p 511) refl (is_short cls n) refl
    where
      by : (t : Bool) → leb p 511 ≡ t → (u : Bool) → is_short cls n ≡ u → move_answer es q p n ≡ Err Absent
      by true h true k = absurd (both_ways (is_key cls p n) b (and_from _ _ h k))
      by true h false k = move_absent es q p n (not_bad es q n s (and_right (leb q 511) (is_short cls n) k))
      by false h u k = cond-false (holds es q n && leb p 511) _ (Err Absent) (and_right (holds es q n) (leb p 511) h)

  pub unanswered : (es : List Entry) (p : ℕ) (n : List ℕ) → sound cls es ≡ true → is_key cls p n ≡ false → Unanswered es p n
  unanswered es p n s b =
      let h = not_bad es p n s b in
      record {
        finds = (unheld es p n h).gives;
        takes = (unheld es p n h).leaves;
        moves_from = λ q. move_absent es p q n h;
        moves_to = λ q. not_to es p q n s b;
        lists = none_above es p s;
      }

  -- an entry of a partition is held under its name
  held_inside : (es : List Entry) (p k : ℕ) (b : Entry) → slice_get (inside es p) k ≡ Some b → holds es p b.name ≡ true
  held_inside [] p k b h = absurd (let z : ◌≡◌ {A = ℕ} 0 1 = cc in omega arith)
  held_inside (e ∷ es) p k b h = by (eqb p e.partition) refl k h (held_inside es p)
    where
      by : (t : Bool) → eqb p e.partition ≡ t → (k : ℕ) → slice_get (cond t (e ∷ inside es p) (inside es p)) k ≡ Some b → ((k : ℕ) (b : Entry) → slice_get (inside es p) k ≡ Some b → holds es p b.name ≡ true) → (has_key p b.name e || holds es p b.name) ≡ true
      by true q zero h f = or_left _ _ (key_from p b.name e (eqb-true p e.partition q) (ap (λ (x : Entry). x.name) (the_same e b h)))
        where
          the_same : (x y : Entry) → ◌≡◌ {A = Option Entry} (Some x) (Some y) → y ≡ x
          the_same x y z = cc
      by true q (suc k) h f = or_right _ _ (f k b h)
      by false q k h f = or_right _ _ (f k b h)

  pub listed_once : (es : List Entry) (p j k : ℕ) (a b : Entry) → sound cls es ≡ true → slice_get (inside es p) j ≡ Some a → slice_get (inside es p) k ≡ Some b → a.name ≡ b.name → j ≡ k
  listed_once [] p j k a b s h i e = absurd (let z : ◌≡◌ {A = ℕ} 0 1 = cc in omega arith)
  listed_once (x ∷ es) p j k a b s h i e = by (eqb p x.partition) refl j k h i (listed_once es p)
    where
      -- the first entry's name does not come again
      again : (m : ℕ) (c : Entry) → p ≡ x.partition → c.name ≡ x.name → slice_get (inside es p) m ≡ Some c → ⊥
      again m c q n l =
          both_ways (holds es x.partition x.name) (sound_parts cls x es s).alone (subst (λ (z : ℕ). holds es z x.name ≡ true) q (subst (λ (z : List ℕ). holds es p z ≡ true) n (held_inside es p m c l)))

      by : (t : Bool) → eqb p x.partition ≡ t → (j k : ℕ) → slice_get (cond t (x ∷ inside es p) (inside es p)) j ≡ Some a → slice_get (cond t (x ∷ inside es p) (inside es p)) k ≡ Some b → ((j k : ℕ) (a b : Entry) → sound cls es ≡ true → slice_get (inside es p) j ≡ Some a → slice_get (inside es p) k ≡ Some b → a.name ≡ b.name → j ≡ k) → j ≡ k
      by true q zero zero h i f = refl
      by true q zero (suc k) h i f = absurd (again k b (eqb-true p x.partition q) (let z : a ≡ x = cc in sym e ∙ ap (λ (y : Entry). y.name) z) i)
      by true q (suc j) zero h i f = absurd (again j a (eqb-true p x.partition q) (let z : b ≡ x = cc in e ∙ ap (λ (y : Entry). y.name) z) h)
      by true q (suc j) (suc k) h i f = ap suc (f j k a b (sound_parts cls x es s).rest h i e)
      by false q j k h i f = f j k a b (sound_parts cls x es s).rest h i e
