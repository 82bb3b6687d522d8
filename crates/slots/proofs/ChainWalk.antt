-- A walk of a chain: where it begins, where it goes on, and what it finds.
use Rattle.std.proofs.Common.{◌≡◌, ℕ, zero, suc, ◌+◌, ◌-◌, ◌<◌, ◌≤◌, Bool, true, false, cond, eqb, ltb, List, [], ◌∷◌, map, length, get_or, take, Some, None, Option, sym, refl, ap, ◌∙◌, subst, ⊎_elim, arith}
use Rattle.std.specs.List.{find, last_or, prefix_len}
use Rattle.std.specs.Option.{IfNone, IfSome, IsSomeAnd, MatchOption, is_some, option_map, unwrap_or}
use Rattle.std.proofs.lemmas.Bool.{cases_eq, eqb-true, eqb-false, ltb-true, ltb-false}
use Rattle.std.proofs.lemmas.List.{get_or-map}
use Rattle.slots.specs.declared.chains.Chain.{Chain}
use Rattle.slots.specs.declared.chains.Pointer.{Pointer}
use Rattle.slots.specs.declared.chains.Pointer.TheVariants.{Head, Next}
use Rattle.slots.specs.declared.slot.Item.{Item}
use Rattle.slots.specs.declared.slot.Slot.{Slot}
use Rattle.slots.specs.Chains.{Top, Point, members}
use Rattle.slots.specs.Columns.{codes, items, Linked}
use Rattle.slots.specs.Links.{slot_of}
use Rattle.slots.specs.Pointers.{chain_of, place_of, stands_in}
use Rattle.slots.specs.Walk.{blank_item, numbered, chain_below, slots_left, items_left}
use Rattle.slots.proofs.ChainFacts.{members_first}
use Rattle.slots.proofs.ColumnFacts.{no_links, link_read}

pub above : (v i : ℕ) → slot_of v ≡ Some i → v ≡ suc i
above zero i e = cc
above (suc v) i e = cc

module _ (k : ℕ) (ss : List Slot) (l : Linked k ss) (q : ℕ) (is : q ≡ k) (low : q < 2) where
  abbrev cs : ℕ → ℕ
  cs = codes k (length ss) (items ss)

  pub walk_first : (b : ℕ) (d : Slot) → b < length ss → Top cs (length ss) b (get_or (get_or ss b d).links q no_links).head.0
  walk_first b d h = subst (Top cs (length ss) b) (sym (link_read ss b d h (λ l. l.head.0) q k is low)) (l.0 b h)

  -- at the link v, which goes to slot i
  module _ (v i : ℕ) (d : Slot) (at : v ≡ suc i) (within : v ≤ length ss) (coded : 0 < v → cs (v - 1) < length ss) where
    here : cs i < length ss
    here = let e : v - 1 ≡ i = omega arith in subst (λ (j : ℕ). cs j < length ss) e (coded (omega arith))

    pub walk_next : Top cs i (cs i) (get_or (get_or ss i d).links q no_links).next.0
    walk_next = subst (Top cs i (cs i)) (sym (link_read ss i d (omega arith) (λ l. l.next.0) q k is low)) (l.1 i (omega arith) here)

    pub walk_coded : 0 < (get_or (get_or ss i d).links q no_links).next.0 → cs ((get_or (get_or ss i d).links q no_links).next.0 - 1) < length ss
    walk_coded p = omega (arith, walk_next.2 p, here)

    pub walk_gives : map (numbered ss) (members cs v (cs (v - 1))) ≡ (i, (get_or ss i d).item) ∷ map (numbered ss) (members cs (get_or (get_or ss i d).links q no_links).next.0 (cs ((get_or (get_or ss i d).links q no_links).next.0 - 1)))
    walk_gives =
        let w = (get_or (get_or ss i d).links q no_links).next.0 in
        let item : get_or (items ss) i blank_item ≡ (get_or ss i d).item = get_or-map (λ s. s.item) ss i d blank_item (omega arith) in
        let e : v - 1 ≡ i = omega arith in
        ap (λ (z : ℕ). map (numbered ss) (members cs v (cs z))) e ∙ ap (λ (v : ℕ). map (numbered ss) (members cs v (cs i))) at ∙ ap (map (numbered ss)) (members_first cs i w walk_next) ∙ ap (λ (r : Item). (i, r) ∷ map (numbered ss) (members cs w (cs (w - 1)))) item

-- the pointer that passes i: o is the slot that it stands after so far, and none is the head, which is at u
module _ (c : ℕ → ℕ) (u b i : ℕ) where
  abbrev pub Passes : Option ℕ → Type 0
  Passes r = IfSome r (λ j. j < u) × (v : ℕ) × Point c u b i (unwrap_or r u) v

  -- from place k on
  abbrev PassesFrom : ℕ → Type 0
  PassesFrom k =
      (o : Option ℕ) → k ≤ unwrap_or o u → i < unwrap_or o u → unwrap_or o u ≤ u → (unwrap_or o u < u → c (unwrap_or o u) ≡ b) → IfSome o (λ j. j < u) → ((j : ℕ) → k ≤ j → j < unwrap_or o u → c j ≡ b → ⊥)
      → Passes (last_or o (take (prefix_len (λ j. ltb i j) (members c k b)) (members c k b)))

  pub pass : (k : ℕ) → PassesFrom k
  pass zero o l h w e s f = (s, 0, record { past = h; within = w; coded = e; top = (omega arith, (λ j p q z. f j p q z), λ p. absurd (omega arith)); low = omega arith })
  pass (suc q) o l h w e s f = by (eqb (c q) b) refl (pass q)
    where
      ms : List ℕ
      ms = members c q b

      kept : (t : Bool) → ltb i q ≡ t → c q ≡ b → PassesFrom q → Passes (last_or o (take (cond t (1 + prefix_len (λ j. ltb i j) ms) 0) (q ∷ ms)))
      kept true g z on =
          let e : 1 + prefix_len (λ j. ltb i j) ms ≡ suc (prefix_len (λ j. ltb i j) ms) = omega arith in
          subst (λ (n : ℕ). Passes (last_or o (take n (q ∷ ms)))) (sym e) (on (Some q) (omega arith) (ltb-true i q g) (omega arith) (λ _. z) (omega arith) (λ j p y. absurd (omega arith)))
      kept false g z on = (s, suc q, record { past = h; within = w; coded = e; top = (l, (λ j p y. f j p y), λ _. (let y : suc q - 1 ≡ q = omega arith in ap c y ∙ z)); low = omega (arith, ltb-false i q g) })

      by : (t : Bool) → eqb (c q) b ≡ t → PassesFrom q → Passes (last_or o (take (prefix_len (λ j. ltb i j) (cond t (q ∷ ms) ms)) (cond t (q ∷ ms) ms)))
      by true g on = kept (ltb i q) refl (eqb-true (c q) b g) on
      by false g on = on o (omega arith) h w e s (λ j p y z. ⊎_elim {C = ⊥} (λ a. eqb-false (c q) b g (ap c (sym a) ∙ z)) (λ a. f j (omega arith) y z) (cases_eq j q))

  -- as a pointer
  pub passed : (r : Option ℕ) (p : Pointer) → b < u → Passes r → (r ≡ None → p ≡ Head b) → ((j : ℕ) → r ≡ Some j → p ≡ Next j) → (chain_of b p ≡ b) × (stands_in p < u) × (v : ℕ) × Point c u b i (place_of u p) v
  passed None p h s f g =
      let e = f refl in
      (ap (chain_of b) e, omega (arith, ap stands_in e), s.1, subst (λ (m : ℕ). Point c u b i m s.1) (sym (ap (place_of u) e)) s.2)
  passed (Some j) p h s f g =
      let e = g j refl in
      (ap (chain_of b) e, omega (arith, ap stands_in e, s.0), s.1, subst (λ (m : ℕ). Point c u b i m s.1) (sym (ap (place_of u) e)) s.2)

pub numbers_of : (ss : List Slot) (ms : List ℕ) → map (λ x. x.0) (map (numbered ss) ms) ≡ ms
numbers_of ss [] = refl
numbers_of ss (m ∷ ms) = ap (λ (l : List ℕ). m ∷ l) (numbers_of ss ms)

-- the first slot of a chain that passes a test, or that none does
pub first_in : (T : ℕ × Item → Bool) (ss : List Slot) (c : ℕ → ℕ) (m b : ℕ) → MatchOption (find T (map (numbered ss) (members c m b))) ((j : ℕ) → j < m → c j ≡ b → T (numbered ss j) ≡ false) (λ x. (x.0 < m) × (c x.0 ≡ b) × (T (numbered ss x.0) ≡ true))
first_in T ss c zero b = λ j h e. absurd (omega arith)
first_in T ss c (suc m) b = by (eqb (c m) b) refl (first_in T ss c m b)
  where
    ms : List ℕ
    ms = members c m b

    Below : ℕ → Option (ℕ × Item) → Type 0
    Below m r = MatchOption r ((j : ℕ) → j < m → c j ≡ b → T (numbered ss j) ≡ false) (λ x. (x.0 < m) × (c x.0 ≡ b) × (T (numbered ss x.0) ≡ true))

    more : (r : Option (ℕ × Item)) → Below m r → (c m ≡ b → T (numbered ss m) ≡ false) → Below (suc m) r
    more None h f = λ j l e. ⊎_elim {C = T (numbered ss j) ≡ false} (λ z. ap (λ (i : ℕ). T (numbered ss i)) z ∙ f (ap c (sym z) ∙ e)) (λ z. h j (omega arith) e) (cases_eq j m)
    more (Some x) h f = (omega (arith, h.0), h.1, h.2)

    here : (t : Bool) → T (numbered ss m) ≡ t → c m ≡ b → Below m (find T (map (numbered ss) ms)) → Below (suc m) (cond t (Some (numbered ss m)) (find T (map (numbered ss) ms)))
    here true g e h = (omega arith, e, g)
    here false g e h = more _ h (λ _. g)

    by : (t : Bool) → eqb (c m) b ≡ t → Below m (find T (map (numbered ss) ms)) → Below (suc m) (find T (map (numbered ss) (cond t (m ∷ ms) ms)))
    by true g h = here (T (numbered ss m)) refl (eqb-true (c m) b g) h
    by false g h = more _ h (λ e. absurd (eqb-false (c m) b g e))

-- what a walk from the head of chain b has left
pub chain_items : (w : Chain) (k : ℕ) (ss : List Slot) (b : ℕ) → w.slots.now ≡ ss → slots_left w ≡ chain_below k ss (length ss) b → items_left w ≡ map (numbered ss) (chain_below k ss (length ss) b)
chain_items w k ss b e f = ap (λ (l : List Slot). map (numbered l) (slots_left w)) e ∙ ap (map (numbered ss)) f

-- the number of the slot that a search of the chain found
module _ {A : Type 0} (T : ℕ × Item → Bool) (ss : List Slot) (c : ℕ → ℕ) (m b : ℕ) (v : A → ℕ × Item) where
  abbrev pub Finds : Option ℕ → Type 0
  Finds r = MatchOption r ((j : ℕ) → j < m → c j ≡ b → T (numbered ss j) ≡ false) (λ i. (i < m) × (c i ≡ b) × (T (numbered ss i) ≡ true))

  pub found_in : (s : Option A) (r : Option ℕ) → option_map v s ≡ find T (map (numbered ss) (members c m b)) → r ≡ option_map (λ x. (v x).0) s → Finds r
  found_in s r e f = subst Finds (sym f) (by s (subst (λ (o : Option (ℕ × Item)). MatchOption o ((j : ℕ) → j < m → c j ≡ b → T (numbered ss j) ≡ false) (λ x. (x.0 < m) × (c x.0 ≡ b) × (T (numbered ss x.0) ≡ true))) (sym e) (first_in T ss c m b)))
    where
      by : (s : Option A) → MatchOption (option_map v s) ((j : ℕ) → j < m → c j ≡ b → T (numbered ss j) ≡ false) (λ x. (x.0 < m) × (c x.0 ≡ b) × (T (numbered ss x.0) ≡ true)) → Finds (option_map (λ x. (v x).0) s)
      by None h = h
      by (Some x) h = h

  pub mapped : (s : Option A) (r : Option ℕ) {P : A → ℕ → Type 0} → MatchOption s (r ≡ None) (λ x. IsSomeAnd r (P x)) → ((x : A) (y : ℕ) → P x y → y ≡ (v x).0) → r ≡ option_map (λ x. (v x).0) s
  mapped None r h f = h
  mapped (Some x) None h f = absurd h
  mapped (Some x) (Some y) h f = ap (λ (z : ℕ). Some z) (f x y h)

-- what a look-up tells where it found a slot, and where it found none
pub hits : (N : Type 0) {P Q : ℕ → Type 0} (r : Option ℕ) → MatchOption r N P → ((i : ℕ) → P i → Q i) → IfSome r Q
hits N None h f = tt
hits N (Some i) h f = f i h

pub misses : {N M : Type 0} (P : ℕ → Type 0) (r : Option ℕ) → MatchOption r N P → (N → M) → IfNone r M
misses P None h f = f h
misses P (Some i) h f = tt

-- where there is none
pub lacks : {M : Type 0} (r : Option ℕ) → IfNone r M → is_some r ≡ false → M
lacks None h e = h
lacks (Some i) h e = cc

pub some_of : {M : Type 0} (r : Option ℕ) → IfNone r M → (M → ⊥) → is_some r ≡ true
some_of None h f = absurd (f h)
some_of (Some i) h f = refl
