-- A slot leaves its chain, and comes into another.
use Rattle.std.proofs.Common.{◌≡◌, ℕ, zero, suc, ◌+◌, ◌-◌, ◌<◌, ◌≤◌, eqb, List, [], ◌∷◌, map, length, get_or, take, set, sym, refl, ap, ◌∙◌, subst, ⊎_elim, le_of_suc-le-suc, not-suc-le-zero, arith}
use mathlib.Core.Path.{fun_ext}
use Rattle.std.proofs.lemmas.Bool.{cases_eq, cases_lt, cond-true, cond-false, eq-eqb, ne_eqb}
use Rattle.std.proofs.lemmas.List.{length-map, length-set, map-set, get_or-set_same, get_or-set_other}
use Rattle.slots.specs.declared.slot.Item.{Item}
use Rattle.slots.specs.declared.links.Links.{Links}
use Rattle.slots.specs.declared.slot.Slot.{Slot}
use Rattle.slots.specs.Chains.{Top, Heads, Nexts, Point, Pointed, except}
use Rattle.slots.specs.Columns.{Framed, Linked, Chained, BothLinked, lengths, heads, nexts, items, code, codes, head_column, next_column, head_in, next_in, key_code, rank_code}
use Rattle.slots.proofs.ColumnFacts.{column_kept}
use Rattle.slots.proofs.ChainFacts.{except_here, except_other, unlinked_heads, unlinked_nexts, linked_heads, linked_nexts}

pub framed_length : (k : ℕ) (ss ss' : List Slot) → Framed k ss ss' → length ss' ≡ length ss
framed_length k ss ss' f = sym (length-map ss' (λ s. s.item)) ∙ ap length f.items ∙ length-map ss (λ s. s.item)

-- both say where the last place of b below m is
top_le : (c : ℕ → ℕ) (m b v w : ℕ) → Top c m b v → Top c m b w → w ≤ v
top_le c m b v w t s =
    ⊎_elim {C = w ≤ v} (λ h. absurd (t.1 (w - 1) (omega arith) (omega (arith, s.0)) (s.2 (omega arith)))) (λ h. h) (cases_lt v w)

module _ (k b i m w : ℕ) (ss ss' : List Slot) (l : Linked k ss) (in' : i < length ss) (bound : b < length ss) (p : (v : ℕ) × Point (codes k (length ss) (items ss)) (length ss) b i m v) where
  pub unlink_chained : codes k (length ss) (items ss) i ≡ b → w ≡ nexts k ss i → Pointed (length ss) b m w (heads k ss) (nexts k ss) (heads k ss') (nexts k ss') → Framed k ss ss' → Chained k (except i (length ss) (codes k (length ss) (items ss))) ss'
  unlink_chained was is now f =
      let n = length ss in
      let cs = codes k n (items ss) in
      let d = except i n cs in
      let hs = unlinked_heads cs n n (heads k ss) (nexts k ss) (heads k ss') (nexts k ss') l.0 l.1 i b m p.0 w p.1 now n d (except_other i n cs) (except_here i n cs) (omega arith) in' was bound is in
      let ns = unlinked_nexts cs n n (heads k ss) (nexts k ss) (heads k ss') (nexts k ss') l.0 l.1 i b m p.0 w p.1 now n d (except_other i n cs) (except_here i n cs) (omega arith) in' was bound is in
      subst (λ (z : ℕ). Heads d z z (heads k ss') × Nexts d z z (nexts k ss')) (sym (framed_length k ss ss' f)) (hs, ns)

  -- s₁ has the value v of the pointer m after i
  module _ (v : ℕ) (ss₁ : List Slot) (head : m ≡ length ss → v ≡ heads k ss b) (next : m < length ss → v ≡ nexts k ss m) (free : length ss ≤ codes k (length ss) (items ss) i) (first : Pointed (length ss) b i v (heads k ss) (nexts k ss) (heads k ss₁) (nexts k ss₁)) (f₁ : Framed k ss ss₁) where
    pub link_chained : w ≡ i + 1 → Pointed (length ss₁) b m w (heads k ss₁) (nexts k ss₁) (heads k ss') (nexts k ss') → Framed k ss₁ ss' → Chained k (except i b (codes k (length ss) (items ss))) ss'
    link_chained is then f =
        let n = length ss in
        let now = subst (λ (z : ℕ). Pointed z b m w (heads k ss₁) (nexts k ss₁) (heads k ss') (nexts k ss')) (framed_length k ss ss₁ f₁) then in
        let cs = codes k n (items ss) in
        let d = except i b cs in
        let at = p.1 in
        let t : Top cs m b v =
        ⊎_elim {C = Top cs m b v}
        (λ z. subst (λ (x : ℕ). Top cs m b x) (sym (next z)) (subst (λ (x : ℕ). Top cs m x (nexts k ss m)) (at.coded z) (l.1 m z (omega (arith, at.coded z)))))
        (λ z. let e : m ≡ n = omega (arith, at.within) in subst (λ (x : ℕ). Top cs m b x) (sym (head e)) (subst (λ (x : ℕ). Top cs x b (heads k ss b)) (sym e) (l.0 b bound)))
        (cases_lt m n) in
        let at' : Point cs n b i m v = record { past = at.past; within = at.within; coded = at.coded; top = t; low = omega (arith, top_le cs m b p.0 v at.top t, at.low) } in
        let h₁ : Heads cs n n (heads k ss₁) = λ q z. subst (λ (x : ℕ). Top cs n q x) (sym (first.head_kept q (λ e _. absurd (omega arith)))) (l.0 q z) in
        let n₁ : Nexts cs n n (nexts k ss₁) = λ j z y. subst (λ (x : ℕ). Top cs j (cs j) x) (sym (first.next_kept j (λ _ e. absurd (omega (arith, ap cs e))))) (l.1 j z y) in
        let hs = linked_heads cs n n (heads k ss₁) (nexts k ss₁) (heads k ss') (nexts k ss') h₁ n₁ i b m v w at' now d (except_other i b cs) in' free (except_here i b cs) bound is (first.next_set in') in
        let ns = linked_nexts cs n n (heads k ss₁) (nexts k ss₁) (heads k ss') (nexts k ss') h₁ n₁ i b m v w at' now d (except_other i b cs) in' free (except_here i b cs) bound is (first.next_set in') in
        subst (λ (z : ℕ). Heads d z z (heads k ss') × Nexts d z z (nexts k ss')) (sym (framed_length k ss₁ ss' f ∙ framed_length k ss ss₁ f₁)) (hs, ns)

pub framed_then : (k : ℕ) (ss ss₁ ss' : List Slot) → Framed k ss ss₁ → Framed k ss₁ ss' → Framed k ss ss'
framed_then k ss ss₁ ss' f g = record {
  items = g.items ∙ f.items;
  heads = λ q n. g.heads q n ∙ f.heads q n;
  nexts = λ q n. g.nexts q n ∙ f.nexts q n;
}

-- the chains stay where their columns do
pub chained_same : (k : ℕ) (c : ℕ → ℕ) (ss ss' : List Slot) → head_column k ss' ≡ head_column k ss → next_column k ss' ≡ next_column k ss → length ss' ≡ length ss → Chained k c ss → Chained k c ss'
chained_same k c ss ss' e f g t = (
  λ b h. subst (λ (u : ℕ). Top c u b (heads k ss' b)) (sym g) (subst (λ (v : ℕ). Top c (length ss) b v) (ap (λ (l : List ℕ). get_or l b 0) (sym e)) (t.0 b (omega arith))),
  λ j l h. subst (λ (v : ℕ). Top c j (c j) v) (ap (λ (l : List ℕ). get_or l j 0) (sym f)) (t.1 j (omega arith) (omega arith)),
)

-- the codes of the items, one of which is another
pub codes_set : (k n : ℕ) (rs : List Item) (i : ℕ) (r : Item) → i < length rs → codes k n (set rs i r) ≡ except i (code k n r) (codes k n rs)
codes_set k n rs i r h = fun_ext (λ j. ap (λ (l : List ℕ). get_or l j 0) (map-set (code k n) rs i r) ∙ at j)
  where
    at : (j : ℕ) → get_or (set (map (code k n) rs) i (code k n r)) j 0 ≡ except i (code k n r) (codes k n rs) j
    at j =
        ⊎_elim {C = get_or (set (map (code k n) rs) i (code k n r)) j 0 ≡ except i (code k n r) (codes k n rs) j}
        (λ e. ap (λ (z : ℕ). get_or (set (map (code k n) rs) i (code k n r)) z 0) e ∙ get_or-set_same (map (code k n) rs) i (code k n r) 0 (omega (arith, length-map rs (code k n))) ∙ sym (except_here i (code k n r) (codes k n rs)) ∙ ap (except i (code k n r) (codes k n rs)) (sym e))
        (λ e. get_or-set_other (map (code k n) rs) i j (code k n r) 0 e ∙ sym (except_other i (code k n r) (codes k n rs) j e))
        (cases_eq j i)

-- the code of a vacant item is n, and that of another is below n
pub code_vacant : (k n : ℕ) (r : Item) → r.len ≡ 0 → code k n r ≡ n
code_vacant k n r e = cond-true (eqb r.len 0) n _ (eq-eqb r.len 0 e)

pub code_key : (n : ℕ) (r : Item) → 0 < r.len → code 0 n r ≡ key_code n r.partition (take r.len r.name)
code_key n r h = cond-false (eqb r.len 0) n _ (ne_eqb r.len 0 (λ e. absurd (omega arith)))

pub code_rank : (n : ℕ) (r : Item) → 0 < r.len → code 1 n r ≡ rank_code n r.partition r.rank
code_rank n r h = cond-false (eqb r.len 0) n _ (ne_eqb r.len 0 (λ e. absurd (omega arith)))

-- family k after a write to slot i that leaves the links of that family and gives the code x
pub relinked : (k n x i : ℕ) (ss ss' : List Slot) (rs : List Item) (r : Item) → n ≡ length ss → length ss' ≡ length ss → i < length rs → head_column k ss' ≡ head_column k ss → next_column k ss' ≡ next_column k ss → items ss' ≡ set rs i r → code k n r ≡ x → Chained k (except i x (codes k n rs)) ss → Linked k ss'
relinked k n x i ss ss' rs r ln l h hc nc e ce t =
    let m : n ≡ length ss' = ln ∙ sym l in
    let cs : except i x (codes k n rs) ≡ codes k n (items ss') = ap (λ (z : ℕ). except i z (codes k n rs)) (sym ce) ∙ sym (codes_set k n rs i r h) ∙ ap (codes k n) (sym e) in
    let t₁ = chained_same k (except i x (codes k n rs)) ss ss' hc nc l t in
    subst (λ (z : ℕ). Chained k (codes k z (items ss')) ss') m (subst (λ (c : ℕ → ℕ). Chained k c ss') cs t₁)

pub items_read : (f : Item → ℕ) (ss : List Slot) (i : ℕ) (d : Slot) → i < length ss → get_or (map f (items ss)) i 0 ≡ f (get_or ss i d).item
items_read f [] i d h = absurd (not-suc-le-zero h)
items_read f (s ∷ ss) zero d h = refl
items_read f (s ∷ ss) (suc i) d h = items_read f ss i d (le_of_suc-le-suc h)

pub code_free : (k n : ℕ) (rs : List Item) (i : ℕ) → i < length rs → get_or (map (λ r. r.len) rs) i 0 ≡ 0 → codes k n rs i ≡ n
code_free k n [] i h e = absurd (not-suc-le-zero h)
code_free k n (r ∷ rs) zero h e = code_vacant k n r e
code_free k n (r ∷ rs) (suc i) h e = code_free k n rs i (le_of_suc-le-suc h) e

pub length_items : (ss : List Slot) → length (items ss) ≡ length ss
length_items ss = length-map ss (λ s. s.item)

-- both families, after slot i was taken out of them or put in, and its item written
module _ (ss ss₁ ss₂ : List Slot) (i x₀ x₁ : ℕ) (h : i < length ss) (f₀ : Framed 0 ss ss₁) (f₁ : Framed 1 ss₁ ss₂)
    (t₀ : Chained 0 (except i x₀ (codes 0 (length ss) (items ss))) ss₁) (t₁ : Chained 1 (except i x₁ (codes 1 (length ss₁) (items ss₁))) ss₂)
    (d s : Slot) (ls : s.links ≡ (get_or ss₂ i d).links) where
  l₁ : length ss₁ ≡ length ss
  l₁ = framed_length 0 ss ss₁ f₀

  l₂ : length ss₂ ≡ length ss₁
  l₂ = framed_length 1 ss₁ ss₂ f₁

  l₃ : length (set ss₂ i s) ≡ length ss₂
  l₃ = length-set ss₂ i s

  pub written_items : items (set ss₂ i s) ≡ set (items ss) i s.item
  written_items = map-set (λ s. s.item) ss₂ i s ∙ ap (λ (l : List Item). set l i s.item) (f₁.items ∙ f₀.items)

  heads_kept : (q : ℕ) → head_column q (set ss₂ i s) ≡ head_column q ss₂
  heads_kept q = column_kept ss₂ i d (omega (arith, l₁, l₂)) (head_in q) s (ap (λ (ls : List Links). get_or (map (λ l. l.head.0) ls) q 0) ls)

  nexts_kept : (q : ℕ) → next_column q (set ss₂ i s) ≡ next_column q ss₂
  nexts_kept q = column_kept ss₂ i d (omega (arith, l₁, l₂)) (next_in q) s (ap (λ (ls : List Links). get_or (map (λ l. l.next.0) ls) q 0) ls)

  pub written_linked : code 0 (length ss) s.item ≡ x₀ → code 1 (length ss) s.item ≡ x₁ → BothLinked (set ss₂ i s)
  written_linked c₀ c₁ = (
    relinked 0 (length ss) x₀ i ss₁ (set ss₂ i s) (items ss) s.item (sym l₁) (l₃ ∙ l₂) (omega (arith, length_items ss)) (heads_kept 0 ∙ f₁.heads 0 (λ e. absurd (omega arith))) (nexts_kept 0 ∙ f₁.nexts 0 (λ e. absurd (omega arith))) written_items c₀ t₀,
    relinked 1 (length ss) x₁ i ss₂ (set ss₂ i s) (items ss₁) s.item (sym (l₂ ∙ l₁)) l₃ (omega (arith, length_items ss₁, l₁)) (heads_kept 1) (nexts_kept 1) (map-set (λ s. s.item) ss₂ i s ∙ ap (λ (l : List Item). set l i s.item) f₁.items) c₁
        (subst (λ (z : ℕ). Chained 1 (except i x₁ (codes 1 z (items ss₁))) ss₂) l₁ t₁),
  )

  pub vacated_linked : x₀ ≡ length ss → x₁ ≡ length ss → s.item.len ≡ 0 → BothLinked (set ss₂ i s)
  vacated_linked a b e = written_linked (code_vacant 0 (length ss) s.item e ∙ sym a) (code_vacant 1 (length ss) s.item e ∙ sym b)

-- the lengths of the names, after a write to item i
pub lengths_here : (ss ss' : List Slot) (i : ℕ) (r : Item) → i < length ss → items ss' ≡ set (items ss) i r → lengths ss' i ≡ r.len
lengths_here ss ss' i r h e =
    ap (λ (rs : List Item). get_or (map (λ r. r.len) rs) i 0) e ∙ ap (λ (l : List ℕ). get_or l i 0) (map-set (λ r. r.len) (items ss) i r) ∙ get_or-set_same (map (λ r. r.len) (items ss)) i r.len 0 (omega (arith, length-map (items ss) (λ r. r.len), length_items ss))

pub lengths_other : (ss ss' : List Slot) (i : ℕ) (r : Item) → items ss' ≡ set (items ss) i r → (j : ℕ) → (j ≡ i → ⊥) → lengths ss' j ≡ lengths ss j
lengths_other ss ss' i r e j n =
    ap (λ (rs : List Item). get_or (map (λ r. r.len) rs) j 0) e ∙ ap (λ (l : List ℕ). get_or l j 0) (map-set (λ r. r.len) (items ss) i r) ∙ get_or-set_other (map (λ r. r.len) (items ss)) i j r.len 0 n

pub items_length : (ss ss' : List Slot) (i : ℕ) (r : Item) → items ss' ≡ set (items ss) i r → length ss' ≡ length ss
items_length ss ss' i r e = sym (length_items ss') ∙ ap length e ∙ length-set (items ss) i r ∙ length_items ss
