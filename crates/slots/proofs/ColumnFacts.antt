-- What a write to one slot leaves of the columns.
use Rattle.std.proofs.Common.{◌≡◌, ℕ, ◌<◌, List, map, length, get_or, set, sym, refl, ap, ◌∙◌, arith}
use Rattle.std.proofs.lemmas.List.{get_or-map, map-set, set-get_or, get_or-set_same, get_or-set_other, length-map}
use Rattle.slots.specs.declared.links.Link.{Link}
use Rattle.slots.specs.declared.links.Links.{Links}
use Rattle.slots.specs.declared.slot.Slot.{Slot}
use Rattle.slots.specs.Chains.{Pointed}
use Rattle.slots.specs.Columns.{Framed, heads, nexts, head_in, next_in}

-- links to read at, where none were read yet
abbrev pub no_links : Links
no_links = record { head = record { 0 = 0 }; next = record { 0 = 0 } }

module _ (ss : List Slot) (i : ℕ) (d : Slot) (h : i < length ss) where
  pub column_read : (f : Slot → ℕ) → f (get_or ss i d) ≡ get_or (map f ss) i 0
  column_read f = sym (get_or-map f ss i d 0 h)

  -- the links of family k in slot i
  pub link_read : (f : Links → ℕ) (q k : ℕ) → q ≡ k → q < 2 → f (get_or (get_or ss i d).links q no_links) ≡ get_or (map (λ s. get_or (map f s.links) k 0) ss) i 0
  link_read f q k e l =
      sym (get_or-map f (get_or ss i d).links q no_links 0 (omega (arith, (get_or ss i d).two))) ∙ column_read (λ s. get_or (map f s.links) q 0) ∙ ap (λ (k : ℕ). get_or (map (λ (s : Slot). get_or (map f s.links) k 0) ss) i 0) e

  pub column_kept : {A : Type 0} (f : Slot → A) (s : Slot) → f s ≡ f (get_or ss i d) → map f (set ss i s) ≡ map f ss
  column_kept {A} f s e =
      map-set f ss i s ∙ ap (set (map f ss) i) (e ∙ sym (get_or-map f ss i d (f d) h)) ∙ set-get_or (map f ss) i (f d)

  pub column_here : (f : Slot → ℕ) (s : Slot) → get_or (map f (set ss i s)) i 0 ≡ f s
  column_here f s = ap (λ (l : List ℕ). get_or l i 0) (map-set f ss i s) ∙ get_or-set_same (map f ss) i (f s) 0 (omega (arith, length-map ss f))

  pub column_other : (f : Slot → ℕ) (s : Slot) (j : ℕ) → (j ≡ i → ⊥) → get_or (map f (set ss i s)) j 0 ≡ get_or (map f ss) j 0
  column_other f s j n = ap (λ (l : List ℕ). get_or l j 0) (map-set f ss i s) ∙ get_or-set_other (map f ss) i j (f s) 0 n

  -- the link w is written to the links of family k
  module _ (s : Slot) (q k : ℕ) (is : q ≡ k) (low : q < 2) (w : Link) (item : s.item ≡ (get_or ss i d).item) where
    abbrev was : Links
    was = get_or (get_or ss i d).links q no_links

    module _ (l : Links) (ls : s.links ≡ set (get_or ss i d).links q l) where
      at : (f : Links → ℕ) → get_or (map f s.links) q 0 ≡ f l
      at f =
          ap (λ (ls : List Links). get_or (map f ls) q 0) ls ∙ ap (λ (ls : List ℕ). get_or ls q 0) (map-set f (get_or ss i d).links q l) ∙ get_or-set_same (map f (get_or ss i d).links) q (f l) 0 (omega (arith, length-map (get_or ss i d).links f, (get_or ss i d).two))

      link_here : (f : Links → ℕ) → get_or (map f s.links) k 0 ≡ f l
      link_here f = ap (λ (k : ℕ). get_or (map f s.links) k 0) (sym is) ∙ at f

      link_other : (f : Links → ℕ) (p : ℕ) → (p ≡ k → ⊥) → get_or (map f s.links) p 0 ≡ get_or (map f (get_or ss i d).links) p 0
      link_other f p n =
          ap (λ (ls : List Links). get_or (map f ls) p 0) ls ∙ ap (λ (ls : List ℕ). get_or ls p 0) (map-set f (get_or ss i d).links q l) ∙ get_or-set_other (map f (get_or ss i d).links) q p (f l) 0 (λ e. n (e ∙ is))

      -- where f reads the same of l
      link_kept : (f : Links → ℕ) → f l ≡ f was → map (λ s. get_or (map f s.links) k 0) (set ss i s) ≡ map (λ s. get_or (map f s.links) k 0) ss
      link_kept f e =
          column_kept (λ s. get_or (map f s.links) k 0) s
          (link_here f ∙ e ∙ sym (get_or-map f (get_or ss i d).links q no_links 0 (omega (arith, (get_or ss i d).two))) ∙ ap (λ (k : ℕ). get_or (map f (get_or ss i d).links) k 0) is)

      link_framed : Framed k ss (set ss i s)
      link_framed = record {
        items = column_kept (λ s. s.item) s item;
        heads = λ p n. column_kept (head_in p) s (link_other (λ l. l.head.0) p n);
        nexts = λ p n. column_kept (next_in p) s (link_other (λ l. l.next.0) p n);
      }

    pub head_written : s.links ≡ set (get_or ss i d).links q (record { head = w; next = was.next }) → Framed k ss (set ss i s) × ((b m : ℕ) → i ≡ b → m ≡ length ss → Pointed (length ss) b m w.0 (heads k ss) (nexts k ss) (heads k (set ss i s)) (nexts k (set ss i s)))
    head_written ls =
        let l : Links = record { head = w; next = was.next } in (
          link_framed l ls,
          λ b m e g. record {
            head_set = λ _. ap (heads k (set ss i s)) (sym e) ∙ column_here (head_in k) s ∙ link_here l ls (λ l. l.head.0);
            head_kept = λ p f. column_other (head_in k) s p (λ z. f g (z ∙ e));
            next_set = λ h. absurd (omega arith);
            next_kept = λ j f. ap (λ (l : List ℕ). get_or l j 0) (link_kept l ls (λ l. l.next.0) refl);
          },
        )

    pub next_written : s.links ≡ set (get_or ss i d).links q (record { head = was.head; next = w }) → Framed k ss (set ss i s) × ((b m : ℕ) → m ≡ i → Pointed (length ss) b m w.0 (heads k ss) (nexts k ss) (heads k (set ss i s)) (nexts k (set ss i s)))
    next_written ls =
        let l : Links = record { head = was.head; next = w } in (
          link_framed l ls,
          λ b m e. record {
            head_set = λ g. absurd (omega arith);
            head_kept = λ p f. ap (λ (l : List ℕ). get_or l p 0) (link_kept l ls (λ l. l.head.0) refl);
            next_set = λ _. ap (nexts k (set ss i s)) e ∙ column_here (next_in k) s ∙ link_here l ls (λ l. l.next.0);
            next_kept = λ j f. column_other (next_in k) s j (λ z. f (omega arith) (z ∙ sym e));
          },
        )
