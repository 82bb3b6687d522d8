-- The entries of a table, one by one.
use Rattle.std.proofs.Common.{◌≡◌, ℕ, zero, suc, ◌<◌, ◌≤◌, true, List, [], ◌∷◌, length, get_or, take, Some, sym, refl, ap, ◌∙◌, arith}
use Rattle.std.proofs.lemmas.List.{get_or-map, get_or-take}
use Rattle.std.specs.List.{slice_get}
use Rattle.std.proofs.lemmas.Option.{slice_get-get_or}
use Rattle.names.specs.Names.{class}
use Rattle.store.specs.Entries.{Entry, has_key}
use Rattle.store.proofs.KeyFacts.{key_true, holds_at}
use Rattle.store.proofs.SoundFacts.{holds_key, key_long}
use Rattle.slots.specs.declared.slot.Slot.{Slot}
use Rattle.slots.specs.declared.table.SlotTable.{SlotTable}
use Rattle.slots.specs.Columns.{items, code, codes, key_code}
use Rattle.slots.specs.Table.{entry_in}
use Rattle.slots.specs.Held.{held}
use Rattle.slots.specs.Walk.{blank_item}
use Rattle.slots.specs.Lawful.{length_use, length_held}
use Rattle.slots.proofs.ColumnFacts.{no_links}
use Rattle.slots.proofs.LinkFacts.{items_read, code_key}

-- an entry and a slot to read at, where none was read yet
abbrev pub blank : Entry
blank = record { partition = 0; name = []; number = 0 }

abbrev pub no_slot : Slot
no_slot = record {
  item = blank_item;
  links = no_links ∷ no_links ∷ [];
  two = refl;
}

pub long : (l : ℕ) (xs : List ℕ) → 1 ≤ length (take l xs) → 0 < l
long zero xs h = absurd (omega arith)
long (suc l) xs h = omega arith

module _ (t : SlotTable) where
  pub held_at : (i : ℕ) (d : Slot) (e : Entry) → i < t.used → get_or (held t) i e ≡ entry_in (get_or t.lent.slots.now i d).item
  held_at i d e h =
      get_or-map entry_in (take t.used (items t.lent.slots.now)) i d.item e (omega (arith, length_use t))
      ∙ ap entry_in (get_or-take t.used (items t.lent.slots.now) i d.item h ∙ get_or-map (λ s. s.item) t.lent.slots.now i d d.item (omega (arith, t.within)))

  pub nth_held : (i : ℕ) (d : Slot) → i < t.used → slice_get (held t) i ≡ Some (entry_in (get_or t.lent.slots.now i d).item)
  nth_held i d h = slice_get-get_or (held t) i blank (omega (arith, length_held t)) ∙ ap (λ (e : Entry). Some e) (held_at i d blank h)

  -- an entry with the key is in the key's chain
  pub key_coded : (p : ℕ) (n : List ℕ) (j : ℕ) (d : Slot) → j < t.used → has_key p n (get_or (held t) j blank) ≡ true → codes 0 (length t.lent.slots.now) (items t.lent.slots.now) j ≡ key_code (length t.lent.slots.now) p n
  key_coded p n j d h e =
      let ss = t.lent.slots.now in
      let r = (get_or ss j d).item in
      let k = key_long class p n (holds_key class (held t) p n t.lawful (holds_at (held t) p n j blank (omega (arith, length_held t)) e)) in
      let a = key_true p n (entry_in r) (ap (has_key p n) (sym (held_at j d blank h)) ∙ e) in
      let pos : 0 < r.len = long r.len r.name (omega (arith, ap length a.1)) in
      items_read (code 0 (length ss)) ss j d (omega (arith, t.within)) ∙ code_key (length ss) r pos ∙ ap (λ (q : ℕ). key_code (length ss) q (take r.len r.name)) (sym a.0) ∙ ap (key_code (length ss) p) (sym a.1)
