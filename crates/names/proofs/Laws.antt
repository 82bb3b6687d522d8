-- Short forms under any byte table: what shortening gives is a short form, and a short form is left as it is.
use Rattle.std.proofs.Common.{◌≡◌, ℕ, Bool, true, false, cond, nat_lt, List, [], ◌∷◌, length, count_by, filter, refl, sym, ap, ◌∙◌, arith}
use Rattle.std.specs.List.{list_all, list_any}
use Rattle.std.proofs.lemmas.List.Elements.{All-weaker, filter_passes}
use Rattle.std.proofs.lemmas.List.Folds.{list_any_none}
use Rattle.std.proofs.lemmas.List.Sums.{AllPass-from_list_all, count_by-le-length, length-filter, list_all-from_AllPass, sum_by-cons}
use Rattle.std.proofs.lemmas.Bool.{false≢true}
use Rattle.std.proofs.lemmas.Bool.Decides.{nat_tests}
use Rattle.names.specs.declared.byte_class.ByteClass.{ByteClass}
use Rattle.names.specs.declared.byte_class.ByteClass.TheVariants.{Forbidden, Dropped, Kept}
use Rattle.names.specs.Names.{keeps, forbids, is_kept, is_forbidden, short, is_short, has_forbidden, name_refusal, shortened}

module _ (p : ℕ → Bool) where
  -- a filter leaves a list that passes as it is
  all_pass : (xs : List ℕ) → list_all p xs ≡ true → filter p xs ≡ xs
  all_pass [] h = refl
  all_pass (x ∷ xs) h = let others = all_pass xs in grind (arith, nat_tests)

  -- an element passes where more than 0 are counted
  pub any_counted : (xs : List ℕ) → list_any p xs ≡ nat_lt 0 (count_by p xs)
  any_counted [] = refl
  any_counted (x ∷ xs) =
      let more = sum_by-cons (λ b. cond (p b) 1 0) x xs in
      let others = any_counted xs in
      grind (arith, nat_tests)

-- a class that is kept is not forbidden
not_forbidden : (k : ByteClass) → keeps k ≡ true → forbids k ≡ false
not_forbidden Forbidden e = absurd (false≢true e)
not_forbidden Dropped e = refl
not_forbidden Kept e = refl

module _ (cls : ℕ → ByteClass) where
  none_forbidden : (name : List ℕ) → list_all (is_kept cls) name ≡ true → has_forbidden cls name ≡ false
  none_forbidden name kept =
      sym (any_counted (is_forbidden cls) name)
      ∙ list_any_none (is_forbidden cls) name (All-weaker _ _ (λ b. not_forbidden (cls b)) name (AllPass-from_list_all _ name kept))

  -- what shortening gives is a short form
  pub short_is_short : (raw : List ℕ) → name_refusal cls raw ≡ 0 → is_short cls (short cls raw) ≡ true
  short_is_short raw passed =
      let pass = list_all-from_AllPass (is_kept cls) _ (filter_passes (is_kept cls) raw) in
      let less = count_by-le-length (is_kept cls) raw in
      let count = length-filter (is_kept cls) raw in
      grind (arith, nat_tests)

  -- a short form is its own short form, and is not refused
  pub short_stays : (name : List ℕ) → is_short cls name ≡ true → shortened cls name ≡ (0, name)
  short_stays name good =
      let kept : list_all (is_kept cls) name ≡ true = grind (arith, nat_tests) in
      let none = none_forbidden name kept in
      let same = all_pass (is_kept cls) name kept in
      let count = ap length same in
      grind (arith, nat_tests)
