-- The members of a structure, as far as the loop over them has come.
use Rattle.std.proofs.Common.{arith, ◌≡◌, ◌≤◌, ◌+◌, ◌*◌, inl, ℕ, max, List, [], ◌∷◌, ◌++◌, map, length, take, take_all, refl, ap, sym, ◌∙◌, subst, Some, slice_get}
use Rattle.std.proofs.lemmas.List.{take_more, map-append}
use Rattle.std.proofs.lemmas.List.Sums.{fold-append}
use Rattle.std.proofs.lemmas.Option.{slice_get_within, get_or_from_slice_get}
use Rattle.cc_program.specs.CcNum.declared.target.Target.{Target}
use Rattle.cc_program.specs.declared.types.Structure.{Structure}
use Rattle.cc_syntax.specs.declared.sizes.Layout.{Layout}
use Rattle.cc_syntax.specs.Layout.{IsAlign, aligned, end_behind, end_of, greatest_align, structure, layout_of, member_layouts, IsSmall}
use Rattle.cc_syntax.specs.Types.{Named}
use Rattle.cc_syntax.proofs.Alignment.{behind_high, max_align}
use Rattle.cc_syntax.proofs.Whole.{IsWhole, whole}

pub record Laid (members : List Named) (structures : List Structure) (target : Target) (i end align : ℕ) : Type 0 where
  pub ends : end ≡ end_of (member_layouts (take i members) structures target)
  pub greatest : align ≡ greatest_align (member_layouts (take i members) structures target)
  pub high : end ≤ i * 4294967295
  pub is_align : IsAlign align

module _ (members : List Named) (structures : List Structure) (target : Target) where
  abbrev layouts : ℕ → List Layout
  layouts i = member_layouts (take i members) structures target

  pub laid_start : Laid members structures target 0 0 1
  laid_start = record { ends = refl; greatest = refl; high = omega arith; is_align = inl refl }

  layouts-more : (i : ℕ) (m : Named) → slice_get members i ≡ Some m → layouts (i + 1) ≡ layouts i ++ layout_of m.1 structures target ∷ []
  layouts-more i m h =
      let b = slice_get_within members i m h in
      ap (map (λ (m : Named). layout_of m.1 structures target)) (take_more members i m b ∙ ap (λ (x : Named). take i members ++ x ∷ []) (get_or_from_slice_get members i m m h))
      ∙ map-append (λ (m : Named). layout_of m.1 structures target) (take i members) (m ∷ [])

  pub laid_more : (i end align : ℕ) (m : Named) (l : Layout) → l ≡ layout_of m.1 structures target → slice_get members i ≡ Some m → IsSmall m.1 structures target →
      Laid members structures target i end align → Laid members structures target (i + 1) (aligned l.align end + l.size) (max align l.align)
  laid_more i end align m l e h small laid =
      let step : layouts (i + 1) ≡ layouts i ++ l ∷ [] = layouts-more i m h ∙ ap (λ (x : Layout). layouts i ++ x ∷ []) (sym e) in
      let w : IsWhole l = subst IsWhole (sym e) (whole target m.1 structures) in
      let b : l.size ≤ 4294967295 = subst (λ (x : Layout). x.size ≤ 4294967295) (sym e) small.bytes in
      record {
        ends = ap (λ (n : ℕ). aligned l.align n + l.size) laid.ends ∙ sym (ap end_of step ∙ fold-append end_behind 0 (layouts i) (l ∷ []));
        greatest = ap (λ (a : ℕ). max a l.align) laid.greatest ∙ sym (ap greatest_align step ∙ fold-append (λ a (m : Layout). max a m.align) 1 (layouts i) (l ∷ []));
        high = let k = behind_high l.align end l.size w.align w.size (omega (arith, b)) in omega (arith, k, laid.high);
        is_align = max_align align l.align laid.is_align w.align;
      }

  pub laid_all : (i end align size : ℕ) → Laid members structures target i end align → length members ≤ i → size ≡ aligned align end →
      record { size = size; align = align } ≡ structure (member_layouts members structures target)
  unfolding structure
  laid_all i end align size laid past e =
      let all : layouts i ≡ member_layouts members structures target = ap (λ ms. member_layouts ms structures target) (take_all i members past) in
      let a : align ≡ greatest_align (member_layouts members structures target) = laid.greatest ∙ ap greatest_align all in
      let n : end ≡ end_of (member_layouts members structures target) = laid.ends ∙ ap end_of all in
      rw (e, a, n) refl

  -- what the loop's steps ask for
  pub member_align : (m : Named) → IsAlign (layout_of m.1 structures target).align
  member_align m = (whole target m.1 structures).align

pub ruleset of_members = (laid_start, laid_more, member_align)
