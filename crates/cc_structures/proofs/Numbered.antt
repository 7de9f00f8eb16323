-- What structures of one number of the program have in common: they are one, or of two sources and look the same by their numbers there.
use Rattle.std.proofs.Common.{◌≡◌, ◌≢◌, ◌⊎◌, inl, inr, List, Contains}
use Rattle.cc_structures.specs.Looks.{parts_of}
use Rattle.cc_structures.specs.Refined.{Refines, part_numbers}
use Rattle.cc_structures.specs.Structures.{Known, Numbering, structures, has_one_number, IsSame, LooksTheSame, MayBeOne, IsOne, AreNumbered}
use Rattle.cc_structures.proofs.LookLemmas.{looks-same, same-looks, same-parts}
use Rattle.cc_structures.proofs.RefineLemmas.{parts-refined}
use Rattle.cc_unit.specs.declared.unit.TypedUnit.{TypedUnit}

module _ (units : List TypedUnit) (numbering : Numbering) (firsts : List Known) (are : AreNumbered units numbering firsts) where
  pub one-looks : (s t : Known) → Contains (structures units) s → Contains (structures units) t → has_one_number numbering s t → IsSame s t ⊎ ((s.text ≢ t.text) × LooksTheSame numbering s t)
  one-looks s t hs ht e = matched ((are.one s t hs ht).0 e)
    where
      apart : s.text ≢ t.text → IsSame s t ⊎ LooksTheSame numbering s t → IsSame s t ⊎ ((s.text ≢ t.text) × LooksTheSame numbering s t)
      apart no_text (inl same) = inl same
      apart no_text (inr looks) = inr (no_text, looks)

      matched : IsOne units s t → IsSame s t ⊎ ((s.text ≢ t.text) × LooksTheSame numbering s t)
      matched w = by (w.1.1.1.0 s t hs ht w.1.1.1.1)
        where
          by : IsSame s t ⊎ (MayBeOne units s t × LooksTheSame w.0 s t) → IsSame s t ⊎ ((s.text ≢ t.text) × LooksTheSame numbering s t)
          by (inl same) = inl same
          by (inr h) =
              let refines : Refines units w.0 numbering = λ x y hx hy k. (are.one x y hx hy).1 (w.0, (w.1.0, (w.1.1.0, (w.1.1.1.0, k)))) in
              let parts : part_numbers numbering s ≡ part_numbers numbering t =
              parts-refined units w.0 numbering w.1.0 are.each w.1.1.0 refines s.text t.text (parts_of s) (parts_of t) (same-parts w.0 s t h.1) in
              apart h.0.0 (looks-same numbering s t (same-looks w.0 s t h.1) parts)
