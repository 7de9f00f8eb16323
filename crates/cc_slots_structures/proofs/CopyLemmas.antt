-- How often a structure stands in a type, by the type's parts; and in structures, one behind the other.
use Rattle.std.proofs.Common.{◌≡◌, ◌<◌, ◌+◌, ℕ, Bool, List, [], ◌∷◌, ◌++◌, length, take, get_or, fold, ap, sym, ◌∙◌}
use Rattle.std.proofs.lemmas.List.{take_more}
use Rattle.std.proofs.lemmas.List.Sums.{fold-append}
use Rattle.cc_program.specs.declared.types.CType.{CType, fold_out-CType}
use Rattle.cc_program.specs.declared.types.Shape.{Shape, fold-Shape, fold_out-Shape, out-Shape, out-roll-Shape, roll-Shape, map-Shape}
use Rattle.cc_program.specs.declared.types.Shape.TheOpen as shape
use Rattle.cc_program.specs.declared.types.Sig.{Sig, fold-Sig}
use Rattle.cc_program.specs.declared.types.Structure.{Structure}
use Rattle.cc_program.proofs.TypeInduction.{with_shape}
use Rattle.cc_slots_structures.specs.Copies.{copies, copies_in, copies_step, next_copies}

module _ (structures : List ℕ) where
  -- the copies in the types of a shape
  abbrev pub parts : shape.Shape-F Shape CType Sig → shape.Shape-F ℕ ℕ (Unit {0})
  parts x = map-Shape Shape CType Sig ℕ ℕ (Unit {0})
      (fold-Shape ℕ ℕ (Unit {0}) (copies_step structures) (λ t. t.shape) (λ s. tt))
      (copies_in structures)
      (fold-Sig ℕ ℕ (Unit {0}) (copies_step structures) (λ t. t.shape) (λ s. tt)) x

  pub copies-opens : (t : CType) → copies_in structures t ≡ copies_step structures (parts (out-Shape t.shape))
  unfolding copies_in
  copies-opens t =
      fold_out-CType ℕ ℕ (Unit {0}) (copies_step structures) (λ t. t.shape) (λ s. tt) t
      ∙ fold_out-Shape ℕ ℕ (Unit {0}) (copies_step structures) (λ t. t.shape) (λ s. tt) t.shape

  pub copies-roll : (constant volatile : Bool) (x : shape.Shape-F Shape CType Sig) → copies_in structures (with_shape constant volatile (roll-Shape x)) ≡ copies_step structures (parts x)
  copies-roll constant volatile x =
      copies-opens (with_shape constant volatile (roll-Shape x)) ∙ ap (λ y. copies_step structures (parts y)) (out-roll-Shape x)

pub copies-next : (s : ℕ) (xs : List Structure) (i : ℕ) (x : Structure) → i < length xs → x ≡ get_or xs i x → copies s (take (i + 1) xs) ≡ copies s (take i xs) ++ next_copies s (copies s (take i xs)) x ∷ []
unfolding copies
copies-next s xs i x lt is =
    let push = λ (before : List ℕ) (structure : Structure). before ++ next_copies s before structure ∷ [] in
    ap (fold push []) (take_more xs i x lt ∙ ap (λ y. take i xs ++ y ∷ []) (sym is)) ∙ fold-append push [] (take i xs) (x ∷ [])
