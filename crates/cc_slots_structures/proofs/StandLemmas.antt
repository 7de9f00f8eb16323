-- Whether a structure stands in a type, by the type's parts; and in structures, one behind the other.
use Rattle.std.proofs.Common.{◌≡◌, ◌<◌, ◌+◌, ℕ, Bool, not, ◌&&◌, ◌||◌, List, [], ◌∷◌, ◌++◌, length, take, get_or, fold, ap, sym, ◌∙◌}
use Rattle.std.proofs.lemmas.List.{take_more}
use Rattle.std.proofs.lemmas.List.Sums.{fold-append}
use Rattle.cc_program.specs.declared.types.CType.{CType, fold_out-CType}
use Rattle.cc_program.specs.declared.types.Shape.{Shape, fold-Shape, fold_out-Shape, out-Shape, map-Shape}
use Rattle.cc_program.specs.declared.types.Shape.TheOpen as shape
use Rattle.cc_program.specs.declared.types.Sig.{Sig, fold-Sig}
use Rattle.cc_program.specs.declared.types.Structure.{Structure}
use Rattle.cc_slots_structures.specs.Stands.{next_stands, stands, stands_in, stands_step}

module _ (in_const : Bool) (structures : List Bool) where
  -- whether it does in the types of a shape
  abbrev in_shape : Shape → Bool
  in_shape s = fold-Shape Bool Bool (Unit {0}) (stands_step structures) (λ t. (in_const || not t.constant) && t.shape) (λ s. tt) s

  abbrev in_sig : Sig → Unit {0}
  in_sig s = fold-Sig Bool Bool (Unit {0}) (stands_step structures) (λ t. (in_const || not t.constant) && t.shape) (λ s. tt) s

  abbrev parts_of : shape.Shape-F Shape CType Sig → shape.Shape-F Bool Bool (Unit {0})
  parts_of x = map-Shape Shape CType Sig Bool Bool (Unit {0}) in_shape (stands_in in_const structures) in_sig x

  opens : (t : CType) → stands_in in_const structures t ≡ ((in_const || not t.constant) && stands_step structures (parts_of (out-Shape t.shape)))
  unfolding stands_in
  opens t =
      fold_out-CType Bool Bool (Unit {0}) (stands_step structures) (λ t. (in_const || not t.constant) && t.shape) (λ s. tt) t
      ∙ ap (λ b. (in_const || not t.constant) && b) (fold_out-Shape Bool Bool (Unit {0}) (stands_step structures) (λ t. (in_const || not t.constant) && t.shape) (λ s. tt) t.shape)

abbrev pub stand_parts : Bool → List Bool → shape.Shape-F Shape CType Sig → shape.Shape-F Bool Bool (Unit {0})
stand_parts in_const structures x = parts_of in_const structures x

pub stands-opens : (in_const : Bool) (structures : List Bool) (t : CType) → stands_in in_const structures t ≡ ((in_const || not t.constant) && stands_step structures (stand_parts in_const structures (out-Shape t.shape)))
stands-opens in_const structures t = opens in_const structures t

pub stands-next : (in_const : Bool) (s : ℕ) (xs : List Structure) (i : ℕ) (x : Structure) → i < length xs → x ≡ get_or xs i x →
    stands in_const s (take (i + 1) xs) ≡ stands in_const s (take i xs) ++ next_stands in_const s (stands in_const s (take i xs)) x ∷ []
unfolding stands
stands-next in_const s xs i x lt is =
    let push = λ (before : List Bool) (structure : Structure). before ++ next_stands in_const s before structure ∷ [] in
    ap (fold push []) (take_more xs i x lt ∙ ap (λ y. take i xs ++ y ∷ []) (sym is)) ∙ fold-append push [] (take i xs) (x ∷ [])
