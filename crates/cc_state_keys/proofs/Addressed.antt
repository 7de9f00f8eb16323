-- The keys whose addresses an expression takes, by what its parts take.
use Rattle.std.proofs.Common.{◌≡◌, ◌++◌, ◌⊎◌, inl, inr, ℕ, Bool, List, [], ◌∷◌, map, refl, ap, ◌∙◌}
use Rattle.cc_program.specs.CcNum.declared.int_type.IntType.{IntType}
use Rattle.cc_program.specs.CcNum.declared.op.BinOp.{BinOp}
use Rattle.cc_program.specs.declared.expr.Expr.{Expr, AddrOf, Bin, Move, Gap, Compare, Both, Either, Seq, Choose, Assign, Change, Call, roll-Expr, map-Expr, fold-roll-Expr}
use Rattle.cc_program.specs.declared.expr.Expr.TheOpen as one
use Rattle.cc_program.specs.declared.expr.Place.{Place, Element, roll-Place, map-Place, fold-roll-Place}
use Rattle.cc_program.specs.declared.func.Func.{Func}
use Rattle.cc_program.specs.declared.program.Program.{Program}
use Rattle.cc_state_keys.specs.Addressed.{InExpr, InPlace, all_taken, taken_step, place_taken_step, expr_in, place_in, in_expr, in_place, taken_in}
use Rattle.cc_state_keys.specs.Lists.{only}

module _ (p : Program) (id : ℕ) (f : Func) where
  -- one level
  taken-at : (e : Expr) (x : one.Expr-F Expr Place) → e ≡ roll-Expr x → taken_in p id f e ≡ taken_step (map-Expr Expr Place InExpr InPlace (in_expr p id f) (in_place p id f) x)
  unfolding in_expr in_place
  taken-at e x h = ap (taken_in p id f) h ∙ ap (λ (w : InExpr). w.taken) (fold-roll-Expr InExpr InPlace (expr_in p id f) (place_in p id f) x)

  place-taken-at : (a : Place) (x : one.Place-F Expr Place) → a ≡ roll-Place x → (in_place p id f a).taken ≡ place_taken_step (map-Place Expr Place InExpr InPlace (in_expr p id f) (in_place p id f) x)
  unfolding in_expr in_place
  place-taken-at a x h = ap (λ (b : Place). (in_place p id f b).taken) h ∙ ap (λ (w : InPlace). w.taken) (fold-roll-Place InExpr InPlace (expr_in p id f) (place_in p id f) x)

  abbrev pub IsTwo : Expr → Expr → Expr → Type 0
  IsTwo e a b =
      ((o : BinOp) × (t : IntType) × e ≡ Bin o t a b) ⊎ (((back : Bool) × e ≡ Move a b back) ⊎ ((e ≡ Gap a b) ⊎ (((o : BinOp) × e ≡ Compare o a b) ⊎ ((e ≡ Both a b) ⊎ ((e ≡ Either a b) ⊎ (e ≡ Seq a b))))))

  pub two-is : (e a b : Expr) → IsTwo e a b → taken_in p id f e ≡ taken_in p id f a ++ taken_in p id f b
  unfolding roll-Expr denote.Hole.Carrier.roll
  two-is e a b (inl h) = taken-at e (one.Bin h.0 h.1 a b) h.2
  two-is e a b (inr (inl h)) = taken-at e (one.Move a b h.0) h.1
  two-is e a b (inr (inr (inl h))) = taken-at e (one.Gap a b) h
  two-is e a b (inr (inr (inr (inl h)))) = taken-at e (one.Compare h.0 a b) h.1
  two-is e a b (inr (inr (inr (inr (inl h))))) = taken-at e (one.Both a b) h
  two-is e a b (inr (inr (inr (inr (inr (inl h)))))) = taken-at e (one.Either a b) h
  two-is e a b (inr (inr (inr (inr (inr (inr h)))))) = taken-at e (one.Seq a b) h

  pub choice-is : (e c a b : Expr) → e ≡ Choose c a b → taken_in p id f e ≡ taken_in p id f c ++ (taken_in p id f a ++ taken_in p id f b)
  unfolding roll-Expr denote.Hole.Carrier.roll
  choice-is e c a b h = taken-at e (one.Choose c a b) h

  pub assign-is : (e : Expr) (a : Place) (v : Expr) → (e ≡ Assign a v) ⊎ ((o : BinOp) × (t : IntType) × e ≡ Change a o t v) → taken_in p id f e ≡ (in_place p id f a).taken ++ taken_in p id f v
  unfolding roll-Expr denote.Hole.Carrier.roll
  assign-is e a v (inl h) = taken-at e (one.Assign a v) h
  assign-is e a v (inr h) = taken-at e (one.Change a h.0 h.1 v) h.2

  pub address-is : (e : Expr) (a : Place) → e ≡ AddrOf a → taken_in p id f e ≡ only (in_place p id f a).own ++ (in_place p id f a).taken
  unfolding roll-Expr denote.Hole.Carrier.roll
  address-is e a h = taken-at e (one.AddrOf a) h

  all-taken : (args : List Expr) → all_taken (map (λ (w : InExpr). w.taken) (map (in_expr p id f) args)) ≡ all_taken (map (taken_in p id f) args)
  all-taken [] = refl
  all-taken (a ∷ args) = ap (λ l. taken_in p id f a ++ l) (all-taken args)

  pub call-is : (e g : Expr) (args : List Expr) → e ≡ Call g args → taken_in p id f e ≡ taken_in p id f g ++ all_taken (map (taken_in p id f) args)
  unfolding roll-Expr denote.Hole.Carrier.roll
  call-is e g args h = taken-at e (one.Call g args) h ∙ ap (λ l. taken_in p id f g ++ l) (all-taken args)

  pub element-is : (e a : Place) (i : Expr) → e ≡ Element a i → (in_place p id f e).taken ≡ (in_place p id f a).taken ++ taken_in p id f i
  unfolding roll-Place denote.Hole.Carrier.roll
  element-is e a i h = place-taken-at e (one.Element a i) h
