-- Trees that show expressions and places of a program are typed to them: by induction over what shows them.
use Rattle.std.proofs.Common.{◌≡◌, ℕ, false, refl, ◌∙◌}
use Rattle.cc_terms.specs.CcDesignators.Designators.{IsValue}
use Rattle.cc_program.specs.declared.expr.Expr.{Expr}
use Rattle.cc_program.specs.declared.expr.Expr.TheOpen as one
use Rattle.cc_program.specs.declared.expr.Place.{Place}
use Rattle.cc_program.specs.declared.func.Func.{Func}
use Rattle.cc_program.specs.declared.program.Program.{Program}
use Rattle.cc_terms.specs.CcScopes.State.{State}
use Rattle.cc_terms.specs.CcSyntax.Sizes.{AreSized}
use Rattle.cc_terms.specs.CcSyntax.Values.{ValueType, PlaceType}
use Rattle.cc_tree.specs.declared.at.At.{At}
use Rattle.cc_tree.specs.declared.tree.Tree as tree
use Rattle.cc_tree.specs.declared.tree.Tree.{Tree}
use Rattle.cc_expression_trees.specs.Exprs.{ShowsExpr, InParens, ShowsConstant, ShowsNarrow, ShowsNull, ShowsFunction, ShowsRead, ShowsAddress, ShowsUnary, ShowsConversion, ShowsQualified, ShowsBinary, ShowsChoice, ShowsPlace, PlaceInParens, ShowsLocal, ShowsStatic, ShowsDevice, ShowsNumbered, ShowsElement, ShowsMember, ShowsPointed, ShowsPointer, PointerInParens, PointerNull, AnotherPointer}
use Rattle.cc_shown_expressions.proofs.Constants.{paren-tree}
use Rattle.cc_shown_expressions.proofs.Casts.{constant-shown, narrow-shown, conversion-shown, null-shown, null-again-shown, qualified-shown}
use Rattle.cc_shown_expressions.proofs.Choices.{choice-shown}
use Rattle.cc_shown_expressions.proofs.Places.{IsPlaceShown, IsPointerShown, function-shown, read-shown, address-shown, local-shown, static-shown, no-device, element-shown, member-shown, pointed-shown}
use Rattle.cc_shown_expressions.specs.Fits.{is_device_place}
use Rattle.cc_shown_expressions.specs.KnownNames.{KnowsNames, TypesStand}
use Rattle.cc_shown_expressions.specs.Normal.{HasOperand, HasPlace}
use Rattle.cc_shown_expressions.specs.OperationNumbers.{Numbers}
use Rattle.cc_shown_expressions.specs.Typed.{operand_of, IsShown}
use Rattle.cc_shown_expressions.proofs.Fits.{null-fits}
use Rattle.cc_shown_expressions.proofs.Levels.{constant-at}
use Rattle.cc_shown_expressions.proofs.Operations.{unary-shown, binary-shown}
use Rattle.cc_shown_expressions.proofs.Trees.{inside, inside-place}

module _ (p : Program) (f : Func) (n : Numbers) (s : State) (sized : AreSized p.structures p.target) (names : KnowsNames p f n s) (stand : TypesStand p f) where
  paren-pointer : (e : Expr) (x : At Tree) (at : ℕ) (v : ValueType) → IsPointerShown p f n s names stand x.node x.at e v → IsPointerShown p f n s names stand (tree.Paren x) at e v
  paren-pointer e x at v q =
      let r = q.shown.typed in
      record {
        shown = record {
          typed = record { found = r.found; is = paren-tree p.target p.roles s x at ∙ r.is; value = r.value; address = r.address; intrinsic = r.intrinsic };
          fits = q.shown.fits;
          number = q.shown.number;
        };
        address = q.address;
      }

  mutual
    pub expr-shown : (e : Expr) (x : Tree) → ShowsExpr p f e x → (at : ℕ) (v : ValueType) → HasOperand p f e v → IsShown p n s x at e v
    expr-shown _ _ (InParens e x h) at v k = let q = expr-shown e x.node h x.at v k in record { typed = inside p n s x at e v q.typed; fits = q.fits; number = q.number }
    expr-shown _ _ (ShowsConstant e c t x o wide i) at v k = constant-shown p f n s sized names.structures c t e v x at o wide i k
    expr-shown _ _ (ShowsNarrow e c t type x o narrow named i) at v k = narrow-shown p f n s sized names.structures c t e v type x at o named i k
    expr-shown _ _ (ShowsNull e t type x o named z) at v k = null-shown p f n s sized names.structures t e v type x at o k named z
    expr-shown _ _ (ShowsFunction e i g o there) at v k = function-shown p f n s names stand e i g v at o there k
    expr-shown _ _ (ShowsRead e a x o h) at v k = read-shown p f n s names stand a e v x at o k (λ t j plain. place-shown a x h at t j plain)
    expr-shown _ _ (ShowsAddress e a x o h) at v k = address-shown p f n s names stand a e v x at o k (λ t j plain. place-shown a x.node h x.at t j plain)
    expr-shown _ _ (ShowsUnary e o t a x i h) at v k = unary-shown p f n s names.structures o t a e v x at i k (λ u j. expr-shown a x.node h x.at u j)
    expr-shown _ _ (ShowsConversion e t a type x o named h) at v k = conversion-shown p f n s sized names.structures t a e v type x at o k named (λ u j. expr-shown a x.node h x.at u j)
    expr-shown _ _ (ShowsQualified e t a type x o named h) at v k = qualified-shown p f n s sized names.structures t a e v type x at o k named (λ u j. expr-shown a x.node h x.at u j)
    expr-shown _ _ (ShowsBinary e level o a b x y i binary h g) at v k = binary-shown p f n s names.structures level o a b binary e v x y at i k (λ u j. expr-shown a x.node h x.at u j) (λ u j. expr-shown b y.node g y.at u j)
    expr-shown _ _ (ShowsChoice e c a b x y z o h g i) at v k =
        choice-shown p f n s names.structures c a b e v x y z at o k (λ u j. expr-shown c x.node h x.at u j) (λ u j. expr-shown a y.node g y.at u j) (λ u j. expr-shown b z.node i z.at u j)

    pub place-shown : (a : Place) (x : Tree) → ShowsPlace p f a x → (at : ℕ) (t : PlaceType) → HasPlace p f a t → is_device_place t ≡ false → IsPlaceShown p f n s names stand x at a t
    place-shown _ _ (PlaceInParens a x h) at t k plain = let q = place-shown a x.node h x.at t k plain in record { placed = inside-place p n s x at a t q.placed; fits = q.fits }
    place-shown _ _ (ShowsLocal a r l o there) at t k plain = local-shown p f n s names stand a r l at o there t k plain
    place-shown _ _ (ShowsStatic a i b o there) at t k plain = static-shown p f n s names stand a i b at o there t k plain
    place-shown _ _ (ShowsDevice a i d x o there named) at t k plain = absurd (no-device p f n s names stand a i d t o there k plain)
    place-shown _ _ (ShowsNumbered a i d type j l o there none named) at t k plain = absurd (no-device p f n s names stand a i d t o there k plain)
    place-shown _ _ (ShowsElement a b e x y o h g) at t k plain =
        element-shown p f n s names stand a b e x y at o (λ u j plain. place-shown b x.node h x.at u j plain) (λ u j. expr-shown e y.node g y.at u j) t k plain
    place-shown _ _ (ShowsMember a b i name x o named h) at t k plain = member-shown p f n s names stand a b i name x at o named (λ u j plain. place-shown b x.node h x.at u j plain) t k plain
    place-shown _ _ (ShowsPointed a e x o h) at t k plain = pointed-shown p f n s names stand a e x at o (λ u j. pointer-shown e x.node h x.at u j) t k plain

    pub pointer-shown : (e : Expr) (x : Tree) → ShowsPointer p f e x → (at : ℕ) (v : ValueType) → HasOperand p f e v → IsPointerShown p f n s names stand x at e v
    pointer-shown _ _ (PointerInParens e x h) at v k = let q = pointer-shown e x.node h x.at v k in paren-pointer e x at v q
    pointer-shown _ _ (PointerNull e t type x o named z) at v k =
        let q = null-again-shown p f n s sized names.structures t e v type x at o k named z in
        record { shown = record { typed = record { found = IsValue (operand_of p n e v); is = q.1; value = λ i. refl; address = λ i. refl; intrinsic = refl }; fits = null-fits p t v q.0; number = λ j. constant-at p.target e (one.Null t) o }; address = refl }
    pointer-shown _ _ (AnotherPointer e x other h) at v k = let q = expr-shown e x h at v k in record { shown = q; address = q.typed.address other }
