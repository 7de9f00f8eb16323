-- Derivations that may stand, one behind another from that next to the name: the type that they derive, and what may stand
-- behind them.
use Rattle.std.proofs.Common.{◌≡◌, ◌-◌, ℕ, Bool, true, false, not, ◌&&◌, ◌||◌, List, [], ◌∷◌, ◌++◌, length, length-append, Option, Some, None, Ok, refl, ap, sym, ◌∙◌, slice_get, arith}
use Rattle.cc_program.specs.CcNum.declared.target.Target.{Target}
use Rattle.cc_terms.specs.CcOperands.declared.rule.Rule.{Rule}
use Rattle.cc_terms.specs.CcOperands.declared.rule.Rule.TheVariants as rule
use Rattle.cc_program.specs.declared.types.CType.{CType}
use Rattle.cc_program.specs.declared.types.Shape.{Shape, out-Shape}
use Rattle.cc_program.specs.declared.types.Shape.TheOpen as shape
use Rattle.cc_program.specs.declared.types.Sig.{Sig}
use Rattle.cc_program.specs.declared.types.Structure.{Structure}
use Rattle.cc_terms.specs.CcScopes.State.{Scope}
use Rattle.cc_terms.specs.CcSpecifiers.Declarators.{derive_one, derive, result_breach, broken_unless, fault_or, derived_further, breach, derived}
use Rattle.cc_terms.specs.CcSpecifiers.Derivations.{suffix_breach, unless_broken, outermost, suffix_judged, suffix_found}
use Rattle.cc_terms.specs.CcSpecifiers.Objects.{is_object}
use Rattle.cc_terms.specs.CcSpecifiers.Places.{JudgedAt, checked}
use Rattle.cc_terms.specs.CcSpecifiers.declared.derivation.Derivation.{Derivation}
use Rattle.cc_terms.specs.CcSpecifiers.declared.derivation.Derivation.TheVariants as to
use Rattle.cc_terms.specs.CcSyntax.Operators.{is_unqualified}
use Rattle.cc_terms.specs.CcSyntax.Types.{complete_shape, is_complete}
use Rattle.cc_terms.specs.CcSyntax.Values.{is_void}
use Rattle.cc_terms.specs.CcSyntax.declared.sizes.Layout.{Layout}
use Rattle.cc_terms.proofs.CcSyntax.Prefixes.{both_true}
use Rattle.cc_terms.proofs.CcSyntax.TypeLayouts.{parts_complete, complete-opens}
use Rattle.cc_tree.specs.declared.at.At.{At}

abbrev pub Derivations : Type 0
Derivations = List (At (Derivation Scope))

last-is : {A : Type 0} → (xs : List A) (x : A) → slice_get (xs ++ x ∷ []) (length xs) ≡ Some x
last-is [] x = refl
last-is (y ∷ xs) x = last-is xs x

outermost-is : (ds : Derivations) (d : At (Derivation Scope)) → outermost (ds ++ d ∷ []) ≡ Some d
outermost-is ds d = let n : length (ds ++ d ∷ []) - 1 ≡ length ds = omega (arith, length-append ds (d ∷ [])) in ap (slice_get (ds ++ d ∷ [])) n ∙ last-is ds d

unless-none : (good : Bool) (broken : Rule) → broken_unless good broken ≡ None → good ≡ true
unless-none true broken h = refl
unless-none false broken h = absurd (cc)

void-none : (b c : Bool) (t : Bool) → broken_unless (not t || (false && c)) rule.PointerToVoid ≡ None → broken_unless (not t || (b && c)) rule.PointerToVoid ≡ None
void-none b c false h = refl
void-none b c true h = absurd (cc)

module _ (target : Target) (structures : List Structure) (layouts : List Layout) where
  abbrev breaks : CType → Derivation Scope → Option Rule
  breaks t d = breach target structures layouts false t d

  -- from the specifiers' type to the declared one
  pub data Fits : CType → Derivations → CType → Type 0 where
    Itself : (t : CType) → Fits t [] t
    Further : (at : ℕ) (d : Derivation Scope) (base t : CType) (ds : Derivations) → breach target structures layouts false base d ≡ None → Fits (derive_one d base) ds t → Fits base (ds ++ record { at = at; node = d } ∷ []) t

  any-void : (void : Bool) (t : CType) (d : Derivation Scope) → breaks t d ≡ None → breach target structures layouts void t d ≡ None
  any-void void t (to.Pointer constant volatile) h = void-none void (is_unqualified t) (is_void t) h
  any-void void t (to.Array n) h = h
  any-void void t (to.Function ps scope) h = h

  derive-last : (base : CType) (ds : Derivations) (d : At (Derivation Scope)) → derive base (ds ++ d ∷ []) ≡ derive (derive_one d.node base) ds
  derive-last base [] d = refl
  derive-last base (e ∷ ds) d = ap (derive_one e.node) (derive-last base ds d)

  derived-last : (void : Bool) (base : CType) (ds : Derivations) (d : At (Derivation Scope)) → breaks base d.node ≡ None → derived target structures layouts void base (ds ++ d ∷ []) ≡ derived target structures layouts void (derive_one d.node base) ds
  derived-last void base [] d h = ap (λ (o : Option Rule). fault_or d.at o (Ok (derive_one d.node base))) (any-void void base d.node h)
  derived-last void base (e ∷ ds) d h =
      ap (λ (t : CType). fault_or e.at (breach target structures layouts void t e.node) (derived_further e.node (derived target structures layouts false base (ds ++ d ∷ [])))) (derive-last base ds d)
      ∙ ap (λ (r : JudgedAt CType). fault_or e.at (breach target structures layouts void (derive (derive_one d.node base) ds) e.node) (derived_further e.node r)) (derived-last false base ds d h)

  pub fits-derived : (void : Bool) (base : CType) (ds : Derivations) (t : CType) → Fits base ds t → derived target structures layouts void base ds ≡ Ok t
  fits-derived void _ _ _ (Itself t) = refl
  fits-derived void _ _ _ (Further at d base t ds h r) = derived-last void base ds (record { at = at; node = d }) h ∙ fits-derived void (derive_one d base) ds t r

  -- ---- what stands behind them: a function, or an array

  no-object : (t : CType) (x : shape.Shape-F Shape CType Sig) → out-Shape t.shape ≡ x → complete_shape structures (parts_complete structures x) ≡ false → is_object target structures layouts t ≡ true → ⊥
  no-object t x e f h =
      let c = (both_true (is_complete structures t) _ h).0 in
      let g : false ≡ true = sym f ∙ sym (complete-opens structures t ∙ ap (λ y. complete_shape structures (parts_complete structures y)) e) ∙ c in
      absurd (cc)

  function-behind : (t : CType) (sig : Sig) (d : Derivation Scope) → out-Shape t.shape ≡ shape.Func sig → breaks t d ≡ None → suffix_breach true d ≡ None
  function-behind t sig (to.Pointer constant volatile) e h = refl
  function-behind t sig (to.Array n) e h = absurd (no-object t (shape.Func sig) e refl (unless-none (is_object target structures layouts t) rule.NoObjectType h))
  function-behind t sig (to.Function ps scope) e h = let g : Some rule.FunctionResult ≡ None = ap result_breach (sym e) ∙ h in absurd (cc)

  array-behind : (t of : CType) (n : ℕ) (d : Derivation Scope) → out-Shape t.shape ≡ shape.Array of n → breaks t d ≡ None → suffix_breach false d ≡ None
  array-behind t of n (to.Pointer constant volatile) e h = refl
  array-behind t of n (to.Array m) e h = refl
  array-behind t of n (to.Function ps scope) e h = let g : Some rule.FunctionResult ≡ None = ap result_breach (sym e) ∙ h in absurd (cc)

  suffix-by : (function : Bool) (base t : CType) (ds : Derivations) → Fits base ds t → ((d : Derivation Scope) → breaks base d ≡ None → suffix_breach function d ≡ None) → suffix_found function ds ≡ Ok checked
  suffix-by function _ _ _ (Itself t) good = refl
  suffix-by function _ _ _ (Further at d base t ds h r) good =
      ap (suffix_judged function) (outermost-is ds (record { at = at; node = d })) ∙ ap (unless_broken at) (good d h)

  pub suffix-function : (base t : CType) (ds : Derivations) (sig : Sig) → out-Shape base.shape ≡ shape.Func sig → Fits base ds t → suffix_found true ds ≡ Ok checked
  suffix-function base t ds sig e r = suffix-by true base t ds r (λ d h. function-behind base sig d e h)

  pub suffix-array : (base t of : CType) (n : ℕ) (ds : Derivations) → out-Shape base.shape ≡ shape.Array of n → Fits base ds t → suffix_found false ds ≡ Ok checked
  suffix-array base t of n ds e r = suffix-by false base t ds r (λ d h. array-behind base of n d e h)
