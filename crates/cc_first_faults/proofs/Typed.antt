-- The law of what is judged once it is typed, and of constructs that are judged as wholes.
use Rattle.std.proofs.Common.{ℕ, Bool, true, false, is_some, List, [], ◌∷◌, Option, Some, None, Ok, if◌then◌else◌, refl}
use Rattle.cc_typed_bodies.specs.CcTypedTerms.Located.{located}
use Rattle.cc_typed_bodies.specs.CcDesignators.Designators.{TypedExpr, IsPlace, IsValue, IsFunction, IsIntrinsic, IsAddress, value_at}
use Rattle.cc_typed_bodies.specs.CcDesignators.Postfix.{is_array_place}
use Rattle.cc_program.specs.CcNum.declared.target.Target.{Target}
use Rattle.cc_typed_bodies.specs.CcOperands.declared.rule.Rule.{Rule}
use Rattle.cc_typed_bodies.specs.CcTypedTerms.Operators.{intrinsic_in}
use Rattle.cc_typed_bodies.specs.CcTypedTerms.Values.{valued, designating, found_value, null_judged}
use Rattle.cc_program.specs.declared.expr.Intr.{Intr}
use Rattle.cc_program.specs.declared.program.Roles.{Roles}
use Rattle.cc_program.specs.declared.types.CType.{CType}
use Rattle.cc_typed_bodies.specs.CcScopes.State.{State, Name, Scope, structures_of, layouts_of}
use Rattle.cc_typed_bodies.specs.CcSpecifiers.Declarators.{breach, fault_or}
use Rattle.cc_typed_bodies.specs.CcSpecifiers.Derivations.{suffix_breach, suffix_judged, unless_broken, outermost}
use Rattle.cc_typed_bodies.specs.CcSpecifiers.declared.derivation.Derivation.{Derivation}
use Rattle.cc_typed_bodies.specs.CcTerms.Operations.{as_value, subscript_base, callee, callee_by}
use Rattle.cc_tree.specs.declared.at.At.{At}
use Rattle.cc_first_faults.specs.Constructs.{Valued, Designated, Suffixed, Derived, begin_of}
use Rattle.cc_first_faults.specs.FirstFaults.{forget}
use Rattle.cc_first_faults.specs.Parts.{subscripted_parts, called_parts}
use Rattle.cc_first_faults.proofs.Lawful.{Own, own-whole}
use Rattle.cc_first_faults.proofs.Laws.{Law, Told, first, single, last}

unless-own : (at : ℕ) (b : Option Rule) (s : State) → Own at (forget (located s (unless_broken at b)))
unless-own at None s = tt
unless-own at (Some rule) s = refl

suffix-own : (function : Bool) (d : Option (At (Derivation Scope))) (s : State) → Own (begin_of d) (forget (located s (suffix_judged function d)))
suffix-own function None s = tt
suffix-own function (Some d) s = unless-own d.at (suffix_breach function d.node) s

derivation-own : (at : ℕ) (b : Option Rule) (t : CType) (s : State) → Own at (forget (located s (fault_or at b (Ok t))))
derivation-own at None t s = tt
derivation-own at (Some rule) t s = refl

module _ (target : Target) (roles : Roles) (defined : List Name) where
  pub valued-law : (at : ℕ) (x : TypedExpr) (s : State) → Law target roles defined (Valued at x) s
  valued-law at (IsPlace a t) s = own-whole at s (value_at a t)
  valued-law at (IsValue x) s = tt
  valued-law at (IsFunction f sig) s = tt
  valued-law at (IsIntrinsic i there) s = refl
  valued-law at (IsAddress n t there) s = own-whole there s (null_judged n t)

  pub designated-law : (x : TypedExpr) (s : State) → Law target roles defined (Designated x) s
  designated-law (IsPlace a t) s = tt
  designated-law (IsValue x) s = tt
  designated-law (IsFunction f sig) s = tt
  designated-law (IsIntrinsic i there) s = refl
  designated-law (IsAddress n t there) s = own-whole there s (found_value (null_judged n t))

  pub valued-told : (at inner : ℕ) (x : TypedExpr) (s : State) → Told target roles defined at ((Valued inner x, s) ∷ []) (valued inner x s)
  valued-told at inner x s = single target roles defined at (Valued inner x) s (valued inner x s) refl (first target roles defined (Valued inner x) s (valued-law inner x s))

  pub designated-told : (at : ℕ) (x : TypedExpr) (s : State) → Told target roles defined at ((Designated x, s) ∷ []) (designating x s)
  designated-told at x s = single target roles defined at (Designated x) s (designating x s) refl (first target roles defined (Designated x) s (designated-law x s))

  as-value-told : (at inner : ℕ) (x : TypedExpr) (s : State) → Told target roles defined at ((Valued inner x, s) ∷ []) (as_value inner x s)
  as-value-told at inner x s =
      last target roles defined at ((Valued inner x, s) ∷ []) (valued inner x s) (λ y t. Ok (IsValue y, t)) (valued-told at inner x s) (λ y t. tt)

  subscripted-by : (b : Bool) (at inner : ℕ) (x : TypedExpr) (s : State) → Told target roles defined at (if b then [] else (Valued inner x, s) ∷ []) (if b then Ok (x, s) else as_value inner x s)
  subscripted-by true at inner x s = tt
  subscripted-by false at inner x s = as-value-told at inner x s

  pub subscripted-told : (at inner : ℕ) (x : TypedExpr) (s : State) → Told target roles defined at (subscripted_parts inner x s) (subscript_base inner x s)
  subscripted-told at inner x s = subscripted-by (is_array_place x) at inner x s

  called-by : (i : Option Intr) (at inner : ℕ) (x : TypedExpr) (s : State) → Told target roles defined at (if is_some i then [] else (Valued inner x, s) ∷ []) (callee_by inner x s i)
  called-by (Some i) at inner x s = tt
  called-by None at inner x s = as-value-told at inner x s

  pub called-told : (at inner : ℕ) (x : TypedExpr) (s : State) → Told target roles defined at (called_parts inner x s) (callee inner x s)
  called-told at inner x s = called-by (intrinsic_in x) at inner x s

  pub suffixed-law : (function : Bool) (ds : List (At (Derivation Scope))) (s : State) → Law target roles defined (Suffixed function ds) s
  suffixed-law function ds s = suffix-own function (outermost ds) s

  pub derived-law : (void : Bool) (t : CType) (d : At (Derivation Scope)) (s : State) → Law target roles defined (Derived void t d) s
  derived-law void t d s = derivation-own d.at (breach target (structures_of s) (layouts_of s) void t d.node) t s
