-- Trees that show intrinsics of a program are typed to them: their names differ, and their prototypes are known.
use Rattle.std.proofs.Common.{◌≡◌, ℕ, Bool, true, false, not, ◌||◌, List, [], ◌∷◌, ◌++◌, map, Option, Some, None, Ok, refl, ap, sym, ◌∙◌}
use Rattle.std.specs.Prelude.{if◌then◌else◌}
use Rattle.std.specs.List.{list_any, list_all}
use Rattle.std.specs.Str.{bytes_eq}
use Rattle.std.proofs.lemmas.Slice.Eq.{bytes_eq-Decides}
use Rattle.cc_bodies.specs.Stmts.{intrinsic_name}
use Rattle.cc_typed_bodies.specs.CcDesignators.Calls.{signature, byte_type, first_or_none, result_of, passed, passed_to, called_with}
use Rattle.cc_typed_bodies.specs.CcDesignators.Designators.{TypedExpr, IsIntrinsic, IsValue}
use Rattle.cc_program.specs.CcNum.declared.int_type.IntType.TheVariants as int
use Rattle.cc_typed_bodies.specs.CcOperands.Operands.{Operand, operand}
use Rattle.cc_typed_bodies.specs.CcOperands.Qualified.{plain}
use Rattle.cc_typed_bodies.specs.CcOperands.Verdicts.{Judged, judge_then}
use Rattle.cc_typed_bodies.specs.CcTypedTerms.Primary.{intrinsic_named, named_by}
use Rattle.cc_typed_bodies.specs.CcTypedTerms.Values.{gives, valued}
use Rattle.cc_program.specs.declared.expr.Expr.{Expr, Intr as IntrOf, out-Expr}
use Rattle.cc_program.specs.declared.expr.Expr.TheOpen as one
use Rattle.cc_program.specs.declared.expr.Intr.{Intr}
use Rattle.cc_program.specs.declared.expr.Intr.TheVariants as intr
use Rattle.cc_program.specs.declared.func.Func.{Func}
use Rattle.cc_program.specs.declared.object.Object.{Object}
use Rattle.cc_program.specs.declared.program.Program.{Program}
use Rattle.cc_program.specs.declared.program.Roles.{Roles}
use Rattle.cc_program.specs.declared.types.CType.{CType}
use Rattle.cc_program.specs.declared.types.Shape.{Shape, Void}
use Rattle.cc_program.specs.declared.types.Shape.TheOpen as shape
use Rattle.cc_program.specs.declared.types.Shape.TheVariants.{outs-Void, outs-Int}
use Rattle.cc_program.specs.declared.types.Sig.{Sig, out-roll-Sig}
use Rattle.cc_typed_bodies.specs.CcScopes.State.{State}
use Rattle.cc_typed_bodies.specs.CcScopes.Verdicts.{Found, whole, and_then}
use Rattle.cc_typed_bodies.specs.CcSyntax.Programs.{type_of}
use Rattle.cc_typed_bodies.specs.CcSyntax.Names.{device_names, intrinsic_names, file_names}
use Rattle.cc_typed_bodies.specs.CcSyntax.Normal.{is_operand}
use Rattle.cc_typed_bodies.specs.CcSyntax.Operators.{intrinsic_type, is_of}
use Rattle.cc_typed_bodies.specs.CcSyntax.SameTypes.{is_void_shape}
use Rattle.cc_typed_bodies.specs.CcSyntax.Sizes.{AreSized}
use Rattle.cc_typed_bodies.specs.CcSyntax.Sound.{IsSound}
use Rattle.cc_typed_bodies.specs.CcSyntax.Values.{ValueType, NoValue, Integer, scalar_shape, scalar_value, result_value}
use Rattle.cc_typed_bodies.proofs.CcSyntax.Prefixes.{both_true}
use Rattle.cc_typed_bodies.proofs.CcSyntax.SameLemmas.{int_itself}
use Rattle.cc_typed_bodies.specs.CcTerms.Expressions.{argument_found, arguments_found}
use Rattle.cc_typed_bodies.specs.CcTerms.InTurn.{in_turn, one_more}
use Rattle.cc_typed_bodies.specs.CcTerms.Operations.{callee, call_judged}
use Rattle.cc_typed_bodies.specs.CcTerms.Terms.{tree_of, here}
use Rattle.cc_tree.specs.declared.at.At.{At}
use Rattle.cc_tree.specs.declared.tree.Declr.TheOpen as trees
use Rattle.cc_tree.specs.declared.tree.Tree as tree
use Rattle.cc_tree.specs.declared.tree.Tree.{Tree}
use Rattle.cc_tree.specs.declared.tree.Tree.TheVariants as tree_rolls
use Rattle.cc_program.specs.CcWords.Names.{is_name, are_distinct}
use Rattle.cc_expression_trees.specs.Exprs.{ShowsValue}
use Rattle.cc_shown_expressions.proofs.Rules.{of-is}
use Rattle.cc_shown_effects.proofs.Arguments.{has-operand}
use Rattle.cc_shown_expressions.specs.Taken.{IsTakenAs}
use Rattle.cc_shown_expressions.proofs.Values.{value-taken}
use Rattle.cc_shown_expressions.specs.KnownNames.{KnowsNames, TypesStand}
use Rattle.cc_shown_expressions.specs.OperationNumbers.{Numbers, expr_numbered}
use Rattle.cc_shown_expressions.proofs.Levels.{when-is, type-at, expr-at}
use Rattle.cc_shown_expressions.proofs.Trees.{tree-at, name-tree}
use Rattle.cc_shown_expressions.specs.Numbers.{value_numbered}

-- ---- names of intrinsics

distinct-behind : (xs ys : List (List ℕ)) → are_distinct (xs ++ ys) ≡ true → are_distinct ys ≡ true
distinct-behind [] ys h = h
distinct-behind (x ∷ xs) ys h = distinct-behind xs ys (both_true (not (list_any (bytes_eq x) (xs ++ ys))) (are_distinct (xs ++ ys)) h).1

or-no : (a b : Bool) → not (a || b) ≡ true → (a ≡ false) × (not b ≡ true)
or-no false false h = (refl, refl)
or-no false true h = absurd (cc)
or-no true b h = absurd (cc)

self : (x : List ℕ) → bytes_eq x x ≡ true
self x = (bytes_eq-Decides x x).1 refl

turned-by : (x y : List ℕ) (b : Bool) → bytes_eq y x ≡ b → bytes_eq x y ≡ false → b ≡ false
turned-by x y false e h = refl
turned-by x y true e h = let same = (bytes_eq-Decides y x).0 e in let g : true ≡ false = sym ((bytes_eq-Decides x y).1 (sym same)) ∙ h in absurd (cc)

turned : (x y : List ℕ) → bytes_eq x y ≡ false → bytes_eq y x ≡ false
turned x y h = turned-by x y (bytes_eq y x) refl h

module _ (roles : Roles) (h : are_distinct (intrinsic_names roles) ≡ true) where
  first-apart : not (list_any (bytes_eq roles.off) (roles.on ∷ roles.save ∷ roles.restore ∷ [])) ≡ true
  first-apart = (both_true (not (list_any (bytes_eq roles.off) (roles.on ∷ roles.save ∷ roles.restore ∷ []))) (are_distinct (roles.on ∷ roles.save ∷ roles.restore ∷ [])) h).0

  behind-first : are_distinct (roles.on ∷ roles.save ∷ roles.restore ∷ []) ≡ true
  behind-first = (both_true (not (list_any (bytes_eq roles.off) (roles.on ∷ roles.save ∷ roles.restore ∷ []))) (are_distinct (roles.on ∷ roles.save ∷ roles.restore ∷ [])) h).1

  second-apart : not (list_any (bytes_eq roles.on) (roles.save ∷ roles.restore ∷ [])) ≡ true
  second-apart = (both_true (not (list_any (bytes_eq roles.on) (roles.save ∷ roles.restore ∷ []))) (are_distinct (roles.save ∷ roles.restore ∷ [])) behind-first).0

  third-apart : not (list_any (bytes_eq roles.save) (roles.restore ∷ [])) ≡ true
  third-apart = (both_true (not (list_any (bytes_eq roles.save) (roles.restore ∷ []))) (are_distinct (roles.restore ∷ []))
      (both_true (not (list_any (bytes_eq roles.on) (roles.save ∷ roles.restore ∷ []))) (are_distinct (roles.save ∷ roles.restore ∷ [])) behind-first).1).0

  off-on : (bytes_eq roles.off roles.on ≡ false) × (not (bytes_eq roles.off roles.save || (bytes_eq roles.off roles.restore || false)) ≡ true)
  off-on = or-no (bytes_eq roles.off roles.on) (bytes_eq roles.off roles.save || (bytes_eq roles.off roles.restore || false)) first-apart

  off-save : (bytes_eq roles.off roles.save ≡ false) × (not (bytes_eq roles.off roles.restore || false) ≡ true)
  off-save = or-no (bytes_eq roles.off roles.save) (bytes_eq roles.off roles.restore || false) off-on.1

  off-restore : bytes_eq roles.off roles.restore ≡ false
  off-restore = (or-no (bytes_eq roles.off roles.restore) false off-save.1).0

  on-save : (bytes_eq roles.on roles.save ≡ false) × (not (bytes_eq roles.on roles.restore || false) ≡ true)
  on-save = or-no (bytes_eq roles.on roles.save) (bytes_eq roles.on roles.restore || false) second-apart

  on-restore : bytes_eq roles.on roles.restore ≡ false
  on-restore = (or-no (bytes_eq roles.on roles.restore) false on-save.1).0

  save-restore : bytes_eq roles.save roles.restore ≡ false
  save-restore = (or-no (bytes_eq roles.save roles.restore) false third-apart).0

  named-intrinsic : (i : Intr) → intrinsic_named roles (intrinsic_name roles i) ≡ Some i
  named-intrinsic intr.Off = let a = self roles.off in rw a refl
  named-intrinsic intr.On = let a = turned roles.off roles.on off-on.0 in let b = self roles.on in rw (a, b) refl
  named-intrinsic intr.Save = let a = turned roles.off roles.save off-save.0 in let b = turned roles.on roles.save on-save.0 in let c = self roles.save in rw (a, b, c) refl
  named-intrinsic intr.Restore =
      let a = turned roles.off roles.restore off-restore in let b = turned roles.on roles.restore on-restore in let c = turned roles.save roles.restore save-restore in let d = self roles.restore in rw (a, b, c, d) refl

module _ (p : Program) (f : Func) (sound : IsSound p) (stand : TypesStand p f) (n : Numbers) (sized : AreSized p.structures p.target) (s : State) (names : KnowsNames p f n s) where
  names-differ : are_distinct (intrinsic_names p.roles) ≡ true
  names-differ =
      let fs = map (λ (g : Func). g.name) p.funcs in
      let os = map (λ (o : Object). o.name) p.objects in
      distinct-behind fs (intrinsic_names p.roles)
      (distinct-behind os (fs ++ intrinsic_names p.roles)
      (distinct-behind (device_names p.devices) (os ++ (fs ++ intrinsic_names p.roles))
      (both_true (list_all is_name (file_names p)) (are_distinct (file_names p)) sound.names).1))

  -- the name alone
  name-found : (i : Intr) (j : ℕ) → tree_of p.target p.roles (tree.Named (intrinsic_name p.roles i)) j s ≡ Ok (IsIntrinsic i j, s)
  name-found i j = name-tree p n s (intrinsic_name p.roles i) j ∙ ap (λ (o : Option Intr). whole j s (named_by j (intrinsic_name p.roles i) s o)) (named-intrinsic p.roles names-differ i)

  abbrev called_name : Intr → ℕ → At Tree
  called_name i j = record { at = j; node = tree.Named (intrinsic_name p.roles i) }

  -- with these arguments
  call-found : (i : Intr) (j at : ℕ) (xs : List (At Tree)) (ys : List Operand) → arguments_found (map (here p.target p.roles) xs) s ≡ Ok (ys, s) →
      tree_of p.target p.roles (tree.Call (called_name i j) xs) at s ≡ gives at s (call_judged p.target (IsIntrinsic i j) ys)
  call-found i j at xs ys h =
      let next = λ (y : TypedExpr) (s : State). and_then (arguments_found (map (here p.target p.roles) xs) s) (λ ys s. gives at s (call_judged p.target y ys)) in
      tree-at p n s (tree.Call (called_name i j) xs) (trees.Call (called_name i j) xs) (tree_rolls.outs-Call (called_name i j) xs) at
      ∙ ap (λ (r : Found TypedExpr). and_then r (λ y s. and_then (callee j y s) next)) (name-found i j)
      ∙ ap (λ (r : Found (List Operand)). and_then r (λ ys s. gives at s (call_judged p.target (IsIntrinsic i j) ys))) h

  -- what a prototype gives
  judged-by : (i : Intr) (r : CType) (ts : List CType) (ys : List Operand) →
      called_with p.target (λ es. IntrOf i (first_or_none es)) (signature r ts) ys ≡ judge_then (passed p.target ts ys) (λ es. result_of (IntrOf i (first_or_none es)) (result_value r))
  judged-by i r ts ys =
      ap (λ (y : shape.Sig-F Shape CType Sig). judge_then (passed p.target y.params ys) (λ es. result_of (IntrOf i (first_or_none es)) (result_value y.result))) (out-roll-Sig (record { result = r; params = ts }))

  void-result : result_value (plain Void) ≡ Some NoValue
  void-result = ap (λ (y : shape.Shape-F Shape CType Sig). if is_void_shape y then Some NoValue else scalar_shape y) outs-Void

  byte-result : result_value byte_type ≡ Some (Integer int.UChar)
  byte-result = ap (λ (y : shape.Shape-F Shape CType Sig). if is_void_shape y then Some NoValue else scalar_shape y) (outs-Int int.UChar)

  byte-value : scalar_value byte_type ≡ Some (Integer int.UChar)
  byte-value = ap scalar_shape (outs-Int int.UChar)

  -- ---- without an argument

  nothing-judged : (i : Intr) (j : ℕ) (v : ValueType) → intrinsic_type i None ≡ Some v → call_judged p.target (IsIntrinsic i j) [] ≡ Ok (operand (IntrOf i None) (value_numbered n.structure v))
  nothing-judged intr.Off j v h =
      let e : NoValue ≡ v = cc in
      judged-by intr.Off (plain Void) [] [] ∙ ap (result_of (IntrOf intr.Off None)) void-result ∙ ap (λ (u : ValueType). Ok (operand (IntrOf intr.Off None) (value_numbered n.structure u))) e
  nothing-judged intr.On j v h =
      let e : NoValue ≡ v = cc in
      judged-by intr.On (plain Void) [] [] ∙ ap (result_of (IntrOf intr.On None)) void-result ∙ ap (λ (u : ValueType). Ok (operand (IntrOf intr.On None) (value_numbered n.structure u))) e
  nothing-judged intr.Save j v h =
      let e : Integer int.UChar ≡ v = cc in
      judged-by intr.Save byte_type [] [] ∙ ap (result_of (IntrOf intr.Save None)) byte-result ∙ ap (λ (u : ValueType). Ok (operand (IntrOf intr.Save None) (value_numbered n.structure u))) e
  nothing-judged intr.Restore j v h = absurd (cc)

  pub intrinsic-shown : (e : Expr) (i : Intr) (v : ValueType) (j at : ℕ) → out-Expr e ≡ one.Intr i None → type_of p f.locals e ≡ Some v →
      tree_of p.target p.roles (tree.Call (record { at = j; node = tree.Named (intrinsic_name p.roles i) }) []) at s ≡ Ok (IsValue (operand (expr_numbered n e) (value_numbered n.structure v)), s)
  intrinsic-shown e i v j at h t =
      call-found i j at [] [] refl
      ∙ ap (gives at s) (nothing-judged i j v (sym (type-at p f e (one.Intr i None) h) ∙ t))
      ∙ ap (λ (z : Expr). Ok (IsValue (operand z (value_numbered n.structure v)), s)) (sym (expr-at n e (one.Intr i None) h))

  -- ---- with one

  restored : (o : Option ValueType) (v : ValueType) → intrinsic_type intr.Restore (Some o) ≡ Some v → (o ≡ Some (Integer int.UChar)) × (v ≡ NoValue)
  restored None v h = absurd (cc)
  restored (Some u) v h = let w = when-is (is_of int.UChar u) NoValue v h in (ap (λ (u : ValueType). Some u) (of-is int.UChar u w.0), w.1)

  argument-taken : (a : Expr) (x : At Tree) → type_of p f.locals a ≡ Some (Integer int.UChar) → ShowsValue p f None a x.node → is_operand p.target f a ≡ true → IsTakenAs p n s x.node x.at a (Integer int.UChar)
  argument-taken a x t h o =
      value-taken p f n s sized names stand None a x.node h x.at (Integer int.UChar) (Integer int.UChar) (has-operand p f n sized stand s names a (Integer int.UChar) (Integer int.UChar) o t (int_itself int.UChar)) tt (int_itself int.UChar) (λ t e. absurd (cc))

  argument-is : (a : Expr) (x : At Tree) (w : ValueType) (q : IsTakenAs p n s x.node x.at a w) → arguments_found (map (here p.target p.roles) (x ∷ [])) s ≡ Ok (q.operand ∷ [], s)
  argument-is a x w q =
      ap (λ (r : Found TypedExpr). and_then (one_more [] (and_then r (valued x.at))) (in_turn argument_found [])) q.is
      ∙ ap (λ (r : Found Operand). and_then (one_more [] r) (in_turn argument_found [])) (q.value x.at)

  restore-judged : (a : Expr) (x : At Tree) (j : ℕ) (q : IsTakenAs p n s x.node x.at a (Integer int.UChar)) → call_judged p.target (IsIntrinsic intr.Restore j) (q.operand ∷ []) ≡ Ok (operand (IntrOf intr.Restore (Some (expr_numbered n a))) NoValue)
  restore-judged a x j q =
      let done = λ (es : List Expr). result_of (IntrOf intr.Restore (first_or_none es)) (result_value (plain Void)) in
      judged-by intr.Restore (plain Void) (byte_type ∷ []) (q.operand ∷ [])
      ∙ ap (λ (o : Option ValueType). judge_then (judge_then (passed_to p.target byte_type q.operand o) (λ y. Ok (y.value ∷ []))) done) byte-value
      ∙ ap (λ (r : Judged Operand). judge_then (judge_then r (λ y. Ok (y.value ∷ []))) done) q.assigned.is
      ∙ ap (λ (z : Expr). result_of (IntrOf intr.Restore (Some z)) (result_value (plain Void))) q.assigned.value
      ∙ ap (result_of (IntrOf intr.Restore (Some (expr_numbered n a)))) void-result

  restore-shown : (e a : Expr) (v : ValueType) (j at : ℕ) (x : At Tree) → out-Expr e ≡ one.Intr intr.Restore (Some a) → intrinsic_type intr.Restore (Some (type_of p f.locals a)) ≡ Some v → ShowsValue p f None a x.node → is_operand p.target f a ≡ true →
      tree_of p.target p.roles (tree.Call (record { at = j; node = tree.Named p.roles.restore }) (x ∷ [])) at s ≡ Ok (IsValue (operand (expr_numbered n e) (value_numbered n.structure v)), s)
  restore-shown e a v j at x h t shown o =
      let r = restored (type_of p f.locals a) v t in
      let q = argument-taken a x r.0 shown o in
      call-found intr.Restore j at (x ∷ []) (q.operand ∷ []) (argument-is a x (Integer int.UChar) q)
      ∙ ap (gives at s) (restore-judged a x j q)
      ∙ ap (λ (z : Expr). Ok (IsValue (operand z NoValue), s)) (sym (expr-at n e (one.Intr intr.Restore (Some a)) h))
      ∙ ap (λ (u : ValueType). Ok (IsValue (operand (expr_numbered n e) (value_numbered n.structure u)), s)) (sym r.1)

  argument-by : (e a : Expr) (i : Intr) (v : ValueType) (j at : ℕ) (x : At Tree) → out-Expr e ≡ one.Intr i (Some a) → intrinsic_type i (Some (type_of p f.locals a)) ≡ Some v → ShowsValue p f None a x.node → is_operand p.target f a ≡ true →
      tree_of p.target p.roles (tree.Call (record { at = j; node = tree.Named (intrinsic_name p.roles i) }) (x ∷ [])) at s ≡ Ok (IsValue (operand (expr_numbered n e) (value_numbered n.structure v)), s)
  argument-by e a intr.Off v j at x h t shown o = absurd (cc)
  argument-by e a intr.On v j at x h t shown o = absurd (cc)
  argument-by e a intr.Save v j at x h t shown o = absurd (cc)
  argument-by e a intr.Restore v j at x h t shown o = restore-shown e a v j at x h t shown o

  pub argument-shown : (e a : Expr) (i : Intr) (v : ValueType) (j at : ℕ) (x : At Tree) → out-Expr e ≡ one.Intr i (Some a) → type_of p f.locals e ≡ Some v → ShowsValue p f None a x.node → is_operand p.target f a ≡ true →
      tree_of p.target p.roles (tree.Call (record { at = j; node = tree.Named (intrinsic_name p.roles i) }) (x ∷ [])) at s ≡ Ok (IsValue (operand (expr_numbered n e) (value_numbered n.structure v)), s)
  argument-shown e a i v j at x h t shown o = argument-by e a i v j at x h (sym (type-at p f e (one.Intr i (Some a)) h) ∙ t) shown o
