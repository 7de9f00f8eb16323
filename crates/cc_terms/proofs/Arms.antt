-- What expressions mean whose parts are found, where the rules for operands are not to be opened: an expression means what
-- the step of its construct makes of the meanings of its parts, and that is found part for part.
use Rattle.std.proofs.Common.{◌≡◌, ◌∙◌, ℕ, true, List, Result, Ok, Err, refl, ap, sym, subst, map}
use Rattle.cc_typed_terms.specs.CcDesignators.Assignments.{assign_of}
use Rattle.cc_typed_terms.specs.CcDesignators.Casts.{cast_of}
use Rattle.cc_typed_terms.specs.CcDesignators.Designators.{TypedExpr}
use Rattle.cc_typed_terms.specs.CcDesignators.View.{expr_view}
use Rattle.cc_typed_terms.specs.CcDesignators.declared.designated.TypedExpr.{TypedExpr as CodeExpr}
use Rattle.cc_typed_terms.specs.CcLex.declared.token.Mark.{Mark}
use Rattle.cc_program.specs.CcNum.declared.target.Target.{Target}
use Rattle.cc_typed_terms.specs.CcOperands.Choices.{choose_of, comma_of}
use Rattle.cc_typed_terms.specs.CcOperands.Operands.{Operand}
use Rattle.cc_typed_terms.specs.CcOperands.Operators.{operator_of}
use Rattle.cc_typed_terms.specs.CcOperands.Verdicts.{Judged, Judges}
use Rattle.cc_typed_terms.specs.CcOperands.View.{operand_view}
use Rattle.cc_typed_terms.specs.CcOperands.declared.operand.Operand.{Operand as CodeOperand}
use Rattle.cc_typed_terms.specs.CcOperands.declared.verdict.Breach.{Breach}
use Rattle.cc_typed_terms.specs.Operators.{binary_by}
use Rattle.cc_typed_terms.specs.Values.{found_value, gives, value_found, designated_found}
use Rattle.cc_typed_terms.specs.View.{operands_view}
use Rattle.cc_program.specs.declared.program.Roles.{Roles}
use Rattle.cc_program.specs.declared.types.CType.{CType}
use Rattle.cc_program.specs.declared.types.Structure.{Structure}
use Rattle.cc_scopes.proofs.Outcomes.{judged-gives}
use Rattle.cc_scopes.specs.Outcomes.{Gives, stopped}
use Rattle.cc_scopes.specs.State.{State, structures_of}
use Rattle.cc_scopes.specs.Verdicts.{Found, whole, and_then}
use Rattle.cc_scopes.specs.declared.verdict.Stop.{Stop}
use Rattle.cc_scopes.specs.declared.verdict.Stop.TheVariants as stop
use Rattle.cc_tree.specs.declared.at.At.{At}
use Rattle.cc_tree.specs.declared.tree.Declr.{Declr}
use Rattle.cc_tree.specs.declared.tree.Declr.TheOpen as one
use Rattle.cc_tree.specs.declared.tree.Enumr.{Enumr}
use Rattle.cc_tree.specs.declared.tree.MemberDecl.{MemberDecl}
use Rattle.cc_tree.specs.declared.tree.Param.{Param}
use Rattle.cc_tree.specs.declared.tree.Params.{Params}
use Rattle.cc_tree.specs.declared.tree.Spec.{Spec}
use Rattle.cc_tree.specs.declared.tree.Tree.{Tree, Comma, Assign, Choose, Binary, Prefix, Postfix, SizeOf, SizeOfType, Cast, Subscript, Call, Member, Arrow, out-Tree, fold_out-Tree, map-Tree}
use Rattle.cc_tree.specs.declared.tree.Tree.TheVariants.{outs-Comma, outs-Assign, outs-Choose, outs-Binary, outs-Prefix, outs-Postfix, outs-SizeOf, outs-SizeOfType, outs-Cast, outs-Subscript, outs-Call, outs-Member, outs-Arrow}
use Rattle.cc_tree.specs.declared.tree.TypeName.{TypeName}
use Rattle.cc_terms.specs.Constants.{enumr_step}
use Rattle.cc_terms.specs.Declarators.{declr_step, params_step, param_step, type_name_step}
use Rattle.cc_terms.specs.Expressions.{arguments_found, tree_step}
use Rattle.cc_terms.specs.Meanings.{TreeMeaning, DeclrMeaning, ParamsMeaning, ParamMeaning, SpecMeaning, MembersMeaning, EnumrMeaning, TypeNameMeaning}
use Rattle.cc_terms.specs.Members.{members_step}
use Rattle.cc_terms.specs.Operations.{subscript_base, subscript_judged, callee, call_judged}
use Rattle.cc_terms.specs.Specifiers.{spec_step}
use Rattle.cc_terms.specs.Terms.{declr_of, params_of, spec_of, tree_of, enumr_of, members_of, param_of, type_name_of, here}

-- a part that is found, and one that is not
then_found : {A B : Type 0} (m : Found A) (next : A → State → Found B) (x : A) (s : State) → m ≡ Ok (x, s) → and_then m next ≡ next x s
then_found m next x s h = ap (λ m. and_then m next) h

then_stops : {A B C D : Type 0} (view : A → B) (out : C → D) (why : Stop) (t : State) (m : Found B) (next : B → State → Found D) (all : Found D) → all ≡ and_then m next →
    Gives {A = A} view (Err why) t m → Gives {A = C} out (Err why) t all
then_stops view out (stop.Broken fault) t m next all is h = is ∙ ap (λ m. and_then m next) h
then_stops view out stop.NoMemory t m next all is h = tt

judged : (at : ℕ) (s : State) (r : Result CodeExpr Breach) (j : Judged TypedExpr) (all : Found TypedExpr) → all ≡ whole at s j → Judges expr_view r j → Gives expr_view (stopped at r) s all
judged at s r j all is h = subst (λ (m : Found TypedExpr). Gives expr_view (stopped at r) s m) (sym is) (judged-gives expr_view r j at s h)

module _ (target : Target) (roles : Roles) where
  abbrev pub tree_in : one.Tree-F Declr Params Spec Tree Enumr MemberDecl Param TypeName → TreeMeaning
  tree_in x = tree_step target roles (map-Tree Declr Params Spec Tree Enumr MemberDecl Param TypeName DeclrMeaning ParamsMeaning SpecMeaning TreeMeaning EnumrMeaning MembersMeaning ParamMeaning TypeNameMeaning (declr_of target roles) (params_of target roles) (spec_of target roles) (tree_of target roles) (enumr_of target roles) (members_of target roles) (param_of target roles) (type_name_of target roles) x)

  pub tree-out : (x : Tree) → tree_of target roles x ≡ tree_in (out-Tree x)
  unfolding declr_of params_of spec_of tree_of enumr_of members_of param_of type_name_of
  tree-out x = fold_out-Tree DeclrMeaning ParamsMeaning SpecMeaning TreeMeaning EnumrMeaning MembersMeaning ParamMeaning TypeNameMeaning declr_step params_step (spec_step target) (tree_step target roles) (enumr_step target roles) (members_step target) (param_step target roles) (type_name_step target) x

  -- ---- each construct by its step

  by_step : (e : Tree) (x : one.Tree-F Declr Params Spec Tree Enumr MemberDecl Param TypeName) (at : ℕ) (s t : State) (r : Result CodeExpr Stop) → out-Tree e ≡ x → Gives expr_view r t (tree_in x at s) →
      Gives expr_view r t (tree_of target roles e at s)
  by_step e x at s t r is h = subst (λ (m : TreeMeaning). Gives expr_view r t (m at s)) (sym (tree-out e ∙ ap tree_in is)) h

  pub comma-step : (e : Tree) (a b : At Tree) (at : ℕ) (s t : State) (r : Result CodeExpr Stop) → e ≡ Comma a b → Gives expr_view r t (tree_step target roles (one.Comma (here target roles a) (here target roles b)) at s) → Gives expr_view r t (tree_of target roles e at s)
  comma-step e a b at s t r is h = by_step e _ at s t r (ap out-Tree is ∙ outs-Comma a b) h

  pub assign-step : (e : Tree) (o : Mark) (a b : At Tree) (at : ℕ) (s t : State) (r : Result CodeExpr Stop) → e ≡ Assign o a b → Gives expr_view r t (tree_step target roles (one.Assign o (here target roles a) (here target roles b)) at s) → Gives expr_view r t (tree_of target roles e at s)
  assign-step e o a b at s t r is h = by_step e _ at s t r (ap out-Tree is ∙ outs-Assign o a b) h

  pub choose-step : (e : Tree) (c a b : At Tree) (at : ℕ) (s t : State) (r : Result CodeExpr Stop) → e ≡ Choose c a b → Gives expr_view r t (tree_step target roles (one.Choose (here target roles c) (here target roles a) (here target roles b)) at s) → Gives expr_view r t (tree_of target roles e at s)
  choose-step e c a b at s t r is h = by_step e _ at s t r (ap out-Tree is ∙ outs-Choose c a b) h

  pub binary-step : (e : Tree) (o : Mark) (a b : At Tree) (at : ℕ) (s t : State) (r : Result CodeExpr Stop) → e ≡ Binary o a b → Gives expr_view r t (tree_step target roles (one.Binary o (here target roles a) (here target roles b)) at s) → Gives expr_view r t (tree_of target roles e at s)
  binary-step e o a b at s t r is h = by_step e _ at s t r (ap out-Tree is ∙ outs-Binary o a b) h

  pub prefix-step : (e : Tree) (o : Mark) (a : At Tree) (at : ℕ) (s t : State) (r : Result CodeExpr Stop) → e ≡ Prefix o a → Gives expr_view r t (tree_step target roles (one.Prefix o (here target roles a)) at s) → Gives expr_view r t (tree_of target roles e at s)
  prefix-step e o a at s t r is h = by_step e _ at s t r (ap out-Tree is ∙ outs-Prefix o a) h

  pub postfix-step : (e : Tree) (a : At Tree) (o : Mark) (at : ℕ) (s t : State) (r : Result CodeExpr Stop) → e ≡ Postfix a o → Gives expr_view r t (tree_step target roles (one.Postfix (here target roles a) o) at s) → Gives expr_view r t (tree_of target roles e at s)
  postfix-step e a o at s t r is h = by_step e _ at s t r (ap out-Tree is ∙ outs-Postfix a o) h

  pub sizeof-step : (e : Tree) (a : At Tree) (at : ℕ) (s t : State) (r : Result CodeExpr Stop) → e ≡ SizeOf a → Gives expr_view r t (tree_step target roles (one.SizeOf (here target roles a)) at s) → Gives expr_view r t (tree_of target roles e at s)
  sizeof-step e a at s t r is h = by_step e _ at s t r (ap out-Tree is ∙ outs-SizeOf a) h

  pub sizeof_type-step : (e : Tree) (y : TypeName) (at : ℕ) (s t : State) (r : Result CodeExpr Stop) → e ≡ SizeOfType y → Gives expr_view r t (tree_step target roles (one.SizeOfType (type_name_of target roles y)) at s) → Gives expr_view r t (tree_of target roles e at s)
  sizeof_type-step e y at s t r is h = by_step e _ at s t r (ap out-Tree is ∙ outs-SizeOfType y) h

  pub cast-step : (e : Tree) (y : TypeName) (a : At Tree) (at : ℕ) (s t : State) (r : Result CodeExpr Stop) → e ≡ Cast y a → Gives expr_view r t (tree_step target roles (one.Cast (type_name_of target roles y) (here target roles a)) at s) → Gives expr_view r t (tree_of target roles e at s)
  cast-step e y a at s t r is h = by_step e _ at s t r (ap out-Tree is ∙ outs-Cast y a) h

  pub subscript-step : (e : Tree) (a i : At Tree) (at : ℕ) (s t : State) (r : Result CodeExpr Stop) → e ≡ Subscript a i → Gives expr_view r t (tree_step target roles (one.Subscript (here target roles a) (here target roles i)) at s) → Gives expr_view r t (tree_of target roles e at s)
  subscript-step e a i at s t r is h = by_step e _ at s t r (ap out-Tree is ∙ outs-Subscript a i) h

  pub call-step : (e : Tree) (f : At Tree) (args : List (At Tree)) (at : ℕ) (s t : State) (r : Result CodeExpr Stop) → e ≡ Call f args → Gives expr_view r t (tree_step target roles (one.Call (here target roles f) (map (here target roles) args)) at s) → Gives expr_view r t (tree_of target roles e at s)
  call-step e f args at s t r is h = by_step e _ at s t r (ap out-Tree is ∙ outs-Call f args) h

  pub member-step : (e : Tree) (a : At Tree) (x : List ℕ) (at : ℕ) (s t : State) (r : Result CodeExpr Stop) → e ≡ Member a x → Gives expr_view r t (tree_step target roles (one.Member (here target roles a) x) at s) → Gives expr_view r t (tree_of target roles e at s)
  member-step e a x at s t r is h = by_step e _ at s t r (ap out-Tree is ∙ outs-Member a x) h

  pub arrow-step : (e : Tree) (a : At Tree) (x : List ℕ) (at : ℕ) (s t : State) (r : Result CodeExpr Stop) → e ≡ Arrow a x → Gives expr_view r t (tree_step target roles (one.Arrow (here target roles a) x) at s) → Gives expr_view r t (tree_of target roles e at s)
  arrow-step e a x at s t r is h = by_step e _ at s t r (ap out-Tree is ∙ outs-Arrow a x) h

  -- ---- a, b

  abbrev comma2 : ℕ → Operand → Operand → State → Found TypedExpr
  comma2 at x y s = gives at s (comma_of x y)

  abbrev comma1 : ℕ → At TreeMeaning → Operand → State → Found TypedExpr
  comma1 at b x s = and_then (value_found b s) (comma2 at x)

  pub comma-gives : (a b : At TreeMeaning) (at : ℕ) (s s1 s2 : State) (x y : Operand) (r : Result CodeExpr Breach) →
      value_found a s ≡ Ok (x, s1) → value_found b s1 ≡ Ok (y, s2) → Judges expr_view r (found_value (comma_of x y)) → Gives expr_view (stopped at r) s2 (tree_step target roles (one.Comma a b) at s)
  comma-gives a b at s s1 s2 x y r h i j = judged at s2 r _ _ (then_found _ (comma1 at b) x s1 h ∙ then_found _ (comma2 at x) y s2 i) j

  -- ---- a = b

  abbrev assign2 : ℕ → Mark → TypedExpr → Operand → State → Found TypedExpr
  assign2 at o x y s = gives at s (assign_of target (structures_of s) o x y)

  abbrev assign1 : ℕ → Mark → At TreeMeaning → TypedExpr → State → Found TypedExpr
  assign1 at o b x s = and_then (value_found b s) (assign2 at o x)

  pub assign-gives : (o : Mark) (a g b : At TreeMeaning) (at : ℕ) (s s1 s2 : State) (x : TypedExpr) (y : Operand) (ss : List Structure) (r : Result CodeExpr Breach) → g ≡ a →
      designated_found g s ≡ Ok (x, s1) → value_found b s1 ≡ Ok (y, s2) → ss ≡ structures_of s2 →
      Judges expr_view r (found_value (assign_of target ss o x y)) → Gives expr_view (stopped at r) s2 (tree_step target roles (one.Assign o a b) at s)
  assign-gives o a g b at s s1 s2 x y ss r same h i these j =
      judged at s2 r _ _ (then_found _ (assign1 at o b) x s1 (subst (λ (g : At TreeMeaning). designated_found g s ≡ Ok (x, s1)) same h) ∙ then_found _ (assign2 at o x) y s2 i)
      (subst (λ (ss : List Structure). Judges expr_view r (found_value (assign_of target ss o x y))) these j)

  -- ---- c ? a : b

  abbrev choose3 : ℕ → Operand → Operand → Operand → State → Found TypedExpr
  choose3 at x y z s = gives at s (choose_of target x y z)

  abbrev choose2 : ℕ → At TreeMeaning → Operand → Operand → State → Found TypedExpr
  choose2 at b x y s = and_then (value_found b s) (choose3 at x y)

  abbrev choose1 : ℕ → At TreeMeaning → At TreeMeaning → Operand → State → Found TypedExpr
  choose1 at a b x s = and_then (value_found a s) (choose2 at b x)

  choose-found : (c a b : At TreeMeaning) (at : ℕ) (s s1 s2 : State) (x y : Operand) → value_found c s ≡ Ok (x, s1) → value_found a s1 ≡ Ok (y, s2) →
      tree_step target roles (one.Choose c a b) at s ≡ and_then (value_found b s2) (choose3 at x y)
  choose-found c a b at s s1 s2 x y h i = then_found _ (choose1 at a b) x s1 h ∙ then_found _ (choose2 at b x) y s2 i

  pub choose-gives : (c a b : At TreeMeaning) (at : ℕ) (s s1 s2 s3 : State) (x y z : Operand) (r : Result CodeExpr Breach) →
      value_found c s ≡ Ok (x, s1) → value_found a s1 ≡ Ok (y, s2) → value_found b s2 ≡ Ok (z, s3) →
      Judges expr_view r (found_value (choose_of target x y z)) → Gives expr_view (stopped at r) s3 (tree_step target roles (one.Choose c a b) at s)
  choose-gives c a b at s s1 s2 s3 x y z r h i k j = judged at s3 r _ _ (choose-found c a b at s s1 s2 x y h i ∙ then_found _ (choose3 at x y) z s3 k) j

  pub choose-stops : (c a b : At TreeMeaning) (at : ℕ) (s s1 s2 t : State) (x y : Operand) (why : Stop) →
      value_found c s ≡ Ok (x, s1) → value_found a s1 ≡ Ok (y, s2) → Gives {A = CodeOperand} operand_view (Err why) t (value_found b s2) →
      Gives {A = CodeExpr} expr_view (Err why) t (tree_step target roles (one.Choose c a b) at s)
  choose-stops c a b at s s1 s2 t x y why h i k = then_stops operand_view expr_view why t _ (choose3 at x y) _ (choose-found c a b at s s1 s2 x y h i) k

  -- ---- binary operators

  abbrev binary2 : ℕ → Mark → Operand → Operand → State → Found TypedExpr
  binary2 at o x y s = gives at s (binary_by target (structures_of s) (operator_of o) x y)

  abbrev binary1 : ℕ → Mark → At TreeMeaning → Operand → State → Found TypedExpr
  binary1 at o b x s = and_then (value_found b s) (binary2 at o x)

  pub binary-stops : (o : Mark) (a b : At TreeMeaning) (at : ℕ) (s t : State) (why : Stop) →
      Gives {A = CodeOperand} operand_view (Err why) t (value_found a s) → Gives {A = CodeExpr} expr_view (Err why) t (tree_step target roles (one.Binary o a b) at s)
  binary-stops o a b at s t why h = then_stops operand_view expr_view why t _ (binary1 at o b) _ refl h

  pub binary-stops_behind : (o : Mark) (a b : At TreeMeaning) (at : ℕ) (s s1 t : State) (x : Operand) (why : Stop) → value_found a s ≡ Ok (x, s1) →
      Gives {A = CodeOperand} operand_view (Err why) t (value_found b s1) → Gives {A = CodeExpr} expr_view (Err why) t (tree_step target roles (one.Binary o a b) at s)
  binary-stops_behind o a b at s s1 t x why h i = then_stops operand_view expr_view why t _ (binary2 at o x) _ (then_found _ (binary1 at o b) x s1 h) i

  pub binary-gives : (o : Mark) (a b : At TreeMeaning) (at : ℕ) (s s1 s2 : State) (x y : Operand) (ss : List Structure) (r : Result CodeExpr Breach) →
      value_found a s ≡ Ok (x, s1) → value_found b s1 ≡ Ok (y, s2) → ss ≡ structures_of s2 →
      Judges expr_view r (found_value (binary_by target ss (operator_of o) x y)) → Gives expr_view (stopped at r) s2 (tree_step target roles (one.Binary o a b) at s)
  binary-gives o a b at s s1 s2 x y ss r h i these j =
      judged at s2 r _ _ (then_found _ (binary1 at o b) x s1 h ∙ then_found _ (binary2 at o x) y s2 i)
      (subst (λ (ss : List Structure). Judges expr_view r (found_value (binary_by target ss (operator_of o) x y))) these j)

  -- ---- casts

  abbrev cast2 : ℕ → CType → Operand → State → Found TypedExpr
  cast2 at to x s = whole at s (cast_of target at to x)

  abbrev cast1 : ℕ → At TreeMeaning → CType → State → Found TypedExpr
  cast1 at a to s = and_then (value_found a s) (cast2 at to)

  cast-found : (y g : TypeNameMeaning) (a : At TreeMeaning) (at : ℕ) (s s1 : State) (to : CType) → g ≡ y → g true s ≡ Ok (to, s1) →
      tree_step target roles (one.Cast y a) at s ≡ cast1 at a to s1
  cast-found y g a at s s1 to same h = then_found _ (cast1 at a) to s1 (subst (λ (g : TypeNameMeaning). g true s ≡ Ok (to, s1)) same h)

  pub cast-stops : (y g : TypeNameMeaning) (a : At TreeMeaning) (at : ℕ) (s s1 t2 : State) (to : CType) (why : Stop) → g ≡ y → g true s ≡ Ok (to, s1) →
      Gives {A = CodeOperand} operand_view (Err why) t2 (value_found a s1) → Gives {A = CodeExpr} expr_view (Err why) t2 (tree_step target roles (one.Cast y a) at s)
  cast-stops y g a at s s1 t2 to why same h i = then_stops operand_view expr_view why t2 _ (cast2 at to) _ (cast-found y g a at s s1 to same h) i

  pub cast-gives : (y g : TypeNameMeaning) (a : At TreeMeaning) (at : ℕ) (s s1 s2 : State) (to : CType) (x : Operand) (r : Result CodeExpr Breach) → g ≡ y → g true s ≡ Ok (to, s1) →
      value_found a s1 ≡ Ok (x, s2) → Judges expr_view r (cast_of target at to x) → Gives expr_view (stopped at r) s2 (tree_step target roles (one.Cast y a) at s)
  cast-gives y g a at s s1 s2 to x r same h i j = judged at s2 r _ _ (cast-found y g a at s s1 to same h ∙ then_found _ (cast2 at to) x s2 i) j

  -- ---- subscripts

  abbrev subscript3 : ℕ → TypedExpr → Operand → State → Found TypedExpr
  subscript3 at x y s = whole at s (subscript_judged (structures_of s) x y)

  abbrev subscript2 : ℕ → At TreeMeaning → TypedExpr → State → Found TypedExpr
  subscript2 at i x s = and_then (value_found i s) (subscript3 at x)

  abbrev subscript1 : ℕ → ℕ → At TreeMeaning → TypedExpr → State → Found TypedExpr
  subscript1 at first i x s = and_then (subscript_base first x s) (subscript2 at i)

  subscript-found : (a g i : At TreeMeaning) (at : ℕ) (s s1 : State) (x y : TypedExpr) → g ≡ a → g.node g.at s ≡ Ok (x, s1) → subscript_base g.at x s1 ≡ Ok (y, s1) →
      tree_step target roles (one.Subscript a i) at s ≡ subscript2 at i y s1
  subscript-found a g i at s s1 x y same h k =
      then_found _ (subscript1 at a.at i) x s1 (subst (λ (g : At TreeMeaning). g.node g.at s ≡ Ok (x, s1)) same h)
      ∙ then_found _ (subscript2 at i) y s1 (subst (λ (g : At TreeMeaning). subscript_base g.at x s1 ≡ Ok (y, s1)) same k)

  pub subscript-stops : (a g i : At TreeMeaning) (at : ℕ) (s s1 t : State) (x y : TypedExpr) (why : Stop) → g ≡ a → g.node g.at s ≡ Ok (x, s1) → subscript_base g.at x s1 ≡ Ok (y, s1) →
      Gives {A = CodeOperand} operand_view (Err why) t (value_found i s1) → Gives {A = CodeExpr} expr_view (Err why) t (tree_step target roles (one.Subscript a i) at s)
  subscript-stops a g i at s s1 t x y why same h k l = then_stops operand_view expr_view why t _ (subscript3 at y) _ (subscript-found a g i at s s1 x y same h k) l

  pub subscript-gives : (a g i : At TreeMeaning) (at : ℕ) (s s1 s2 : State) (x y : TypedExpr) (z : Operand) (ss : List Structure) (r : Result CodeExpr Breach) → g ≡ a →
      g.node g.at s ≡ Ok (x, s1) → subscript_base g.at x s1 ≡ Ok (y, s1) → value_found i s1 ≡ Ok (z, s2) → ss ≡ structures_of s2 →
      Judges expr_view r (subscript_judged ss y z) → Gives expr_view (stopped at r) s2 (tree_step target roles (one.Subscript a i) at s)
  subscript-gives a g i at s s1 s2 x y z ss r same h k l these j =
      judged at s2 r _ _ (subscript-found a g i at s s1 x y same h k ∙ then_found _ (subscript3 at y) z s2 l) (subst (λ (ss : List Structure). Judges expr_view r (subscript_judged ss y z)) these j)

  -- ---- calls

  abbrev call3 : ℕ → TypedExpr → List Operand → State → Found TypedExpr
  call3 at x xs s = gives at s (call_judged target x xs)

  abbrev call2 : ℕ → List (At TreeMeaning) → TypedExpr → State → Found TypedExpr
  call2 at args x s = and_then (arguments_found args s) (call3 at x)

  abbrev call1 : ℕ → ℕ → List (At TreeMeaning) → TypedExpr → State → Found TypedExpr
  call1 at first args x s = and_then (callee first x s) (call2 at args)

  call-found : (f g : At TreeMeaning) (args : List (At TreeMeaning)) (at : ℕ) (s s1 : State) (x y : TypedExpr) → g ≡ f → g.node g.at s ≡ Ok (x, s1) → callee g.at x s1 ≡ Ok (y, s1) →
      tree_step target roles (one.Call f args) at s ≡ call2 at args y s1
  call-found f g args at s s1 x y same h k =
      then_found _ (call1 at f.at args) x s1 (subst (λ (g : At TreeMeaning). g.node g.at s ≡ Ok (x, s1)) same h)
      ∙ then_found _ (call2 at args) y s1 (subst (λ (g : At TreeMeaning). callee g.at x s1 ≡ Ok (y, s1)) same k)

  pub call-stops : (f g : At TreeMeaning) (args : List (At TreeMeaning)) (at : ℕ) (s s1 t : State) (x y : TypedExpr) (why : Stop) → g ≡ f → g.node g.at s ≡ Ok (x, s1) → callee g.at x s1 ≡ Ok (y, s1) →
      Gives {A = List CodeOperand} operands_view (Err why) t (arguments_found args s1) → Gives {A = CodeExpr} expr_view (Err why) t (tree_step target roles (one.Call f args) at s)
  call-stops f g args at s s1 t x y why same h k l = then_stops operands_view expr_view why t _ (call3 at y) _ (call-found f g args at s s1 x y same h k) l

  pub call-gives : (f g : At TreeMeaning) (args : List (At TreeMeaning)) (at : ℕ) (s s1 s2 : State) (x y : TypedExpr) (xs : List Operand) (r : Result CodeExpr Breach) → g ≡ f →
      g.node g.at s ≡ Ok (x, s1) → callee g.at x s1 ≡ Ok (y, s1) → arguments_found args s1 ≡ Ok (xs, s2) →
      Judges expr_view r (found_value (call_judged target y xs)) → Gives expr_view (stopped at r) s2 (tree_step target roles (one.Call f args) at s)
  call-gives f g args at s s1 s2 x y xs r same h k l j = judged at s2 r _ _ (call-found f g args at s s1 x y same h k ∙ then_found _ (call3 at y) xs s2 l) j
