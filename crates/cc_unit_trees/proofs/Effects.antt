-- What a statement does is read: assignments, calls and intrinsics.
use Rattle.std.proofs.Common.{◌≡◌, ℕ, ◌+◌, ◌≤◌, Bool, true, false, ◌&&◌, ◌||◌, not, cond, List, [], ◌∷◌, ◌++◌, map, length, Option, Some, None, refl, ap, sym, ◌∙◌, subst, arith, lit≤, append_assoc, append-nil, slice_get}
use Rattle.std.specs.Option.{is_some}
use Rattle.std.specs.List.{list_all}
use Rattle.cc_lex.specs.declared.token.Mark.TheVariants as m
use Rattle.cc_lex.proofs.Booleans.{and-true}
use Rattle.cc_bodies.specs.Exprs.{Written, WrittenPlace, expr_written, written, place, expr}
use Rattle.cc_bodies.specs.Names.{named, func_name}
use Rattle.cc_bodies.specs.Spots.{Whole, Operand}
use Rattle.cc_bodies.specs.Stmts.{Effect, Calls, Acts, Computes, effect_at, taker, parameters_of, first, behind_first, intrinsic_name, intrinsic, further_arguments, arguments, right_side_at, right_side, assignment, done_at, done}
use Rattle.cc_bodies.proofs.Links.{level}
use Rattle.cc_expression_trees.specs.Exprs.{ShowsExpr, ShowsFunction, ShowsRead, ValueOf}
use Rattle.cc_expression_trees.specs.ReadExpressions.{ReadsTree}
use Rattle.cc_expression_trees.proofs.Forms.{showing, name-read}
use Rattle.cc_expression_trees.proofs.Reading.{expr-reads, place-reads}
use Rattle.cc_expression_trees.proofs.Typed.{held, IsOperand, IsOperandPlace, parts-of, soft-place, type-roll}
use Rattle.cc_pieces.specs.Pieces.{Pieces, punct, space}
use Rattle.cc_expression_trees.specs.Laid.{laid}
use Rattle.cc_program.specs.declared.expr.Expr.{Expr, out-Expr, roll-Expr, roll-out-Expr, map-Expr}
use Rattle.cc_program.specs.declared.expr.Expr.TheOpen as one
use Rattle.cc_program.specs.declared.expr.Intr.{Intr}
use Rattle.cc_program.specs.declared.expr.Intr.TheVariants as intr
use Rattle.cc_program.specs.declared.expr.Place.{Place}
use Rattle.cc_program.specs.declared.func.Func.{Func}
use Rattle.cc_program.specs.declared.program.Program.{Program}
use Rattle.cc_program.specs.declared.types.CType.{CType}
use Rattle.cc_program.specs.declared.types.Sig.{out-Sig}
use Rattle.cc_typed.specs.CcSyntax.Effects.{no_one, is_soft, effects_of, place_effects_of}
use Rattle.cc_typed.specs.CcSyntax.Expressions.{of_one, of_two}
use Rattle.cc_typed.specs.CcSyntax.Programs.{expr_step, type_of, place_type}
use Rattle.cc_typed.specs.CcSyntax.Folding.{is_folded, is_folded_place}
use Rattle.cc_typed.specs.CcSyntax.Forms.{CallForm, form_at, form_of}
use Rattle.cc_typed.specs.CcSyntax.Normal.{is_operand, is_optional_operand, is_register_place, is_other_place, is_callee, is_call, is_place_read, is_assignment, is_expression_statement}
use Rattle.cc_typed.specs.CcSyntax.Operators.{function_type, call_type, intrinsic_type}
use Rattle.cc_typed.specs.CcSyntax.Pairs.{all_pairs}
use Rattle.cc_typed.specs.CcSyntax.Values.{ValueType, NoValue, Integer, ToObject, ToFunction, PlaceType, written_to, is_assignable_some, scalar_value, are_assignable}
use Rattle.cc_tree.specs.declared.at.At.{At}
use Rattle.cc_tree.specs.declared.tree.Tree as tree
use Rattle.cc_tree.specs.declared.tree.Tree.{Tree}
use Rattle.cc_tree.specs.Terms.{IsArgs, FirstArg, MoreArgs, ACall, ACallOfNone, AnAssignment, AName}
use Rattle.cc_tree.specs.Tokens.{Tokens, at as at_of}
use Rattle.cc_unit_trees.specs.Effects.{ShowsArguments, NoArgument, MoreArguments, ShowsRight, ShowsCall, ShowsIntrinsic, ShowsIntrinsicOf, AnotherValue, ShowsEffect, ShowsAssignment, ShowsDone}

module _ (p : Program) (f : Func) where
  abbrev pub IsTyped : Expr → Type 0
  IsTyped e = is_some (type_of p f.locals e) ≡ true

  -- ---- what is said of parts

  pub operand-of : (e : Expr) → is_operand p.target f e ≡ true → IsTyped e → IsOperand p f e
  operand-of e h t = record { typed = t; pure = (and-true ((effects_of f e).pure no_one) (is_folded p.target e) h).0 }

  pub register-soft : (r : Option ℕ) → is_some r ≡ true → is_soft r no_one ≡ true
  register-soft None h = absurd (cc)
  register-soft (Some r) h = refl

  register-place : (a : Place) → is_register_place p.target f a ≡ true → is_some (place_type p f.locals a) ≡ true → IsOperandPlace p f a
  register-place a h t = record { typed = t; pure = soft-place p f a (register-soft (place_effects_of f a).register h) }

  pub other-place : (a : Place) → is_other_place p.target f a ≡ true → is_some (place_type p f.locals a) ≡ true → IsOperandPlace p f a
  other-place a h t =
      let q = and-true (not (is_register_place p.target f a)) ((place_effects_of f a).pure no_one && is_folded_place p.target a) h in
      record { typed = t; pure = (and-true ((place_effects_of f a).pure no_one) (is_folded_place p.target a) q.1).0 }

  -- ---- arguments

  abbrev pub TypedEach : List Expr → Type 0
  TypedEach [] = Unit {0}
  TypedEach (e ∷ es) = IsTyped e × TypedEach es

  assigned-some : (to o : Option ValueType) → is_assignable_some to o ≡ true → is_some o ≡ true
  assigned-some None o h = absurd (cc)
  assigned-some (Some t) None h = absurd (cc)
  assigned-some (Some t) (Some v) h = refl

  pub args-typed : (ts : List CType) (es : List Expr) → are_assignable ts (map (type_of p f.locals) es) ≡ true → TypedEach es
  args-typed ts [] h = tt
  args-typed [] (e ∷ es) h = absurd (cc)
  args-typed (t ∷ ts) (e ∷ es) h =
      let q = and-true (is_assignable_some (scalar_value t) (type_of p f.locals e)) (all_pairs (λ t v. is_assignable_some (scalar_value t) v) ts (map (type_of p f.locals) es)) h in
      (assigned-some (scalar_value t) (type_of p f.locals e) q.0, args-typed ts es q.1)

  record ReadsArguments (ts : List CType) (es : List Expr) (done : List (At Tree)) (all : Tokens) (ps : Pieces) : Type 0 where
    trees : List (At Tree)
    shows : ShowsArguments p f ts es trees
    next : ℕ
    is : IsArgs [] (done ++ trees) all (laid next ps)

  further-read : (ts : List CType) (es : List Expr) → list_all (is_operand p.target f) es ≡ true → TypedEach es → (done : List (At Tree)) (all : Tokens) (at : ℕ) (ps : Pieces) → IsArgs [] done all (laid at (further_arguments p f ts es ps)) →
      ReadsArguments ts es done all ps
  further-read ts [] h t done all at ps k = record { trees = []; shows = NoArgument ts; next = at; is = subst (λ xs. IsArgs [] xs all (laid at ps)) (sym (append-nil done)) k }
  further-read ts (e ∷ es) h t done all at ps k =
      let q = and-true (is_operand p.target f e) (list_all (is_operand p.target f) es) h in
      let r = expr-reads p f e (operand-of e q.0 t.0) (Whole (first ts)) 1 (at + 1 + 1) (further_arguments p f (behind_first ts) es ps) (lit≤ tt) in
      let b = further-read (behind_first ts) es q.1 t.1 (done ++ r.tree ∷ []) all r.next ps (MoreArgs [] done r.tree (at, 1) all _ _ k r.is) in
      record {
        trees = r.tree ∷ b.trees;
        shows = MoreArguments ts e es r.tree b.trees r.shows b.shows;
        next = b.next;
        is = subst (λ xs. IsArgs [] xs all (laid b.next ps)) (append_assoc done (r.tree ∷ []) b.trees) b.is;
      }

  -- a call with its arguments in parentheses
  call-read : (S : Tree → Type 0) (T : Tree → Type 0) (ts : List CType) (args : List Expr) → ((x : At Tree) (xs : List (At Tree)) → T x.node → ShowsArguments p f ts args xs → S (tree.Call x xs)) →
      list_all (is_operand p.target f) args ≡ true → TypedEach args → (qs ps : Pieces) (l at : ℕ) → l ≤ 2 → ReadsTree T 15 at qs (punct m.LParen ∷ arguments p f ts args (punct m.RParen ∷ ps)) → ReadsTree S l at qs ps
  call-read S T ts [] build h t qs ps l at e x =
      record {
        tree = at_of (laid at qs) (tree.Call x.tree []);
        shows = build x.tree [] x.shows (NoArgument ts);
        next = x.next + 1 + 1;
        is = ACallOfNone [] l x.tree (x.next, 1) (x.next + 1, 1) _ _ (omega (arith, e)) x.is;
      }
  call-read S T ts (a ∷ args) build h t qs ps l at e x =
      let q = and-true (is_operand p.target f a) (list_all (is_operand p.target f) args) h in
      let rest = further_arguments p f (behind_first ts) args (punct m.RParen ∷ ps) in
      let r = expr-reads p f a (operand-of a q.0 t.0) (Whole (first ts)) 1 (x.next + 1) rest (lit≤ tt) in
      let b = further-read (behind_first ts) args q.1 t.1 (r.tree ∷ []) (laid (x.next + 1) (arguments p f ts (a ∷ args) (punct m.RParen ∷ ps))) r.next (punct m.RParen ∷ ps) (FirstArg [] r.tree _ _ r.is) in
      record {
        tree = at_of (laid at qs) (tree.Call x.tree (r.tree ∷ b.trees));
        shows = build x.tree (r.tree ∷ b.trees) x.shows (MoreArguments ts a args r.tree b.trees r.shows b.shows);
        next = b.next + 1;
        is = ACall [] l x.tree (r.tree ∷ b.trees) (x.next, 1) (b.next, 1) _ _ _ (omega (arith, e)) x.is b.is;
      }

  -- ---- what is called

  -- what a level says, of an expression that has it
  pub at-type : (e : Expr) (x : one.Expr-F Expr Place) → out-Expr e ≡ x → IsTyped e → is_some (expr_step p f.locals (map-Expr Expr Place (Option ValueType) (Option PlaceType) (type_of p f.locals) (place_type p f.locals) x)) ≡ true
  at-type e x h t = subst (λ o. is_some o ≡ true) (ap (type_of p f.locals) (sym (roll-out-Expr e) ∙ ap roll-Expr h) ∙ type-roll p f x) t

  pub at-text : (e : Expr) (x : one.Expr-F Expr Place) → out-Expr e ≡ x → written p f e ≡ expr_written p f (map-Expr Expr Place Written WrittenPlace (written p f) (place p f) x)
  at-text e x h = ap (written p f) (sym (roll-out-Expr e) ∙ ap roll-Expr h) ∙ level p f x

  function-some : (o : Option Func) → is_some (function_type o) ≡ true → is_some o ≡ true
  function-some None h = absurd (cc)
  function-some (Some g) h = refl

  pub one-some : {A B : Type 0} (a : Option A) (g : A → Option B) → is_some (of_one a g) ≡ true → is_some a ≡ true
  one-some None g h = absurd (cc)
  one-some (Some a) g h = refl

  two-some : {A B C : Type 0} (a : Option A) (b : Option B) (g : A → B → Option C) → is_some (of_two a b g) ≡ true → (is_some a ≡ true) × (is_some b ≡ true)
  two-some None b g h = absurd (cc)
  two-some (Some a) None g h = absurd (cc)
  two-some (Some a) (Some b) g h = (refl, refl)

  -- a function's name, or a register, which no operator parts
  callee-read : (g : Expr) (x : one.Expr-F Expr Place) → out-Expr g ≡ x → is_callee p.target f (form_at x) ≡ true → IsTyped g → (at : ℕ) (ps : Pieces) → ReadsTree (ShowsExpr p f g) 15 at (expr p f g Operand ps) ps
  callee-read g (one.FuncAddr i) h k t at ps =
      let o = held (slice_get p.funcs i) (function-some (slice_get p.funcs i) (at-type g (one.FuncAddr i) h t)) in
      subst (λ w. ReadsTree (ShowsExpr p f g) 15 at (w.text Operand ps) ps) (sym (at-text g (one.FuncAddr i) h))
      (subst (λ o. ReadsTree (ShowsExpr p f g) 15 at (named (func_name o) ps) ps) (sym o.1) (name-read (ShowsExpr p f g) o.0.name (ShowsFunction g i o.0 h o.1) 15 at ps))
  callee-read g (one.Load a) h k t at ps =
      let r = place-reads p f a (register-place a k (one-some (place_type p f.locals a) _ (at-type g (one.Load a) h t))) Operand 15 at ps (lit≤ tt) in
      subst (λ w. ReadsTree (ShowsExpr p f g) 15 at (w.text Operand ps) ps) (sym (at-text g (one.Load a) h)) (showing (λ x i. ShowsRead g a x h i) r)
  callee-read g _ h k t at ps = absurd (cc)

  -- ---- right sides

  abbrev ReadsRight : Option CType → Expr → Effect → Type 0
  ReadsRight to e x = (l at : ℕ) (ps : Pieces) → l ≤ 1 → ReadsTree (ShowsRight p f to e) l at (right_side_at p f to e x ps) ps

  pub call-types : (o : Option ValueType) (args : List (Option ValueType)) → is_some (of_one o (λ v. call_type v args)) ≡ true → (is_some o ≡ true) × (are_assignable (parameters_of o) args ≡ true)
  call-types None args h = absurd (cc)
  call-types (Some NoValue) args h = absurd (cc)
  call-types (Some (Integer t)) args h = absurd (cc)
  call-types (Some (ToObject constant volatile t)) args h = absurd (cc)
  call-types (Some (ToFunction sig)) args h = (refl, assigned (are_assignable (out-Sig sig).params args) _ h) where
    assigned : (b : Bool) (o : Option ValueType) → is_some (cond b o None) ≡ true → b ≡ true
    assigned true o h = refl
    assigned false o h = absurd (cc)

  pub right-call : (to : Option CType) (e g : Expr) (args : List Expr) → out-Expr e ≡ one.Call g args → is_call p.target f (CallForm g args) ≡ true → IsTyped e → ReadsRight to e (Calls g args)
  right-call to e g args h k t l at ps u =
      let q = and-true (is_callee p.target f (form_of g)) (list_all (is_operand p.target f) args) k in
      let c = call-types (type_of p f.locals g) (map (type_of p f.locals) args) (at-type e (one.Call g args) h t) in
      let ts = parameters_of (type_of p f.locals g) in
      call-read (ShowsRight p f to e) (ShowsExpr p f g) ts args (λ x xs i j. ShowsCall to e g args x xs h i j) q.1 (args-typed ts args c.1) _ ps l at (omega (arith, u))
      (callee-read g (out-Expr g) refl q.0 c.0 at (punct m.LParen ∷ arguments p f ts args (punct m.RParen ∷ ps)))

  pub intrinsic-operand : (i : Intr) (o : Option ValueType) → is_some (intrinsic_type i (Some o)) ≡ true → is_some o ≡ true
  intrinsic-operand i (Some v) h = refl
  intrinsic-operand intr.Off None h = absurd (cc)
  intrinsic-operand intr.On None h = absurd (cc)
  intrinsic-operand intr.Save None h = absurd (cc)
  intrinsic-operand intr.Restore None h = absurd (cc)

  pub right-intrinsic : (to : Option CType) (e : Expr) (i : Intr) (a : Option Expr) → out-Expr e ≡ one.Intr i a → is_optional_operand p.target f a ≡ true → IsTyped e → ReadsRight to e (Acts i a)
  right-intrinsic to e i None h k t l at ps u =
      let x = intrinsic_name p.roles i in
      record {
        tree = at_of (laid at (intrinsic p f i None ps)) (tree.Call (record { at = at; node = tree.Named x }) []);
        shows = ShowsIntrinsic to e i at h;
        next = at + length x + 1 + 1;
        is = ACallOfNone [] l (record { at = at; node = tree.Named x }) (at + length x, 1) (at + length x + 1, 1) _ _ (omega (arith, u)) (AName [] 15 x (at, length x) _ refl);
      }
  right-intrinsic to e i (Some a) h k t l at ps u =
      let x = intrinsic_name p.roles i in
      let r = expr-reads p f a (operand-of a k (intrinsic-operand i (type_of p f.locals a) (at-type e (one.Intr i (Some a)) h t))) (Whole None) 1 (at + length x + 1) (punct m.RParen ∷ ps) (lit≤ tt) in
      record {
        tree = at_of (laid at (intrinsic p f i (Some a) ps)) (tree.Call (record { at = at; node = tree.Named x }) (r.tree ∷ []));
        shows = ShowsIntrinsicOf to e a i at r.tree h r.shows;
        next = r.next + 1;
        is = ACall [] l (record { at = at; node = tree.Named x }) (r.tree ∷ []) (at + length x, 1) (r.next, 1) _ _ _ (omega (arith, u)) (AName [] 15 x (at, length x) _ refl) (FirstArg [] r.tree _ _ r.is);
      }

  value-read : (to : Option CType) (e : Expr) → IsOperand p f e → (l at : ℕ) (ps : Pieces) → l ≤ 1 → ReadsTree (ShowsRight p f to e) l at (expr p f e (Whole to) ps) ps
  value-read to e h l at ps u = showing (λ x i. AnotherValue to e x i) (expr-reads p f e h (Whole to) l at ps (omega (arith, u)))

  pub rolled : (e : Expr) (x : one.Expr-F Expr Place) → out-Expr e ≡ x → IsOperand p f e → IsOperand p f (roll-Expr x)
  rolled e x h = subst (IsOperand p f) (sym (roll-out-Expr e) ∙ ap roll-Expr h)

  -- no operand calls
  operand-right : (to : Option CType) (e : Expr) (x : one.Expr-F Expr Place) → out-Expr e ≡ x → IsOperand p f e → ReadsRight to e (effect_at x)
  operand-right to e (one.Call g args) h k = absurd (parts-of p f (one.Call g args) (rolled e (one.Call g args) h k))
  operand-right to e (one.Intr i a) h k = absurd (parts-of p f (one.Intr i a) (rolled e (one.Intr i a) h k))
  operand-right to e (one.Assign a r) h k = value-read to e k
  operand-right to e _ h k = value-read to e k

  load-right : (to : Option CType) (e : Expr) (a : Place) → out-Expr e ≡ one.Load a → IsOperandPlace p f a → ReadsRight to e Computes
  load-right to e a h k l at ps u = subst (λ w. ReadsTree (ShowsRight p f to e) l at (w.text (Whole to) ps) ps) (sym (at-text e (one.Load a) h))
      (showing (λ x i. AnotherValue to e x (ValueOf to e x (ShowsRead e a x h i))) (place-reads p f a k (Whole to) l at ps (omega (arith, u))))

  -- a place that is read, a call, or an intrinsic
  other-right : (to : Option CType) (e : Expr) (x : one.Expr-F Expr Place) → out-Expr e ≡ x → (is_place_read p.target f (form_at x) || is_call p.target f (form_at x)) ≡ true → IsTyped e → ReadsRight to e (effect_at x)
  other-right to e (one.Load a) h k t = load-right to e a h (other-place a (first-true (is_other_place p.target f a) k) (one-some (place_type p f.locals a) _ (at-type e (one.Load a) h t))) where
    first-true : (b : Bool) → (b || false) ≡ true → b ≡ true
    first-true true h = refl
    first-true false h = absurd (cc)
  other-right to e (one.Call g args) h k t = right-call to e g args h k t
  other-right to e (one.Intr i a) h k t = right-intrinsic to e i a h k t
  other-right to e _ h k t = absurd (cc)

  right-read : (to : Option CType) (e : Expr) → (is_operand p.target f e || (is_place_read p.target f (form_of e) || is_call p.target f (form_of e))) ≡ true → IsTyped e → ReadsRight to e (effect_at (out-Expr e))
  right-read to e h t = by (is_operand p.target f e) refl where
    second : (b c : Bool) → b ≡ false → (b || c) ≡ true → c ≡ true
    second true c e h = absurd (cc)
    second false c e h = h

    by : (b : Bool) → is_operand p.target f e ≡ b → ReadsRight to e (effect_at (out-Expr e))
    by true k = operand-right to e (out-Expr e) refl (operand-of e k t)
    by false k = other-right to e (out-Expr e) refl (second (is_operand p.target f e) _ k h) t

  -- ---- expression statements

  pub assign-types : (a : Place) (r : Expr) (e : Expr) → out-Expr e ≡ one.Assign a r → IsTyped e → (is_some (place_type p f.locals a) ≡ true) × IsTyped r
  assign-types a r e h t =
      let q = two-some (of_one (place_type p f.locals a) written_to) (type_of p f.locals r) _ (at-type e (one.Assign a r) h t) in
      (one-some (place_type p f.locals a) written_to q.0, q.1)

  pub sides : (a : Place) (r : Expr) → is_assignment p.target f a r ≡ true → is_some (place_type p f.locals a) ≡ true → IsOperandPlace p f a × ((is_operand p.target f r || (is_place_read p.target f (form_of r) || is_call p.target f (form_of r))) ≡ true)
  sides a r h t = by (is_register_place p.target f a) refl where
    or-first : (b c : Bool) → b ≡ true → (b || c) ≡ true
    or-first true c h = refl
    or-first false c h = absurd (cc)

    at : (b : Bool) → is_register_place p.target f a ≡ b → cond b (is_operand p.target f r || (is_place_read p.target f (form_of r) || is_call p.target f (form_of r))) (is_other_place p.target f a && is_operand p.target f r) ≡ true
    at b e = subst (λ b. cond b (is_operand p.target f r || (is_place_read p.target f (form_of r) || is_call p.target f (form_of r))) (is_other_place p.target f a && is_operand p.target f r) ≡ true) e h

    by : (b : Bool) → is_register_place p.target f a ≡ b → IsOperandPlace p f a × ((is_operand p.target f r || (is_place_read p.target f (form_of r) || is_call p.target f (form_of r))) ≡ true)
    by true e = (register-place a e t, at true e)
    by false e = let q = and-true (is_other_place p.target f a) (is_operand p.target f r) (at false e) in (other-place a q.0 t, or-first (is_operand p.target f r) _ q.1)

  effect-level : (e : Expr) (x : one.Expr-F Expr Place) → out-Expr e ≡ x → is_expression_statement p.target f (form_at x) ≡ true → IsTyped e → (at : ℕ) (ps : Pieces) → ReadsTree (ShowsEffect p f e) 0 at (done_at p f e (effect_at x) ps) ps
  effect-level e (one.Assign a r) h k t at ps =
      let y = assign-types a r e h t in
      let s = sides a r k y.0 in
      let to = taker (place_type p f.locals a) in
      let l = place-reads p f a s.0 Operand 14 at (space ∷ punct m.Assign ∷ space ∷ right_side p f to r ps) (lit≤ tt) in
      let q = right-read to r s.1 y.1 1 (l.next + 1 + 1 + 1) ps (lit≤ tt) in
      record {
        tree = at_of (laid at (assignment p f a r ps)) (tree.Assign m.Assign l.tree q.tree);
        shows = ShowsAssignment e a r l.tree q.tree h l.shows q.shows;
        next = q.next;
        is = AnAssignment [] 0 m.Assign l.tree q.tree (l.next + 1, 1) _ _ _ (lit≤ tt) refl l.is q.is;
      }
  effect-level e (one.Call g args) h k t at ps = subst (λ y. ReadsTree (ShowsEffect p f e) 0 at (right_side_at p f None e (effect_at y) ps) ps) (sym h) (showing (λ x i. ShowsDone e x i) (right-call None e g args h k t 0 at ps (lit≤ tt)))
  effect-level e (one.Intr i a) h k t at ps = subst (λ y. ReadsTree (ShowsEffect p f e) 0 at (right_side_at p f None e (effect_at y) ps) ps) (sym h) (showing (λ x i. ShowsDone e x i) (right-intrinsic None e i a h k t 0 at ps (lit≤ tt)))
  effect-level e _ h k t at ps = absurd (cc)

  pub effect-read : (e : Expr) → is_expression_statement p.target f (form_of e) ≡ true → IsTyped e → (at : ℕ) (ps : Pieces) → ReadsTree (ShowsEffect p f e) 0 at (done p f e ps) ps
  effect-read e h t at ps = effect-level e (out-Expr e) refl h t at ps
