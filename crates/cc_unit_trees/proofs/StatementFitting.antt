-- The pieces of statements in normal form part from one another, by induction over statements.
use Rattle.std.proofs.Common.{◌≡◌, ◌≤◌, ◌-◌, ◌^◌, ℕ, zero, suc, ◌+◌, Bool, true, false, ◌&&◌, ◌||◌, ℤ, List, [], ◌∷◌, ◌++◌, map, Option, Some, None, refl, ap, sym, ◌∙◌, subst, slice_get}
use Rattle.std.specs.List.{list_all, flat_map}
use Rattle.cc_program.specs.CcNum.declared.int_type.IntType.{IntType}
use Rattle.cc_program.specs.CcNum.declared.target.Target.{Target}
use Rattle.cc_program.specs.CcNum.Integers.{is_value_of}
use Rattle.cc_program.proofs.CcNum.ResultLaws.{value_from_test}
use Rattle.cc_program.specs.CcWords.Names.{is_name}
use Rattle.cc_program.specs.CcWords.declared.word.Word.{Word}
use Rattle.cc_program.specs.CcWords.declared.word.Word.TheVariants as w
use Rattle.cc_lex.specs.declared.token.Mark.TheVariants as m
use Rattle.cc_lex.proofs.Booleans.{and-true}
use Rattle.cc_bodies.specs.Exprs.{expr}
use Rattle.cc_bodies.specs.Spots.{Spot, Whole, Operand}
use Rattle.cc_bodies.specs.Stmts.{StmtText, CaseText, Effect, Calls, Acts, Computes, effect_at, taker, parameters_of, first, behind_first, intrinsic_name, further_arguments, arguments, right_side_at, done_at, all_lines, else_lines, case_body, case_lines, label_lines, opened, closed, ended, head, label_type, stmt_step, stmt}
use Rattle.cc_expression_trees.specs.Names.{HasNames}
use Rattle.cc_expression_trees.proofs.Fitting.{expr-fits, place-fits}
use Rattle.cc_expression_trees.proofs.Numbers.{constant-fits}
use Rattle.cc_expression_trees.proofs.Typed.{IsOperand, IsOperandPlace, parts-of}
use Rattle.cc_pieces.specs.Pieces.{Pieces, punct, indentation, end_of_line, flat}
use Rattle.cc_expression_trees.specs.Parts.{Fits, is_gap}
use Rattle.cc_program.specs.declared.expr.Expr.{Expr, out-Expr}
use Rattle.cc_program.specs.declared.expr.Expr.TheOpen as one
use Rattle.cc_program.specs.declared.expr.Intr.{Intr}
use Rattle.cc_program.specs.declared.expr.Place.{Place}
use Rattle.cc_program.specs.declared.func.Func.{Func}
use Rattle.cc_program.specs.declared.object.Device.{Device}
use Rattle.cc_program.specs.declared.program.Program.{Program}
use Rattle.cc_program.specs.declared.types.CType.{CType}
use Rattle.cc_program.specs.declared.types.Sig.{out-Sig}
use Rattle.cc_program.specs.declared.stmt.Case.{Case, roll-Case}
use Rattle.cc_program.specs.declared.stmt.Stmt.{Stmt, roll-Stmt, map-Stmt}
use Rattle.cc_program.specs.declared.stmt.Stmt.TheOpen as is
use Rattle.cc_program.proofs.Each.{Each}
use Rattle.cc_program.proofs.StmtInduction.{StmtParts, CaseParts, by_stmts}
use Rattle.cc_typed.specs.CcSyntax.Effects.{no_one, place_effects_of}
use Rattle.cc_typed.specs.CcSyntax.Programs.{type_of, place_type, is_sound_stmt}
use Rattle.cc_typed.specs.CcSyntax.Forms.{form_at, form_of, CallForm}
use Rattle.cc_typed.specs.CcSyntax.Normal.{is_one, is_operand, is_optional_operand, is_callee, is_call, is_place_read, is_other_place, is_expression_statement, is_normal_stmt}
use Rattle.cc_typed.specs.CcSyntax.Statements.{labels_fit, label_fits, is_condition}
use Rattle.cc_typed.specs.CcSyntax.Values.{ValueType, NoValue, Integer, ToObject, ToFunction, scalar_value}
use Rattle.cc_expression_trees.specs.Soft.{IsSoft}
use Rattle.cc_expression_trees.proofs.TypeFitting.{open-apart, close-apart, name-apart}
use Rattle.cc_unit_trees.proofs.Effects.{IsTyped, TypedEach, operand-of, register-soft, other-place, args-typed, at-type, at-text, one-some, call-types, intrinsic-operand, rolled, assign-types, sides}
use Rattle.cc_unit_trees.proofs.Lines.{condition-some, labels-some, assigned-some, one-pure, effects-at, casing, normal_in, sound_in, IsFine, IsFineCase, Normal, Sound, stmt-roll, normal-roll, sound-roll, case-roll, case-normal-roll, case-sound-roll}

-- ---- lines

indent-gap : (level : ℕ) → is_gap (indentation level) ≡ true
indent-gap zero = refl
indent-gap (suc n) = indent-gap n

ended-fits : (ps : Pieces) → Fits ps → Fits (ended ps)
ended-fits ps f = (refl, refl, (refl, f))

opened-fits : (ps : Pieces) → Fits ps → Fits (opened ps)
opened-fits ps f = (refl, (refl, refl, (refl, f)))

closed-fits : (level : ℕ) (ps : Pieces) → Fits ps → Fits (closed level ps)
closed-fits level ps f = (indent-gap level, (refl, refl, (refl, f)))

abbrev FitsStmtText : StmtText → Type 0
FitsStmtText text = (level : ℕ) (ps : Pieces) → Fits ps → Fits (text level ps)

abbrev EachFits : List StmtText → Type 0
EachFits [] = Unit {0}
EachFits (t ∷ ts) = FitsStmtText t × EachFits ts

all-fit : (ts : List StmtText) → EachFits ts → FitsStmtText (all_lines ts)
all-fit [] h level ps f = f
all-fit (t ∷ ts) h level ps f = h.0 level (all_lines ts level ps) (all-fit ts h.1 level ps f)

else-fit : (ts : List StmtText) → EachFits ts → FitsStmtText (else_lines ts)
else-fit [] h level ps f = f
else-fit (t ∷ ts) h level ps f = (indent-gap level, (refl, refl, (refl, (tt, refl, opened-fits _ (all-fit (t ∷ ts) h (level + 1) ps f)))))

body-fit : (ts : List StmtText) → EachFits ts → FitsStmtText (case_body ts)
body-fit [] h level ps f = (indent-gap level, ended-fits ps f)
body-fit (t ∷ ts) h level ps f = all-fit (t ∷ ts) h level ps f

-- ---- labels

module _ (target : Target) (t : IntType) where
  labels-fitting : (ls : List (Option ℤ)) → list_all (label_fits target t) ls ≡ true → (level : ℕ) (ps : Pieces) → Fits ps → Fits (label_lines target t level ls ps)
  labels-fitting [] h level ps f = f
  labels-fitting (None ∷ ls) h level ps f = (indent-gap level, (tt, refl, (refl, refl, (refl, labels-fitting ls h level ps f))))
  labels-fitting (Some n ∷ ls) h level ps f =
      let q = and-true (is_value_of t target n) (list_all (label_fits target t) ls) h in
      let rest = label_lines target t level ls ps in
      (indent-gap level, (tt, refl, (refl, (constant-fits target n t (value_from_test t target n q.0) (punct m.Colon ∷ end_of_line ∷ rest) (refl, refl, (refl, labels-fitting ls q.1 level ps f)) refl).0)))

module _ (p : Program) (f : Func) (names : HasNames p f) (addresses : (i : ℕ) (d : Device) → slice_get p.devices i ≡ Some d → d.number ≤ 2 ^ 63 - 1) (acts : (i : Intr) → is_name (intrinsic_name p.roles i) ≡ true) where
  expr-part : (e : Expr) → IsOperand p f e → (spot : Spot) (ps : Pieces) → Fits ps → IsSoft (flat ps) → Fits (expr p f e spot ps)
  expr-part e h spot ps g s = (expr-fits p f names addresses e h spot ps g s).0

  -- ---- effects

  further-fit : (ts : List CType) (es : List Expr) → list_all (is_operand p.target f) es ≡ true → TypedEach p f es → (ps : Pieces) → Fits ps → IsSoft (flat ps) → Fits (further_arguments p f ts es ps) × IsSoft (flat (further_arguments p f ts es ps))
  further-fit ts [] h t ps g s = (g, s)
  further-fit ts (e ∷ es) h t ps g s =
      let q = and-true (is_operand p.target f e) (list_all (is_operand p.target f) es) h in
      let r = further-fit (behind_first ts) es q.1 t.1 ps g s in
      ((refl, refl, (refl, expr-part e (operand-of p f e q.0 t.0) (Whole (first ts)) (further_arguments p f (behind_first ts) es ps) r.0 r.1)), refl)

  arguments-fit : (ts : List CType) (es : List Expr) → list_all (is_operand p.target f) es ≡ true → TypedEach p f es → (ps : Pieces) → Fits ps → IsSoft (flat ps) → Fits (arguments p f ts es ps)
  arguments-fit ts [] h t ps g s = g
  arguments-fit ts (e ∷ es) h t ps g s =
      let q = and-true (is_operand p.target f e) (list_all (is_operand p.target f) es) h in
      let r = further-fit (behind_first ts) es q.1 t.1 ps g s in
      expr-part e (operand-of p f e q.0 t.0) (Whole (first ts)) (further_arguments p f (behind_first ts) es ps) r.0 r.1

  callee-operand : (g : Expr) (x : one.Expr-F Expr Place) → out-Expr g ≡ x → is_callee p.target f (form_at x) ≡ true → IsTyped p f g → IsOperand p f g
  callee-operand g (one.FuncAddr i) h k t = record { typed = t; pure = ap (λ a. a.pure no_one) (effects-at p f g (one.FuncAddr i) h) }
  callee-operand g (one.Load a) h k t = record { typed = t; pure = ap (λ a. a.pure no_one) (effects-at p f g (one.Load a) h) ∙ register-soft p f (place_effects_of f a).register k }
  callee-operand g _ h k t = absurd (cc)

  abbrev FitsRight : Option CType → Expr → Effect → Type 0
  FitsRight to e x = (ps : Pieces) → Fits ps → IsSoft (flat ps) → Fits (right_side_at p f to e x ps)

  call-fits : (to : Option CType) (e g : Expr) (args : List Expr) → out-Expr e ≡ one.Call g args → is_call p.target f (CallForm g args) ≡ true → IsTyped p f e → FitsRight to e (Calls g args)
  call-fits to e g args h k t ps z s =
      let q = and-true (is_callee p.target f (form_of g)) (list_all (is_operand p.target f) args) k in
      let c = call-types p f (type_of p f.locals g) (map (type_of p f.locals) args) (at-type p f e (one.Call g args) h t) in
      let ts = parameters_of (type_of p f.locals g) in
      expr-part g (callee-operand g (out-Expr g) refl q.0 c.0) Operand (punct m.LParen ∷ arguments p f ts args (punct m.RParen ∷ ps))
      (refl, open-apart (flat (arguments p f ts args (punct m.RParen ∷ ps))), arguments-fit ts args q.1 (args-typed p f ts args c.1) (punct m.RParen ∷ ps) (refl, close-apart (flat ps), z) refl) refl

  intrinsic-fits : (to : Option CType) (e : Expr) (i : Intr) (a : Option Expr) → out-Expr e ≡ one.Intr i a → is_optional_operand p.target f a ≡ true → IsTyped p f e → FitsRight to e (Acts i a)
  intrinsic-fits to e i None h k t ps z s = (acts i, refl, (refl, refl, (refl, close-apart (flat ps), z)))
  intrinsic-fits to e i (Some a) h k t ps z s = (
    acts i,
    name-apart (intrinsic_name p.roles i) (flat (punct m.LParen ∷ expr p f a (Whole None) (punct m.RParen ∷ ps))) refl,
    (
      refl,
      open-apart (flat (expr p f a (Whole None) (punct m.RParen ∷ ps))),
      expr-part a (operand-of p f a k (intrinsic-operand p f i (type_of p f.locals a) (at-type p f e (one.Intr i (Some a)) h t))) (Whole None) (punct m.RParen ∷ ps) (refl, close-apart (flat ps), z) refl,
    ),
  )

  operand-right : (to : Option CType) (e : Expr) (x : one.Expr-F Expr Place) → out-Expr e ≡ x → IsOperand p f e → FitsRight to e (effect_at x)
  operand-right to e (one.Call g args) h k = absurd (parts-of p f (one.Call g args) (rolled p f e (one.Call g args) h k))
  operand-right to e (one.Intr i a) h k = absurd (parts-of p f (one.Intr i a) (rolled p f e (one.Intr i a) h k))
  operand-right to e (one.Assign a r) h k = λ ps z s. expr-part e k (Whole to) ps z s
  operand-right to e _ h k = λ ps z s. expr-part e k (Whole to) ps z s

  load-right : (to : Option CType) (e : Expr) (a : Place) → out-Expr e ≡ one.Load a → IsOperandPlace p f a → FitsRight to e Computes
  load-right to e a h k ps z s = subst (λ w. Fits (w.text (Whole to) ps)) (sym (at-text p f e (one.Load a) h)) (place-fits p f names addresses a k (Whole to) ps z s).0

  other-right : (to : Option CType) (e : Expr) (x : one.Expr-F Expr Place) → out-Expr e ≡ x → (is_place_read p.target f (form_at x) || is_call p.target f (form_at x)) ≡ true → IsTyped p f e → FitsRight to e (effect_at x)
  other-right to e (one.Load a) h k t = load-right to e a h (other-place p f a (first-true (is_other_place p.target f a) k) (one-some p f (place_type p f.locals a) _ (at-type p f e (one.Load a) h t))) where
    first-true : (b : Bool) → (b || false) ≡ true → b ≡ true
    first-true true h = refl
    first-true false h = absurd (cc)
  other-right to e (one.Call g args) h k t = call-fits to e g args h k t
  other-right to e (one.Intr i a) h k t = intrinsic-fits to e i a h k t
  other-right to e _ h k t = absurd (cc)

  right-fits : (to : Option CType) (e : Expr) → (is_operand p.target f e || (is_place_read p.target f (form_of e) || is_call p.target f (form_of e))) ≡ true → IsTyped p f e → FitsRight to e (effect_at (out-Expr e))
  right-fits to e h t = by (is_operand p.target f e) refl where
    second : (b c : Bool) → b ≡ false → (b || c) ≡ true → c ≡ true
    second true c e h = absurd (cc)
    second false c e h = h

    by : (b : Bool) → is_operand p.target f e ≡ b → FitsRight to e (effect_at (out-Expr e))
    by true k = operand-right to e (out-Expr e) refl (operand-of p f e k t)
    by false k = other-right to e (out-Expr e) refl (second (is_operand p.target f e) _ k h) t

  effect-level : (e : Expr) (x : one.Expr-F Expr Place) → out-Expr e ≡ x → is_expression_statement p.target f (form_at x) ≡ true → IsTyped p f e → (ps : Pieces) → Fits ps → IsSoft (flat ps) → Fits (done_at p f e (effect_at x) ps)
  effect-level e (one.Assign a r) h k t ps z s =
      let y = assign-types p f a r e h t in
      let q = sides p f a r k y.0 in
      (place-fits p f names addresses a q.0 Operand _ (refl, (refl, refl, (refl, right-fits (taker (place_type p f.locals a)) r q.1 y.1 ps z s))) refl).0
  effect-level e (one.Call g args) h k t ps z s = subst (λ y. Fits (right_side_at p f None e (effect_at y) ps)) (sym h) (call-fits None e g args h k t ps z s)
  effect-level e (one.Intr i a) h k t ps z s = subst (λ y. Fits (right_side_at p f None e (effect_at y) ps)) (sym h) (intrinsic-fits None e i a h k t ps z s)
  effect-level e _ h k t ps z s = absurd (cc)

  -- ---- statements

  abbrev Fit : Stmt → Type 0
  Fit s = IsFine p f s → FitsStmtText (stmt p f s)

  abbrev CaseFit : Case → Type 0
  CaseFit c = IsFineCase p f c → (t : IntType) → list_all (label_fits p.target t) (sound_in p f c).labels ≡ true → FitsStmtText (casing p f c t)

  each-fits : (ss : List Stmt) (b c : Bool) → Each Fit ss → list_all (λ b. b) (map (is_normal_stmt p.target f) ss) ≡ true → list_all (λ g. g b c) (map (is_sound_stmt p f) ss) ≡ true → EachFits (map (stmt p f) ss)
  each-fits [] b c h n s = tt
  each-fits (x ∷ ss) b c h n s =
      let k = and-true (is_normal_stmt p.target f x) (list_all (λ b. b) (map (is_normal_stmt p.target f) ss)) n in
      let l = and-true (is_sound_stmt p f x b c) (list_all (λ g. g b c) (map (is_sound_stmt p f) ss)) s in
      (h.0 (record { normal = k.0; breaks = b; continues = c; sound = l.0 }), each-fits ss b c h.1 k.1 l.1)

  head-fits : (word : Word) (e : Expr) → IsOperand p f e → (level : ℕ) (ps : Pieces) → Fits ps → Fits (head p f word e level ps)
  head-fits word e o level ps g = (indent-gap level, (tt, refl, (refl, (refl, open-apart (flat (expr p f e Operand (punct m.RParen ∷ opened ps))), expr-part e o Operand (punct m.RParen ∷ opened ps) (refl, refl, opened-fits ps g) refl))))

  all-append : (g : Option ℤ → Bool) (xs ys : List (Option ℤ)) → list_all g (xs ++ ys) ≡ true → (list_all g xs ≡ true) × (list_all g ys ≡ true)
  all-append g [] ys h = (refl, h)
  all-append g (x ∷ xs) ys h = let q = and-true (g x) (list_all g (xs ++ ys)) h in let r = all-append g xs ys q.1 in (rw q.0 r.0, r.1)

  cases-fit : (cs : List Case) (b c : Bool) → Each CaseFit cs → list_all (λ b. b) (map (normal_in p f) cs) ≡ true → list_all (λ g. g.body b c) (map (sound_in p f) cs) ≡ true → (t : IntType) → list_all (label_fits p.target t) (flat_map (λ c. c.labels) (map (sound_in p f) cs)) ≡ true →
      FitsStmtText (case_lines t (map (casing p f) cs))
  cases-fit [] b c h n s t l level ps g = g
  cases-fit (x ∷ cs) b c h n s t l level ps g =
      let i = and-true (normal_in p f x) (list_all (λ b. b) (map (normal_in p f) cs)) n in
      let j = and-true ((sound_in p f x).body b c) (list_all (λ g. g.body b c) (map (sound_in p f) cs)) s in
      let k = all-append (label_fits p.target t) (sound_in p f x).labels (flat_map (λ c. c.labels) (map (sound_in p f) cs)) l in
      h.0 (record { normal = i.0; breaks = b; continues = c; sound = j.0 }) t k.0 level (case_lines t (map (casing p f) cs) level ps) (cases-fit cs b c h.1 i.1 j.1 t k.1 level ps g)

  label-type-fits : (ls : List (Option ℤ)) (o : Option ValueType) → labels_fit p.target ls o ≡ true → list_all (label_fits p.target (label_type o)) ls ≡ true
  label-type-fits ls None h = absurd (cc)
  label-type-fits ls (Some (Integer t)) h = (and-true _ (list_all (label_fits p.target t) ls) h).1
  label-type-fits ls (Some NoValue) h = absurd (cc)
  label-type-fits ls (Some (ToObject c v t)) h = absurd (cc)
  label-type-fits ls (Some (ToFunction s)) h = absurd (cc)

  abbrev FitsLevel : is.Stmt-F Stmt Case → Type 0
  FitsLevel x = FitsStmtText (stmt_step p f (map-Stmt Stmt Case StmtText CaseText (stmt p f) (casing p f) x))

  fit-level : (x : is.Stmt-F Stmt Case) → StmtParts Fit CaseFit x → Normal p f x → (b c : Bool) → Sound p f x b c → FitsLevel x
  fit-level (is.Do e) h n b c s = λ level ps g. (indent-gap level, effect-level e (out-Expr e) refl n s (ended ps) (ended-fits ps g) refl)
  fit-level (is.If e x y) h n b c s =
      let i = and-true (is_operand p.target f e) (list_all (λ b. b) (map (is_normal_stmt p.target f) x) && list_all (λ b. b) (map (is_normal_stmt p.target f) y)) n in
      let j = and-true (is_condition (type_of p f.locals e)) (list_all (λ g. g b c) (map (is_sound_stmt p f) x) && list_all (λ g. g b c) (map (is_sound_stmt p f) y)) s in
      let i2 = and-true (list_all (λ b. b) (map (is_normal_stmt p.target f) x)) (list_all (λ b. b) (map (is_normal_stmt p.target f) y)) i.1 in
      let j2 = and-true (list_all (λ g. g b c) (map (is_sound_stmt p f) x)) (list_all (λ g. g b c) (map (is_sound_stmt p f) y)) j.1 in
      λ level ps g. head-fits w.If e (operand-of p f e i.0 (condition-some (type_of p f.locals e) j.0)) level _
      (all-fit (map (stmt p f) x) (each-fits x b c h.0 i2.0 j2.0) (level + 1) _ (else-fit (map (stmt p f) y) (each-fits y b c h.1 i2.1 j2.1) level _ (closed-fits level ps g)))
  fit-level (is.While e x) h n b c s =
      let i = and-true (is_one (form_of e)) (list_all (λ b. b) (map (is_normal_stmt p.target f) x)) n in
      let j = and-true (is_condition (type_of p f.locals e)) (list_all (λ g. g true true) (map (is_sound_stmt p f) x)) s in
      λ level ps g. head-fits w.While e (record { typed = condition-some (type_of p f.locals e) j.0; pure = one-pure p f e (out-Expr e) refl i.0 }) level _
      (all-fit (map (stmt p f) x) (each-fits x true true h i.1 j.1) (level + 1) _ (closed-fits level ps g))
  fit-level (is.Switch e cs) h n b c s =
      let i = and-true (is_operand p.target f e) (list_all (λ b. b) (map (normal_in p f) cs)) n in
      let j = and-true (labels_fit p.target (flat_map (λ c. c.labels) (map (sound_in p f) cs)) (type_of p f.locals e)) _ s in
      let k = and-true _ (_ && list_all (λ g. g.body true c) (map (sound_in p f) cs)) j.1 in
      let l = and-true _ (list_all (λ g. g.body true c) (map (sound_in p f) cs)) k.1 in
      λ level ps g. head-fits w.Switch e (operand-of p f e i.0 (labels-some p.target (flat_map (λ c. c.labels) (map (sound_in p f) cs)) (type_of p f.locals e) j.0)) level _
      (cases-fit cs true c h i.1 l.1 (label_type (type_of p f.locals e)) (label-type-fits (flat_map (λ c. c.labels) (map (sound_in p f) cs)) (type_of p f.locals e) j.0) level _ (closed-fits level ps g))
  fit-level is.Break h n b c s = λ level ps g. (indent-gap level, (tt, refl, ended-fits ps g))
  fit-level is.Continue h n b c s = λ level ps g. (indent-gap level, (tt, refl, ended-fits ps g))
  fit-level (is.Return None) h n b c s = λ level ps g. (indent-gap level, (tt, refl, ended-fits ps g))
  fit-level (is.Return (Some e)) h n b c s = λ level ps g. (
    indent-gap level,
    (
      tt,
      refl,
      (
        refl,
        expr-part e (operand-of p f e n (assigned-some (scalar_value (out-Sig f.sig).result) (type_of p f.locals e) s)) (Whole (Some (out-Sig f.sig).result)) (ended ps) (ended-fits ps g) refl,
      ),
    ),
  )
  fit-level (is.DoWhile a e) h n b c s = absurd (cc)
  fit-level (is.For start test step a) h n b c s = absurd (cc)
  fit-level is.Empty h n b c s = absurd (cc)
  fit-level (is.Block a) h n b c s = absurd (cc)

  fitted : (x : is.Stmt-F Stmt Case) → StmtParts Fit CaseFit x → Fit (roll-Stmt x)
  fitted x h k = subst FitsStmtText (sym (stmt-roll p f x))
      (fit-level x h (sym (normal-roll p f x) ∙ k.normal) k.breaks k.continues (sym (ap (λ g. g k.breaks k.continues) (sound-roll p f x)) ∙ k.sound))

  fitted-case : (x : is.Case-F Stmt Case) → CaseParts Fit CaseFit x → CaseFit (roll-Case x)
  fitted-case x h k t l = subst (λ g. FitsStmtText (g t)) (sym (case-roll p f x)) (λ level ps g.
      labels-fitting p.target t x.labels (subst (λ c. list_all (label_fits p.target t) c.labels ≡ true) (case-sound-roll p f x) l) level _
      (body-fit (map (stmt p f) x.body) (each-fits x.body k.breaks k.continues h (sym (case-normal-roll p f x) ∙ k.normal) (sym (ap (λ g. g.body k.breaks k.continues) (case-sound-roll p f x)) ∙ k.sound)) (level + 1) ps g))

  -- the law
  pub body-fits : (ss : List Stmt) (b c : Bool) → list_all (λ b. b) (map (is_normal_stmt p.target f) ss) ≡ true → list_all (λ g. g b c) (map (is_sound_stmt p f) ss) ≡ true → FitsStmtText (all_lines (map (stmt p f) ss))
  body-fits ss b c n s = all-fit (map (stmt p f) ss) (each-fits ss b c (by_stmts Fit CaseFit fitted fitted-case ss) n s)
