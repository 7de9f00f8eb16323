-- The condition of an `if` without `else` becomes guards: a plain one is an operand and an `if` on it, and an `&&` that is not pure is two conditions,
-- of which the second one stands inside the first.
use Rattle.std.proofs.Common.{arith, ◌≡◌, ◌≤◌, ◌<◌, ◌+◌, ◌&&◌, ℕ, pos, Bool, true, false, List, [], ◌∷◌, ◌++◌, length, Option, Some, refl, ap, sym, ◌∙◌, subst, if◌then◌else◌}
use Rattle.std.specs.Prelude.{slice_get}
use Rattle.cc_program.specs.CcNum.Results.{one_if}
use Rattle.cc_states.specs.CcControl.declared.phase.Phase.TheVariants.{First}
use Rattle.cc_states.specs.CcControl.Control.{is_loop}
use Rattle.cc_program.specs.declared.expr.Expr.{Expr, roll-Expr, map-Expr, fold-roll-Expr}
use Rattle.cc_program.specs.declared.expr.Expr.TheOpen as one
use Rattle.cc_program.specs.declared.expr.Place.{Place, roll-Place, fold-Place}
use Rattle.cc_program.specs.declared.stmt.Case.{Case}
use Rattle.cc_program.specs.declared.stmt.Stmt.{Stmt, If, out-Stmt}
use Rattle.cc_program.specs.declared.stmt.Stmt.TheVariants.{outs-If}
use Rattle.cc_program.specs.declared.stmt.Stmt.TheOpen as is
use Rattle.cc_program.specs.declared.value.Value.{Value}
use Rattle.cc_program.specs.declared.value.Value.TheVariants.{Int}
use Rattle.cc_program.proofs.Each.{Each}
use Rattle.cc_program.proofs.ExprInduction.{Parts, PlaceParts, by_expr}
use Rattle.cc_program.proofs.FoldFusion.{fused}
use Rattle.cc_states.specs.CcSyntax.Effects.{Registers, no_one, also, Effects, effect_step, place_effect_step, effects_of}
use Rattle.cc_states.specs.CcSyntax.Registers.{is_register}
use Rattle.cc_states.specs.CcEval.Context.{Context}
use Rattle.cc_states.specs.CcEval.Eval.{Meaning, meaning, branch, outcome, arms, both}
use Rattle.cc_states.specs.CcEval.Progress.{Get, known, bind}
use Rattle.cc_states.proofs.CcEval.Links.{level, effects_linked}
use Rattle.cc_states.specs.CcValues.Values.{is_true, truth, of_truth}
use Rattle.cc_states.specs.Answers.{TakesAddressesOf}
use Rattle.cc_states.proofs.AddressLemmas.{IfTaken, PlaceIfTaken, parts_at, rolled_takes}
use Rattle.cc_meaning_simulations.specs.Continuations.{Remainder, remainder}
use Rattle.cc_meaning_simulations.specs.LocalSteps.{LocalState}
use Rattle.cc_lower_expressions.specs.Expressions.{Piece, Make, Lowering, lowering, lower_step, place_lower_step}
use Rattle.cc_lower_expressions.specs.Statements.{Guard, Condition, if_operand, if_both, lowered, guard_by, condition_step, place_itself, condition, lower, lower_list}
use Rattle.cc_lower_expressions.specs.Temporaries.{declared_type, is_same_type}
use Rattle.cc_lower_expressions_follows.specs.Trees.{Setting, context_p}
use Rattle.cc_lower_expressions_follows.specs.Old.{is_old}
use Rattle.cc_lower_expressions_follows.specs.Region.{are_code}
use Rattle.cc_lower_expressions_follows.specs.Relation.{Alike, Declared}
use Rattle.cc_lower_expressions_follows.specs.WholeGuards.{LeadsTo, There, Branches, IsConjunct, Operates, around_arm, IsGuard, LastGuard, NextGuard, IsGuarded, IsPlace}
use Rattle.cc_lower_expressions_follows.specs.WholeLists.{AreBranches, Ifs, InBranch, InGuard, IsNormal, IsLoweredRight}
use Rattle.cc_lower_expressions_follows.specs.WholeMatches.{needed, AreTogether, MatchIn}
use Rattle.cc_lower_expressions_follows.proofs.Itself.{itself}
use Rattle.cc_lower_expressions_follows.proofs.PureInduction.{old_level}
use Rattle.cc_lower_expressions_follows.proofs.TreeLaws.{bind-assoc}
use Rattle.cc_lower_expressions_follows.proofs.Typing.{IsTyped, TypedExpr, typed_parts}
use Rattle.cc_lower_expressions_follows.proofs.WholeBridge.{IsLowered}
use Rattle.cc_lower_expressions_follows.proofs.WholeCode.{lowered_code}
use Rattle.cc_lower_expressions_follows.proofs.WholeGuards.{condition_begins}
use Rattle.cc_lower_expressions_follows.proofs.WholeLists.{AreBegun, declared_left, declared_right, lists_lowered, lower_level, resume_past}
use Rattle.cc_lower_expressions_follows.proofs.WholeRight.{operand_does}
use Rattle.cc_lower_expressions_follows.proofs.WholeStarts.{BeginsOtherwise}

-- ---- what an `&&` does behind the values of its operands, where this comes behind it

truth_of_one : (b : Bool) → is_true (Int (one_if b)) ≡ b
truth_of_one true = refl
truth_of_one false = refl

abbrev behind_second : (Option Value → Get Value) → Option Value → Get Value
behind_second f v = bind (outcome false (of_truth (truth v))) f

abbrev as_truth : Get (Option Value) → Get (Option Value)
as_truth second = bind second (λ v. known (of_truth (truth v)))

abbrev both_arms : Get (Option Value) → Option Bool → Get (Option Value)
both_arms second = arms (bind (as_truth second) (outcome false)) (bind (known (Some (Int (pos 0)))) (outcome false))

abbrev behind_first : Get (Option Value) → (Option Value → Get Value) → Option Value → Get Value
behind_first second f v = bind (bind (branch false v) (both_arms second)) f

module _ (f : Option Value → Get Value) where
  second_form : (second : Get (Option Value)) → bind (bind (as_truth second) (outcome false)) f ≡ bind second (behind_second f)
  second_form second = bind-assoc (as_truth second) (outcome false) f ∙ bind-assoc second (λ v. known (of_truth (truth v))) (λ v. bind (outcome false v) f)

  -- where the first one is true the second one comes
  into_second : (second : Get (Option Value)) (t : Get Value) → bind second (behind_second f) ≡ t → (v : Value) → is_true v ≡ true → LeadsTo t (behind_first second f (Some v))
  into_second second t e v h = Branches (Some (is_true v)) refl (There (ap (λ (b : Bool). bind (both_arms second (Some b)) f) h ∙ second_form second ∙ e))

  module _ (conjunct : IsConjunct f) where
    first_conjunct : (second : Get (Option Value)) → IsConjunct (behind_first second f)
    first_conjunct second = record {
      traps = refl;
      falsely = λ v h.
          let k = conjunct.falsely (Int (pos 0)) refl in
          (k.0, k.1, Branches (Some (is_true v)) refl (subst (LeadsTo (known k.0)) (sym (ap (λ (b : Bool). bind (both_arms second (Some b)) f) h)) k.2));
    }

    second_conjunct : IsConjunct (behind_second f)
    second_conjunct = record { traps = refl; falsely = λ v h. conjunct.falsely (Int (one_if (is_true v))) (truth_of_one (is_true v) ∙ h) }

needed_conjunct : IsConjunct needed
needed_conjunct = record { traps = refl; falsely = λ v h. (v, h, There refl) }

module _ (w : Setting) (Good : Stmt → Type 0) (s : Stmt) (arm l l' : List Stmt) (ps qs : List Remainder) where
  abbrev TheGuard : (Option Value → Get Value) → Expr → Stmt → List Stmt → List Remainder → Type 0
  TheGuard f x u rest outer = IsGuard w Good s arm l l' ps qs f x u rest outer

  abbrev ThePlace : List Stmt → List Remainder → Type 0
  ThePlace rest outer = IsPlace w Good s arm l l' ps qs rest outer

  -- a guard on the second operand is one on the whole
  on_whole : (f : Option Value → Get Value) (x : Expr) (u : Stmt) (rest : List Stmt) (outer : List Remainder) → TheGuard f x u rest outer → TheGuard (behind_second f) x u rest outer
  on_whole _ _ _ _ _ (LastGuard f x u rest outer these is_if conjunct back truly arms around) =
      LastGuard (behind_second f) x u rest outer these is_if (second_conjunct f conjunct) back (λ v h. truly (Int (one_if (is_true v))) (truth_of_one (is_true v) ∙ h)) arms around
  on_whole _ _ _ _ _ (NextGuard f x u rest outer code y z g h is_if conjunct back truly operates runs guard) =
      NextGuard (behind_second f) x u rest outer code y z g h is_if (second_conjunct f conjunct) back (λ v k. truly (Int (one_if (is_true v))) (truth_of_one (is_true v) ∙ k)) operates runs guard

  place_inside : (u : Stmt) (x : Expr) (these rest : List Stmt) (outer : List Remainder) → out-Stmt u ≡ is.If x these [] → ThePlace rest outer → ThePlace [] (remainder (u ∷ rest) First ∷ outer)
  place_inside u x these rest outer is_if place = record {
    back = resume_past u rest First outer (ap is_loop is_if) ∙ place.back;
    inside = λ z y inner is_z. InGuard z y inner [] (around_arm w Good s arm l l' ps qs) (remainder (u ∷ rest) First ∷ outer) is_z (place.inside u x these is_if);
  }

  -- ---- the claim: what is made of a condition, round these, is guarded where an `if` round these is a guard

  abbrev Makes : (Option Value → Get Value) → Make (Unit {0}) → Type 0
  Makes f these = (k : ℕ) → w.base ≤ k → Declared w k (these k).temps → (x : Expr) (u : Stmt) (rest : List Stmt) (outer : List Remainder) → out-Stmt u ≡ is.If x (these k).stmts [] → ThePlace rest outer → TheGuard f x u rest outer

  abbrev Guarding : Meaning → Registers → (Make (Unit {0}) → Make (Unit {0})) → Type 0
  Guarding m later guard = (these : Make (Unit {0})) (k : ℕ) (f : Option Value → Get Value) (rest : List Stmt) (outer : List Remainder) → w.base ≤ k → Declared w k (guard these k).temps → IsConjunct f → Makes f these → ThePlace rest outer →
      IsGuarded w Good s arm l l' ps qs (bind (m.next later) f) (guard these k).stmts rest outer

  abbrev Guards : Meaning → Guard → Type 0
  Guards m guard = (later : Registers) → Guarding m later (guard later)

  -- an operand, and an `if` on it
  module _ (m : Meaning) (c : Lowering) (operates : (later : Registers) (k : ℕ) → w.base ≤ k → Declared w k (c.operand later k).temps → Operates w (c.operand later k).value (m.next later) (c.operand later k).stmts)
      (runs : (later : Registers) (k : ℕ) → are_code (c.operand later k).stmts ≡ true) where
    module _ (later : Registers) (these : Make (Unit {0})) (k : ℕ) where
      abbrev operand : Piece Expr
      operand = c.operand later k

      abbrev k_in : ℕ
      k_in = k + length operand.temps

      abbrev inner : Piece (Unit {0})
      inner = these k_in

      abbrev test : Stmt
      test = If operand.value inner.stmts []

      operand_guarded : (f : Option Value → Get Value) (rest : List Stmt) (outer : List Remainder) → w.base ≤ k → Declared w k (if_operand c later these k).temps → IsConjunct f → Makes f these → ThePlace rest outer →
          IsGuarded w Good s arm l l' ps qs (bind (m.next later) f) (if_operand c later these k).stmts rest outer
      operand_guarded f rest outer above declared conjunct makes place = record {
        code = operand.stmts;
        operand = operand.value;
        test = test;
        first = m.next later;
        behind = f;
        made = refl;
        begins = refl;
        operates = operates later k above (declared_left w k operand.temps (inner.temps ++ []) declared);
        runs = runs later k;
        guard = makes k_in (omega (arith, above)) (declared_left w k_in inner.temps [] (declared_right w k operand.temps (inner.temps ++ []) declared)) operand.value test rest outer (outs-If operand.value inner.stmts []) place;
      }

    operand_guards : Guards m (if_operand c)
    operand_guards later these k f rest outer above declared conjunct makes place = operand_guarded later these k f rest outer above declared conjunct makes place

  abbrev if_alone : Expr → List Stmt → is.Stmt-F Stmt Case
  if_alone x list = is.If x list []

  -- an `&&` that is not pure
  module _ (a b m : Meaning) (first second : Guard) (assigned later : Registers) (same : assigned ≡ b.effects.assigned) (next : m.next later ≡ both false a b later) (by_first : Guards a first) (by_second : Guards b second) where
    whole_form : (f : Option Value → Get Value) → bind (m.next later) f ≡ bind (a.next (also assigned later)) (behind_first (b.next later) f)
    whole_form f =
        ap (λ (g : Get (Option Value)). bind g f) next ∙ bind-assoc (a.next (also b.effects.assigned later)) (λ v. bind (branch false v) (both_arms (b.next later))) f ∙
        ap (λ (q : Registers). bind (a.next (also q later)) (behind_first (b.next later) f)) (sym same)

    both_guards : Guarding m later (λ these. first (also assigned later) (second later these))
    both_guards these k f rest outer above declared conjunct makes place =
        subst (λ (t : Get Value). IsGuarded w Good s arm l l' ps qs t (first (also assigned later) (second later these) k).stmts rest outer) (sym (whole_form f))
        (by_first (also assigned later) (second later these) k (behind_first (b.next later) f) rest outer above declared (first_conjunct f conjunct (b.next later)) makes_first place)
      where
        makes_first : Makes (behind_first (b.next later) f) (second later these)
        makes_first n above' declared' x u rest' outer' is_if place' =
            let y = by_second later these n (behind_second f) [] (remainder (u ∷ rest') First ∷ outer') above' declared' (second_conjunct f conjunct)
            (λ i h j x' u' r o e p. on_whole f x' u' r o (makes i h j x' u' r o e p)) (place_inside u x (second later these n).stmts rest' outer' is_if place') in
            NextGuard (behind_first (b.next later) f) x u rest' outer' y.code y.operand y.test y.first y.behind (is_if ∙ ap (if_alone x) y.made) (first_conjunct f conjunct (b.next later)) place'.back
            (into_second f (b.next later) (bind y.first y.behind) y.begins) y.operates y.runs y.guard

-- ---- every condition

module _ (w : Setting) (alike : Alike w) (below : (i : ℕ) → is_register w.from i ≡ true → i < w.base) (within : length w.from.locals ≤ w.base) (function : slice_get w.p.funcs w.id ≡ Some w.from)
    (Good : Stmt → Type 0) (s : Stmt) (arm l l' : List Stmt) (ps qs : List Remainder) where
  abbrev cp : Context
  cp = context_p w

  abbrev lowered_at : Expr → Lowering
  lowered_at e = lowered w.p w.from e

  abbrev condition_at : Expr → Condition
  condition_at e = condition w.p w.from e

  abbrev place_at : Place → Place
  place_at a = fold-Place Condition Place (condition_step w.p w.from) (place_itself w.p w.from) a

  effects_kept : (e : Expr) → (lowered_at e).effects ≡ (meaning cp e).effects
  unfolding lowering effects_of
  effects_kept e =
      fused (lower_step w.p w.from declared_type is_same_type) (place_lower_step w.p w.from declared_type is_same_type) effect_step (place_effect_step w.from) (λ l. l.effects) (λ l. l.effects) (λ x. refl) (λ x. refl) e ∙ sym (effects_linked cp e)

  condition_itself : (e : Expr) → (condition_at e).itself ≡ e
  unfolding condition lowering
  condition_itself e =
      fused (condition_step w.p w.from) (place_itself w.p w.from) roll-Expr roll-Place (λ c. c.itself) (λ a. a) (λ x. refl) (λ x. refl) e ∙
      sym (fused (lower_step w.p w.from declared_type is_same_type) (place_lower_step w.p w.from declared_type is_same_type) roll-Expr roll-Place (λ l. l.itself) (λ l. l.itself) (λ x. refl) (λ x. refl) e) ∙
      itself w.p w.from declared_type is_same_type e

  abbrev at_level : one.Expr-F Expr Place → one.Expr-F Condition Place
  at_level x = map-Expr Expr Place Condition Place condition_at place_at x

  condition_level : (x : one.Expr-F Expr Place) → condition_at (roll-Expr x) ≡ condition_step w.p w.from (at_level x)
  unfolding condition
  condition_level x = fold-roll-Expr Condition Place (condition_step w.p w.from) (place_itself w.p w.from) x

  abbrev level_guard : one.Expr-F Expr Place → Guard
  level_guard x = guard_by w.p w.from (lowered_at (roll-Expr x)) (at_level x)

  guard_level : (x : one.Expr-F Expr Place) → (condition_at (roll-Expr x)).guard ≡ level_guard x
  guard_level x =
      ap (λ (c : Condition). c.guard) (condition_level x) ∙
      ap (λ (e : Expr). guard_by w.p w.from (lowered_at e) (at_level x)) (sym (ap (λ (c : Condition). c.itself) (condition_level x)) ∙ condition_itself (roll-Expr x))

  abbrev GuardsHere : Meaning → Guard → Type 0
  GuardsHere m guard = Guards w Good s arm l l' ps qs m guard

  abbrev P : Expr → Type 0
  P e = is_old w.base e ≡ true → TypedExpr cp e → GuardsHere (meaning cp e) (condition_at e).guard

  abbrev Q : Place → Type 0
  Q a = Unit {0}

  -- as an operand
  plain : (e : Expr) → TakesAddressesOf w.from e → is_old w.base e ≡ true → TypedExpr cp e → GuardsHere (meaning cp e) (if_operand (lowered_at e))
  plain e own old typed =
      operand_guards w Good s arm l l' ps qs (meaning cp e) (lowered_at e)
      (λ later k above declared openings opened r t same. operand_does w alike below within function e own old typed later openings opened k above declared r t same)
      (λ later k. (lowered_code w.p w.from declared_type is_same_type e).operand later k)

  module _ (a b : Expr) (own : TakesAddressesOf w.from (roll-Expr (one.Both a b))) (old : is_old w.base (roll-Expr (one.Both a b)) ≡ true) (typed : TypedExpr cp (roll-Expr (one.Both a b))) (by_a : GuardsHere (meaning cp a) (condition_at a).guard)
      (by_b : GuardsHere (meaning cp b) (condition_at b).guard) where
    abbrev e : Expr
    e = roll-Expr (one.Both a b)

    abbrev assigned : Registers
    assigned = (lowered_at (condition_at b).itself).effects.assigned

    same : assigned ≡ (meaning cp b).effects.assigned
    same = ap (λ (x : Expr). (lowered_at x).effects.assigned) (condition_itself b) ∙ ap (λ (x : Effects). x.assigned) (effects_kept b)

    next : (later : Registers) → (meaning cp e).next later ≡ both ((meaning cp e).effects.pure later) (meaning cp a) (meaning cp b) later
    next later = subst (λ (m : Meaning). m.next later ≡ both (m.effects.pure later) (meaning cp a) (meaning cp b) later) (sym (level cp (one.Both a b))) refl

    abbrev either : Bool → Registers → Make (Unit {0}) → Make (Unit {0})
    either pure later these = if pure then if_operand (lowered_at e) later these else (condition_at a).guard (also assigned later) ((condition_at b).guard later these)

    by_purity : (later : Registers) (pure : Bool) → (lowered_at e).effects.pure later ≡ pure → Guarding w Good s arm l l' ps qs (meaning cp e) later (either pure later)
    by_purity later true h = plain e own old typed later
    by_purity later false h =
        both_guards w Good s arm l l' ps qs (meaning cp a) (meaning cp b) (meaning cp e) (condition_at a).guard (condition_at b).guard assigned later same
        (next later ∙ ap (λ (x : Bool). both x (meaning cp a) (meaning cp b) later) (sym (ap (λ (x : Effects). x.pure later) (effects_kept e)) ∙ h)) by_a by_b

    both_level : GuardsHere (meaning cp e) (if_both (lowered_at e) assigned (condition_at a).guard (condition_at b).guard)
    both_level later = by_purity later ((lowered_at e).effects.pure later) refl

  both_old : (x y : Bool) → (x && y) ≡ true → (x ≡ true) × (y ≡ true)
  both_old true y h = (refl, h)
  both_old false y h = absurd (cc)

  abbrev IsMade : one.Expr-F Expr Place → Type 0
  IsMade x = GuardsHere (meaning cp (roll-Expr x)) (level_guard x)

  level_made : (x : one.Expr-F Expr Place) → Parts P Q x → TakesAddressesOf w.from (roll-Expr x) → is_old w.base (roll-Expr x) ≡ true → TypedExpr cp (roll-Expr x) → IsMade x
  level_made (one.Const n t) h own old typed = plain (roll-Expr (one.Const n t)) own old typed
  level_made (one.Null t) h own old typed = plain (roll-Expr (one.Null t)) own old typed
  level_made (one.FuncAddr g) h own old typed = plain (roll-Expr (one.FuncAddr g)) own old typed
  level_made (one.Load a) h own old typed = plain (roll-Expr (one.Load a)) own old typed
  level_made (one.AddrOf a) h own old typed = plain (roll-Expr (one.AddrOf a)) own old typed
  level_made (one.Un o t a) h own old typed = plain (roll-Expr (one.Un o t a)) own old typed
  level_made (one.Bin o t a b) h own old typed = plain (roll-Expr (one.Bin o t a b)) own old typed
  level_made (one.Conv t a) h own old typed = plain (roll-Expr (one.Conv t a)) own old typed
  level_made (one.Qualify t a) h own old typed = plain (roll-Expr (one.Qualify t a)) own old typed
  level_made (one.Move a b back) h own old typed = plain (roll-Expr (one.Move a b back)) own old typed
  level_made (one.Gap a b) h own old typed = plain (roll-Expr (one.Gap a b)) own old typed
  level_made (one.Compare o a b) h own old typed = plain (roll-Expr (one.Compare o a b)) own old typed
  level_made (one.Both a b) h own old typed =
      let o = both_old (is_old w.base a) (is_old w.base b) (sym (old_level w.base (one.Both a b)) ∙ old) in
      let t = typed_parts cp (one.Both a b) (subst (λ (m : Meaning). IsTyped m.ctype) (level cp (one.Both a b)) typed) in
      both_level a b own old typed (h.0 o.0 t.0) (h.1 o.1 t.1)
  level_made (one.Either a b) h own old typed = plain (roll-Expr (one.Either a b)) own old typed
  level_made (one.Choose d a b) h own old typed = plain (roll-Expr (one.Choose d a b)) own old typed
  level_made (one.Assign a e) h own old typed = plain (roll-Expr (one.Assign a e)) own old typed
  level_made (one.Change a o t e) h own old typed = plain (roll-Expr (one.Change a o t e)) own old typed
  level_made (one.After a down) h own old typed = plain (roll-Expr (one.After a down)) own old typed
  level_made (one.Call g args) h own old typed = plain (roll-Expr (one.Call g args)) own old typed
  level_made (one.Intr i a) h own old typed = plain (roll-Expr (one.Intr i a)) own old typed
  level_made (one.Seq a b) h own old typed = plain (roll-Expr (one.Seq a b)) own old typed

  made : (x : one.Expr-F Expr Place) → Parts (IfTaken w.from P Q) (PlaceIfTaken w.from P Q) x → IfTaken w.from P Q (roll-Expr x)
  made x h own old typed =
      subst (GuardsHere (meaning cp (roll-Expr x))) (sym (guard_level x)) (level_made x (parts_at w.from P Q x h (rolled_takes w.from P Q x own)) own old typed)

  place_made : (x : one.Place-F Expr Place) → PlaceParts (IfTaken w.from P Q) (PlaceIfTaken w.from P Q) x → PlaceIfTaken w.from P Q (roll-Place x)
  place_made x h own = tt

  -- every condition becomes guards
  condition_guards : (e : Expr) → TakesAddressesOf w.from e → is_old w.base e ≡ true → TypedExpr cp e → GuardsHere (meaning cp e) (condition_at e).guard
  condition_guards e own old typed = by_expr (IfTaken w.from P Q) (PlaceIfTaken w.from P Q) made place_made e own old typed

-- ---- an `if` without `else`

-- its condition has a type, names the function's own locals alone, and takes addresses that the function takes
pub record IsGoodCondition (w : Setting) (e : Expr) : Type 0 where
  pub own : TakesAddressesOf w.from e
  pub old : is_old w.base e ≡ true
  pub typed : TypedExpr (context_p w) e

module _ (w : Setting) (hidden : ℕ → ℕ → Bool) (lowered_w : IsLowered w hidden) (Good : Stmt → Type 0) (Match : LocalState → LocalState → Type 0) (matches : (q p : LocalState) → MatchIn w Good q p → Match q p)
    (normal : (s : Stmt) → Good s → IsNormal w Good (out-Stmt s)) (alike : Alike w) (below : (i : ℕ) → is_register w.from i ≡ true → i < w.base) (within : length w.from.locals ≤ w.base)
    (conditions : (s : Stmt) (e : Expr) (arm : List Stmt) → Good s → out-Stmt s ≡ is.If e arm [] → IsGoodCondition w e) where
  module _ (e : Expr) (arm : List Stmt) (right : IsLoweredRight w e) (good_arm : Each Good arm) (s : Stmt) (k : ℕ) (l l' : List Stmt) (ps qs : List Remainder) (d : out-Stmt s ≡ is.If e arm []) (above : w.base ≤ k) (declared : Declared w k (lower w.p w.from s k).temps)
      (good_one : Good s) (together : AreTogether w Good l l' ps qs) where
    abbrev arm_of : Make (Unit {0})
    arm_of = lower_list w.p w.from arm

    abbrev whole : Piece (Unit {0})
    whole = (condition w.p w.from e).guard no_one arm_of k

    is_whole : lower w.p w.from s k ≡ whole
    is_whole = ap (λ (m : Make (Unit {0})). m k) (lower_level w s (is.If e arm []) d)

    -- an `if` round the arm
    makes_arm : Makes w Good s arm l l' ps qs needed arm_of
    makes_arm n above' declared' x u rest outer is_if place =
        LastGuard needed x u rest outer (arm_of n).stmts is_if needed_conjunct place.back (λ v h. (v, h, There refl)) (lists_lowered w Good arm n above' declared' good_arm) (place.inside u x (arm_of n).stmts is_if)

    branches : (u : Stmt) (x : Expr) (these : List Stmt) → out-Stmt u ≡ is.If x these [] → AreBranches (out-Stmt s) (out-Stmt u)
    branches u x these is_if = subst (λ (y : is.Stmt-F Stmt Case). AreBranches y (out-Stmt u)) (sym d) (subst (λ (y : is.Stmt-F Stmt Case). AreBranches (is.If e arm []) y) (sym is_if) (Ifs e x arm [] these []))

    outermost : IsPlace w Good s arm l l' ps qs l' qs
    outermost = record { back = refl; inside = λ u x these is_if. InBranch s u l l' ps qs (branches u x these is_if) together.lists together.around }

    whole_guarded : IsGuarded w Good s arm l l' ps qs (bind ((meaning (context_p w) e).next no_one) needed) whole.stmts l' qs
    whole_guarded =
        let c = conditions s e arm good_one d in
        condition_guards w alike below within lowered_w.function_p Good s arm l l' ps qs e c.own c.old c.typed no_one arm_of k needed l' qs above (subst (λ (x : Piece (Unit {0})). Declared w k x.temps) is_whole declared) needed_conjunct makes_arm outermost

    begins_guarded : AreBegun w hidden Good Match matches l l' ps qs → AreBegun w hidden Good Match matches (s ∷ l) ((lower w.p w.from s k).stmts ++ l') ps qs
    begins_guarded next =
        subst (λ (x : Piece (Unit {0})). AreBegun w hidden Good Match matches (s ∷ l) (x.stmts ++ l') ps qs) (sym is_whole)
        (condition_begins w hidden lowered_w Good Match matches s e arm l l' ps qs d right together next whole.stmts whole_guarded)

  -- it begins beside what it becomes
  pub guarded : (e : Expr) (arm : List Stmt) → IsLoweredRight w e → Each Good arm → BeginsOtherwise w hidden lowered_w Good Match matches normal (is.If e arm [])
  guarded e arm right good_arm s k l l' ps qs d above declared good_one together next = begins_guarded e arm right good_arm s k l l' ps qs d above declared good_one together next
