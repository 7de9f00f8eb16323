-- Which addresses of locals are taken: what an expression takes its parts take, and what the statements take in which an activation stands the
-- body of its function takes.
use Rattle.std.proofs.Common.{◌≡◌, ◌∙◌, ◌∷◌, ◌++◌, ◌||◌, ◌⊎◌, inl, inr, ℕ, Bool, true, List, [], map, Some, None, refl, ap, sym, subst}
use Rattle.std.proofs.lemmas.Bool.{eq-eqb}
use Rattle.std.specs.List.{list_any}
use Rattle.cc_steps.specs.CcControl.declared.phase.Phase.{Phase}
use Rattle.cc_steps.specs.CcControl.declared.phase.Phase.TheVariants.{First, Test, Again}
use Rattle.cc_steps.specs.CcControl.Control.{Level, bodies}
use Rattle.cc_program.specs.declared.expr.Expr.{Expr, roll-Expr, map-Expr, fold-roll-Expr}
use Rattle.cc_program.specs.declared.expr.Expr.TheOpen as one
use Rattle.cc_program.specs.declared.expr.Place.{Place, out-Place, roll-Place, map-Place, fold-roll-Place, fold_out-Place}
use Rattle.cc_program.specs.declared.func.Func.{Func}
use Rattle.cc_program.specs.declared.stmt.Case.{Case, out-Case, fold-Case, fold_out-Case}
use Rattle.cc_program.specs.declared.stmt.Stmt.{Stmt, out-Stmt, map-Stmt, fold_out-Stmt}
use Rattle.cc_program.specs.declared.stmt.Stmt.TheOpen as is
use Rattle.cc_program.proofs.Each.{Each}
use Rattle.cc_program.proofs.ExprInduction.{Parts, PlaceParts}
use Rattle.cc_steps.specs.State.{Active}
use Rattle.cc_steps.specs.Step.{worked}
use Rattle.cc_steps.specs.CcSyntax.Registers.{is_taken_in_optional, PlaceUse, address_step, use_step, is_address_taken, place_use, stmt_step, is_taken_in, is_addressed}
use Rattle.cc_states.specs.Answers.{TakesAddressesOf, PlaceTakesAddressesOf}
use Rattle.cc_states.specs.Inside.{IsListIn, IsListInFirst, IsLeft, AreInside}
use Rattle.cc_states.specs.States.{worked_at, expression_of}
use Rattle.cc_states.proofs.Options.{either_true, left_true, right_true}

-- ---- expressions

module _ (f : Func) (At : Expr → Type 0) (PlaceAt : Place → Type 0) where
  abbrev pub IfTaken : Expr → Type 0
  IfTaken e = TakesAddressesOf f e → At e

  abbrev pub PlaceIfTaken : Place → Type 0
  PlaceIfTaken a = PlaceTakesAddressesOf f a → PlaceAt a

  -- what this takes is taken in the function
  abbrev pub TakesOwn : (ℕ → Bool) → Type 0
  TakesOwn takes = (r : ℕ) → takes r ≡ true → is_addressed f r ≡ true

  first_of : (a b : ℕ → Bool) → TakesOwn (λ r. a r || b r) → TakesOwn a
  first_of a b k r h = k r (left_true (a r) (b r) h)

  second_of : (a b : ℕ → Bool) → TakesOwn (λ r. a r || b r) → TakesOwn b
  second_of a b k r h = k r (right_true (a r) (b r) h)

  abbrev any_takes : List Expr → ℕ → Bool
  any_takes args r = list_any (λ b. b) (map (is_address_taken r) args)

  abbrev takes : Expr → ℕ → Bool
  takes e r = is_address_taken r e

  abbrev place_takes : Place → ℕ → Bool
  place_takes a r = (place_use r a).address_taken

  each_at : (args : List Expr) → Each IfTaken args → TakesOwn (any_takes args) → Each At args
  each_at [] h k = tt
  each_at (a ∷ args) h k = (h.0 (first_of (takes a) (any_takes args) k), each_at args h.1 (second_of (takes a) (any_takes args) k))

  two_at : (a b : Expr) → IfTaken a × IfTaken b → TakesOwn (λ r. takes a r || takes b r) → At a × At b
  two_at a b h k = (h.0 (first_of (takes a) (takes b) k), h.1 (second_of (takes a) (takes b) k))

  place_two_at : (a : Place) (e : Expr) → PlaceIfTaken a × IfTaken e → TakesOwn (λ r. place_takes a r || takes e r) → PlaceAt a × At e
  place_two_at a e h k = (h.0 (first_of (place_takes a) (takes e) k), h.1 (second_of (place_takes a) (takes e) k))

  abbrev pub expr_takes : one.Expr-F Expr Place → ℕ → Bool
  expr_takes x r = address_step r (map-Expr Expr Place Bool PlaceUse (is_address_taken r) (place_use r) x)

  pub parts_at : (x : one.Expr-F Expr Place) → Parts IfTaken PlaceIfTaken x → TakesOwn (expr_takes x) → Parts At PlaceAt x
  parts_at (one.Const n t) h k = tt
  parts_at (one.Null t) h k = tt
  parts_at (one.FuncAddr g) h k = tt
  parts_at (one.Load a) h k = h k
  parts_at (one.AddrOf a) h k = h (second_of (λ r. (place_use r a).is_local) (place_takes a) k)
  parts_at (one.Un o t a) h k = h k
  parts_at (one.Bin o t a b) h k = two_at a b h k
  parts_at (one.Conv t a) h k = h k
  parts_at (one.Qualify t a) h k = h k
  parts_at (one.Move a b back) h k = two_at a b h k
  parts_at (one.Gap a b) h k = two_at a b h k
  parts_at (one.Compare o a b) h k = two_at a b h k
  parts_at (one.Both a b) h k = two_at a b h k
  parts_at (one.Either a b) h k = two_at a b h k
  parts_at (one.Choose d a b) h k =
      let rest = two_at a b (h.1, h.2) (second_of (takes d) (λ r. takes a r || takes b r) k) in (h.0 (first_of (takes d) (λ r. takes a r || takes b r) k), rest.0, rest.1)
  parts_at (one.Assign a e) h k = place_two_at a e h k
  parts_at (one.Change a o t e) h k = place_two_at a e h k
  parts_at (one.After a down) h k = h k
  parts_at (one.Call g args) h k = (h.0 (first_of (takes g) (any_takes args) k), each_at args h.1 (second_of (takes g) (any_takes args) k))
  parts_at (one.Intr i None) h k = tt
  parts_at (one.Intr i (Some a)) h k = h k
  parts_at (one.Seq a b) h k = two_at a b h k

  abbrev places_take : one.Place-F Expr Place → ℕ → Bool
  places_take x r = (use_step r (map-Place Expr Place Bool PlaceUse (is_address_taken r) (place_use r) x)).address_taken

  pub place_parts_at : (x : one.Place-F Expr Place) → PlaceParts IfTaken PlaceIfTaken x → TakesOwn (places_take x) → PlaceParts At PlaceAt x
  place_parts_at (one.Local r) h k = tt
  place_parts_at (one.Static i) h k = tt
  place_parts_at (one.Device d) h k = tt
  place_parts_at (one.Element a e) h k = place_two_at a e h k
  place_parts_at (one.Member a m) h k = h k
  place_parts_at (one.Deref e) h k = h k

  -- a level, opened
  pub rolled_takes : (x : one.Expr-F Expr Place) → TakesAddressesOf f (roll-Expr x) → TakesOwn (expr_takes x)
  unfolding is_address_taken place_use
  rolled_takes x h r k = h r (fold-roll-Expr Bool PlaceUse (address_step r) (use_step r) x ∙ k)

  pub rolled_place_takes : (x : one.Place-F Expr Place) → PlaceTakesAddressesOf f (roll-Place x) → TakesOwn (places_take x)
  unfolding is_address_taken place_use
  rolled_place_takes x h r k = h r (ap (λ (u : PlaceUse). u.address_taken) (fold-roll-Place Bool PlaceUse (address_step r) (use_step r) x) ∙ k)

  -- the address of a whole local
  pub local_taken : (a : Place) (r : ℕ) → out-Place a ≡ one.Local r → TakesOwn (expr_takes (one.AddrOf a)) → is_addressed f r ≡ true
  unfolding is_address_taken place_use
  local_taken a r e k =
      k r (left_true (place_use r a).is_local (place_takes a r)
      (ap (λ (u : PlaceUse). u.is_local) (fold_out-Place Bool PlaceUse (address_step r) (use_step r) a)
      ∙ ap (λ (x : one.Place-F Expr Place). (use_step r (map-Place Expr Place Bool PlaceUse (is_address_taken r) (place_use r) x)).is_local) e ∙ eq-eqb r r refl))

-- ---- statements

module _ (r : ℕ) where
  abbrev any_taken : List Stmt → Bool
  any_taken list = list_any (λ b. b) (map (is_taken_in r) list)

  abbrev case_taken : Case → Bool
  case_taken c = fold-Case Bool Bool (stmt_step r) (λ c. list_any (λ b. b) c.body) c

  abbrev any_case_taken : List Case → Bool
  any_case_taken cases = list_any (λ b. b) (map case_taken cases)

  stmt-taken : (s : Stmt) → is_taken_in r s ≡ stmt_step r (map-Stmt Stmt Case Bool Bool (is_taken_in r) case_taken (out-Stmt s))
  stmt-taken s = fold_out-Stmt Bool Bool (stmt_step r) (λ c. list_any (λ b. b) c.body) s

  case-taken : (c : Case) → case_taken c ≡ any_taken (out-Case c).body
  case-taken c = fold_out-Case Bool Bool (stmt_step r) (λ c. list_any (λ b. b) c.body) c

  behind_taken : (xs ys : List Stmt) → any_taken ys ≡ true → any_taken (xs ++ ys) ≡ true
  behind_taken [] ys h = h
  behind_taken (x ∷ xs) ys h = right_true (is_taken_in r x) (any_taken (xs ++ ys)) (behind_taken xs ys h)

  either_list : (xs ys : List Stmt) → any_taken (xs ++ ys) ≡ true → (any_taken xs ≡ true) ⊎ (any_taken ys ≡ true)
  either_list [] ys h = inr h
  either_list (x ∷ xs) ys h = by_first (λ k. either_list xs ys k) (either_true (is_taken_in r x) (any_taken (xs ++ ys)) h)
    where
      in_rest : (any_taken xs ≡ true) ⊎ (any_taken ys ≡ true) → (any_taken (x ∷ xs) ≡ true) ⊎ (any_taken ys ≡ true)
      in_rest (inl k) = inl (right_true (is_taken_in r x) (any_taken xs) k)
      in_rest (inr k) = inr k

      by_first : (any_taken (xs ++ ys) ≡ true → (any_taken xs ≡ true) ⊎ (any_taken ys ≡ true)) → (is_taken_in r x ≡ true) ⊎ (any_taken (xs ++ ys) ≡ true) → (any_taken (x ∷ xs) ≡ true) ⊎ (any_taken ys ≡ true)
      by_first next (inl k) = inl (left_true (is_taken_in r x) (any_taken xs) k)
      by_first next (inr k) = in_rest (next k)

  bodies_taken : (cases : List Case) → any_taken (bodies cases) ≡ true → any_case_taken cases ≡ true
  bodies_taken [] h = h
  bodies_taken (c ∷ cases) h = by_case (λ k. bodies_taken cases k) (either_list (out-Case c).body (bodies cases) h)
    where
      by_case : (any_taken (bodies cases) ≡ true → any_case_taken cases ≡ true) → (any_taken (out-Case c).body ≡ true) ⊎ (any_taken (bodies cases) ≡ true) → any_case_taken (c ∷ cases) ≡ true
      by_case next (inl k) = left_true (case_taken c) (any_case_taken cases) (case-taken c ∙ k)
      by_case next (inr k) = right_true (case_taken c) (any_case_taken cases) (next k)

  abbrev level_taken : is.Stmt-F Stmt Case → Bool
  level_taken x = stmt_step r (map-Stmt Stmt Case Bool Bool (is_taken_in r) case_taken x)

  -- in a list inside a statement
  inside_taken : (x : is.Stmt-F Stmt Case) (list : List Stmt) (first : ℕ) → IsListIn x list first → any_taken list ≡ true → level_taken x ≡ true
  inside_taken (is.Do e) list first h k = absurd h
  inside_taken (is.If e these those) list first (inl h) k = right_true (is_address_taken r e) _ (left_true (any_taken these) (any_taken those) (ap any_taken (sym h.0) ∙ k))
  inside_taken (is.If e these those) list first (inr h) k = right_true (is_address_taken r e) _ (right_true (any_taken these) (any_taken those) (ap any_taken (sym h.0) ∙ k))
  inside_taken (is.While e body) list first h k = right_true (is_address_taken r e) (any_taken body) (ap any_taken (sym h.0) ∙ k)
  inside_taken (is.DoWhile body e) list first h k = left_true (any_taken body) (is_address_taken r e) (ap any_taken (sym h.0) ∙ k)
  inside_taken (is.For start test again body) list first h k =
      right_true (is_taken_in_optional r start) (is_taken_in_optional r test || (is_taken_in_optional r again || any_taken body))
      (right_true (is_taken_in_optional r test) (is_taken_in_optional r again || any_taken body) (right_true (is_taken_in_optional r again) (any_taken body) (ap any_taken (sym h.0) ∙ k)))
  inside_taken (is.Switch e cases) list first h k = right_true (is_address_taken r e) (any_case_taken cases) (bodies_taken cases (ap any_taken (sym h.0) ∙ k))
  inside_taken is.Break list first h k = absurd h
  inside_taken is.Continue list first h k = absurd h
  inside_taken (is.Return e) list first h k = absurd h
  inside_taken is.Empty list first h k = absurd h
  inside_taken (is.Block body) list first h k = ap any_taken (sym h.0) ∙ k

  -- in the full expression that is worked
  worked_taken : (x : is.Stmt-F Stmt Case) (phase : Phase) (e : Expr) → worked x phase ≡ Some e → is_address_taken r e ≡ true → level_taken x ≡ true
  worked_taken (is.Do a) phase e h k = subst (λ (y : Expr). is_address_taken r y ≡ true) (let same : e ≡ a = cc in same) k
  worked_taken (is.If a these those) phase e h k = left_true (is_address_taken r a) _ (subst (λ (y : Expr). is_address_taken r y ≡ true) (let same : e ≡ a = cc in same) k)
  worked_taken (is.While a body) phase e h k = left_true (is_address_taken r a) _ (subst (λ (y : Expr). is_address_taken r y ≡ true) (let same : e ≡ a = cc in same) k)
  worked_taken (is.DoWhile body a) phase e h k = right_true (any_taken body) (is_address_taken r a) (subst (λ (y : Expr). is_address_taken r y ≡ true) (let same : e ≡ a = cc in same) k)
  worked_taken (is.For None test again body) First e h k = absurd (cc)
  worked_taken (is.For (Some a) test again body) First e h k = left_true (is_address_taken r a) _ (subst (λ (y : Expr). is_address_taken r y ≡ true) (let same : e ≡ a = cc in same) k)
  worked_taken (is.For start None again body) Test e h k = absurd (cc)
  worked_taken (is.For start (Some a) again body) Test e h k = right_true (is_taken_in_optional r start) (is_address_taken r a || (is_taken_in_optional r again || any_taken body)) (left_true (is_address_taken r a) _ (subst (λ (y : Expr). is_address_taken r y ≡ true) (let same : e ≡ a = cc in same) k))
  worked_taken (is.For start test None body) Again e h k = absurd (cc)
  worked_taken (is.For start test (Some a) body) Again e h k =
      right_true (is_taken_in_optional r start) (is_taken_in_optional r test || (is_address_taken r a || any_taken body)) (right_true (is_taken_in_optional r test) (is_address_taken r a || any_taken body) (left_true (is_address_taken r a) (any_taken body) (subst (λ (y : Expr). is_address_taken r y ≡ true) (let same : e ≡ a = cc in same) k)))
  worked_taken (is.Switch a cases) phase e h k = left_true (is_address_taken r a) _ (subst (λ (y : Expr). is_address_taken r y ≡ true) (let same : e ≡ a = cc in same) k)
  worked_taken is.Break phase e h k = absurd (cc)
  worked_taken is.Continue phase e h k = absurd (cc)
  worked_taken (is.Return None) phase e h k = absurd (cc)
  worked_taken (is.Return (Some a)) phase e h k = subst (λ (y : Expr). is_address_taken r y ≡ true) (let same : e ≡ a = cc in same) k
  worked_taken is.Empty phase e h k = absurd (cc)
  worked_taken (is.Block body) phase e h k = absurd (cc)

  left_taken : (list rest : List Stmt) (first position : ℕ) → IsLeft list first rest position → any_taken rest ≡ true → any_taken list ≡ true
  left_taken list rest first position h k = ap any_taken h.whole ∙ behind_taken h.front rest k

  first_taken : (l : List Stmt) (list : List Stmt) (first : ℕ) → IsListInFirst l list first → any_taken list ≡ true → any_taken l ≡ true
  first_taken [] list first h k = absurd h
  first_taken (s ∷ l) list first h k = left_true (is_taken_in r s) (any_taken l) (stmt-taken s ∙ inside_taken (out-Stmt s) list first h k)

  -- in the body, from the levels at which an activation stands
  body_taken : (body : List Stmt) (at : Level) (around : List Level) → AreInside body (at ∷ around) → any_taken at.rest ≡ true → any_taken body ≡ true
  body_taken body at [] h k = left_taken body at.rest 0 at.position h.0 k
  body_taken body at (b ∷ around) h k =
      body_taken body b around h.1 (first_taken b.rest h.0.0 h.0.1 h.0.2 (left_taken h.0.0 at.rest h.0.1 at.position h.0.3 k))

  list_taken : (here : Level) (l : List Stmt) (e : Expr) → worked_at here l ≡ Some e → is_address_taken r e ≡ true → any_taken l ≡ true
  list_taken here [] e h k = absurd (cc)
  list_taken here (s ∷ l) e h k = left_true (is_taken_in r s) (any_taken l) (stmt-taken s ∙ worked_taken (out-Stmt s) here.phase e h k)

-- the full expression that is worked takes addresses that are taken in the function
pub expression_takes : (f : Func) (a : Active) (e : Expr) → AreInside f.body (a.here ∷ a.around) → expression_of a ≡ Some e → TakesAddressesOf f e
expression_takes f a e h w r k = body_taken r f.body a.here a.around h (list_taken r a.here a.here.rest e w k)
