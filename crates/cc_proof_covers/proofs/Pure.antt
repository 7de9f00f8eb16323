-- What pure expressions ask for: reads of registers of their activation, and branch steps. Whatever marks are asked to be.
use Rattle.std.proofs.Common.{◌≡◌, inl, inr, ℕ, Bool, true, false, List, [], ◌∷◌, map, Option, Some, None, refl, ap, sym, subst}
use Rattle.std.specs.Prelude.{if◌then◌else◌, ◌&&◌}
use Rattle.std.specs.List.{list_all}
use Rattle.std.proofs.lemmas.Option.{same_Some}
use Rattle.cc_flow_sound.proofs.CcEval.Links.{level, place_level}
use Rattle.cc_flow_sound.proofs.CcEval.Works.{works_known, works_ask, works_bind, works_needs, works_choice}
use Rattle.cc_flow_sound.specs.CcEval.Context.{Context, reached, cell_at}
use Rattle.cc_flow_sound.specs.CcEval.declared.action.Action.TheVariants.{Read}
use Rattle.cc_flow_sound.specs.CcEval.declared.action.Action.{Action}
use Rattle.cc_flow_sound.specs.CcEval.declared.mark.Mark.{Mark}
use Rattle.cc_flow_sound.specs.CcEval.declared.spots.Spot.TheVariants as spot
use Rattle.cc_flow_sound.specs.CcEval.declared.spots.Spot.{Spot}
use Rattle.cc_flow_sound.specs.CcEval.Eval.{Meaning, Designation, meaning, designation, opened, place_opened, manner, from_one, both_values, from_two, place_and_value, choice, as_condition, each, assigned_by, fetched}
use Rattle.cc_flow_sound.specs.CcEval.Marks.{Works}
use Rattle.cc_flow_sound.specs.CcEval.Progress.{Get, ask, bind, known, given}
use Rattle.cc_program.proofs.ExprInduction.{Parts, PlaceParts, by_expr, by_place}
use Rattle.cc_program.specs.declared.expr.Expr.TheOpen as one
use Rattle.cc_program.specs.declared.expr.Expr.{Expr, roll-Expr}
use Rattle.cc_program.specs.declared.expr.Place.{Place, roll-Place}
use Rattle.cc_program.specs.declared.program.Program.{Program}
use Rattle.cc_program.specs.declared.value.Cell.TheVariants as cell
use Rattle.cc_program.specs.declared.value.Cell.{Cell}
use Rattle.cc_program.specs.declared.value.Part.{Part}
use Rattle.cc_program.specs.declared.value.Root.TheVariants as root
use Rattle.cc_program.specs.declared.value.Root.{Root}
use Rattle.cc_program.specs.declared.value.Value.{Value}
use Rattle.cc_proof_covers.specs.Operands.{IsOperandStep}
use Rattle.cc_flow_sound.proofs.CcSyntax.Prefixes.{both_true}
use Rattle.cc_flow_sound.specs.CcSyntax.Effects.{Registers, also, is_soft}
use Rattle.cc_flow_sound.specs.CcSyntax.Expressions.{of_two}
use Rattle.cc_flow_sound.specs.CcSyntax.Registers.{is_register}
use Rattle.cc_flow_sound.specs.CcSyntax.Values.{PlaceType}
use Rattle.cc_flow_sound.specs.CcValues.Values.{truth, of_truth}

-- the cell of what a name designates
pub named_cell : (p : Program) (t : Option PlaceType) (object : Root) (path : List Part) (at : Cell) → of_two t (Some (spot.Object object path)) (cell_at p) ≡ Some at → at ≡ cell.At object path
named_cell p None object path at e = absurd (cc)
named_cell p (Some t) object path at e = sym (same_Some (cell.At object path) at e)

module _ (c : Context) (IsMark : Action → Mark → Type 0) where
  abbrev Any : (A : Type 0) → A → Type 0
  Any A a = Unit {0}

  -- asks for such steps alone
  abbrev pub IsQuiet : (A : Type 0) → Get A → Type 0
  IsQuiet A g = Works IsMark (IsOperandStep c) (Any A) g

  quiet_known : (A : Type 0) (v : A) → IsQuiet A (known v)
  quiet_known A v = works_known IsMark (IsOperandStep c) (Any A) v tt

  quiet_bind : (A B : Type 0) (g : Get A) (f : A → Get B) → IsQuiet A g → ((a : A) → IsQuiet B (f a)) → IsQuiet B (bind g f)
  quiet_bind A B g f u w = works_bind IsMark (IsOperandStep c) (Any A) (Any B) g f u (λ a h. w a)

  quiet_choice : (pure : Bool) (condition these those : Get (Option Value)) → IsQuiet (Option Value) condition → IsQuiet (Option Value) these → IsQuiet (Option Value) those → IsQuiet (Option Value) (choice pure condition these those)
  quiet_choice pure condition these those g h k = works_choice IsMark (IsOperandStep c) (Any (Option Value)) (Any (Option Value)) pure condition these those (λ b. inr (b, refl)) tt g h k

  -- whatever later operands assign
  abbrev AlwaysQuiet : Meaning → Type 0
  AlwaysQuiet a = (other : Registers) → IsQuiet (Option Value) (a.next other)

  abbrev PlaceQuiet : Designation → Type 0
  PlaceQuiet a = (other : Registers) → IsQuiet (Option Spot) (a.leads other)

  quiet_one : (A : Type 0) (f : Option Value → A) (a : Meaning) → AlwaysQuiet a → (other : Registers) → IsQuiet A (from_one f a other)
  quiet_one A f a u other = quiet_bind (Option Value) A (a.next other) (λ v. known (f v)) (u other) (λ v. quiet_known A (f v))

  quiet_both : (a b : Meaning) → AlwaysQuiet a → AlwaysQuiet b → (other : Registers) → IsQuiet (Option Value × Option Value) (both_values a b other)
  quiet_both a b u w other =
      quiet_bind (Option Value) (Option Value × Option Value) (a.next (also b.effects.assigned other)) (λ x. bind (b.next other) (λ y. known (x, y))) (u (also b.effects.assigned other))
      (λ x. quiet_bind (Option Value) (Option Value × Option Value) (b.next other) (λ y. known (x, y)) (w other) (λ y. quiet_known (Option Value × Option Value) (x, y)))

  quiet_two : (A : Type 0) (f : Option Value → Option Value → A) (a b : Meaning) → AlwaysQuiet a → AlwaysQuiet b → (other : Registers) → IsQuiet A (from_two f a b other)
  quiet_two A f a b u w other = quiet_bind (Option Value × Option Value) A (both_values a b other) (λ q. known (f q.0 q.1)) (quiet_both a b u w other) (λ q. quiet_known A (f q.0 q.1))

  quiet_place_and_value : (a : Designation) (e : Meaning) → PlaceQuiet a → AlwaysQuiet e → (other : Registers) → IsQuiet (Option Spot × Option Value) (place_and_value a e other)
  quiet_place_and_value a e u w other =
      quiet_bind (Option Spot) (Option Spot × Option Value) (a.leads (also e.effects.assigned other)) (λ s. bind (e.next other) (λ y. known (s, y))) (u (also e.effects.assigned other))
      (λ s. quiet_bind (Option Value) (Option Spot × Option Value) (e.next other) (λ y. known (s, y)) (w other) (λ y. quiet_known (Option Spot × Option Value) (s, y)))

  quiet_condition : (b : Meaning) → AlwaysQuiet b → (other : Registers) → IsQuiet (Option Value) (as_condition b other)
  quiet_condition b u other = quiet_bind (Option Value) (Option Value) (b.next other) (λ v. known (of_truth (truth v))) (u other) (λ v. quiet_known (Option Value) (of_truth (truth v)))

  -- ---- registers

  abbrev own_spot : ℕ → Option Spot
  own_spot r = Some (spot.Object (root.Auto c.number c.id r) [])

  -- a place that is a register leads to it
  abbrev LeadsToRegister : Designation → Type 0
  LeadsToRegister a = (r : ℕ) → a.effects.register ≡ Some r → (is_register c.func r ≡ true) × ((other : Registers) → a.leads other ≡ known (own_spot r))

  quiet_fetched : (a : Designation) (other : Registers) (r : ℕ) → is_register c.func r ≡ true → IsQuiet (Option Value) (fetched c a other (own_spot r))
  quiet_fetched a other r register =
      works_needs IsMark (IsOperandStep c) (Any (Option Value)) (reached c.program a.ctype (own_spot r)) (λ at. ask (Read at (manner a other)) given)
      (λ at h.
      let is : at ≡ cell.At (root.Auto c.number c.id r) [] = named_cell c.program a.ctype (root.Auto c.number c.id r) [] at h in
      works_ask IsMark (IsOperandStep c) (Any (Option Value)) (Read at (manner a other)) given (inl (r, manner a other, register, ap (λ (z : Cell). Read z (manner a other)) is)) (λ mark k. tt))

  quiet_load : (a : Designation) → LeadsToRegister a → (later : Registers) → is_soft a.effects.register later ≡ true → (other : Registers) → IsQuiet (Option Value) (bind (a.leads other) (fetched c a other))
  quiet_load a leads later soft other = by a.effects.register refl soft
    where
      by : (o : Option ℕ) → a.effects.register ≡ o → is_soft o later ≡ true → IsQuiet (Option Value) (bind (a.leads other) (fetched c a other))
      by None e h = absurd (cc)
      by (Some r) e h =
          let l = leads r e in
          subst (λ (z : Get (Option Spot)). IsQuiet (Option Value) (bind z (fetched c a other))) (sym (l.1 other)) (quiet_fetched a other r l.0)

  -- ---- all pure expressions, and places whose operands are pure

  abbrev ExprClaim : Meaning → Type 0
  ExprClaim a = (later : Registers) → a.effects.pure later ≡ true → AlwaysQuiet a

  abbrev PlaceClaim : Designation → Type 0
  PlaceClaim a = ((later : Registers) → a.effects.pure later ≡ true → PlaceQuiet a) × LeadsToRegister a

  abbrev At : Expr → Type 0
  At e = ExprClaim (meaning c e)

  abbrev PlaceAt : Place → Type 0
  PlaceAt a = PlaceClaim (designation c a)

  abbrev Two : Expr → Expr → Registers → Type 0
  Two a b later = ((meaning c a).effects.pure later && (meaning c b).effects.pure later) ≡ true

  both_pure : (a b : Expr) (later : Registers) → Two a b later → ((meaning c a).effects.pure later ≡ true) × ((meaning c b).effects.pure later ≡ true)
  both_pure a b later h = both_true ((meaning c a).effects.pure later) ((meaning c b).effects.pure later) h

  expr_level : (x : one.Expr-F Expr Place) → Parts At PlaceAt x → ExprClaim (opened c x)
  expr_level (one.Const n t) parts later h other = quiet_known (Option Value) _
  expr_level (one.Null t) parts later h other = quiet_known (Option Value) _
  expr_level (one.FuncAddr g) parts later h other = quiet_known (Option Value) _
  expr_level (one.Load a) parts later h other = quiet_load (designation c a) parts.1 later h other
  expr_level (one.AddrOf a) parts later h other = quiet_bind (Option Spot) (Option Value) ((designation c a).leads other) _ (parts.0 later h other) (λ s. quiet_known (Option Value) _)
  expr_level (one.Un o t a) parts later h other = quiet_one (Option Value) _ (meaning c a) (parts later h) other
  expr_level (one.Bin o t a b) parts later h other = let q = both_pure a b later h in quiet_two (Option Value) _ (meaning c a) (meaning c b) (parts.0 later q.0) (parts.1 later q.1) other
  expr_level (one.Conv t a) parts later h other = quiet_one (Option Value) _ (meaning c a) (parts later h) other
  expr_level (one.Qualify t a) parts later h other = quiet_one (Option Value) _ (meaning c a) (parts later h) other
  expr_level (one.Move a b back) parts later h other = let q = both_pure a b later h in quiet_two (Option Value) _ (meaning c a) (meaning c b) (parts.0 later q.0) (parts.1 later q.1) other
  expr_level (one.Gap a b) parts later h other = let q = both_pure a b later h in quiet_two (Option Value) _ (meaning c a) (meaning c b) (parts.0 later q.0) (parts.1 later q.1) other
  expr_level (one.Compare o a b) parts later h other = let q = both_pure a b later h in quiet_two (Option Value) _ (meaning c a) (meaning c b) (parts.0 later q.0) (parts.1 later q.1) other
  expr_level (one.Both a b) parts later h other =
      let q = both_pure a b later h in
      quiet_choice _ _ _ _ (parts.0 later q.0 (also (meaning c b).effects.assigned other)) (quiet_condition (meaning c b) (parts.1 later q.1) other) (quiet_known (Option Value) _)
  expr_level (one.Either a b) parts later h other =
      let q = both_pure a b later h in
      quiet_choice _ _ _ _ (parts.0 later q.0 (also (meaning c b).effects.assigned other)) (quiet_known (Option Value) _) (quiet_condition (meaning c b) (parts.1 later q.1) other)
  expr_level (one.Choose d a b) parts later h other =
      let q = both_true ((meaning c d).effects.pure later) ((meaning c a).effects.pure later && (meaning c b).effects.pure later) h in
      let r = both_pure a b later q.1 in
      quiet_choice _ _ _ _ (parts.0 later q.0 (also (meaning c a).effects.assigned (also (meaning c b).effects.assigned other))) (parts.1 later r.0 (also (meaning c b).effects.assigned other)) (parts.2 later r.1 other)
  expr_level (one.Assign a e) parts later h other = absurd (cc)
  expr_level (one.Change a o t e) parts later h other = absurd (cc)
  expr_level (one.After a down) parts later h other = absurd (cc)
  expr_level (one.Call g args) parts later h other = absurd (cc)
  expr_level (one.Intr i a) parts later h other = absurd (cc)
  expr_level (one.Seq a b) parts later h other = absurd (cc)

  none_register : {C : Type 0} (r : ℕ) → None ≡ Some r → C
  none_register r e = absurd (cc)

  local_register : (r q : ℕ) (b : Bool) → is_register c.func r ≡ b → (if b then Some r else None) ≡ Some q → (is_register c.func q ≡ true) × (r ≡ q)
  local_register r q true e h = let same : r ≡ q = same_Some r q h in (subst (λ (z : ℕ). is_register c.func z ≡ true) same e, same)
  local_register r q false e h = none_register q h

  place_quiet_level : (x : one.Place-F Expr Place) → PlaceParts At PlaceAt x → (later : Registers) → (place_opened c x).effects.pure later ≡ true → PlaceQuiet (place_opened c x)
  place_quiet_level (one.Local r) parts later h other = quiet_known (Option Spot) _
  place_quiet_level (one.Static i) parts later h other = quiet_known (Option Spot) _
  place_quiet_level (one.Device d) parts later h other = quiet_known (Option Spot) _
  place_quiet_level (one.Element a i) parts later h other =
      let q = both_true ((designation c a).effects.pure later) ((meaning c i).effects.pure later) h in
      quiet_bind (Option Spot × Option Value) (Option Spot) (place_and_value (designation c a) (meaning c i) other) _ (quiet_place_and_value (designation c a) (meaning c i) (parts.0.0 later q.0) (parts.1 later q.1) other) (λ s. quiet_known (Option Spot) _)
  place_quiet_level (one.Member a m) parts later h other = quiet_bind (Option Spot) (Option Spot) ((designation c a).leads other) _ (parts.0 later h other) (λ s. quiet_known (Option Spot) _)
  place_quiet_level (one.Deref e) parts later h other = quiet_one (Option Spot) _ (meaning c e) (parts later h) other

  register_level : (x : one.Place-F Expr Place) → LeadsToRegister (place_opened c x)
  register_level (one.Local r) q h =
      let w = local_register r q (is_register c.func r) refl h in
      (w.0, λ other. ap (λ (z : ℕ). known (own_spot z)) w.1)
  register_level (one.Static i) q h = none_register q h
  register_level (one.Device d) q h = none_register q h
  register_level (one.Element a i) q h = none_register q h
  register_level (one.Member a m) q h = none_register q h
  register_level (one.Deref e) q h = none_register q h

  made : (x : one.Expr-F Expr Place) → Parts At PlaceAt x → At (roll-Expr x)
  made x h = subst ExprClaim (sym (level c x)) (expr_level x h)

  place_made : (x : one.Place-F Expr Place) → PlaceParts At PlaceAt x → PlaceAt (roll-Place x)
  place_made x h = subst PlaceClaim (sym (place_level c x)) (place_quiet_level x h, register_level x)

  pub pure_quiet : (e : Expr) (later : Registers) → (meaning c e).effects.pure later ≡ true → (other : Registers) → IsQuiet (Option Value) ((meaning c e).next other)
  pure_quiet e = by_expr At PlaceAt made place_made e

  place_all : (a : Place) → PlaceAt a
  place_all a = by_place At PlaceAt made place_made a

  pub place_quiet : (a : Place) (later : Registers) → (designation c a).effects.pure later ≡ true → (other : Registers) → IsQuiet (Option Spot) ((designation c a).leads other)
  place_quiet a = (place_all a).0

  pub register_leads : (a : Place) (r : ℕ) → (designation c a).effects.register ≡ Some r → (is_register c.func r ≡ true) × ((other : Registers) → (designation c a).leads other ≡ known (own_spot r))
  register_leads a = (place_all a).1

  -- arguments
  pub each_quiet : (args : List Expr) → list_all (λ e. (meaning c e).effects.pure (λ r. false)) args ≡ true → (other : Registers) → IsQuiet (List (Option Value)) (each (map (meaning c) args) other)
  each_quiet [] h other = quiet_known (List (Option Value)) []
  each_quiet (e ∷ args) h other =
      let q = both_true ((meaning c e).effects.pure (λ r. false)) (list_all (λ e. (meaning c e).effects.pure (λ r. false)) args) h in
      quiet_bind (Option Value) (List (Option Value)) ((meaning c e).next (also (assigned_by (map (meaning c) args)) other)) (λ v. bind (each (map (meaning c) args) other) (λ vs. known (v ∷ vs)))
      (pure_quiet e (λ r. false) q.0 (also (assigned_by (map (meaning c) args)) other))
      (λ v. quiet_bind (List (Option Value)) (List (Option Value)) (each (map (meaning c) args) other) (λ vs. known (v ∷ vs)) (each_quiet args q.1 other) (λ vs. quiet_known (List (Option Value)) (v ∷ vs)))
