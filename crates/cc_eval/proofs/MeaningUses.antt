-- A full expression, and each part of it, uses marks from the front.
use Rattle.std.proofs.Common.{Bool, true, false, List, [], ◌∷◌, Option, Some, None, map, sym, subst}
use Rattle.cc_program.specs.CcNum.declared.int_type.IntType.{IntType}
use Rattle.cc_program.specs.CcNum.declared.op.BinOp.{BinOp}
use Rattle.cc_program.specs.declared.expr.Expr.{Expr, roll-Expr}
use Rattle.cc_program.specs.declared.expr.Expr.TheOpen as one
use Rattle.cc_program.specs.declared.expr.Intr.TheVariants as intr
use Rattle.cc_program.specs.declared.expr.Place.{Place, roll-Place}
use Rattle.cc_program.specs.declared.value.Value.{Value}
use Rattle.cc_program.proofs.Each.{Each}
use Rattle.cc_program.proofs.ExprInduction.{Parts, PlaceParts, by_expr, by_place}
use Rattle.cc_syntax.specs.Effects.{Registers, also}
use Rattle.cc_values.specs.Values.{truth, of_truth, address_in}
use Rattle.cc_eval.specs.declared.action.Action.TheVariants as action
use Rattle.cc_eval.specs.declared.spots.Spot.{Spot}
use Rattle.cc_eval.specs.Context.{Context, reached, is_seen}
use Rattle.cc_eval.specs.Eval.{Meaning, Designation, meaning, designation, opened, place_opened, manner, from_one, both_values, from_two, place_and_value, branch, outcome, arms, choice, as_condition, each, all_good, called_with, restored, sequence, fetched, stored, changed_back, changed_with, stepped_back, stepped_with, assigned_by}
use Rattle.cc_eval.specs.Marks.{UsesFirst}
use Rattle.cc_eval.specs.Progress.{Get, ask, bind, needs, known, given, chosen}
use Rattle.cc_eval.proofs.Links.{level, place_level}
use Rattle.cc_eval.proofs.Uses.{uses_known, uses_trap, uses_ask, uses_bind, uses_needs}

-- an expression, or a place, whatever stands behind it
abbrev Uses : Meaning → Type 0
Uses a = (later : Registers) → UsesFirst (a.next later)

abbrev PlaceUses : Designation → Type 0
PlaceUses a = (later : Registers) → UsesFirst (a.leads later)

uses_one : {A : Type 0} (f : Option Value → A) (a : Meaning) → Uses a → (later : Registers) → UsesFirst (from_one f a later)
uses_one f a u later = uses_bind (a.next later) (λ v. known (f v)) (u later) (λ v. uses_known (f v))

uses_both : (a b : Meaning) → Uses a → Uses b → (later : Registers) → UsesFirst (both_values a b later)
uses_both a b u v later =
    uses_bind (a.next (also b.effects.assigned later)) (λ x. bind (b.next later) (λ y. known (x, y))) (u (also b.effects.assigned later))
    (λ x. uses_bind (b.next later) (λ y. known (x, y)) (v later) (λ y. uses_known (x, y)))

uses_two : {A : Type 0} (f : Option Value → Option Value → A) (a b : Meaning) → Uses a → Uses b → (later : Registers) → UsesFirst (from_two f a b later)
uses_two f a b u v later = uses_bind (both_values a b later) (λ p. known (f p.0 p.1)) (uses_both a b u v later) (λ p. uses_known (f p.0 p.1))

uses_place_and_value : (a : Designation) (e : Meaning) → PlaceUses a → Uses e → (later : Registers) → UsesFirst (place_and_value a e later)
uses_place_and_value a e u v later =
    uses_bind (a.leads (also e.effects.assigned later)) (λ s. bind (e.next later) (λ y. known (s, y))) (u (also e.effects.assigned later))
    (λ s. uses_bind (e.next later) (λ y. known (s, y)) (v later) (λ y. uses_known (s, y)))

uses_branch : (pure : Bool) (v : Option Value) → UsesFirst (branch pure v)
uses_branch true v = uses_ask (action.Choose (truth v)) chosen
uses_branch false v = uses_needs (truth v) (λ b. ask (action.Choose (Some b)) chosen) (λ b. uses_ask (action.Choose (Some b)) chosen)

uses_outcome : (pure : Bool) (v : Option Value) → UsesFirst (outcome pure v)
uses_outcome true v = uses_known v
uses_outcome false v = uses_needs v (λ w. known (Some w)) (λ w. uses_known (Some w))

uses_arms : (these those : Get (Option Value)) → UsesFirst these → UsesFirst those → (b : Option Bool) → UsesFirst (arms these those b)
uses_arms these those u v None = uses_known None
uses_arms these those u v (Some true) = u
uses_arms these those u v (Some false) = v

uses_choice : (pure : Bool) (condition these those : Get (Option Value)) → UsesFirst condition → UsesFirst these → UsesFirst those → UsesFirst (choice pure condition these those)
uses_choice pure condition these those c u v =
    uses_bind condition (λ x. bind (branch pure x) (arms (bind these (outcome pure)) (bind those (outcome pure)))) c
    (λ x. uses_bind (branch pure x) (arms (bind these (outcome pure)) (bind those (outcome pure))) (uses_branch pure x)
    (uses_arms (bind these (outcome pure)) (bind those (outcome pure)) (uses_bind these (outcome pure) u (uses_outcome pure)) (uses_bind those (outcome pure) v (uses_outcome pure))))

uses_condition : (b : Meaning) → Uses b → (later : Registers) → UsesFirst (as_condition b later)
uses_condition b u later = uses_bind (b.next later) (λ v. known (of_truth (truth v))) (u later) (λ v. uses_known (of_truth (truth v)))

uses_restored : (a : Meaning) → Uses a → (later : Registers) → UsesFirst (restored (Some a) later)
uses_restored a u later =
    uses_bind (a.next later) (λ v. needs (truth v) (λ b. ask (action.Flag b) given)) (u later)
    (λ v. uses_needs (truth v) (λ b. ask (action.Flag b) given) (λ b. uses_ask (action.Flag b) given))

uses_sequence : (a b : Meaning) → Uses a → Uses b → (later : Registers) → UsesFirst (sequence a b later)
uses_sequence a b u v later =
    uses_bind (a.next (also b.effects.assigned later)) (λ x. needs x (λ w. b.next later)) (u (also b.effects.assigned later)) (λ x. uses_needs x (λ w. b.next later) (λ w. v later))

-- what is asked with the values of arguments
uses_call : (vs : List (Option Value)) (v : Option Value) → UsesFirst (needs (address_in v) (λ callee. needs (all_good vs) (λ good. ask (action.Call callee good) given)))
uses_call vs v =
    uses_needs (address_in v) (λ callee. needs (all_good vs) (λ good. ask (action.Call callee good) given))
    (λ callee. uses_needs (all_good vs) (λ good. ask (action.Call callee good) given) (λ good. uses_ask (action.Call callee good) given))

module _ (c : Context) where
  abbrev At : Expr → Type 0
  At e = Uses (meaning c e)

  abbrev PlaceAt : Place → Type 0
  PlaceAt a = PlaceUses (designation c a)

  uses_fetched : (a : Designation) (later : Registers) (s : Option Spot) → UsesFirst (fetched c a later s)
  uses_fetched a later s = uses_needs (reached c.program a.ctype s) (λ cell. ask (action.Read cell (manner a later)) given) (λ cell. uses_ask (action.Read cell (manner a later)) given)

  uses_stored : (a : Designation) (s : Option Spot) (v answer : Option Value) → UsesFirst (stored c a s v answer)
  uses_stored a s v answer =
      uses_needs (reached c.program a.ctype s) (λ cell. needs v (λ w. ask (action.Write cell (is_seen a.ctype) w) (λ m. answer)))
      (λ cell. uses_needs v (λ w. ask (action.Write cell (is_seen a.ctype) w) (λ m. answer)) (λ w. uses_ask (action.Write cell (is_seen a.ctype) w) (λ m. answer)))

  uses_changed : (a : Designation) (o : BinOp) (t : IntType) (later : Registers) (p : Option Spot × Option Value) → UsesFirst (changed_with c a o t later p)
  uses_changed a o t later p = uses_bind (fetched c a later p.0) (changed_back c a o t p.0 p.1) (uses_fetched a later p.0) (λ v. uses_stored a p.0 _ _)

  uses_stepped : (a : Designation) (down : Bool) (later : Registers) (s : Option Spot) → UsesFirst (stepped_with c a down later s)
  uses_stepped a down later s = uses_bind (fetched c a later s) (stepped_back c a down s) (uses_fetched a later s) (λ v. uses_stored a s _ v)

  uses_each : (args : List Expr) → Each At args → (later : Registers) → UsesFirst (each (map (meaning c) args) later)
  uses_each [] h later = uses_known []
  uses_each (a ∷ args) h later =
      uses_bind ((meaning c a).next (also (assigned_by (map (meaning c) args)) later)) (λ v. bind (each (map (meaning c) args) later) (λ vs. known (v ∷ vs)))
      (h.0 (also (assigned_by (map (meaning c) args)) later))
      (λ v. uses_bind (each (map (meaning c) args) later) (λ vs. known (v ∷ vs)) (uses_each args h.1 later) (λ vs. uses_known (v ∷ vs)))

  uses_called : (args : List Expr) → Each At args → (later : Registers) (v : Option Value) → UsesFirst (called_with (map (meaning c) args) later v)
  uses_called args h later v =
      uses_bind (each (map (meaning c) args) later) (λ vs. needs (address_in v) (λ callee. needs (all_good vs) (λ good. ask (action.Call callee good) given)))
      (uses_each args h later) (λ vs. uses_call vs v)

  uses_level : (x : one.Expr-F Expr Place) → Parts At PlaceAt x → Uses (opened c x)
  uses_level (one.Const n t) h = λ later. uses_known _
  uses_level (one.Null t) h = λ later. uses_known _
  uses_level (one.FuncAddr f) h = λ later. uses_known _
  uses_level (one.Load a) h = λ later. uses_bind _ (fetched c (designation c a) later) (h later) (uses_fetched (designation c a) later)
  uses_level (one.AddrOf a) h = λ later. uses_bind _ _ (h later) (λ s. uses_known _)
  uses_level (one.Un o t a) h = uses_one _ (meaning c a) h
  uses_level (one.Bin o t a b) h = uses_two _ (meaning c a) (meaning c b) h.0 h.1
  uses_level (one.Conv t a) h = uses_one _ (meaning c a) h
  uses_level (one.Qualify t a) h = uses_one _ (meaning c a) h
  uses_level (one.Move a b back) h = uses_two _ (meaning c a) (meaning c b) h.0 h.1
  uses_level (one.Gap a b) h = uses_two _ (meaning c a) (meaning c b) h.0 h.1
  uses_level (one.Compare o a b) h = uses_two _ (meaning c a) (meaning c b) h.0 h.1
  uses_level (one.Both a b) h = λ later. uses_choice _ _ _ _ (h.0 (also (meaning c b).effects.assigned later)) (uses_condition (meaning c b) h.1 later) (uses_known _)
  uses_level (one.Either a b) h = λ later. uses_choice _ _ _ _ (h.0 (also (meaning c b).effects.assigned later)) (uses_known _) (uses_condition (meaning c b) h.1 later)
  uses_level (one.Choose d a b) h = λ later.
      uses_choice _ _ _ _ (h.0 (also (meaning c a).effects.assigned (also (meaning c b).effects.assigned later))) (h.1 (also (meaning c b).effects.assigned later)) (h.2 later)
  uses_level (one.Assign a e) h = λ later.
      uses_bind _ _ (uses_place_and_value (designation c a) (meaning c e) h.0 h.1 later) (λ p. uses_stored (designation c a) p.0 p.1 p.1)
  uses_level (one.Change a o t e) h = λ later.
      uses_bind _ (changed_with c (designation c a) o t later) (uses_place_and_value (designation c a) (meaning c e) h.0 h.1 later) (uses_changed (designation c a) o t later)
  uses_level (one.After a down) h = λ later. uses_bind _ (stepped_with c (designation c a) down later) (h later) (uses_stepped (designation c a) down later)
  uses_level (one.Call f args) h = λ later.
      uses_bind _ (called_with (map (meaning c) args) later) (h.0 (also (assigned_by (map (meaning c) args)) later)) (uses_called args h.1 later)
  uses_level (one.Intr intr.Off a) h = λ later. uses_ask (action.Flag false) given
  uses_level (one.Intr intr.On a) h = λ later. uses_ask (action.Flag true) given
  uses_level (one.Intr intr.Save a) h = λ later. uses_ask action.Save given
  uses_level (one.Intr intr.Restore None) h = λ later. uses_trap
  uses_level (one.Intr intr.Restore (Some a)) h = uses_restored (meaning c a) h
  uses_level (one.Seq a b) h = uses_sequence (meaning c a) (meaning c b) h.0 h.1

  place_uses_level : (x : one.Place-F Expr Place) → PlaceParts At PlaceAt x → PlaceUses (place_opened c x)
  place_uses_level (one.Local r) h = λ later. uses_known _
  place_uses_level (one.Static i) h = λ later. uses_known _
  place_uses_level (one.Device d) h = λ later. uses_known _
  place_uses_level (one.Element a i) h = λ later. uses_bind _ _ (uses_place_and_value (designation c a) (meaning c i) h.0 h.1 later) (λ p. uses_known _)
  place_uses_level (one.Member a m) h = λ later. uses_bind _ _ (h later) (λ s. uses_known _)
  place_uses_level (one.Deref e) h = uses_one _ (meaning c e) h

  made : (x : one.Expr-F Expr Place) → Parts At PlaceAt x → At (roll-Expr x)
  made x h = subst Uses (sym (level c x)) (uses_level x h)

  place_made : (x : one.Place-F Expr Place) → PlaceParts At PlaceAt x → PlaceAt (roll-Place x)
  place_made x h = subst PlaceUses (sym (place_level c x)) (place_uses_level x h)

  pub meaning_uses : (e : Expr) (later : Registers) → UsesFirst ((meaning c e).next later)
  meaning_uses = by_expr At PlaceAt made place_made

  pub designation_uses : (a : Place) (later : Registers) → UsesFirst ((designation c a).leads later)
  designation_uses = by_place At PlaceAt made place_made
