-- Expressions that are assignments, calls or intrinsics ask for a step before they have a value; the constant 1 has its value at once.
use Rattle.std.proofs.Common.{◌≡◌, List, [], ◌∷◌, ◌++◌, map, Option, Some, None, true, false, refl, sym, ap, ◌∙◌, subst}
use Rattle.std.specs.Prelude.{pos}
use Rattle.std.proofs.lemmas.Bool.Decides.{Decides-int_eq}
use Rattle.cc_states.specs.CcEval.declared.action.Action.{Action}
use Rattle.cc_states.specs.CcEval.declared.action.Action.TheVariants as action
use Rattle.cc_states.specs.CcEval.declared.mark.Mark.{Mark}
use Rattle.cc_states.specs.CcEval.declared.spots.Spot.{Spot}
use Rattle.cc_states.specs.CcEval.Context.{Context, reached, is_seen}
use Rattle.cc_states.specs.CcEval.Eval.{Meaning, meaning, designation, place_and_value, stored, each, assigned_by, called_with, all_good}
use Rattle.cc_states.specs.CcEval.Marks.{UsesFirst}
use Rattle.cc_states.specs.CcEval.Progress.{Progress, Known, Waits, Traps, Get, known, ask, and_then, bind, needs, given}
use Rattle.cc_states.proofs.CcEval.Links.{level}
use Rattle.cc_states.proofs.CcEval.MeaningUses.{meaning_uses, designation_uses}
use Rattle.cc_states.proofs.CcEval.Uses.{uses_known, uses_bind}
use Rattle.cc_program.specs.declared.expr.Expr.{Expr, out-Expr, roll-out-Expr}
use Rattle.cc_program.specs.declared.expr.Expr.TheOpen as one
use Rattle.cc_program.specs.declared.expr.Intr.TheVariants as intr
use Rattle.cc_program.specs.declared.expr.Place.{Place}
use Rattle.cc_program.specs.declared.value.Value.{Value}
use Rattle.cc_program.specs.declared.value.Value.TheVariants.{Int}
use Rattle.cc_states.specs.CcSyntax.Effects.{Registers, also, no_one}
use Rattle.cc_states.specs.CcSyntax.Forms.{form_at, form_of}
use Rattle.cc_states.specs.CcValues.Values.{truth, address_in}
use Rattle.cc_lower_expressions_follows.specs.Region.{is_step}
use Rattle.cc_lower_expressions_follows.specs.WholeLists.{is_one_at}
use Rattle.cc_lower_expressions_follows.proofs.Opened.{at_level}

-- what has no answer before a step
pub record NeverKnown {A : Type 0} (g : Get A) : Type 0 where
  pub none : (a : A) (rest : List Mark) → g [] ≡ Known a rest → ⊥

never_ask : {A : Type 0} (x : Action) (f : Mark → A) → NeverKnown (ask x f)
never_ask x f = record { none = λ a rest e. absurd (cc) }

never_needs : {A B : Type 0} (v : Option A) (f : A → Get B) → ((a : A) → NeverKnown (f a)) → NeverKnown (needs v f)
never_needs None f h = record { none = λ a rest e. absurd (cc) }
never_needs (Some a) f h = h a

none_left : (used rest : List Mark) → [] ≡ used ++ rest → rest ≡ []
none_left [] rest e = sym e
none_left (m ∷ used) rest e = absurd (cc)

never_then : {A B : Type 0} (p : Progress A) (f : A → Get B) → ((a : A) (rest : List Mark) → p ≡ Known a rest → rest ≡ []) → ((a : A) → NeverKnown (f a)) → (b : B) (rest : List Mark) → and_then p f ≡ Known b rest → ⊥
never_then (Known a ms) f ends h b rest e = (h a).none b rest (subst (λ (ms : List Mark). f a ms ≡ Known b rest) (ends a ms refl) e)
never_then (Waits x) f ends h b rest e = absurd (cc)
never_then (Traps ms) f ends h b rest e = absurd (cc)

never_bind : {A B : Type 0} (g : Get A) (f : A → Get B) → UsesFirst g → ((a : A) → NeverKnown (f a)) → NeverKnown (bind g f)
never_bind g f u h = record { none = never_then (g []) f (λ a rest e. let x = u.known a [] rest e in none_left x.0 rest x.1) h }

module _ (c : Context) where
  uses_place_and_value : (a : Place) (e : Expr) (later : Registers) → UsesFirst (place_and_value (designation c a) (meaning c e) later)
  uses_place_and_value a e later =
      uses_bind ((designation c a).leads (also (meaning c e).effects.assigned later)) (λ s. bind ((meaning c e).next later) (λ v. known (s, v))) (designation_uses c a (also (meaning c e).effects.assigned later))
      (λ s. uses_bind ((meaning c e).next later) (λ v. known (s, v)) (meaning_uses c e later) (λ v. uses_known (s, v)))

  uses_each : (args : List Expr) (later : Registers) → UsesFirst (each (map (meaning c) args) later)
  uses_each [] later = uses_known []
  uses_each (a ∷ args) later =
      uses_bind ((meaning c a).next (also (assigned_by (map (meaning c) args)) later)) (λ v. bind (each (map (meaning c) args) later) (λ vs. known (v ∷ vs))) (meaning_uses c a (also (assigned_by (map (meaning c) args)) later))
      (λ v. uses_bind (each (map (meaning c) args) later) (λ vs. known (v ∷ vs)) (uses_each args later) (λ vs. uses_known (v ∷ vs)))

  never_called : (args : List Expr) (later : Registers) (v : Option Value) → NeverKnown (called_with (map (meaning c) args) later v)
  never_called args later v =
      never_bind (each (map (meaning c) args) later) (λ vs. needs (address_in v) (λ callee. needs (all_good vs) (λ good. ask (action.Call callee good) given))) (uses_each args later)
      (λ vs. never_needs (address_in v) (λ callee. needs (all_good vs) (λ good. ask (action.Call callee good) given)) (λ callee. never_needs (all_good vs) (λ good. ask (action.Call callee good) given) (λ good. never_ask (action.Call callee good) given)))

  never_stored : (a : Place) (s : Option Spot) (v answer : Option Value) → NeverKnown (stored c (designation c a) s v answer)
  never_stored a s v answer =
      never_needs (reached c.program (designation c a).ctype s) (λ cell. needs v (λ w. ask (action.Write cell (is_seen (designation c a).ctype) w) (λ m. answer)))
      (λ cell. never_needs v (λ w. ask (action.Write cell (is_seen (designation c a).ctype) w) (λ m. answer)) (λ w. never_ask (action.Write cell (is_seen (designation c a).ctype) w) (λ m. answer)))

  never_level : (x : one.Expr-F Expr Place) → is_step (form_at x) ≡ true → (later : Registers) → NeverKnown ((at_level c x).next later)
  never_level (one.Const n t) h later = absurd (cc)
  never_level (one.Null t) h later = absurd (cc)
  never_level (one.FuncAddr f) h later = absurd (cc)
  never_level (one.Load a) h later = absurd (cc)
  never_level (one.AddrOf a) h later = absurd (cc)
  never_level (one.Un o t a) h later = absurd (cc)
  never_level (one.Bin o t a b) h later = absurd (cc)
  never_level (one.Conv t a) h later = absurd (cc)
  never_level (one.Qualify t a) h later = absurd (cc)
  never_level (one.Move a b back) h later = absurd (cc)
  never_level (one.Gap a b) h later = absurd (cc)
  never_level (one.Compare o a b) h later = absurd (cc)
  never_level (one.Both a b) h later = absurd (cc)
  never_level (one.Either a b) h later = absurd (cc)
  never_level (one.Choose d a b) h later = absurd (cc)
  never_level (one.Assign a e) h later = never_bind (place_and_value (designation c a) (meaning c e) later) (λ p. stored c (designation c a) p.0 p.1 p.1) (uses_place_and_value a e later) (λ p. never_stored a p.0 p.1 p.1)
  never_level (one.Change a o t e) h later = absurd (cc)
  never_level (one.After a down) h later = absurd (cc)
  never_level (one.Call f args) h later =
      never_bind ((meaning c f).next (also (assigned_by (map (meaning c) args)) later)) (called_with (map (meaning c) args) later) (meaning_uses c f (also (assigned_by (map (meaning c) args)) later)) (never_called args later)
  never_level (one.Intr intr.Off a) h later = never_ask (action.Flag false) given
  never_level (one.Intr intr.On a) h later = never_ask (action.Flag true) given
  never_level (one.Intr intr.Save a) h later = never_ask action.Save given
  never_level (one.Intr intr.Restore None) h later = record { none = λ a rest e. absurd (cc) }
  never_level (one.Intr intr.Restore (Some a)) h later =
      never_bind ((meaning c a).next later) (λ v. needs (truth v) (λ b. ask (action.Flag b) given)) (meaning_uses c a later)
      (λ v. never_needs (truth v) (λ b. ask (action.Flag b) given) (λ b. never_ask (action.Flag b) given))
  never_level (one.Seq a b) h later = absurd (cc)

  itself : (e : Expr) → meaning c e ≡ at_level c (out-Expr e)
  itself e = ap (meaning c) (sym (roll-out-Expr e)) ∙ level c (out-Expr e)

  -- a step comes first
  pub asks_first : (e : Expr) → is_step (form_of e) ≡ true → (v : Option Value) (rest : List Mark) → (meaning c e).next no_one [] ≡ Known v rest → ⊥
  asks_first e h v rest k = (never_level (out-Expr e) h no_one).none v rest (ap (λ (m : Meaning). m.next no_one []) (sym (itself e)) ∙ k)

  one_level : (x : one.Expr-F Expr Place) → is_one_at x ≡ true → (at_level c x).next no_one [] ≡ Known (Some (Int (pos 1))) []
  one_level (one.Const n t) h = ap (λ n. Known (Some (Int n)) []) ((Decides-int_eq n (pos 1)).0 h)
  one_level (one.Null t) h = absurd (cc)
  one_level (one.FuncAddr f) h = absurd (cc)
  one_level (one.Load a) h = absurd (cc)
  one_level (one.AddrOf a) h = absurd (cc)
  one_level (one.Un o t a) h = absurd (cc)
  one_level (one.Bin o t a b) h = absurd (cc)
  one_level (one.Conv t a) h = absurd (cc)
  one_level (one.Qualify t a) h = absurd (cc)
  one_level (one.Move a b back) h = absurd (cc)
  one_level (one.Gap a b) h = absurd (cc)
  one_level (one.Compare o a b) h = absurd (cc)
  one_level (one.Both a b) h = absurd (cc)
  one_level (one.Either a b) h = absurd (cc)
  one_level (one.Choose d a b) h = absurd (cc)
  one_level (one.Assign a e) h = absurd (cc)
  one_level (one.Change a o t e) h = absurd (cc)
  one_level (one.After a down) h = absurd (cc)
  one_level (one.Call f args) h = absurd (cc)
  one_level (one.Intr i a) h = absurd (cc)
  one_level (one.Seq a b) h = absurd (cc)

  -- the constant 1
  pub one_known : (e : Expr) → is_one_at (out-Expr e) ≡ true → (meaning c e).next no_one [] ≡ Known (Some (Int (pos 1))) []
  one_known e h = ap (λ (m : Meaning). m.next no_one []) (itself e) ∙ one_level (out-Expr e) h
