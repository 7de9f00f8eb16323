-- What a function may give, with the 0 of main.
use Rattle.std.proofs.Common.{◌≡◌, ◌==◌, ℕ, pos, Bool, true, false, true≢false, not, ◌&&◌, Some, slice_get, refl, sym, ◌∙◌}
use Rattle.std.proofs.lemmas.Bool.{eqb-true, eq-eqb}
use Rattle.cc_state_points.specs.CcLattice.Orders.{IsLeastUpperBound}
use Rattle.cc_state_points.specs.CcPlaces.declared.abs.Abs.{Abs}
use Rattle.cc_state_points.specs.CcPlaces.declared.abs.Abs.TheVariants as abs
use Rattle.cc_state_points.specs.CcPlaces.Abstract.{AreOfOneKind, IsBelowAbs, HasValue}
use Rattle.cc_program.specs.declared.value.Value.TheVariants as value
use Rattle.cc_rules_asked.specs.CcRules.Rules.{IsOnly, OfMain, OfOther}
use Rattle.cc_rules_functions.specs.declared.functions.Function.{Function}
use Rattle.cc_rules_calls.specs.Backs.{IsWithZero, IsResultHere}
use Rattle.cc_rules_functions.specs.Functions.{IsFunctionOf}
use Rattle.cc_state_points.specs.CcRulesFlows.declared.after.Here.{Here}
use Rattle.cc_state_points.specs.CcStateOperators.Domains.{Domain}
use Rattle.cc_state_points.specs.CcSteps.Step.{gives_nothing}

both_true : (a b : Bool) → a && b ≡ true → (a ≡ true) × (b ≡ true)
both_true true b h = (refl, h)
both_true false b h = absurd (cc)

not_true : (b : Bool) → not b ≡ true → b ≡ false
not_true true h = absurd (true≢false (sym h))
not_true false h = refl

one_false : (a b : Bool) → a ≡ true → a && not b ≡ false → b ≡ true
one_false true true e h = refl
one_false true false e h = absurd (true≢false h)
one_false false b e h = absurd (true≢false (sym e))

module _ {I : Type 0} (d : Domain I) where
  kind_above : (z : I) (u : Abs I) → IsBelowAbs d.below (abs.Ints z) u → AreOfOneKind (abs.Ints z) u
  kind_above z (abs.Ints x) h = tt
  kind_above z (abs.Addrs s) h = absurd h

  pub is_with_zero : (x : Abs I) (z : I) (y : Abs I) → d.has z (pos 0) → ((u : I) → d.has u (pos 0) → d.below z u) → IsLeastUpperBound AreOfOneKind (IsBelowAbs d.below) x (abs.Ints z) y → IsWithZero d x y
  is_with_zero x z y is first l =
      record { alike = l.left_alike; above = l.left; zero = z; is = is; first = first; has = l.right; least = λ u k a b. l.least u k (kind_above z u b) a b }

  below_of : (z : I) → ((u : I) → d.has u (pos 0) → d.below z u) → (u : Abs I) → HasValue d.has u (value.Int (pos 0)) → IsBelowAbs d.below (abs.Ints z) u
  below_of z first (abs.Ints u) h = first u h
  below_of z first (abs.Addrs s) h = absurd h

  module _ (here : Here I) where
    only_zero : (z : I) → d.has z (pos 0) → ((u : I) → d.has u (pos 0) → d.below z u) → IsOnly d here.context.program.now here.facts.now (value.Int (pos 0)) (Some (abs.Ints z))
    only_zero z is first = (abs.Ints z, refl, is, below_of z first)

    pub gives_with_zero : (g : ℕ) (f : Function) (x y : Abs I) → IsFunctionOf here.context.program.now g f → f.gives_zero ≡ true → slice_get here.facts.now.results g ≡ Some x → IsWithZero d x y → IsResultHere d here g f.func.now y
    gives_with_zero g f x y is t at w =
        let parts : ((g == here.context.program.now.main) ≡ true) × (not (gives_nothing (Some f.func.now)) ≡ true) = both_true (g == here.context.program.now.main) (not (gives_nothing (Some f.func.now))) (sym is.zero ∙ t) in
        OfMain x (abs.Ints w.zero) (eqb-true g here.context.program.now.main parts.0) (not_true (gives_nothing (Some f.func.now)) parts.1) at (only_zero w.zero w.is w.first) w.alike w.above w.has w.least

    pub gives_as_known : (g : ℕ) (f : Function) (y : Abs I) → IsFunctionOf here.context.program.now g f → f.gives_zero ≡ false → slice_get here.facts.now.results g ≡ Some y → IsResultHere d here g f.func.now y
    gives_as_known g f y is t at =
        OfOther (λ e. one_false (g == here.context.program.now.main) (gives_nothing (Some f.func.now)) (eq-eqb g here.context.program.now.main e) (sym is.zero ∙ t)) at
