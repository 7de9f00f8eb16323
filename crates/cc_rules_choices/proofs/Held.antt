-- Each register of a point that is reached is tested by a set that it may have, and the cells of its rows have numbers.
use Rattle.std.proofs.Common.{arith, ◌≡◌, ◌==◌, ◌<◌, ◌^◌, ℕ, true, length, Some, option_and_then, position, slice_get, ap, sym, subst, ◌∙◌}
use Rattle.std.proofs.lemmas.Option.{same_Some}
use Rattle.cc_rules_flows.specs.CcPlaces.declared.abs.Abs.{Abs}
use Rattle.cc_rules_choices.proofs.Numbered.{register_is, register_numbered}
use Rattle.cc_rules_flows.specs.declared.after.Here.{Here}
use Rattle.cc_rules_flows.specs.Here.{IsHere}
use Rattle.cc_rules_flows.specs.CcRulesNeeds.Points.{IsFactOf}
use Rattle.cc_rules_sides.specs.Refined.{AreHeld, AreNumbered, AreRegisters}
use Rattle.cc_rules_tests.proofs.Registers.{may_have}
use Rattle.cc_rules_tests.specs.declared.tested.Tested.{Tested}
use Rattle.cc_rules_flows.specs.CcStateKeys.Tracked.{registers}
use Rattle.cc_rules_flows.specs.CcStateOperators.Domains.{Domain}
use Rattle.cc_rules_flows.specs.CcStateOperators.Types.{AreOf}
use Rattle.cc_rules_flows.specs.CcStateValues.declared.context.Context.{Context}
use Rattle.cc_rules_flows.specs.CcStateValues.Contexts.{HaveSetsIn, set_in}
use Rattle.cc_rules_flows.specs.CcSyntax.Registers.{is_register}

module _ {I : Type 0} (d : Domain I) (here : Here I) (h : IsHere d here) where
  set_there : (number r : ℕ) (y : Abs I) → slice_get (registers here.context.func.now) number ≡ Some r → slice_get here.fact.now.locals number ≡ Some y → set_in here.context r ≡ Some y
  set_there number r y a b =
      ap (λ rs. option_and_then (slice_get here.context.sets.now) (position (λ q. q == r) rs)) h.registers
      ∙ ap (option_and_then (slice_get here.context.sets.now)) (register_numbered here.context.func.now number r a)
      ∙ ap (λ sets. slice_get sets number) h.sets
      ∙ b

  module _ (t : Tested I) (same : t.context.now ≡ here.context) where
    is_there : (number r : ℕ) → slice_get here.context.registers.now number ≡ Some r → is_register t.context.now.func.now r ≡ true
    is_there number r a =
        subst (λ (c : Context I). is_register c.func.now r ≡ true) (sym same)
        (register_is here.context.func.now number r (subst (λ rs. slice_get rs number ≡ Some r) h.registers a))

    pub all_held : AreHeld d t.context.now here.context.registers.now here.fact.now.locals
    all_held number r y a b =
        let is = is_there number r a in
        let known : HaveSetsIn d t.context.now = subst (λ (c : Context I). HaveSetsIn d c) (sym same) h.known in
        let set = set_there number r y (subst (λ rs. slice_get rs number ≡ Some r) h.registers a) b in
        let own : set_in t.context.now r ≡ Some y = subst (λ (c : Context I). set_in c r ≡ Some y) (sym same) set in
        let s = known r is in
        may_have d t r y is (s.local, s.type, s.is_local, s.is_type, subst (λ z. AreOf d t.context.now.program.now.target s.type z) (same_Some s.set y (sym s.is_set ∙ own)) s.of_type)

    pub all_registers : AreRegisters t.context.now
    all_registers number r a = is_there number r (subst (λ (c : Context I). slice_get c.registers.now number ≡ Some r) same a)

    pub few_registers : length t.context.now.registers.now < 2 ^ 32
    few_registers = subst (λ (c : Context I). length c.registers.now < 2 ^ 32) (sym same) h.few

  pub all_numbered : IsFactOf (length here.context.registers.now) (length here.tracked.now) here.fact.now → AreNumbered here.fact.now
  all_numbered of number row a at l =
      let w = of.within number at row a l in
      let within = w.0 in
      let cell = w.1 in
      let few = h.few_tracked in
      (within, omega (arith, cell, few))
