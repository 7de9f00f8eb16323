-- Each constraint of a program stands at its number in the list of all.
use Rattle.std.proofs.Common.{arith, ◌≡◌, ◌<◌, ◌+◌, ◌*◌, ◌/◌, ◌%◌, ℕ, zero, suc, length, Contains, Some, slice_get, refl, sym, ap, ◌∙◌}
use Rattle.std.proofs.lemmas.Option.{same_Some, slice_get_within, get_or_from_slice_get}
use Rattle.cc_program.specs.declared.program.Program.{Program}
use Rattle.cc_rules_asked.specs.CcRules.Constraints.{Rule, Start, Flow, Write, Touch, Call, Back, Return, Handler, Stability, Constraint, at_point, rules_at, constraints}
use Rattle.cc_rules_again.specs.Again.{number_of}
use Rattle.cc_rules_numbered.proofs.Places.{first_constraint, constraint_of}

-- the rule at a place among those of a point
record HasPlace (k : ℕ) : Type 0 where
  rule : Rule
  there : slice_get rules_at k ≡ Some rule
  number : (n : ℕ) → number_of (at_point n rule) ≡ 1 + (n * 9 + k)

rule_place : (k : ℕ) → k < 9 → HasPlace k
rule_place zero l = record { rule = Start; there = refl; number = λ n. refl }
rule_place (suc zero) l = record { rule = Flow; there = refl; number = λ n. refl }
rule_place (suc (suc zero)) l = record { rule = Write; there = refl; number = λ n. refl }
rule_place (suc (suc (suc zero))) l = record { rule = Touch; there = refl; number = λ n. refl }
rule_place (suc (suc (suc (suc zero)))) l = record { rule = Call; there = refl; number = λ n. refl }
rule_place (suc (suc (suc (suc (suc zero))))) l = record { rule = Back; there = refl; number = λ n. refl }
rule_place (suc (suc (suc (suc (suc (suc zero)))))) l = record { rule = Return; there = refl; number = λ n. refl }
rule_place (suc (suc (suc (suc (suc (suc (suc zero))))))) l = record { rule = Handler; there = refl; number = λ n. refl }
rule_place (suc (suc (suc (suc (suc (suc (suc (suc zero)))))))) l = record { rule = Stability; there = refl; number = λ n. refl }
rule_place (suc (suc (suc (suc (suc (suc (suc (suc (suc k))))))))) l = absurd (omega (arith, l))

pub numbered : (p : Program) (j : ℕ) (c : Constraint) → j < length (constraints p) → slice_get (constraints p) j ≡ Some c → number_of c ≡ j
numbered p zero c l e = ap number_of (same_Some c _ (sym e ∙ first_constraint p))
numbered p (suc j) c l e =
    let small : j % 9 < 9 = omega arith in
    let is : suc j ≡ 1 + (j / 9 * 9 + j % 9) = omega arith in
    let place = rule_place (j % 9) small in
    let there : slice_get (constraints p) (suc j) ≡ Some (at_point (j / 9) place.rule) = constraint_of p (suc j) (j / 9) (j % 9) place.rule is small l place.there in
    let same : c ≡ at_point (j / 9) place.rule = same_Some c (at_point (j / 9) place.rule) (sym e ∙ there) in
    ap number_of same ∙ (place.number (j / 9) ∙ sym is)

pub numbered_there : (p : Program) (j : ℕ) (c : Constraint) → slice_get (constraints p) j ≡ Some c → Contains (constraints p) c
numbered_there p j c e = (j, slice_get_within (constraints p) j c e, get_or_from_slice_get (constraints p) j c c e)
