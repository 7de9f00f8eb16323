use Rattle.std.proofs.Common.{◌≡◌, Some, None, sym, subst, ◌∙◌}
use Rattle.std.proofs.lemmas.Option.{same_Some}
use Rattle.std.proofs.lemmas.Result.{IfOk-weaker}
use Rattle.cc_program.specs.declared.value.Value.{Value}
use Rattle.cc_rules_firsts.proofs.rows.first_of.Goals as goal
use Rattle.cc_rules_firsts.specs.Firsts.{MayStand, IsLeastWith}

pub unreachable-requires : goal.unreachable-requires
unreachable-requires g c = absurd (let e : None ≡ Some c.requires.0 = c.in-None.ensures ∙ c.requires.1 in cc)

pub one_value-requires : goal.one_value-requires
one_value-requires g c = subst MayStand (sym (same_Some c.in-Some.value.now c.requires.0 (c.in-Some.ensures ∙ c.requires.1))) c.requires.2

pub returns : goal.returns
returns g c =
    IfOk-weaker c.one_value.result (λ set. IsLeastWith g.I.Concrete.Has g.I.Lattice.IsBelow c.in-Some.value.now set) _
    (λ set h v e. subst (λ (w : Value). IsLeastWith g.I.Concrete.Has g.I.Lattice.IsBelow w set) (same_Some c.in-Some.value.now v (c.in-Some.ensures ∙ e)) h) c.one_value.ensures
