use Rattle.std.proofs.Common.{◌≡◌, ◌++◌, ◌∙◌, List, map, length, OnOk, ap, sym, subst}
use Rattle.cc_lower_accesses.specs.Assigned.{among}
use Rattle.cc_lower_accesses.specs.Modes.{as_locals}
use Rattle.cc_lower_expressions.specs.Expressions.{Piece}
use Rattle.cc_lower_bodies.specs.Conditions.{Guarding, condition_view}
use Rattle.cc_lower_bodies.proofs.ConditionLemmas.{both-values, conditions-other}
use Rattle.cc_lower_bodies.proofs.conditions.+put_conditions.Goals as goal

pub returns-in_ok-put_conditions-in-Both-clause-conditions : goal.returns-in_ok-put_conditions-in-Both-clause-conditions
returns-in_ok-put_conditions-in-Both-clause-conditions t c =
    let same =
    both-values c.args.body.program.now c.args.body.func.now c.args.e.now _ _ _ _ _ _ _ _ _ _ _ c.in-Both.is c.get-in-Both.ensures c.get-in-Both-2.ensures c.get.ensures
    (sym c.is_pure.ensures ∙ c.if-is_pure.false) (ap among c.deref.ensures.value ∙ c.in_ok-behind-in-Both.ensures) c.in_ok-put_conditions-in-Both.ensures.locals c.in_ok-put_conditions-in-Both.ensures.conditions in
    subst (λ (r : List Guarding). OnOk c.put_conditions-in-Both.result (map condition_view c.put_conditions-in-Both.new.out.items ≡ r)) same c.put_conditions-in-Both.ensures.conditions

pub returns-in_default : goal.returns-in_default
returns-in_default t c =
    let same =
    sym (conditions-other c.args.body.program.now c.args.body.func.now c.args.e.now c.in_default.not-Both (among c.args.later.now) (length c.args.locals.now.items)) in
    record {
      conditions =
          subst (λ (x : Piece (List Guarding)). OnOk c.put_condition-in_default.result (map condition_view c.put_condition-in_default.new.out.items ≡ map condition_view c.args.out.now.items ++ x.value)) same
          c.put_condition-in_default.ensures.conditions;
      locals =
          subst (λ (x : Piece (List Guarding)). OnOk c.put_condition-in_default.result (c.put_condition-in_default.new.locals.items ≡ c.args.locals.now.items ++ as_locals x.temps)) same
          c.put_condition-in_default.ensures.locals;
    }
