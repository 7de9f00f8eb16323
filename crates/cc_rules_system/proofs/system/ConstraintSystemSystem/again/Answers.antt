-- The constraint with the number is the one of the list.
use Rattle.std.proofs.Common.{ℕ, List, ◌++◌, sym, ap, ◌∙◌}
use Rattle.std.proofs.lemmas.Result.{on_ok_weaker}
use Rattle.cc_rules_system.proofs.system.ConstraintSystemSystem.again.Goals as goal
use Rattle.cc_rules_system.specs.System.{again_at}

pub again-requires : goal.again-requires
again-requires g c = record { rules = c.requires.ready.made; index = c.requires.ready.indexed }

pub returns : goal.returns
returns g c =
    let p = c.args.self.now.rules.program.now in
    record {
      list = on_ok_weaker c.again.result (λ e. e ∙ ap (λ (ns : List ℕ). c.args.list.now.items ++ ns) (sym (ap (again_at p c.args.facts.now) (c.constraint_at.ensures p c.requires.index)))) c.again.ensures.list;
      kept = c.again.ensures.kept;
    }
