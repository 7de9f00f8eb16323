use Rattle.std.proofs.Common.{◌≡◌, ◌∙◌, ◌+◌, ◌≤◌, ◌++◌, ◌∷◌, [], List, ap, sym, arith, length, length-take-le}
use Rattle.std.proofs.lemmas.Grind.{common_steps}
use Rattle.cc_scopes.specs.Linked.{linked_from}
use Rattle.cc_scopes.specs.declared.unit.Declared.{Declared}
use Rattle.cc_scopes.proofs.LinkedLemmas.{last-apart}
use Rattle.cc_scopes.proofs.linked.Names.forget_last.Goals as goal

pub invariant_of-self : goal.invariant_of-self
invariant_of-self c = record { indexed = c.args.self.now.indexed }

pub invariant_of-self-2 : goal.invariant_of-self-2
invariant_of-self-2 c =
    let all = c.args.self.now.all.items in
    let d = c.index.result.now in
    let long : c.in-Some.id + 1 ≡ length all = grind (arith, common_steps) in
    let low : c.in-Some.id ≤ length all = omega (arith, long) in
    record {
      indexed = c.forget_number.ensures c.truncate.new.self.items d
          (λ x. ap (linked_from 0 x) (ap (λ (l : List Declared). l ++ d ∷ []) c.truncate.ensures.items ∙ last-apart all c.in-Some.id d long c.index.ensures) ∙ c.args.self.now.indexed x)
          (sym c.linked_name.ensures) (sym (ap length c.truncate.ensures.items ∙ length-take-le c.in-Some.id all low));
    }
