use Rattle.std.proofs.Common.{arith, ap, subst, sym, ◌∙◌, ◌≡◌, ◌++◌, ◌∷◌, ℕ, List, [], length, length-append}
use Rattle.cc_slots_accesses.specs.declared.access.Access.{Access}
use Rattle.cc_slots_accesses.specs.Puts.{of_number}
use Rattle.cc_slots_points.proofs.Steps.{more_empty}
use Rattle.cc_slots_points.proofs.lists.empty_lists.Goals as goal

pub loop-number-preserved : goal.loop-number-preserved
loop-number-preserved c =
    let one : c.push.new.self.items ≡ c.loop-number.lists.items ++ [] ∷ [] = c.in_ok-push.ensures.items ∙ ap (λ (l : List Access). c.loop-number.lists.items ++ l ∷ []) (c.of.ensures ∙ c.new.ensures.items) in
    let many = c.loop-number.invariant.many in
    record {
      many = ap length one ∙ (let l = length-append c.loop-number.lists.items ([] ∷ []) in omega (arith, l, many));
      empty = subst (λ (ls : List (List Access)). (n : ℕ) → of_number ls n ≡ []) (sym one) (more_empty c.loop-number.lists.items c.loop-number.invariant.empty);
    }
