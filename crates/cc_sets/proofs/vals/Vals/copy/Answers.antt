-- Sets with the same members are the same.
use Rattle.std.proofs.Common.{◌≡◌, ◌∙◌, ℤ, List, sym, subst}
use Rattle.std.specs.List.{Contains}
use Rattle.cc_explicit.specs.declared.explicit.Explicit.{Explicit}
use Rattle.cc_sets.specs.declared.vals.Vals.{Vals}
use Rattle.cc_sets.specs.declared.vals.Vals.TheVariants.{Few}
use Rattle.cc_sets.specs.laws.RungLaws.{sets_same}
use Rattle.cc_sets.proofs.vals.Vals.copy.Goals as goal

few_copied : (set : Vals) (s t : Explicit) → set ≡ Few s → t.items.items ≡ s.items.items → Few t ≡ set
few_copied set s t e f =
    sets_same (Few t) (Few s) (λ v k. subst (λ (xs : List ℤ). Contains xs v) f k) (λ v k. subst (λ (xs : List ℤ). Contains xs v) (sym f) k) ∙ sym e

pub returns-in-Few : goal.returns-in-Few
returns-in-Few c = few_copied c.args.self.now c.in-Few.few c.copy.result c.in-Few.is c.copy.ensures
