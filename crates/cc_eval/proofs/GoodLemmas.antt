-- Values of which one is bad, and values of which none is.
use Rattle.std.proofs.Common.{◌≡◌, List, [], ◌∷◌, ◌++◌, Option, Some, None, map, refl}
use Rattle.cc_program.specs.declared.value.Value.{Value}
use Rattle.cc_eval.specs.Eval.{all_good}

pub all_good-none : (xs ys : List (Option Value)) → all_good (xs ++ None ∷ ys) ≡ None
all_good-none [] ys = refl
all_good-none (None ∷ xs) ys = refl
all_good-none (Some v ∷ xs) ys = rw (all_good-none xs ys) refl

pub all_good-goods : (g : List Value) → all_good (map Some g) ≡ Some g
all_good-goods [] = refl
all_good-goods (v ∷ g) = rw (all_good-goods g) refl

pub ruleset of_goods = (all_good-none, all_good-goods)
