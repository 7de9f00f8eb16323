-- What waits, as the innermost comes and goes.
use Rattle.std.proofs.Common.{◌≡◌, ◌≤◌, List, [], ◌∷◌, ◌++◌, refl, reverse, length, subst, arith}
use Rattle.std.proofs.lemmas.List.{reverse-append, length-reverse}
use Rattle.cc_tree.specs.declared.state.Frame.{Frame}
use Rattle.cc_tree.specs.Depth.{nodes, depth}
use Rattle.cc_tree.proofs.ReachSteps.{nodes-one, depth-length}

pub reverse-push : {A : Type 0} (fs : List A) (f : A) → reverse (fs ++ f ∷ []) ≡ f ∷ reverse fs
reverse-push fs f = simp reverse-append

pub reverse-nil : {A : Type 0} → reverse {A = A} [] ≡ []
reverse-nil = refl

pub depth-reverse : (fs : List Frame) → depth (reverse fs) ≤ length fs
depth-reverse fs = subst (λ n. depth (reverse fs) ≤ n) (length-reverse fs) (depth-length (reverse fs))

pub one_node : (f : Frame) → nodes f ≤ 1
one_node f = nodes-one f

pub ruleset of_waiting = (reverse-push, reverse-nil, depth-reverse, one_node)
