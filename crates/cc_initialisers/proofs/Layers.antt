-- What an initialiser means, by its layer.
use Rattle.std.proofs.Common.{◌≡◌, ◌∙◌, List, ap, map}
use Rattle.cc_tree.specs.declared.at.At.{At}
use Rattle.cc_tree.specs.declared.tree.Tree.{Tree}
use Rattle.cc_tree.specs.declared.unit.Given.{Given, One, Many, out-Given, fold_out-Given, map-Given}
use Rattle.cc_tree.specs.declared.unit.Given.TheOpen as one_given
use Rattle.cc_tree.specs.declared.unit.Given.TheVariants.{outs-One, outs-Many}
use Rattle.cc_initialisers.specs.Initialisers.{Initialiser, initialiser_of, given_step, here}

pub initialiser-One : (g : Given) (e : At Tree) → g ≡ One e → initialiser_of g ≡ given_step (one_given.One e)
unfolding initialiser_of
initialiser-One g e is = fold_out-Given Initialiser given_step g ∙ ap (λ x. given_step (map-Given Given Initialiser initialiser_of x)) (ap out-Given is ∙ outs-One e)

pub initialiser-Many : (g : Given) (gs : List (At Given)) → g ≡ Many gs → initialiser_of g ≡ given_step (one_given.Many (map here gs))
unfolding initialiser_of
initialiser-Many g gs is = fold_out-Given Initialiser given_step g ∙ ap (λ x. given_step (map-Given Given Initialiser initialiser_of x)) (ap out-Given is ∙ outs-Many gs)

pub ruleset of_layers = (initialiser-One, initialiser-Many)
