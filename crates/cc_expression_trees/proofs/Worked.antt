-- The examples, by evaluation.
use Rattle.std.proofs.Common.{◌≡◌, codes, [], ◌∷◌, refl, arith, decimal, lit≤}
use Rattle.std.proofs.lemmas.Fmt.{decimal_digit}
use Rattle.cc_program.specs.CcWords.Names.{is_name}
use Rattle.cc_program.specs.CcWords.Words.{word_of}
use Rattle.cc_pieces.specs.Pieces.{flat}
use Rattle.cc_expression_trees.specs.Laid.{laid}
use Rattle.cc_expression_trees.specs.Parts.{Fits}
use Rattle.cc_expression_trees.specs.Examples.{sum, sum_tokens, run_on}

two : decimal 2 ≡ 50 ∷ []
two = decimal_digit 2 (omega arith)

pub sum-fits : Fits sum
unfolding is_name word_of
sum-fits = (refl, refl, (refl, refl, (refl, (refl, refl, (refl, (refl, refl, (refl, refl, (refl, refl, (refl, (refl, refl, (refl, ((lit≤ tt, refl, lit≤ tt), refl, (refl, refl, (refl, tt))))))))))))))

pub sum-text : flat sum ≡ codes "(x + +y) << 2ul;\n"
sum-text = rw two refl

pub sum-laid : laid 0 sum ≡ sum_tokens
sum-laid = rw two refl

pub runs-on : Fits run_on → ⊥
runs-on h = let e = h.1 in cc
