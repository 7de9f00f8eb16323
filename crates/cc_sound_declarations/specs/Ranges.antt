-- Declarations whose numbers fit 64 bits, as those of each text do (C99 6.4.4.1, 5).
use Rattle.std.specs.Prelude.{Bool, true, ◌&&◌, map, Option, Some, None}
use Rattle.std.specs.List.{list_all}
use Rattle.cc_sound_terms.specs.Ranges.{all_fit, fits, declr_in_range, spec_in_range}
use Rattle.cc_tree.specs.declared.at.At.{At}
use Rattle.cc_tree.specs.declared.tree.Spec.{Spec}
use Rattle.cc_tree.specs.declared.unit.Decl.{Decl}
use Rattle.cc_tree.specs.declared.unit.Given.{Given, fold-Given}
use Rattle.cc_tree.specs.declared.unit.Given.TheOpen as one_given
use Rattle.cc_tree.specs.declared.unit.Init.{Init}

abbrev pub given_fits : one_given.Given-F Bool → Bool
given_fits (one_given.One e) = fits e.node
given_fits (one_given.Many gs) = all_fit gs

-- an initialiser
unfoldable pub given_in_range : Given → Bool
given_in_range g = fold-Given Bool given_fits g

abbrev pub value_fits : Option (At Given) → Bool
value_fits None = true
value_fits (Some g) = given_in_range g.node

abbrev pub init_fits : At Init → Bool
init_fits i = declr_in_range i.node.declr.node && value_fits i.node.value

abbrev pub decl_fits : Decl → Bool
decl_fits d = all_fit (map (λ (x : At Spec). record { at = x.at; node = spec_in_range x.node }) d.specs) && list_all init_fits d.inits
