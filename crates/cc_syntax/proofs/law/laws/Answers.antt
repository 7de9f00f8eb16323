use Rattle.std.proofs.Common.{ap}
use Rattle.cc_syntax.specs.declared.sizes.Layout.{Layout}
use Rattle.cc_syntax.specs.Layout.{IsAlign}
use Rattle.cc_syntax.specs.Sound.{any_names}
use Rattle.cc_syntax.proofs.NameRules.{sound-typed, sound-named, typed-sound}
use Rattle.cc_syntax.proofs.ExampleLayouts.{offsets, padded, unpadded, array_of_structures, nested_offsets, large}
use Rattle.cc_syntax.proofs.ExamplePrograms.{element_by_path, pointer_to_own_structure, array_of_own_structure, arms_of_two_types, sum_in_long, sum_in_char, division_traps, division_not_evaluated, in_order, out_of_order}
use Rattle.cc_syntax.proofs.Places.{each_from_all, placed, lowest}
use Rattle.cc_syntax.proofs.Shapes.{layout-Array, layout-structure}
use Rattle.cc_syntax.proofs.StructureLemmas.{typed_sizes, sound_sizes}
use Rattle.cc_syntax.proofs.Whole.{whole}
use Rattle.cc_syntax.proofs.law.laws.Goals as goal

pub returns-clause-size_is_multiple : goal.returns-clause-size_is_multiple
returns-clause-size_is_multiple c = λ t s target. (whole target t s).size

pub returns-clause-align_is_small : goal.returns-clause-align_is_small
returns-clause-align_is_small c = λ t s target. (whole target t s).align

pub returns-clause-array : goal.returns-clause-array
returns-clause-array c = λ t e n s target h. ap (λ (l : Layout). l.size) (layout-Array t s target e n h)

pub returns-clause-structure : goal.returns-clause-structure
returns-clause-structure c = λ t i m s target order h g. layout-structure t i m s target order h g

pub returns-clause-placed : goal.returns-clause-placed
returns-clause-placed c = λ n objects all. placed n objects (each_from_all (λ (o : Layout). IsAlign o.align) objects all)

pub returns-clause-lowest : goal.returns-clause-lowest
returns-clause-lowest c = λ n objects places all h. lowest n objects places (each_from_all (λ (o : Layout). IsAlign o.align) objects all) h

pub returns-clause-normal_is_sound : goal.returns-clause-normal_is_sound
returns-clause-normal_is_sound c = λ p h. h.sound

pub returns-clause-sound_is : goal.returns-clause-sound_is
returns-clause-sound_is c = λ p. ((λ h. (sound-typed p h, sound-named p h)), λ h. typed-sound p h.0 h.1)

pub returns-clause-typed_has_sizes : goal.returns-clause-typed_has_sizes
returns-clause-typed_has_sizes c = typed_sizes any_names

pub returns-clause-sound_has_sizes : goal.returns-clause-sound_has_sizes
returns-clause-sound_has_sizes c = sound_sizes

pub returns-clause-offsets : goal.returns-clause-offsets
returns-clause-offsets c = offsets

pub returns-clause-padded : goal.returns-clause-padded
returns-clause-padded c = padded

pub returns-clause-packed : goal.returns-clause-packed
returns-clause-packed c = unpadded

pub returns-clause-array_of_structures : goal.returns-clause-array_of_structures
returns-clause-array_of_structures c = array_of_structures

pub returns-clause-nested_offsets : goal.returns-clause-nested_offsets
returns-clause-nested_offsets c = nested_offsets

pub returns-clause-large : goal.returns-clause-large
returns-clause-large c = large

pub returns-clause-element_by_path : goal.returns-clause-element_by_path
returns-clause-element_by_path c = element_by_path

pub returns-clause-pointer_to_own_structure : goal.returns-clause-pointer_to_own_structure
returns-clause-pointer_to_own_structure c = pointer_to_own_structure

pub returns-clause-array_of_own_structure : goal.returns-clause-array_of_own_structure
returns-clause-array_of_own_structure c = array_of_own_structure

pub returns-clause-arms_of_two_types : goal.returns-clause-arms_of_two_types
returns-clause-arms_of_two_types c = arms_of_two_types

pub returns-clause-sum_in_long : goal.returns-clause-sum_in_long
returns-clause-sum_in_long c = sum_in_long

pub returns-clause-sum_in_char : goal.returns-clause-sum_in_char
returns-clause-sum_in_char c = sum_in_char

pub returns-clause-division_traps : goal.returns-clause-division_traps
returns-clause-division_traps c = division_traps

pub returns-clause-division_not_evaluated : goal.returns-clause-division_not_evaluated
returns-clause-division_not_evaluated c = division_not_evaluated

pub returns-clause-in_order : goal.returns-clause-in_order
returns-clause-in_order c = in_order

pub returns-clause-out_of_order : goal.returns-clause-out_of_order
returns-clause-out_of_order c = out_of_order
