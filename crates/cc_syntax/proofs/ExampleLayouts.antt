-- The layouts of the examples, by evaluation of the definition at each type.
use Rattle.std.proofs.Common.{◌≡◌, ◌*◌, List, [], ◌∷◌, refl, ap, ◌∙◌}
use Rattle.cc_program.specs.CcNum.declared.int_type.IntType.TheVariants as int
use Rattle.cc_program.specs.CcNum.declared.target.Target.{Target}
use Rattle.cc_program.specs.declared.types.Structure.{Structure}
use Rattle.cc_syntax.specs.declared.sizes.Layout.{Layout}
use Rattle.cc_syntax.specs.Examples.{wide, packed, char, integer, pointer, array, struct, mixed, nested, both}
use Rattle.cc_syntax.specs.Layout.{aligned, scalar, structure, places_from, layout_of, size_of, member_layouts}
use Rattle.cc_syntax.proofs.Shapes.{layout-Int, layout-Pointer, layout-Array, layout-Struct}

module _ (structures : List Structure) (target : Target) where
  char-layout : layout_of char structures target ≡ scalar 1 target
  char-layout = layout-Int char structures target int.Char refl

  mixed-layouts : member_layouts mixed.members structures target ≡ scalar 1 target ∷ scalar target.int_bytes target ∷ scalar 1 target ∷ []
  mixed-layouts = rw (char-layout, layout-Int integer structures target int.Int refl) refl

pub offsets : places_from 0 (member_layouts mixed.members [] wide) ≡ 0 ∷ 4 ∷ 8 ∷ []
unfolding aligned
offsets = ap (places_from 0) (mixed-layouts [] wide)

mixed-wide : layout_of (struct 0) both wide ≡ record { size = 12; align = 4 }
unfolding aligned structure
mixed-wide = layout-Struct (struct 0) both wide 0 mixed refl refl ∙ ap structure (mixed-layouts [] wide)

mixed-packed : layout_of (struct 0) both packed ≡ record { size = 6; align = 1 }
unfolding aligned structure
mixed-packed = layout-Struct (struct 0) both packed 0 mixed refl refl ∙ ap structure (mixed-layouts [] packed)

pub padded : size_of (struct 0) both wide ≡ 12
padded = ap (λ (l : Layout). l.size) mixed-wide

pub unpadded : size_of (struct 0) both packed ≡ 6
unpadded = ap (λ (l : Layout). l.size) mixed-packed

pub array_of_structures : size_of (array (struct 0) 3) both wide ≡ 36
array_of_structures = ap (λ (l : Layout). l.size) (layout-Array (array (struct 0) 3) both wide (struct 0) 3 refl) ∙ ap (λ n. 3 * n) padded

nested-layouts : member_layouts nested.members both wide ≡ record { size = 1; align = 1 } ∷ record { size = 12; align = 4 } ∷ record { size = 2; align = 2 } ∷ []
nested-layouts = rw (char-layout both wide, mixed-wide, layout-Pointer pointer both wide char refl) refl

pub nested_offsets : places_from 0 (member_layouts nested.members both wide) ≡ 0 ∷ 4 ∷ 16 ∷ []
unfolding aligned
nested_offsets = ap (places_from 0) nested-layouts

pub large : size_of (array (array char 65535) 65535) [] wide ≡ 4294836225
large =
    ap (λ (l : Layout). l.size) (layout-Array (array (array char 65535) 65535) [] wide (array char 65535) 65535 refl)
    ∙ ap (λ n. 65535 * n) (ap (λ (l : Layout). l.size) (layout-Array (array char 65535) [] wide char 65535 refl) ∙ ap (λ (l : Layout). 65535 * l.size) (char-layout [] wide))
