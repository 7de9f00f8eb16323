-- The seats of the examples, by evaluation of the definition.
use Rattle.std.proofs.Common.{◌≡◌, ◌||◌, ◌*◌, ℕ, Bool, true, false, List, [], ◌∷◌, refl, ap, ◌∙◌}
use Rattle.cc_program.specs.CcNum.declared.int_type.IntType.{IntType}
use Rattle.cc_program.specs.CcNum.Integers.{bytes_of}
use Rattle.cc_program.specs.CcNum.declared.int_type.IntType.TheVariants as int
use Rattle.cc_program.proofs.QualifierLemmas.{parts_const, const-opens}
use Rattle.cc_program.specs.Qualifiers.{of_element, is_const}
use Rattle.cc_program.specs.declared.types.CType.{CType}
use Rattle.cc_program.specs.declared.types.Shape.{Int, Pointer, Array, out-Shape}
use Rattle.cc_program.specs.declared.types.Shape.TheVariants.{outs-Int, outs-Pointer, outs-Array}
use Rattle.cc_syntax.specs.Examples.{wide}
use Rattle.cc_syntax.specs.declared.sizes.Layout.{Layout}
use Rattle.cc_syntax.specs.Layout.{aligned, scalar, layout_of}
use Rattle.cc_syntax.proofs.Shapes.{layout-Int, layout-Pointer, layout-Array}
use Rattle.cc_layout.specs.Examples.{qualified, constant_char, three, const_between, qualified_parts, seat}
use Rattle.cc_layout.specs.Seats.{ram, seats}

const-Int : (constant volatile : Bool) (t : IntType) → is_const (qualified constant volatile (Int t)) ≡ (constant || false)
const-Int constant volatile t = const-opens (qualified constant volatile (Int t)) ∙ ap (λ x. constant || of_element (parts_const x)) (outs-Int t)

layout-int : (constant volatile : Bool) (t : IntType) → layout_of (qualified constant volatile (Int t)) [] wide ≡ scalar (bytes_of t wide) wide
layout-int constant volatile t = layout-Int (qualified constant volatile (Int t)) [] wide t refl

const-Pointer : (constant volatile : Bool) (t : CType) → is_const (qualified constant volatile (Pointer t)) ≡ (constant || false)
const-Pointer constant volatile t = const-opens (qualified constant volatile (Pointer t)) ∙ ap (λ x. constant || of_element (parts_const x)) (outs-Pointer t)

const-Array : (constant volatile : Bool) (t : CType) (n : ℕ) → is_const (qualified constant volatile (Array t n)) ≡ (constant || is_const t)
const-Array constant volatile t n = const-opens (qualified constant volatile (Array t n)) ∙ ap (λ x. constant || of_element (parts_const x)) (outs-Array t n)

layout-chars : (volatile : Bool) (n : ℕ) → layout_of (qualified false false (Array (qualified false volatile (Int int.Char)) n)) [] wide ≡ record { size = n * 1; align = 1 }
layout-chars volatile n =
    layout-Array (qualified false false (Array (qualified false volatile (Int int.Char)) n)) [] wide (qualified false volatile (Int int.Char)) n refl
    ∙ ap (λ (l : Layout). record { size = n * l.size; align = l.align }) (layout-int false volatile int.Char)

pub three_seats : seats three ≡ seat 0 0 1 ∷ seat 1 4 4 ∷ seat 2 8 1 ∷ []
unfolding seats aligned
three_seats = rw (const-Int false true int.Char, const-Int false true int.Int, layout-int false true int.Char, layout-int false true int.Int) refl

pub three_ram : ram three ≡ 9
unfolding ram aligned
three_ram = rw (const-Int false true int.Char, const-Int false true int.Int, layout-int false true int.Char, layout-int false true int.Int) refl

pub const_seats : seats const_between ≡ seat 0 0 1 ∷ seat 2 1 1 ∷ []
unfolding seats aligned
const_seats = rw (const-Int false false int.Char, const-Int true false int.Int, layout-int false false int.Char) refl

pub const_ram : ram const_between ≡ 2
unfolding ram aligned
const_ram = rw (const-Int false false int.Char, const-Int true false int.Int, layout-int false false int.Char) refl

pub part_seats : seats qualified_parts ≡ seat 1 0 2 ∷ seat 3 2 2 ∷ []
unfolding seats aligned
part_seats =
    rw (
      const-Array false false constant_char 3,
      const-Int true false int.Char,
      const-Pointer false false constant_char,
      const-Pointer true false constant_char,
      const-Array false false (qualified false true (Int int.Char)) 2,
      const-Int false true int.Char,
      layout-Pointer (qualified false false (Pointer constant_char)) [] wide constant_char refl,
      layout-chars true 2,
    ) refl

pub part_ram : ram qualified_parts ≡ 4
unfolding ram aligned
part_ram =
    rw (
      const-Array false false constant_char 3,
      const-Int true false int.Char,
      const-Pointer false false constant_char,
      const-Pointer true false constant_char,
      const-Array false false (qualified false true (Int int.Char)) 2,
      const-Int false true int.Char,
      layout-Pointer (qualified false false (Pointer constant_char)) [] wide constant_char refl,
      layout-chars true 2,
    ) refl
