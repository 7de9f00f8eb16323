-- Whether an object of a type is const or volatile: where the type is, or for an array that of its
-- innermost element (C99 6.7.3, 8).
use Rattle.std.specs.Prelude.{Bool, false, ◌||◌}
use Rattle.cc_program.specs.declared.types.CType.{CType, fold-CType}
use Rattle.cc_program.specs.declared.types.Shape.TheOpen as shape

abbrev pub of_element : shape.Shape-F Bool Bool (Unit {0}) → Bool
of_element shape.Void = false
of_element (shape.Int t) = false
of_element (shape.Pointer t) = false
of_element (shape.Array t n) = t
of_element (shape.Struct s) = false
of_element (shape.Func s) = false

unfoldable pub is_const : CType → Bool
is_const t = fold-CType Bool Bool (Unit {0}) of_element (λ t. t.constant || t.shape) (λ s. tt) t

unfoldable pub is_volatile : CType → Bool
is_volatile t = fold-CType Bool Bool (Unit {0}) of_element (λ t. t.volatile || t.shape) (λ s. tt) t
