-- What the qualifiers of an object are, at a type's opened shape.
use Rattle.std.proofs.Common.{◌≡◌, Bool, ◌||◌, ap, ◌∙◌}
use Rattle.cc_program.specs.Qualifiers.{of_element, is_const, is_volatile}
use Rattle.cc_program.specs.declared.types.CType.{CType, fold_out-CType}
use Rattle.cc_program.specs.declared.types.Shape.{Shape, fold-Shape, fold_out-Shape, out-Shape, map-Shape}
use Rattle.cc_program.specs.declared.types.Shape.TheOpen as shape
use Rattle.cc_program.specs.declared.types.Sig.{Sig, fold-Sig}

abbrev pub parts_const : shape.Shape-F Shape CType Sig → shape.Shape-F Bool Bool (Unit {0})
parts_const x = map-Shape Shape CType Sig Bool Bool (Unit {0}) (fold-Shape Bool Bool (Unit {0}) of_element (λ t. t.constant || t.shape) (λ s. tt)) is_const
    (fold-Sig Bool Bool (Unit {0}) of_element (λ t. t.constant || t.shape) (λ s. tt)) x

abbrev pub parts_volatile : shape.Shape-F Shape CType Sig → shape.Shape-F Bool Bool (Unit {0})
parts_volatile x = map-Shape Shape CType Sig Bool Bool (Unit {0}) (fold-Shape Bool Bool (Unit {0}) of_element (λ t. t.volatile || t.shape) (λ s. tt)) is_volatile
    (fold-Sig Bool Bool (Unit {0}) of_element (λ t. t.volatile || t.shape) (λ s. tt)) x

pub const-opens : (t : CType) → is_const t ≡ (t.constant || of_element (parts_const (out-Shape t.shape)))
unfolding is_const
const-opens t =
    fold_out-CType Bool Bool (Unit {0}) of_element (λ t. t.constant || t.shape) (λ s. tt) t
    ∙ ap (λ b. t.constant || b) (fold_out-Shape Bool Bool (Unit {0}) of_element (λ t. t.constant || t.shape) (λ s. tt) t.shape)

pub volatile-opens : (t : CType) → is_volatile t ≡ (t.volatile || of_element (parts_volatile (out-Shape t.shape)))
unfolding is_volatile
volatile-opens t =
    fold_out-CType Bool Bool (Unit {0}) of_element (λ t. t.volatile || t.shape) (λ s. tt) t
    ∙ ap (λ b. t.volatile || b) (fold_out-Shape Bool Bool (Unit {0}) of_element (λ t. t.volatile || t.shape) (λ s. tt) t.shape)
