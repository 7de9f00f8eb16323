-- What follows of a construct that is judged to be right.
use Rattle.std.proofs.Common.{◌≡◌, Bool, true, false, Ok, Err, refl}
use Rattle.std.specs.Prelude.{if◌then◌else◌}
use Rattle.cc_operands.specs.Operands.{Operand, is_void_value, with_value, no_structure}
use Rattle.cc_operands.specs.Verdicts.{Judged, must, judge_then}
use Rattle.cc_operands.specs.declared.rule.Rule.{Rule}

abbrev given : {A : Type 0} → A → Judged A
given x = Ok x

pub ok_is : {A : Type 0} {x y : A} → given x ≡ Ok y → x ≡ y
ok_is h = cc

pub must_ok : {A : Type 0} (b : Bool) (rule : Rule) (next : Judged A) (r : A) → must b rule next ≡ Ok r → (b ≡ true) × (next ≡ Ok r)
must_ok true rule next r h = (refl, h)
must_ok false rule next r h = absurd (cc)

unless_ok : {A : Type 0} (b : Bool) (rule : Rule) (next : Judged A) (r : A) → (if b then Err rule else next) ≡ Ok r → next ≡ Ok r
unless_ok true rule next r h = absurd (cc)
unless_ok false rule next r h = h

pub value_ok : {A : Type 0} (x : Operand) (next : Judged A) (r : A) → with_value x next ≡ Ok r → next ≡ Ok r
value_ok x next r h = unless_ok (is_void_value x) _ next r h

pub structure_ok : {A : Type 0} (x : Operand) (next : Judged A) (r : A) → no_structure x next ≡ Ok r → next ≡ Ok r
structure_ok x next r h = unless_ok x.structure _ next r h

pub then_ok : {A B : Type 0} (judged : Judged A) (next : A → Judged B) (r : B) → judge_then judged next ≡ Ok r → (x : A) × (judged ≡ Ok x) × (next x ≡ Ok r)
then_ok (Ok x) next r h = (x, refl, h)
then_ok (Err broken) next r h = absurd (cc)
