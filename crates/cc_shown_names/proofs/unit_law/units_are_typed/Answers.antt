use Rattle.cc_type.specs.Defined.{defined_names}
use Rattle.cc_shown_declarations.proofs.Structures.{known}
use Rattle.cc_shown_names.specs.Numbers.{read_numbers}
use Rattle.cc_shown_names.proofs.Places.{places-ascend}
use Rattle.cc_shown_names.proofs.Units.{definitions-found, devices-apart, unit-found}
use Rattle.cc_shown_names.proofs.unit_law.units_are_typed.Goals as goal

pub returns : goal.returns
returns c = record {
  definitions = λ p normal defined objects xs long h. definitions-found p normal (known p normal.sound) (λ s statics i o there g shown. c.values_are_typed.ensures.objects p (read_numbers p) s normal.sound statics i o there g shown) defined objects xs long h;
  units = λ p normal u h.
      let q = unit-found p normal (known p normal.sound) (λ s statics i o there g shown. c.values_are_typed.ensures.objects p (read_numbers p) s normal.sound statics i o there g shown) (defined_names u)
      (devices-apart p normal.sound u.items h) u.items h in
      (q.parts, q.is);
  offsets = λ p text ts u tokens sentence parts. places-ascend p u.items (c.items_ascend.ensures text ts u tokens sentence) parts;
}
