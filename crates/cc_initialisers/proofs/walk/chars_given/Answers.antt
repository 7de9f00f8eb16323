use Rattle.std.proofs.Common.{◌∷◌, [], ◌++◌, ◌∙◌, ap}
use Rattle.cc_initialisers.specs.Initialisers.{char_or_zero}
use Rattle.cc_initialisers.specs.View.{steps_of}
use Rattle.cc_initialisers.proofs.Characters.{character-next}
use Rattle.cc_operands.specs.CcTyped.View.{value_view}
use Rattle.cc_initialisers.proofs.walk.chars_given.Goals as goal

pub loop-i-preserved : goal.loop-i-preserved
loop-i-preserved c =
    character-next c.args.place c.args.constant (value_view c.args.t) c.args.bytes.now c.args.n c.loop-i.i (steps_of c.loop-i.out) (steps_of c.put_character.new.out) _ c.loop-i-test.true
    (c.in_ok-put_character.ensures ∙ ap (λ o. steps_of c.loop-i.out ++ char_or_zero c.args.place c.args.constant (value_view c.args.t) o ∷ []) c.at.ensures)
    c.loop-i.invariant
