-- By the lemmas on where objects stand.
use Rattle.cc_rewrite_placed_sound.proofs.Meetings.{alone-there, are-layouts}
use Rattle.cc_rewrite_placed_sound.proofs.Objects.{array-there, old-there, word-there}
use Rattle.cc_rewrite_placed_sound.proofs.law.placed.Goals as goal

pub returns : goal.returns
returns g = record {
  layouts = λ p slots plan legal. are-layouts slots plan p legal;
  alone = λ p slots plan legal i word bytes shift bits code at j f laid other same. alone-there slots plan p legal i word bytes shift bits code at j f laid other same;
  kept = λ p slots plan facts i object there. old-there slots plan p facts i object there;
  words = λ p slots plan facts legal i word bytes shift bits alone code at. word-there slots plan p facts legal i word bytes shift bits alone code at;
  arrays = λ p slots plan facts i object bits code at. array-there slots plan p facts i object bits code at;
}
