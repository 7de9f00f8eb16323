-- Few sources: fewer than 2^32 structures, mentions of names and identifiers in all of them.
use Rattle.std.specs.Prelude.{◌≡◌, ℕ, true, List, length, flat_map, Some, slice_get}
use Rattle.cc_relocated_units.specs.Units.{IsOfText}
use Rattle.cc_structures.specs.Structures.{structures}
use Rattle.cc_structures.specs.View.{units_of}
use Rattle.cc_operands.specs.CcSyntax.Sound.{have_ids}
use Rattle.cc_things.specs.Mentions.{mentions}
use Rattle.cc_things.specs.declared.text.Text.{Text}

pub record FewTexts (texts : List Text) : Type 0 where
  pub structures : have_ids (length (structures (units_of texts))) ≡ true
  pub mentions : have_ids (length (mentions texts)) ≡ true
  -- new names are none of them, so a free one takes as many tries and one more
  pub identifiers : have_ids (length (flat_map (λ x. x.identifiers) texts)) ≡ true

-- names are names in each, and each function and each structure has few of them
abbrev pub EachOfText : List Text → Type 0
EachOfText texts = (t : ℕ) (x : Text) → slice_get texts t ≡ Some x → IsOfText x.unit
