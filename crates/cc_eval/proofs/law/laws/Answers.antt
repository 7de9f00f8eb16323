use Rattle.cc_eval.proofs.Links.{type_linked, place_type_linked, effects_linked, place_effects_linked}
use Rattle.cc_eval.proofs.MarkLemmas.{stays, uses_all}
use Rattle.cc_eval.proofs.MeaningUses.{meaning_uses, designation_uses}
use Rattle.cc_eval.specs.Eval.{meaning, designation}
use Rattle.cc_eval.proofs.law.laws.Goals as goal

pub returns-clause-marks : goal.returns-clause-marks
returns-clause-marks c = λ at e later. meaning_uses at e later

pub returns-clause-place_marks : goal.returns-clause-place_marks
returns-clause-place_marks c = λ at a later. designation_uses at a later

pub returns-clause-types : goal.returns-clause-types
returns-clause-types c = λ at e. type_linked at e

pub returns-clause-place_types : goal.returns-clause-place_types
returns-clause-place_types c = λ at a. place_type_linked at a

pub returns-clause-effects : goal.returns-clause-effects
returns-clause-effects c = λ at e. effects_linked at e

pub returns-clause-place_effects : goal.returns-clause-place_effects
returns-clause-place_effects c = λ at a. place_effects_linked at a

pub returns-clause-stays : goal.returns-clause-stays
returns-clause-stays c = λ at e later. stays ((meaning at e).next later) (meaning_uses at e later)

pub returns-clause-place_stays : goal.returns-clause-place_stays
returns-clause-place_stays c = λ at a later. stays ((designation at a).leads later) (designation_uses at a later)

pub returns-clause-waits : goal.returns-clause-waits
returns-clause-waits c = λ at e later. uses_all ((meaning at e).next later) (meaning_uses at e later)

pub returns-clause-place_waits : goal.returns-clause-place_waits
returns-clause-place_waits c = λ at a later. uses_all ((designation at a).leads later) (designation_uses at a later)
