-- By what is known, if the point is reached.
use Rattle.std.proofs.Common.{sym, ◌∙◌}
use Rattle.std.proofs.lemmas.Option.{none-some}
use Rattle.cc_state_holds.proofs.Right.{never}
use Rattle.cc_state_holds.proofs.activations.is_right_in.Goals as goal

pub is_right_by-requires-clause-basis : goal.is_right_by-requires-clause-basis
is_right_by-requires-clause-basis g c = c.requires.basis

pub is_right_by-requires-clause-known : goal.is_right_by-requires-clause-known
is_right_by-requires-clause-known g c = sym c.in-Some.ensures

pub is_right_by-requires-clause-stands : goal.is_right_by-requires-clause-stands
is_right_by-requires-clause-stands g c = c.requires.stands

pub returns-in-None : goal.returns-in-None
returns-in-None g c = λ f m e s. (never, (λ h. absurd (none-some h.reached.0 (c.in-None.ensures ∙ h.reached.1))))

pub returns-in-Some : goal.returns-in-Some
returns-in-Some g c = c.is_right_by.ensures
