use Rattle.cc_states.proofs.TakenLemmas.{taken_one, taken_two, taken_change}
use Rattle.std.proofs.Common.{◌∙◌}
use Rattle.cc_steps.proofs.CcEval.Works.{works_as}
use Rattle.cc_steps.specs.CcEval.Eval.{designation}
use Rattle.cc_states.specs.Answers.{IsMarkOf, IsStep}
use Rattle.cc_states.specs.Typed.{MayLead}
use Rattle.cc_states.proofs.PartTypes.{typed_parts, typed_place_parts}
use Rattle.cc_steps.proofs.CcEval.Links.{type_linked, place_type_linked}
use Rattle.cc_states.proofs.EvalTypes.{Spot-of, meaning_typed, designation_typed}
use Rattle.cc_states.proofs.law.expression_laws.Goals as goal

pub returns-clause-values : goal.returns-clause-values
returns-clause-values g = λ c openings here e own t h later ms rest v answers k. ((meaning_typed c openings here e own t (type_linked c e ∙ h) later).known ms rest _ answers k).1

pub returns-clause-places : goal.returns-clause-places
returns-clause-places g = λ c openings here a own t h later ms rest s answers k. ((designation_typed c openings here a own t (place_type_linked c a ∙ h) later).known ms rest _ answers k).1.0

pub returns-clause-steps : goal.returns-clause-steps
returns-clause-steps g = λ c openings here e own t h later ms action answers k. ((meaning_typed c openings here e own t (type_linked c e ∙ h) later).waits ms action answers k).0

pub returns-clause-unary : goal.returns-clause-unary
returns-clause-unary g = λ p openings o t a r e x h. taken_one p openings o t a r e x h

pub returns-clause-binary : goal.returns-clause-binary
returns-clause-binary g = λ p openings o t a b r e x y h k. taken_two p openings o t a b r e x y h k

pub returns-clause-changes : goal.returns-clause-changes
returns-clause-changes g = λ p openings s t o e c m y h. taken_change p openings s t o e c m y h

pub returns-clause-pointers : goal.returns-clause-pointers
returns-clause-pointers g = λ p openings constant volatile t object path index count h. h.2

pub returns-clause-reaches : goal.returns-clause-reaches
returns-clause-reaches g = λ c openings here e own t h later ms action answers k. ((meaning_typed c openings here e own t (type_linked c e ∙ h) later).waits ms action answers k).1

pub returns-clause-works : goal.returns-clause-works
returns-clause-works g = λ c openings here e own t h later. meaning_typed c openings here e own t (type_linked c e ∙ h) later

pub returns-clause-place_works : goal.returns-clause-place_works
returns-clause-place_works g = λ c openings here a own t h later.
    works_as (IsMarkOf c.program openings) (IsStep c.program openings c.number) (Spot-of c openings here t) (λ s. MayLead c.program openings t s) ((designation c a).leads later) (λ s m. m.0)
    (designation_typed c openings here a own t (place_type_linked c a ∙ h) later)

pub returns-clause-parts : goal.returns-clause-parts
returns-clause-parts g = λ c x t h. typed_parts c x (t, h)

pub returns-clause-place_parts : goal.returns-clause-place_parts
returns-clause-place_parts g = λ c x t h. typed_place_parts c x (t, h)
