-- What a run of the command says, from what its parts say: the trace was made, and then it was said.
use Rattle.std.proofs.Common.{◌≡◌, ◌<◌, ◌++◌, ◌∙◌, ℕ, true, List, take, ap, sym, subst}
use Rattle.cc_edge.specs.Files.{Files}
use Rattle.cc_simulation.specs.Asked.{Asked}
use Rattle.cc_simulation.specs.Ends.{RunEnds, ManySteps, is_run_refusal}
use Rattle.cc_simulation.specs.Traces.{IsAsked, Says, SaysFront}
use Rattle.cc_status.specs.declared.status.Status.{Status}
use Rattle.cc_status.specs.declared.status.Status.TheVariants as status
use Rattle.cc_status.specs.declared.status.What.TheVariants as what

module _ (a : Asked) (files : Files) (old new text : List ℕ) (asked : IsAsked files a text) where
  pub says : new ≡ old ++ text → Says a files old new
  says h = record { text = text; asked = asked; said = h }

  pub says-front : (n : ℕ) × (new ≡ old ++ take n text) → SaysFront a files old new
  says-front h = record { text = text; asked = asked; count = h.0; said = h.1 }

pub many-steps : (files : Files) (rose : Type 0) (a : Asked) (n : ℕ) → n ≡ a.steps → 1000000 < a.steps → RunEnds files rose a (status.Limit what.Steps n)
many-steps files rose a n e h = subst (λ m. RunEnds files rose a (status.Limit what.Steps m)) (sym e) (ManySteps h)

pub ruleset of_runs = (says, says-front, many-steps)
