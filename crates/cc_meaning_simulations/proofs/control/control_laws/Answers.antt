use Rattle.cc_meaning_simulations.proofs.TransitionLemmas.{falls_off, performs, aborts, returns as returning, has_jumped, jumped, marked-control, begun-control}
use Rattle.cc_meaning_simulations.proofs.control.control_laws.Goals as goal

pub returns : goal.returns
returns c = record {
  falls_off = falls_off;
  performs = performs;
  aborts = aborts;
  returns = returning;
  jumps = λ p m a c h. let j = has_jumped p m a c h in (jumped p a, j.silent, j.control, j.locals);
  marks = marked-control;
  begins = begun-control;
}
