use Rattle.cc_plan_sizes.proofs.Saved.{words_saved, arrays_saved}
use Rattle.cc_plan_sizes.proofs.law.laws.Goals as goal

pub returns-clause-words : goal.returns-clause-words
returns-clause-words c = λ copies slots plan its unbroken. words_saved slots plan its unbroken copies

pub returns-clause-arrays : goal.returns-clause-arrays
returns-clause-arrays c = λ slots plan its short unbroken. arrays_saved slots plan its unbroken short
