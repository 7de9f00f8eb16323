use Rattle.cc_flow.proofs.Inside.{body_inside}
use Rattle.cc_flow.proofs.Paths.{body_counted, all_counted, body_apart}
use Rattle.cc_flow.proofs.Starts.{switch_goes}
use Rattle.cc_flow.proofs.law.laws.Goals as goal

pub returns-clause-counted : goal.returns-clause-counted
returns-clause-counted c = λ func first body. body_counted func first body

pub returns-clause-all_counted : goal.returns-clause-all_counted
returns-clause-all_counted c = λ p. all_counted p

pub returns-clause-inside : goal.returns-clause-inside
returns-clause-inside c = λ func first body. body_inside func first body

pub returns-clause-apart : goal.returns-clause-apart
returns-clause-apart c = λ func first body. body_apart func first body

pub returns-clause-switches : goal.returns-clause-switches
returns-clause-switches c = λ has_default site counts n. switch_goes has_default site counts n
