use Rattle.cc_flow_sound.proofs.Apart.{one_point}
use Rattle.cc_flow_sound.proofs.Kept.{run_at}
use Rattle.cc_flow_sound.proofs.Moved.{turn_moves}
use Rattle.cc_flow_sound.proofs.Normal.{normal_body}
use Rattle.cc_flow_sound.proofs.Reached.{active_statement}
use Rattle.cc_flow_sound.proofs.law.moves.Goals as goal

pub returns-clause-moves : goal.returns-clause-moves
returns-clause-moves c = λ p normal few s is arrival. turn_moves p few (normal_body p normal) s is arrival

pub returns-clause-runs : goal.returns-clause-runs
returns-clause-runs c = λ p normal few inputs arrivals. run_at p normal few inputs arrivals

pub returns-clause-statements : goal.returns-clause-statements
returns-clause-statements c = λ p normal few openings a h f there s rest here. active_statement p normal few openings a h f there s rest here

pub returns-clause-one_point : goal.returns-clause-one_point
returns-clause-one_point c = λ p at m n h k. one_point p at m n h k
