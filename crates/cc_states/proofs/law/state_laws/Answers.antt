use Rattle.std.proofs.Common.{[]}
use Rattle.cc_program.specs.Qualifiers.{is_const, is_volatile}
use Rattle.cc_states.proofs.OnePath.{one_path}
use Rattle.cc_states.proofs.RegisterLemmas.{registers_kept}
use Rattle.cc_states.proofs.InsideLemmas.{next_inside, body_inside}
use Rattle.cc_states.proofs.StartLemmas.{start_state, run_state}
use Rattle.cc_states.proofs.TurnLemmas.{turn_state, switched_integer, exit_integer}
use Rattle.cc_states.proofs.ControlLemmas.{next_sound, body_sound, may_break_there, may_continue_there}
use Rattle.cc_states.proofs.SoundLemmas.{typed-sized}
use Rattle.cc_states.proofs.PathLemmas.{zeros_typed, written_typed}
use Rattle.cc_states.specs.Typed.{HasType}
use Rattle.cc_states.proofs.StateLemmas.{step_possible, expression_typed, functions_there, entries_there, parameters_there}
use Rattle.cc_states.proofs.law.state_laws.Goals as goal

pub returns-clause-expressions : goal.returns-clause-expressions
returns-clause-expressions c = λ p sound s h a below top e k. expression_typed p sound s h a below top e k

pub returns-clause-steps : goal.returns-clause-steps
returns-clause-steps c = λ p sound s h a below top action w. step_possible p sound s h a below top action w

pub returns-clause-places : goal.returns-clause-places
returns-clause-places c = λ p f a s rest here sound v. next_sound p f a s rest here sound v

pub returns-clause-bodies : goal.returns-clause-bodies
returns-clause-bodies c = λ p f h. body_sound p f h

pub returns-clause-breaks : goal.returns-clause-breaks
returns-clause-breaks c = λ p f a s rest here sound e. may_break_there p f a s rest here sound e

pub returns-clause-continues : goal.returns-clause-continues
returns-clause-continues c = λ p f a s rest here sound e. may_continue_there p f a s rest here sound e

pub returns-clause-firsts : goal.returns-clause-firsts
returns-clause-firsts c = λ p sound openings t. zeros_typed p openings (typed-sized p sound).in_order t

pub returns-clause-writes : goal.returns-clause-writes
returns-clause-writes c = λ p sound openings t values all path w scalar v h. written_typed p openings (typed-sized p sound).in_order (HasType p openings) t values all path w scalar v h

pub returns-clause-turns : goal.returns-clause-turns
returns-clause-turns c = λ p sound s h arrival. turn_state p sound s h arrival

pub returns-clause-starts : goal.returns-clause-starts
returns-clause-starts c = λ p sound inputs. start_state p sound inputs

pub returns-clause-functions : goal.returns-clause-functions
returns-clause-functions c = λ p sound s h. functions_there p h.0 s.stack h.1.stack

pub returns-clause-runs : goal.returns-clause-runs
returns-clause-runs c = λ p sound inputs arrivals. run_state p sound inputs arrivals

pub returns-clause-switches : goal.returns-clause-switches
returns-clause-switches c = λ p sound s h a below top b rest here e cases v ms x w. switched_integer p sound h.0 s h.1 a below top b rest here e cases v ms x w

pub returns-clause-exits : goal.returns-clause-exits
returns-clause-exits c = λ p sound s h a below top b rest here e v ms end x w. exit_integer p sound h.0 s h.1 a below top b rest here e v ms end x w

pub returns-clause-lists : goal.returns-clause-lists
returns-clause-lists c = λ p f a s rest here sound places v. next_inside f.body p f a s rest here sound places v

pub returns-clause-begins : goal.returns-clause-begins
returns-clause-begins c = λ f. body_inside f.body

pub returns-clause-entries : goal.returns-clause-entries
returns-clause-entries c = λ p sound s h. entries_there p h.0 s.stack h.1.stack

pub returns-clause-parameters : goal.returns-clause-parameters
returns-clause-parameters c = λ p sound s h. parameters_there p h.0 s.stack h.1.stack

pub returns-clause-registers : goal.returns-clause-registers
returns-clause-registers c = λ p sound s h a below top b i there arrival. registers_kept p s h a below top b i there arrival

pub returns-clause-one_path : goal.returns-clause-one_path
returns-clause-one_path c = λ p sound t path other w u h k e. one_path p [] (typed-sized p sound).in_order path other (is_const t) (is_volatile t) t w u h k e
