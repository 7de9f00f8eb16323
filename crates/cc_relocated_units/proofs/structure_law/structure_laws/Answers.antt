use Rattle.cc_relocated_units.proofs.Standing.{in-order-program, named-first-program, kind-same}
use Rattle.cc_relocated_units.proofs.structure_law.structure_laws.Goals as goal

pub returns-clause-in_order : goal.returns-clause-in_order
returns-clause-in_order c = λ units numbering firsts tags target are as_many standing. in-order-program units numbering firsts tags target are as_many standing

pub returns-clause-named_first : goal.returns-clause-named_first
returns-clause-named_first c = λ units numbering firsts tags target are as_many standing. named-first-program units numbering firsts tags target are as_many standing

pub returns-clause-kinds : goal.returns-clause-kinds
returns-clause-kinds c = λ units numbering firsts tags target are as_many standing t u e c k h. kind-same units numbering firsts tags target are as_many standing t u e c k h
