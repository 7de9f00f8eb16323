use Rattle.std.proofs.Common.{arith, ◌∙◌, sym, inl, inr}
use Rattle.cc_initialisers.proofs.Started.{text-one, text-none}
use Rattle.cc_initialisers.proofs.given.text.Goals as goal

pub returns-in-len1 : goal.returns-in-len1
returns-in-len1 c = c.expression_text.ensures ∙ text-one c.args.g.now c.in-Many.gs c.all.result.now c.g-item.result c.in-Many.is c.all.ensures (omega arith) (omega arith) c.g-item.is

pub returns-in-empty : goal.returns-in-empty
returns-in-empty c = sym (text-none c.args.g.now c.in-Many.gs c.all.result.now c.in-Many.is c.all.ensures (inl (first_of (omega arith, grind arith))))

pub returns-in-len2-up : goal.returns-in-len2-up
returns-in-len2-up c = sym (text-none c.args.g.now c.in-Many.gs c.all.result.now c.in-Many.is c.all.ensures (inr (omega arith)))
