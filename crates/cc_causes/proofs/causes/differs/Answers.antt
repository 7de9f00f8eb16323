use Rattle.std.proofs.Common.{◌∙◌, ap, sym}
use Rattle.std.specs.Prelude.{Bool, List, ℕ, not}
use Rattle.cc_causes.proofs.Loops.{any_not, any_found, any_end}
use Rattle.cc_program.specs.declared.types.CType.{CType}
use Rattle.cc_structures.specs.Structures.{type_in}
use Rattle.cc_syntax.specs.SameTypes.{same_type}
use Rattle.cc_things.specs.Mentions.{Mention}
use Rattle.cc_things.specs.View.{view_of}
use Rattle.cc_causes.proofs.causes.differs.Goals as goal

abbrev is_other : List (List ℕ) → CType → Mention → Bool
is_other numbering t m = not (same_type t (type_in numbering m.text m.name.ctype))

pub loop-m-preserved : goal.loop-m-preserved
loop-m-preserved c =
    any_not view_of (is_other c.args.structures.now c.args.t.now) c.args.mentions.now c.loop-m.m-index c.m-item.result c.loop-m-test.true c.m-item.is c.loop-m.invariant
    (ap not (sym c.in_ok-is_same.ensures ∙ c.if-not-is_same.false))

pub returns-then-not-is_same : goal.returns-then-not-is_same
returns-then-not-is_same c =
    sym (any_found view_of (is_other c.args.structures.now c.args.t.now) c.args.mentions.now c.loop-m.m-index c.m-item.result c.loop-m-test.true c.m-item.is c.loop-m.invariant
    (ap not (sym c.in_ok-is_same.ensures ∙ c.if-not-is_same.true)))

pub returns : goal.returns
returns c = sym (any_end view_of (is_other c.args.structures.now c.args.t.now) c.args.mentions.now c.loop-m.m-index c.loop-m-test.false c.loop-m.invariant)
