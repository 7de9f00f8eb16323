-- The program that a program is rewritten to by a plan for its slots, as facts tell them: its coded slots stand in words, temporaries are
-- numbered and named, what is coded is left out, and objects and members stand by alignment.
use Rattle.std.specs.Prelude.{List}
use Rattle.cc_lower_numbers.specs.Numbered.{numbered}
use Rattle.cc_plan_legal.specs.declared.kinds.Plan.{Plan}
use Rattle.cc_program.specs.declared.program.Program.{Program}
use Rattle.cc_rewrite_codes.specs.Programs.{coded_program}
use Rattle.cc_rewrite_orders.specs.Members.{with_members_ordered}
use Rattle.cc_rewrite_orders.specs.Orders.{member_order, object_order}
use Rattle.cc_rewrite_renamed.specs.Objects.{with_objects_ordered}
use Rattle.cc_slots_types.specs.declared.slot.Slot.{Slot}
use Rattle.cc_state_points.specs.CcStateFacts.declared.facts.Facts.{Facts}

module _ {I : Type 0} (slots : List Slot) (plan : Plan) (facts : Facts I) (p : Program) where
  -- names are passed over that stand in what is left out too
  abbrev pub coded : Program
  coded = numbered (coded_program slots plan p facts)

  unfoldable pub rewritten : Program
  rewritten = with_members_ordered (member_order slots plan p coded) p.structures (with_objects_ordered (object_order slots plan p coded) coded)
