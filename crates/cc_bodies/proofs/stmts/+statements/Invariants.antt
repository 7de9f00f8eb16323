use Rattle.std.proofs.Common.{◌≡◌, ◌≤◌, length, drop, map}
use Rattle.cc_pieces.specs.View.{pieces_of}
use Rattle.cc_bodies.specs.Stmts.{all_lines, case_lines, stmt, case_text}
use Rattle.cc_bodies.proofs.stmts.+statements.Given as goal

-- the statements from here on are printed
abbrev pub invariant-put_list-loop-left : goal.invariant-put_list-loop-left
invariant-put_list-loop-left l = (l.left ≤ length l.list) × (pieces_of l.out.items ≡ all_lines (map (stmt l.c.program.now l.c.func.now) (drop l.left l.list)) l.level (pieces_of l.initial.out.items))

abbrev pub decreases-put_list-loop-left : goal.decreases-put_list-loop-left
decreases-put_list-loop-left l = l.left

abbrev pub invariant-put_cases-loop-left : goal.invariant-put_cases-loop-left
invariant-put_cases-loop-left l = (l.left ≤ length l.cases) × (pieces_of l.out.items ≡ case_lines l.t (map (case_text l.c.program.now l.c.func.now) (drop l.left l.cases)) l.level (pieces_of l.initial.out.items))

abbrev pub decreases-put_cases-loop-left : goal.decreases-put_cases-loop-left
decreases-put_cases-loop-left l = l.left
