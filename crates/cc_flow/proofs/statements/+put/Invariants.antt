use Rattle.std.proofs.Common.{◌+◌, ◌*◌, ◌++◌}
use Rattle.cc_flow.specs.Points.{pieces, size_of, total_of, list_points, case_points}
use Rattle.cc_flow.specs.View.{case_pieces, total_of_cases}
use Rattle.cc_flow.proofs.Lists.{ListLeft}
use Rattle.cc_flow.proofs.Cases.{CasesLeft}
use Rattle.cc_flow.proofs.statements.+put.Given as goal

abbrev pub invariant-put_list-loop-s : goal.invariant-put_list-loop-s
invariant-put_list-loop-s l = ListLeft l.list l.path l.site l.end (l.initial.points.items ++ list_points (pieces l.list) l.path l.first l.site) l.s-index l.position l.number l.points.items

abbrev pub invariant-put_cases-loop-case : goal.invariant-put_cases-loop-case
invariant-put_cases-loop-case l = CasesLeft l.cases l.path l.site l.end (l.initial.points.items ++ case_points (case_pieces l.cases) l.path 0 l.site) l.case-index l.position l.number l.points.items

-- a statement has a point more than the lists in it
abbrev pub decreases-put_stmt : goal.decreases-put_stmt
decreases-put_stmt l = 4 * size_of l.s.now

abbrev pub decreases-put_if : goal.decreases-put_if
decreases-put_if l = 4 * (total_of l.a.now + total_of l.b.now) + 3

abbrev pub decreases-put_loop : goal.decreases-put_loop
decreases-put_loop l = 4 * total_of l.body.now + 3

abbrev pub decreases-put_switch : goal.decreases-put_switch
decreases-put_switch l = 4 * total_of_cases l.cases.now + 3

abbrev pub decreases-put_cases : goal.decreases-put_cases
decreases-put_cases l = 4 * total_of_cases l.cases.now + 2

abbrev pub decreases-put_list : goal.decreases-put_list
decreases-put_list l = 4 * total_of l.list.now + 1
