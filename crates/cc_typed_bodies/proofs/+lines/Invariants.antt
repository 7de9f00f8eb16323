use Rattle.std.proofs.Common.{◌≡◌, map}
use Rattle.cc_scopes.specs.View.{state_of}
use Rattle.cc_terms.proofs.InTurn.{left}
use Rattle.cc_typed_bodies.specs.Lines.{line_here}
use Rattle.cc_typed_bodies.specs.Meanings.{line_found, lines_found, item_found, items_found}
use Rattle.cc_typed_bodies.proofs.+lines.Given as goal

abbrev pub invariant-blocks::lines-loop-l : goal.invariant-blocks::lines-loop-l
invariant-blocks::lines-loop-l l = left (line_found l.jumps) (line_here l.f.target.now l.f.roles.now l.f.defined.now l.f.result.now) l.l-items l.l-index l.statements.items (state_of l.state) ≡ lines_found l.fn.jumps (map (line_here l.fn.f.target.now l.fn.f.roles.now l.fn.f.defined.now l.fn.f.result.now) l.fn.ls) (state_of l.fn.state)

abbrev pub invariant-switched::items-loop-l : goal.invariant-switched::items-loop-l
invariant-switched::items-loop-l l = left (item_found l.jumps l.t) (line_here l.f.target.now l.f.roles.now l.f.defined.now l.f.result.now) l.l-items l.l-index l.cases (state_of l.state) ≡ items_found l.fn.jumps l.fn.t (map (line_here l.fn.f.target.now l.fn.f.roles.now l.fn.f.defined.now l.fn.f.result.now) l.fn.ls) (state_of l.fn.state)
