-- A constraint that raises the facts is listed again, unless it settles, with those that it may have broken; one that does not is met.
use Rattle.std.proofs.Common.{◌≡◌, false, ℕ, List, ◌∷◌, [], ◌++◌, slice_set, sym, subst, ◌∙◌}
use Rattle.cc_lattice.specs.Systems.{IsRaised}
use Rattle.cc_fix.specs.Work.{listed, itself_unless, IsWork, ArePut}
use Rattle.cc_fix.proofs.Steps.{work_kept, work_raised, itself_put, others_put, all_put}
use Rattle.cc_fix.proofs.solve.settle.Goals as goal

pub returns-in_ok-put_all-clause-work : goal.returns-in_ok-put_all-clause-work
returns-in_ok-put_all-clause-work g c =
    let s = g.S.System in
    let law = g.met.S.System in
    let system = c.args.system.now in
    let i = c.args.index in
    let old = c.args.facts.now in
    let new = c.raise.new.facts in
    let work = c.args.work.now in
    let is = c.put_all.new.work in
    let raise = c.in_ok-raise.ensures in
    let raised : IsRaised (s.IsFitting system) g.S.Facts.Lattice.IsBelow (s.Asks system i) old new = record { above = raise.above; has = raise.has; least = raise.least } in
    let count = s.count_of system in
    let settles = s.settles_of system i in
    let again = s.again_of system i new in
    let more = itself_unless settles i ++ again in
    let list = c.deref.ensures.value ∙ c.in_ok-again.ensures in
    work_raised count (s.Asks system) i old work.pending.items (listed work) c.requires.work new more is.pending.items (listed is)
    (itself_put settles i again (λ e. law.again_itself system i old new e c.requires.index c.requires.fitting raise.fitting raised))
    (λ j l met. others_put settles i j again (law.again_lists system i j old new c.requires.index l c.requires.fitting raise.fitting raised met))
    (all_put settles i count again c.requires.index (law.again_counts system i new c.requires.index raise.fitting))
    (subst (λ (xs : List ℕ). ArePut xs (slice_set work.pending.items i false) (listed work) is.pending.items (listed is)) list c.in_ok-put_all.ensures)

pub returns-else-branch-clause-work : goal.returns-else-branch-clause-work
returns-else-branch-clause-work g c =
    let s = g.S.System in
    let system = c.args.system.now in
    let i = c.args.index in
    let work = c.args.work.now in
    let new = c.raise.new.facts in
    let raise = c.in_ok-raise.ensures in
    let same : new ≡ c.args.facts.now = raise.same c.if-branch.false in
    work_kept (s.count_of system) (s.Asks system) i new work.pending.items (listed work)
    (subst (λ f. IsWork (s.count_of system) (s.Asks system) f work.pending.items (listed work ++ i ∷ [])) (sym same) c.requires.work)
    (subst (λ f. s.Asks system i f new) (sym same) raise.has)
