-- A number that is kept is added.
use Rattle.std.proofs.Common.{◌≡◌, ◌∙◌, Bool, true, ℤ, IsTrue, sym}
use Rattle.cc_explicit.proofs.Reach.{reach_same}
use Rattle.cc_sets.specs.declared.gathered.Gathered.{Gathered}
use Rattle.cc_sets.specs.Gatherings.{Adds}
use Rattle.cc_sets.proofs.Adding.{adds_same}
use Rattle.cc_sets.proofs.gathered.Gathered.add_where.Goals as goal

kept : (old new : Gathered) (k : Bool) (u v : ℤ) → k ≡ true → u ≡ v → Adds old new (λ w. u ≡ w) → Adds old new (λ w. (v ≡ w) × IsTrue k)
kept old new k u v e f p = adds_same old new (λ w. u ≡ w) (λ w. (v ≡ w) × IsTrue k) p
    (λ w g. (sym f ∙ g, e))
    (λ w g. f ∙ g.0)

pub returns-then-keeps : goal.returns-then-keeps
returns-then-keeps c = kept c.args.self.now c.add.new.self c.args.keeps _ c.args.v c.if-keeps.true (reach_same c.args.v c.requires) c.add.ensures
