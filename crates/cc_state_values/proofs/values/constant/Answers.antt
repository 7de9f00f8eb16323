-- The set of a number has that number alone.
use Rattle.std.proofs.Common.{◌≡◌, ◌∙◌, ℤ, to_z, of_z, arith, sym, subst, refl}
use Rattle.std.specs.Int.{w128}
use Rattle.std.proofs.lemmas.Int.{ints}
use Rattle.cc_state_operators.specs.CcLattice.Domains.{IsIntValue}
use Rattle.cc_state_values.proofs.values.constant.Goals as goal

exact : (v : ℤ) → IsIntValue v → to_z w128 (of_z w128 v) ≡ v
exact v h = let l = h.least in let m = h.most in omega (arith, ints)

pub one-requires : goal.one-requires
one-requires g c = subst IsIntValue (sym (exact c.args.n.now c.requires)) c.requires

pub returns : goal.returns
returns g c =
    let e = exact c.args.n.now c.requires in (
      c.one.result,
      record {
        has_all = λ m h. (c.one.ensures.has m).1 (h ∙ sym e);
        least = λ y k. c.one.ensures.least y (subst (λ z. g.I.Concrete.Has y z) (sym e) (k c.args.n.now refl));
      },
      (λ m k. (c.one.ensures.has m).0 k ∙ e),
      refl,
    )
