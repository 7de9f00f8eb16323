-- What the slices have is what the sets have.
use Rattle.std.proofs.Common.{◌↔◌, ℤ, List, IsTrue, subst}
use Rattle.std.specs.List.{Contains}
use Rattle.cc_explicit.proofs.explicit.Explicit.is_within.Goals as goal

pub returns : goal.returns
returns c =
    subst (λ (xs : List ℤ). IsTrue c.are_within.result ↔ ((v : ℤ) → Contains xs v → Contains c.args.other.now.items.items v)) c.as_slice.ensures
    (subst (λ (ys : List ℤ). IsTrue c.are_within.result ↔ ((v : ℤ) → Contains c.as_slice.result.now v → Contains ys v)) c.as_slice-2.ensures c.are_within.ensures)
