-- Slices of numbers that are equal are the same.
use Rattle.std.proofs.Common.{sym, ◌∙◌}
use Rattle.std.proofs.lemmas.Bool.Decides.{Decides-int_eq}
use Rattle.std.proofs.lemmas.Slice.Eq.{slice_eq-Decides}
use Rattle.cc_rules_tests.proofs.tried.Tried.is_at.Goals as goal

pub returns-then-self-r : goal.returns-then-self-r
returns-then-self-r g c =
    let same = slice_eq-Decides Decides-int_eq c.as_slice.result.now c.args.numbers.now c.eq.result c.eq.ensures in
    ((λ h. record { register = c.if-self-r.true; numbers = sym c.as_slice.ensures.value ∙ same.0 h }), (λ h. same.1 (c.as_slice.ensures.value ∙ h.numbers)))
