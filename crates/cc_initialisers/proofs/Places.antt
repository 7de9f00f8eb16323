-- Scalars of elements, one behind the other.
use Rattle.std.proofs.Common.{arith, ◌≡◌, ◌∙◌, ◌+◌, ◌-◌, ◌<◌, ℕ, suc, List, ◌++◌, ap, sym, append_assoc}
use Rattle.cc_initialisers.specs.Scalars.{index_at, elements_from}
use Rattle.cc_program.specs.CcNum.declared.target.Target.{Target}
use Rattle.cc_program.specs.declared.expr.Place.{Place, Element}

pub element-placed : (target : Target) (scalars : Place → List Place) (array : Place) (n i : ℕ) (before after whole : List Place) → i < n →
    after ≡ before ++ scalars (Element array (index_at target i)) →
    before ++ elements_from target i (n - i) scalars array ≡ whole → after ++ elements_from target (i + 1) (n - (i + 1)) scalars array ≡ whole
element-placed target scalars array n i before after whole h a w =
    let k : n - i ≡ suc (n - (i + 1)) = omega arith in
    let e : i + 1 ≡ suc i = omega arith in
    ap (λ l. l ++ elements_from target (i + 1) (n - (i + 1)) scalars array) a
    ∙ append_assoc before (scalars (Element array (index_at target i))) (elements_from target (i + 1) (n - (i + 1)) scalars array)
    ∙ ap (λ j. before ++ (scalars (Element array (index_at target i)) ++ elements_from target j (n - (i + 1)) scalars array)) e
    ∙ ap (λ m. before ++ elements_from target i m scalars array) (sym k) ∙ w
