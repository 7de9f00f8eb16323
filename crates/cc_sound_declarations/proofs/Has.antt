-- What is found in a function's body is put one behind another, where structures stand in order.
use Rattle.std.proofs.Common.{ℕ, List}
use Rattle.cc_typed_bodies.specs.CcScopes.State.{State, Name, empty, entered}
use Rattle.cc_sound_declarations.specs.Assigns.{HasObjects}
use Rattle.cc_sound_declarations.proofs.Declaring.{goes_on}
use Rattle.cc_sound_declarations.specs.Declaring.{Declares}
use Rattle.cc_sound_declarations.specs.Reached.{GoesOn}
use Rattle.cc_sound_terms.specs.Typing.{Knows}
use Rattle.cc_typed_bodies.specs.CcSyntax.Types.{Named}
use Rattle.cc_typed_bodies.specs.CcSyntax.Views.{View}

pub has_on : (v : View) (defined : List Name) (k : ℕ) → GoesOn (Declares v defined) (λ D s t. Knows v D s t) (HasObjects k)
has_on v defined k =
    let on = goes_on v defined k in
    record {
      itself = on.itself;
      through = on.through;
      front = on.front;
      has = λ s t D E a h. record { declared = a.locals k h.declared; ordered = a.ordered h.ordered };
      first = on.first;
      second = on.second;
      enters = λ s D h. record { declared = on.enters s D h.declared; ordered = record { listed = h.ordered.listed; order = h.ordered.order; tags = h.ordered.tags } };
      inside = on.inside;
      leaves = on.leaves;
    }

-- where something else is known throughout
pub given_on : (v : View) (defined : List Name) (k : ℕ) (Given : Type 0) → GoesOn (Declares v defined) (λ D s t. Given × Knows v D s t) (HasObjects k)
given_on v defined k Given =
    let on = has_on v defined k in
    record {
      itself = on.itself;
      through = on.through;
      front = on.front;
      has = on.has;
      first = λ s t u D E F a b w. (w.0, on.first s t u D E F a b w.1);
      second = λ s t u D E F a b w. (w.0, on.second s t u D E F a b w.1);
      enters = on.enters;
      inside = λ s t D w. (w.0, on.inside s t D w.1);
      leaves = on.leaves;
    }
