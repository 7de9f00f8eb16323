-- Whether an element may lie outside its array, by its form.
use Rattle.std.proofs.Common.{◌≡◌, ℕ, Bool, Option, Some, None, refl, ap, sym, subst, ◌∙◌}
use Rattle.std.specs.Prelude.{◌↔◌, IsTrue, option_and_then}
use Rattle.std.proofs.lemmas.Option.{same_Some}
use Rattle.cc_rules_flows.specs.CcPlaces.declared.abs.Abs.{Abs}
use Rattle.cc_program.specs.declared.expr.Expr.{Expr}
use Rattle.cc_program.specs.declared.expr.Expr.TheOpen as one
use Rattle.cc_program.specs.declared.expr.Place.{Place, out-Place}
use Rattle.cc_program.specs.declared.func.Func.{Func}
use Rattle.cc_program.specs.declared.program.Program.{Program}
use Rattle.cc_slots_accesses.specs.Arrays.{array_length}
use Rattle.cc_slots_accesses.specs.Outside.{HasOutside, MayBeOutside}
use Rattle.cc_rules_flows.specs.CcStateFacts.declared.facts.Key.{Key}
use Rattle.cc_state_keys.specs.Addressed.{in_place}
use Rattle.cc_rules_flows.specs.CcStateOperators.Domains.{Domain}
use Rattle.cc_rules_flows.specs.CcStateValues.Values.{IsVal}

module _ {I : Type 0} (d : Domain I) (p : Program) (id : ℕ) (f : Func) (register : ℕ → Option (Abs I)) where
  abbrev Own : Place → Option Key
  Own a = (in_place p id f a).own

  its-key : (o : Option Key) (count : ℕ) → option_and_then (array_length p) o ≡ Some count → (k : Key) × (o ≡ Some k) × (array_length p k ≡ Some count)
  its-key None count h = let none : None ≡ Some count = h in absurd (cc)
  its-key (Some k) count h = (k, refl, h)

  two-parts : (a b : Place) (i j : Expr) → one.Element a i ≡ one.Element b j → (a ≡ b) × (i ≡ j)
  two-parts a b i j h = (cc, cc)

  module _ (one_value : (e : Expr) (x y : Abs I) → IsVal d p id f register e x → IsVal d p id f register e y → x ≡ y) where
    there : (a array : Place) (subscript : Expr) (count : ℕ) (values : Abs I) → out-Place a ≡ one.Element array subscript → option_and_then (array_length p) (Own array) ≡ Some count → IsVal d p id f register subscript values →
        HasOutside d values count → (k : Key) × MayBeOutside d p id f register a k
    there a array subscript count values form length value outside =
        let (k, own, is) = its-key (Own array) count length in
        (k, record { array = array; subscript = subscript; count = count; values = values; form = form; names = own; is_array = is; is_value = value; outside = outside })

    back : (a array : Place) (subscript : Expr) (count : ℕ) (values : Abs I) → out-Place a ≡ one.Element array subscript → option_and_then (array_length p) (Own array) ≡ Some count → IsVal d p id f register subscript values →
        (k : Key) → MayBeOutside d p id f register a k → HasOutside d values count
    back a array subscript count values form length value k m =
        let parts = two-parts m.array array m.subscript subscript (sym m.form ∙ form) in
        let counts : m.count ≡ count = same_Some m.count count (sym m.is_array ∙ (sym (ap (option_and_then (array_length p)) (ap Own (sym parts.0) ∙ m.names)) ∙ length)) in
        let sets : m.values ≡ values = one_value subscript m.values values (subst (λ (e : Expr). IsVal d p id f register e m.values) parts.1 m.is_value) value in
        subst (λ (x : Abs I). HasOutside d x count) sets (subst (λ (n : ℕ). HasOutside d m.values n) counts m.outside)

    pub outside_is : (a array : Place) (subscript : Expr) (count : ℕ) (values : Abs I) (b : Bool) → out-Place a ≡ one.Element array subscript → option_and_then (array_length p) (Own array) ≡ Some count → IsVal d p id f register subscript values →
        (IsTrue b ↔ HasOutside d values count) → IsTrue b ↔ ((k : Key) × MayBeOutside d p id f register a k)
    outside_is a array subscript count values b form length value h = (
      (λ t. there a array subscript count values form length value (h.0 t)),
      (λ w. h.1 (back a array subscript count values form length value w.0 w.1)),
    )
