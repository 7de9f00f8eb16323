-- Of which kind the registers of a function are: as their sets at a point, and as their declared types have it.
use Rattle.std.proofs.Common.{◌≡◌, ◌<◌, ◌+◌, ◌^◌, ℕ, zero, suc, List, [], ◌∷◌, ◌++◌, length, map, take, get_or, Some, slice_get, refl, sym, ap, subst, ◌∙◌}
use Rattle.std.proofs.lemmas.List.{length-map, map_more}
use Rattle.std.proofs.lemmas.Option.{none-some, same_Some, slice_get_within, get_or_from_slice_get}
use Rattle.std.specs.Prelude.{option_and_then}
use Rattle.cc_rules_asked.specs.CcFlow.declared.types.Flow.{Flow}
use Rattle.cc_rules_asked.specs.CcFlow.declared.types.Point.{Point}
use Rattle.cc_rules_asked.specs.CcFlow.Points.{flow_of}
use Rattle.cc_rules_asked.specs.CcPlaces.declared.abs.Abs.{Abs}
use Rattle.cc_rules_asked.specs.CcPlaces.declared.abs.Abs.TheVariants as abs
use Rattle.cc_program.specs.declared.func.Func.{Func}
use Rattle.cc_program.specs.declared.program.Program.{Program}
use Rattle.cc_rules_asked.specs.CcRulesFlows.Nexts.{IsPoint}
use Rattle.cc_rules_raised.specs.Completed.{AreKinds}
use Rattle.cc_rules_raised.specs.OfAddresses.{is_set_of_addresses, local_addresses}
use Rattle.cc_rules_grow.specs.CcState.Shape.{declared_type, IsSetIn, IsPointFact}
use Rattle.cc_rules_asked.specs.CcStateFacts.declared.facts.PointFact.{PointFact}
use Rattle.cc_rules_asked.proofs.CcStateKeys.Typed.{few-locals}
use Rattle.cc_rules_asked.specs.CcStateKeys.Tracked.{registers}
use Rattle.cc_rules_asked.specs.CcStateOperators.Domains.{Domain}
use Rattle.cc_rules_asked.specs.CcStateReads.Reads.{is_pointer}
use Rattle.cc_state_shape.proofs.Alike.{one_register_type}
use Rattle.cc_state_shape.proofs.KeyKinds.{scalar_addresses}
use Rattle.cc_state_shape.specs.Lowest.{declared_addresses}
use Rattle.cc_rules_asked.proofs.CcSyntax.NameRules.{sound-typed}
use Rattle.cc_rules_asked.specs.CcSyntax.Normal.{IsNormal}
use Rattle.cc_rules_asked.specs.CcSyntax.Values.{ValueType, NoValue, Integer, ToObject, ToFunction}

map_at : {A B : Type 0} (f : A → B) (xs : List A) (i : ℕ) (x : A) → slice_get xs i ≡ Some x → slice_get (map f xs) i ≡ Some (f x)
map_at f [] i x e = absurd (none-some x e)
map_at f (y ∷ xs) zero x e = ap Some (ap f (same_Some y x e))
map_at f (y ∷ xs) (suc i) x e = map_at f xs i x e

-- one more
pub map_one : {A B : Type 0} (f : A → B) (xs : List A) (i : ℕ) (d : A) (now new : List B) (b : B) → i < length xs → new ≡ now ++ b ∷ [] → now ≡ map f (take i xs) → b ≡ f (get_or xs i d) → new ≡ map f (take (i + 1) xs)
map_one f xs i d now new b l e h k = e ∙ (ap (λ ls. ls ++ b ∷ []) h ∙ (ap (λ z. map f (take i xs) ++ z ∷ []) k ∙ sym (map_more f xs i d l)))

pub few_locals_at : (p : Program) → IsNormal p → (id : ℕ) (f : Func) → slice_get p.funcs id ≡ Some f → length f.locals < 2 ^ 32
few_locals_at p normal id f at = subst (λ (g : Func). length g.locals < 2 ^ 32) (get_or_from_slice_get p.funcs id f f at) (few-locals p (sound-typed p normal.sound) id f (slice_get_within p.funcs id f at))

-- the function of a point
pub function_there : (p : Program) (flow : Flow) (n id : ℕ) (f : Func) (q : Point) → flow ≡ flow_of p → IsPoint p n id f q → option_and_then (λ (q : Point). slice_get p.funcs q.func) (slice_get flow.points n) ≡ Some f
function_there p flow n id f q e is =
    ap (option_and_then (λ (q : Point). slice_get p.funcs q.func)) (ap (λ (x : Flow). slice_get x.points n) e ∙ is.numbered) ∙ (ap (slice_get p.funcs) is.own ∙ is.function)

module _ {I : Type 0} (d : Domain I) (p : Program) where
  kind_is : (t : ValueType) (y : Abs I) → IsSetIn p d t y → is_set_of_addresses y ≡ is_pointer t
  kind_is NoValue (abs.Ints x) h = refl
  kind_is NoValue (abs.Addrs s) h = absurd h
  kind_is (Integer t) (abs.Ints x) h = refl
  kind_is (Integer t) (abs.Addrs s) h = absurd h
  kind_is (ToObject c v to) (abs.Ints x) h = absurd h
  kind_is (ToObject c v to) (abs.Addrs s) h = refl
  kind_is (ToFunction sig) (abs.Ints x) h = absurd h
  kind_is (ToFunction sig) (abs.Addrs s) h = refl

  pub kinds_of_fact : (f : Func) (x : PointFact I) → IsPointFact d p f x → AreKinds d p f (map is_set_of_addresses x.locals)
  kinds_of_fact f x h = record {
    each = length-map x.locals is_set_of_addresses ∙ h.local_count;
    kind = λ r t is.
        (let w = h.locals.there r (let (q, l, at, own, scalar) = is in slice_get_within (registers f) r q at) in
        map_at is_set_of_addresses x.locals r w.1 w.2.1 ∙ ap Some (kind_is w.0 w.1 w.2.2 ∙ ap is_pointer (one_register_type d p f r w.0 t w.2.0 is)));
  }

  pub kinds_of_function : (f : Func) → AreKinds d p f (map (local_addresses f) (registers f))
  kinds_of_function f = record {
    each = length-map (registers f) (local_addresses f);
    kind = λ r t (q, l, at, own, scalar).
        map_at (local_addresses f) (registers f) r q at ∙ ap Some (ap declared_addresses (ap declared_type own) ∙ sym (scalar_addresses l.1 t scalar));
  }
