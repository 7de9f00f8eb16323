-- What is known in the scope of a function's parameters.
use Rattle.std.proofs.Common.{arith, ◌≡◌, inl, ℕ, zero, suc, ◌<◌, ◌≤◌, ◌+◌, true, false, List, [], ◌∷◌, map, length, take, drop, Option, Some, None, Ok, refl, ap, sym, ◌∙◌, slice_get, eqb-true}
use Rattle.std.specs.Prelude.{if◌then◌else◌}
use Rattle.std.specs.Str.{bytes_eq}
use Rattle.cc_type.specs.CcDesignators.Designators.{TypedExpr, IsPlace}
use Rattle.cc_type.specs.CcTypedTerms.Primary.{designates, named_by, named, intrinsic_named}
use Rattle.cc_program.specs.declared.expr.Intr.{Intr}
use Rattle.cc_program.specs.declared.expr.Place.{Local}
use Rattle.cc_program.specs.declared.func.Func.{Func}
use Rattle.cc_program.specs.declared.program.Program.{Program}
use Rattle.cc_program.specs.declared.types.CType.{CType}
use Rattle.cc_program.specs.declared.types.Sig.{out-Sig}
use Rattle.cc_type.specs.CcScopes.State.{State, Name, find_name, or_else, designated, named_here, entered, with_locals}
use Rattle.cc_type.specs.CcScopes.declared.designated.Designated.{Designated}
use Rattle.cc_type.specs.CcScopes.declared.designated.Designated.TheVariants as means
use Rattle.cc_type.specs.CcSyntax.SameTypes.{same_shape}
use Rattle.cc_type.specs.CcSyntax.Sound.{IsFunc, are_parameters}
use Rattle.cc_type.specs.CcSyntax.Types.{Named}
use Rattle.cc_type.specs.CcSyntax.Values.{object_place}
use Rattle.cc_type.proofs.CcSyntax.Prefixes.{both_true}
use Rattle.cc_shown_names.specs.Bodies.{first_locals, parameters_alone, KnowsParameters}
use Rattle.cc_shown_names.proofs.Names.{name-itself, names-turned, own-name}
use Rattle.cc_shown_names.specs.Functions.{names_from, parameters_scope}
use Rattle.cc_shown_expressions.specs.KnownNames.{KnowsNames}
use Rattle.cc_shown_expressions.specs.OperationNumbers.{Numbers}
use Rattle.cc_shown_expressions.specs.Known.{KnowsStructures}
use Rattle.cc_shown_expressions.specs.Numbers.{type_numbered, named_numbered}

-- ---- lists

pub taken-at : {A : Type 0} → (xs : List A) (k i : ℕ) (x : A) → slice_get (take k xs) i ≡ Some x → (i < k) × (slice_get xs i ≡ Some x)
taken-at [] zero i x h = absurd (cc)
taken-at [] (suc k) i x h = absurd (cc)
taken-at (y ∷ xs) zero i x h = absurd (cc)
taken-at (y ∷ xs) (suc k) zero x h = (omega arith, h)
taken-at (y ∷ xs) (suc k) (suc i) x h = let q = taken-at xs k i x h in (omega (arith, q.0), q.1)

pub dropped-at : {A : Type 0} → (xs : List A) (k i : ℕ) (x : A) → slice_get (drop k xs) i ≡ Some x → slice_get xs (k + i) ≡ Some x
dropped-at [] zero i x h = absurd (cc)
dropped-at [] (suc k) i x h = absurd (cc)
dropped-at (z ∷ xs) zero i x h = let e : 0 + i ≡ i = omega arith in ap (slice_get (z ∷ xs)) e ∙ h
dropped-at (z ∷ xs) (suc k) i x h = let e : suc k + i ≡ suc (k + i) = omega arith in ap (slice_get (z ∷ xs)) e ∙ dropped-at xs k i x h

pub taken-length : {A : Type 0} → (xs : List A) (k : ℕ) → k ≤ length xs → length (take k xs) ≡ k
taken-length [] zero h = refl
taken-length [] (suc k) h = absurd (omega (arith, h))
taken-length (x ∷ xs) zero h = refl
taken-length (x ∷ xs) (suc k) h = ap suc (taken-length xs k (omega (arith, h)))

pub mapped-length : {A B : Type 0} → (f : A → B) (xs : List A) → length (map f xs) ≡ length xs
mapped-length f [] = refl
mapped-length f (x ∷ xs) = ap suc (mapped-length f xs)

pub few-parameters : (ts : List CType) (ls : List Named) → are_parameters ts ls ≡ true → length ts ≤ length ls
few-parameters [] ls h = omega arith
few-parameters (t ∷ ts) [] h = absurd (cc)
few-parameters (t ∷ ts) (l ∷ ls) h = let q = few-parameters ts ls (both_true (same_shape t.shape l.1.shape) (are_parameters ts ls) h).1 in omega (arith, q)

-- ---- their names

module _ (number : ℕ → ℕ) where
  found-not : (ls : List Named) (i : ℕ) (y : Name) → ((k : ℕ) (l : Named) → slice_get ls k ≡ Some l → bytes_eq y l.0 ≡ false) → find_name y (names_from number i ls) ≡ None
  found-not [] i y h = refl
  found-not (l ∷ ls) i y h =
      ap (λ b. if b then Some (means.Automatic i (type_numbered number l.1)) else find_name y (names_from number (suc i) ls)) (h 0 l refl) ∙ found-not ls (suc i) y (λ k m e. h (suc k) m e)

  found-at : (ls : List Named) (i k : ℕ) (l : Named) → slice_get ls k ≡ Some l → ((j : ℕ) (m : Named) → slice_get ls j ≡ Some m → j < k → bytes_eq l.0 m.0 ≡ false) → find_name l.0 (names_from number i ls) ≡ Some (means.Automatic (i + k) (type_numbered number l.1))
  found-at [] i k l e h = absurd (cc)
  found-at (m ∷ ls) i zero l e h =
      let same : l ≡ m = cc in
      let z : i ≡ i + 0 = omega arith in
      ap (λ (l : Named). find_name l.0 (names_from number i (m ∷ ls))) same
      ∙ ap (λ b. if b then Some (means.Automatic i (type_numbered number m.1)) else find_name m.0 (names_from number (suc i) ls)) (name-itself m.0)
      ∙ ap (λ j. Some (means.Automatic j (type_numbered number m.1))) z ∙ ap (λ (l : Named). Some (means.Automatic (i + 0) (type_numbered number l.1))) (sym same)
  found-at (m ∷ ls) i (suc k) l e h =
      let z : suc i + k ≡ i + suc k = omega arith in
      ap (λ b. if b then Some (means.Automatic i (type_numbered number m.1)) else find_name l.0 (names_from number (suc i) ls)) (h 0 m refl (omega arith))
      ∙ found-at ls (suc i) k l e (λ j o g below. h (suc j) o g (omega (arith, below)))
      ∙ ap (λ j. Some (means.Automatic j (type_numbered number l.1))) z

module _ (p : Program) (f : Func) (n : Numbers) (own : IsFunc p f) (s : State) where
  abbrev parameters : List Named
  parameters = take f.params f.locals

  abbrev objects : List Named
  objects = map (named_numbered n.structure) parameters

  -- in their scope
  abbrev pub inside : State
  inside = entered (parameters_scope n.structure parameters) (with_locals objects s)

  -- ---- other names

  designates-inside : (r : TypedExpr) (o : Option Designated) → designates s o ≡ Ok r → designates inside o ≡ Ok r
  designates-inside r None h = h
  designates-inside r (Some (means.Linked i)) h = h
  designates-inside r (Some (means.Automatic i t)) h = h
  designates-inside r (Some (means.TypeNamed t)) h = h
  designates-inside r (Some (means.Enumerator k)) h = h

  named-by-inside : (at : ℕ) (y : Name) (r : TypedExpr) (i : Option Intr) → find_name y (names_from n.structure 0 parameters) ≡ None → named_by at y s i ≡ Ok r → named_by at y inside i ≡ Ok r
  named-by-inside at y r (Some i) h k = k
  named-by-inside at y r None h k = ap (λ o. designates inside (or_else o (designated y s.scopes))) h ∙ designates-inside r (designated y s.scopes) k

  named-inside : (at : ℕ) (y : Name) (r : TypedExpr) → ((k : ℕ) (l : Named) → slice_get f.locals k ≡ Some l → bytes_eq y l.0 ≡ false) → named p.roles at y s ≡ Ok r → named p.roles at y inside ≡ Ok r
  named-inside at y r h k = named-by-inside at y r (intrinsic_named p.roles y) (found-not n.structure parameters 0 y (λ k l e. h k l (taken-at f.locals f.params k l e).1)) k

  -- ---- parameters

  parameter-found : (k : ℕ) (l : Named) → slice_get parameters k ≡ Some l → find_name l.0 (names_from n.structure 0 parameters) ≡ Some (means.Automatic k (type_numbered n.structure l.1))
  parameter-found k l e =
      let z : 0 + k ≡ k = omega arith in
      let at = taken-at f.locals f.params k l e in
      found-at n.structure parameters 0 k l e (λ j m g below. names-turned m.0 l.0 ((own-name p f own.names k l at.1).locals j m (taken-at f.locals f.params j m g).1 (inl below)))
      ∙ ap (λ j. Some (means.Automatic j (type_numbered n.structure l.1))) z

  parameter-named : (k : ℕ) (l : Named) → slice_get parameters k ≡ Some l → (at : ℕ) → named p.roles at l.0 inside ≡ Ok (IsPlace (Local k) (object_place (type_numbered n.structure l.1)))
  parameter-named k l e at =
      ap (λ i. named_by at l.0 inside i) (own-name p f own.names k l (taken-at f.locals f.params k l e).1).intrinsic
      ∙ ap (λ o. designates inside (or_else o (designated l.0 s.scopes))) (parameter-found k l e)

  structures-inside : KnowsStructures p n.structure s → KnowsStructures p n.structure inside
  structures-inside k = record { tags = k.tags; structures = k.structures; layouts = k.layouts }

  -- names of the file
  pub names-inside : KnowsNames p (first_locals 0 f) n s → KnowsNames p (parameters_alone f) n inside
  names-inside k = record {
    structures = structures-inside k.structures;
    locals = λ i l e at. parameter-named i l e at;
    objects = λ i o e at. named-inside at o.name _ (λ j l g. (own-name p f own.names j l g).objects i o e) (k.objects i o e at);
    devices = λ i d y e g at. named-inside at y _ (λ j l h. (own-name p f own.names j l h).devices i d y e g) (k.devices i d y e g at);
    funcs = λ i g e at. named-inside at g.name _ (λ j l h. (own-name p f own.names j l h).funcs i g e) (k.funcs i g e at);
  }

  pub count-inside : length objects ≡ f.params
  count-inside =
      let count : f.params ≡ length (out-Sig f.sig).params = eqb-true f.params (length (out-Sig f.sig).params) own.count in
      let few = few-parameters (out-Sig f.sig).params f.locals own.first in
      mapped-length (named_numbered n.structure) parameters ∙ taken-length f.locals f.params (omega (arith, count, few))

  new-inside : (i : ℕ) (l : Named) → slice_get (drop f.params f.locals) i ≡ Some l → named_here l.0 inside ≡ None
  new-inside i l e =
      let at = dropped-at f.locals f.params i l e in
      found-not n.structure parameters 0 l.0 (λ k m g.
      let q = taken-at f.locals f.params k m g in
      names-turned m.0 l.0 ((own-name p f own.names (f.params + i) l at).locals k m q.1 (inl (omega (arith, q.0)))))

  pub knows-parameters : KnowsNames p (first_locals 0 f) n s → KnowsParameters p f n inside
  knows-parameters k = record { names = names-inside k; count = count-inside; new = new-inside }
