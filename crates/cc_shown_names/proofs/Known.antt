-- What is known behind the declaration of an automatic object: its name is that of the object, and all others mean what they
-- meant.
use Rattle.std.proofs.Common.{arith, ◌≡◌, inl, ℕ, zero, suc, ◌<◌, false, cond, List, [], ◌∷◌, length, take, Option, Some, None, Ok, refl, ap, sym, ◌∙◌, slice_get}
use Rattle.std.specs.Str.{bytes_eq}
use Rattle.cc_type.specs.CcDesignators.Designators.{TypedExpr, IsPlace}
use Rattle.cc_type.specs.CcObjects.Linked.{with_automatic}
use Rattle.cc_type.specs.CcTypedTerms.Primary.{designates, named_by, named, intrinsic_named}
use Rattle.cc_program.specs.declared.expr.Intr.{Intr}
use Rattle.cc_program.specs.declared.expr.Place.{Local}
use Rattle.cc_program.specs.declared.func.Func.{Func}
use Rattle.cc_program.specs.declared.program.Program.{Program}
use Rattle.cc_program.specs.declared.program.Roles.{Roles}
use Rattle.cc_program.specs.declared.types.CType.{CType}
use Rattle.cc_type.specs.CcScopes.State.{State, Scope, Name, find_name, with_name, or_else, designated, tagged, innermost, named_here, in_innermost}
use Rattle.cc_type.specs.CcScopes.declared.designated.Designated.{Designated}
use Rattle.cc_type.specs.CcScopes.declared.designated.Designated.TheVariants as means
use Rattle.cc_type.proofs.CcScopes.LinkedLemmas.{find-with_name}
use Rattle.cc_type.specs.CcSyntax.Types.{Named}
use Rattle.cc_type.specs.CcSyntax.Values.{object_place}
use Rattle.cc_shown_expressions.specs.KnownNames.{KnowsNames}
use Rattle.cc_shown_expressions.specs.OperationNumbers.{Numbers}
use Rattle.cc_shown_expressions.specs.Known.{KnowsStructures}
use Rattle.cc_shown_expressions.specs.Numbers.{type_numbered}
use Rattle.cc_shown_names.specs.Bodies.{first_locals}
use Rattle.cc_shown_names.proofs.Names.{name-itself, IsOwnName}

-- ---- names in the innermost scope

abbrev named_in : Name → Designated → Scope → Scope
named_in x d scope = record { names = with_name x d scope.names; tags = scope.tags }

found-new : (x : Name) (d : Designated) (names : List (Name × Designated)) → find_name x (with_name x d names) ≡ Some d
found-new x d names = find-with_name x x d names ∙ ap (λ b. cond b (Some d) (find_name x names)) (name-itself x)

found-other : (y x : Name) (d : Designated) (names : List (Name × Designated)) → bytes_eq y x ≡ false → find_name y (with_name x d names) ≡ find_name y names
found-other y x d names h = find-with_name y x d names ∙ ap (λ b. cond b (Some d) (find_name y names)) h

designated-new : (x : Name) (d : Designated) (scopes : List Scope) → designated x (in_innermost (named_in x d) scopes) ≡ Some d
designated-new x d [] = ap (λ o. or_else o None) (found-new x d [])
designated-new x d (scope ∷ outer) = ap (λ o. or_else o (designated x outer)) (found-new x d scope.names)

designated-other : (y x : Name) (d : Designated) (scopes : List Scope) → bytes_eq y x ≡ false → designated y (in_innermost (named_in x d) scopes) ≡ designated y scopes
designated-other y x d [] h = ap (λ o. or_else o None) (found-other y x d [] h)
designated-other y x d (scope ∷ outer) h = ap (λ o. or_else o (designated y outer)) (found-other y x d scope.names h)

tagged-still : (y x : Name) (d : Designated) (scopes : List Scope) → tagged y (in_innermost (named_in x d) scopes) ≡ tagged y scopes
tagged-still y x d [] = refl
tagged-still y x d (scope ∷ outer) = refl

here-other : (y x : Name) (d : Designated) (scopes : List Scope) → bytes_eq y x ≡ false → find_name y (innermost (in_innermost (named_in x d) scopes)).names ≡ find_name y (innermost scopes).names
here-other y x d [] h = found-other y x d [] h
here-other y x d (scope ∷ outer) h = found-other y x d scope.names h

-- ---- what they designate

designates-still : (s : State) (x : Name) (t : CType) (r : TypedExpr) (o : Option Designated) → designates s o ≡ Ok r → designates (with_automatic x t s) o ≡ Ok r
designates-still s x t r None h = h
designates-still s x t r (Some (means.Linked i)) h = h
designates-still s x t r (Some (means.Automatic i u)) h = h
designates-still s x t r (Some (means.TypeNamed u)) h = h
designates-still s x t r (Some (means.Enumerator k)) h = h

named-by-other : (at : ℕ) (y x : Name) (t : CType) (s : State) (r : TypedExpr) (i : Option Intr) → bytes_eq y x ≡ false → named_by at y s i ≡ Ok r → named_by at y (with_automatic x t s) i ≡ Ok r
named-by-other at y x t s r (Some i) h k = k
named-by-other at y x t s r None h k =
    ap (λ o. designates (with_automatic x t s) o) (designated-other y x (means.Automatic (length s.locals) t) s.scopes h) ∙ designates-still s x t r (designated y s.scopes) k

named-other : (roles : Roles) (at : ℕ) (y x : Name) (t : CType) (s : State) (r : TypedExpr) → bytes_eq y x ≡ false → named roles at y s ≡ Ok r → named roles at y (with_automatic x t s) ≡ Ok r
named-other roles at y x t s r h k = named-by-other at y x t s r (intrinsic_named roles y) h k

named-new : (roles : Roles) (at : ℕ) (x : Name) (t : CType) (s : State) → intrinsic_named roles x ≡ None → named roles at x (with_automatic x t s) ≡ Ok (IsPlace (Local (length s.locals)) (object_place t))
named-new roles at x t s h =
    ap (λ i. named_by at x (with_automatic x t s) i) h ∙ ap (λ o. designates (with_automatic x t s) o) (designated-new x (means.Automatic (length s.locals) t) s.scopes)

-- ---- of the locals that are declared

data Taken {A : Type 0} (xs : List A) (k i : ℕ) (x : A) : Type 0 where
  Before : i < k → slice_get xs i ≡ Some x → slice_get (take k xs) i ≡ Some x → Taken xs k i x
  Last : i ≡ k → slice_get xs k ≡ Some x → Taken xs k i x

taken-further : {A : Type 0} → (xs : List A) (y : A) (k i : ℕ) (x : A) → Taken xs k i x → Taken (y ∷ xs) (suc k) (suc i) x
taken-further xs y k i x (Before a b c) = Before (omega (arith, a)) b c
taken-further xs y k i x (Last a b) = Last (ap suc a) b

taken-more : {A : Type 0} → (xs : List A) (k i : ℕ) (x : A) → slice_get (take (suc k) xs) i ≡ Some x → Taken xs k i x
taken-more [] k i x h = absurd (cc)
taken-more (y ∷ xs) zero zero x h = Last refl h
taken-more (y ∷ []) zero (suc i) x h = absurd (cc)
taken-more (y ∷ z ∷ xs) zero (suc i) x h = absurd (cc)
taken-more (y ∷ xs) (suc k) zero x h = Before (omega arith) h h
taken-more (y ∷ xs) (suc k) (suc i) x h = taken-further xs y k i x (taken-more xs k i x h)

module _ (p : Program) (f : Func) (n : Numbers) where
  -- with as many locals of the function
  abbrev pub Knows : ℕ → State → Type 0
  Knows k s = KnowsNames p (first_locals k f) n s

  structures-still : (s : State) (x : Name) (t : CType) → KnowsStructures p n.structure s → KnowsStructures p n.structure (with_automatic x t s)
  structures-still s x t k = record {
    tags = λ i d e. tagged-still d.tag x (means.Automatic (length s.locals) t) s.scopes ∙ k.tags i d e;
    structures = k.structures;
    layouts = k.layouts;
  }

  last-known : (s : State) (k i : ℕ) (l m : Named) (at : ℕ) → intrinsic_named p.roles l.0 ≡ None → length s.locals ≡ k → i ≡ k → m ≡ l →
      named p.roles at m.0 (with_automatic l.0 (type_numbered n.structure l.1) s) ≡ Ok (IsPlace (Local i) (object_place (type_numbered n.structure m.1)))
  last-known s k i l m at none count last same =
      ap (λ (m : Named). named p.roles at m.0 (with_automatic l.0 (type_numbered n.structure l.1) s)) same
      ∙ named-new p.roles at l.0 (type_numbered n.structure l.1) s none
      ∙ ap (λ i. Ok (IsPlace (Local i) (object_place (type_numbered n.structure l.1)))) (count ∙ sym last)
      ∙ ap (λ (m : Named). Ok (IsPlace (Local i) (object_place (type_numbered n.structure m.1)))) (sym same)

  local-known : (s : State) (k i : ℕ) (l m : Named) (at : ℕ) → slice_get f.locals k ≡ Some l → IsOwnName p f k l.0 → length s.locals ≡ k → Knows k s → Taken f.locals k i m →
      named p.roles at m.0 (with_automatic l.0 (type_numbered n.structure l.1) s) ≡ Ok (IsPlace (Local i) (object_place (type_numbered n.structure m.1)))
  local-known s k i l m at h own count known (Before a b c) = named-other p.roles at m.0 l.0 (type_numbered n.structure l.1) s _ (own.locals i m b (inl a)) (known.locals i m c at)
  local-known s k i l m at h own count known (Last a b) = let two : Some m ≡ Some l = sym b ∙ h in let same : m ≡ l = cc in last-known s k i l m at own.intrinsic count a same

  pub knows-more : (s : State) (k : ℕ) (l : Named) → slice_get f.locals k ≡ Some l → IsOwnName p f k l.0 → length s.locals ≡ k → Knows k s → Knows (suc k) (with_automatic l.0 (type_numbered n.structure l.1) s)
  knows-more s k l h own count known = record {
    structures = structures-still s l.0 (type_numbered n.structure l.1) known.structures;
    locals = λ i m e at. local-known s k i l m at h own count known (taken-more f.locals k i m e);
    objects = λ i o e at. named-other p.roles at o.name l.0 (type_numbered n.structure l.1) s _ (own.objects i o e) (known.objects i o e at);
    devices = λ i d y e g at. named-other p.roles at y l.0 (type_numbered n.structure l.1) s _ (own.devices i d y e g) (known.devices i d y e g at);
    funcs = λ i g e at. named-other p.roles at g.name l.0 (type_numbered n.structure l.1) s _ (own.funcs i g e) (known.funcs i g e at);
  }

  -- behind the last
  pub knows-all : (s : State) (k : ℕ) → take k f.locals ≡ f.locals → Knows k s → KnowsNames p f n s
  knows-all s k all known = record {
    structures = known.structures;
    locals = λ i l e at. known.locals i l (ap (λ ls. slice_get ls i) all ∙ e) at;
    objects = known.objects;
    devices = known.devices;
    funcs = known.funcs;
  }

-- another name is as new as it was
pub new-still : (s : State) (x y : Name) (t : CType) → bytes_eq y x ≡ false → named_here y s ≡ None → named_here y (with_automatic x t s) ≡ None
new-still s x y t h k = here-other y x (means.Automatic (length s.locals) t) s.scopes h ∙ k
