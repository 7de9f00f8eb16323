-- The flags are locals of the new program: scalars whose accesses are no events, and which are there when a function is opened.
use Rattle.std.proofs.Common.{arith, ◌≡◌, ◌≤◌, ◌<◌, ℕ, zero, suc, ◌+◌, Bool, true, false, ◌||◌, List, [], ◌∷◌, ◌++◌, length, replicate, Option, Some, None, slice_get, refl, ap, ◌∙◌, subst}
use Rattle.std.specs.Prelude.{is_some}
use Rattle.cc_states.specs.CcSyntax.Types.{Named}
use Rattle.cc_states.proofs.CcCells.CountLemmas.{count-Int}
use Rattle.cc_states.specs.CcEval.Context.{is_seen}
use Rattle.cc_program.specs.CcNum.declared.int_type.IntType.TheVariants as int
use Rattle.cc_program.specs.declared.program.Program.{Program}
use Rattle.cc_program.specs.declared.types.CType.{CType, fold-CType, fold_out-CType}
use Rattle.cc_program.specs.declared.types.Shape.{Shape, out-Shape, fold-Shape, fold_out-Shape, map-Shape}
use Rattle.cc_program.specs.declared.types.Shape.TheVariants.{outs-Int}
use Rattle.cc_program.specs.declared.types.Shape.TheOpen as shape
use Rattle.cc_program.specs.declared.types.Sig.{Sig, fold-Sig}
use Rattle.cc_program.specs.declared.types.Structure.{Structure}
use Rattle.cc_program.specs.declared.value.Value.{Value}
use Rattle.cc_program.specs.Qualifiers.{is_volatile, of_element}
use Rattle.cc_states.specs.CcSteps.State.{local_with, locals_with}
use Rattle.cc_states.specs.CcSyntax.Values.{scalar_value, scalar_shape, object_place}
use Rattle.cc_meaning_simulations.specs.Bodies.{AddsScalars}
use Rattle.cc_lower_continues.specs.Continues.{flag_locals, flags_of, new_locals, unsigned_char}

abbrev one_int : shape.Shape-F Shape CType Sig
one_int = shape.Int int.UChar

pub unsigned_char-out : out-Shape unsigned_char.shape ≡ one_int
unsigned_char-out = outs-Int int.UChar

-- each is one
flag_local : (n k : ℕ) (l : Named) → slice_get (flag_locals n) k ≡ Some l → ([], unsigned_char) ≡ l
flag_local zero k l h = absurd (cc)
flag_local (suc n) zero l h = (let x : Some ([], unsigned_char) ≡ Some l = h in cc)
flag_local (suc n) (suc k) l h = flag_local n k l h

-- behind the others
pub behind : (xs : List Named) (n k : ℕ) → length xs ≤ k → k < length xs + n → slice_get (xs ++ flag_locals n) k ≡ Some ([], unsigned_char)
behind [] zero k h i = absurd (omega (arith, i))
behind [] (suc n) zero h i = refl
behind [] (suc n) (suc k) h i = behind [] n k (omega arith) (omega (arith, i))
behind (x ∷ xs) n zero h i = absurd (omega (arith, h))
behind (x ∷ xs) n (suc k) h i = behind xs n k (omega (arith, h)) (omega (arith, i))

-- each is a scalar
pub scalars : AddsScalars new_locals
scalars f k l h = subst (λ (l : Named). is_some (scalar_value l.1) ≡ true) (flag_local (flags_of f.body) k l h) (ap (λ (x : shape.Shape-F Shape CType Sig). is_some (scalar_shape x)) unsigned_char-out)

abbrev parts_volatile : shape.Shape-F Shape CType Sig → shape.Shape-F Bool Bool (Unit {0})
parts_volatile x = map-Shape Shape CType Sig Bool Bool (Unit {0})
    (fold-Shape Bool Bool (Unit {0}) of_element (λ t. t.volatile || t.shape) (λ s. tt))
    (fold-CType Bool Bool (Unit {0}) of_element (λ t. t.volatile || t.shape) (λ s. tt))
    (fold-Sig Bool Bool (Unit {0}) of_element (λ t. t.volatile || t.shape) (λ s. tt)) x

-- no access to it is an event
pub unseen : is_seen (Some (object_place unsigned_char)) ≡ false
unfolding is_volatile
unseen =
    fold_out-CType Bool Bool (Unit {0}) of_element (λ t. t.volatile || t.shape) (λ s. tt) unsigned_char
    ∙ fold_out-Shape Bool Bool (Unit {0}) of_element (λ t. t.volatile || t.shape) (λ s. tt) unsigned_char.shape ∙ ap (λ (x : shape.Shape-F Shape CType Sig). of_element (parts_volatile x)) unsigned_char-out

-- there when a function is opened
filled : (structures : List Structure) (v : Option Value) → (x : Option Value) × (xs : List (Option Value)) × (local_with structures v unsigned_char ≡ x ∷ xs)
filled structures (Some v) = (Some v, [], refl)
filled structures None = (None, [], ap (λ (n : ℕ). replicate n None) (count-Int structures unsigned_char int.UChar refl))

pub is_there : (p : Program) (args : List Value) (xs : List Named) (n k : ℕ) → length xs ≤ k → k < length xs + n → (x : Option Value) × (rest : List (Option Value)) × (slice_get (locals_with p args (xs ++ flag_locals n)) k ≡ Some (x ∷ rest))
is_there p args [] zero k h i = absurd (omega (arith, i))
is_there p [] [] (suc n) zero h i = let x = filled p.structures None in (x.0, x.1, ap Some x.2)
is_there p (v ∷ args) [] (suc n) zero h i = let x = filled p.structures (Some v) in (x.0, x.1, ap Some x.2)
is_there p [] [] (suc n) (suc k) h i = is_there p [] [] n k (omega arith) (omega (arith, i))
is_there p (v ∷ args) [] (suc n) (suc k) h i = is_there p args [] n k (omega arith) (omega (arith, i))
is_there p args (x ∷ xs) n zero h i = absurd (omega (arith, h))
is_there p [] (x ∷ xs) n (suc k) h i = is_there p [] xs n k (omega (arith, h)) (omega (arith, i))
is_there p (v ∷ args) (x ∷ xs) n (suc k) h i = is_there p args xs n k (omega (arith, h)) (omega (arith, i))
