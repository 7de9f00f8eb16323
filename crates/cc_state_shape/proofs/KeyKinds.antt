-- The cells of each key of a program are of one type, and whether they hold addresses is told by the key's declared type; and so each function
-- gives values of a type.
use Rattle.std.proofs.Common.{arith, ◌≡◌, ◌||◌, ◌&&◌, ℕ, zero, suc, ◌+◌, ◌*◌, nat_le, Bool, true, false, true≢false, not, List, [], ◌∷◌, ◌++◌, Option, Some, None, slice_get, refl, sym, ap, ◌∙◌}
use Rattle.std.specs.Prelude.{if◌then◌else◌}
use Rattle.std.specs.List.{AllByRecursion}
use Rattle.std.proofs.lemmas.Option.{none-some, same_Some}
use Rattle.cc_program.proofs.TypeInduction.{with_shape, TypeParts, by_type}
use Rattle.cc_program.specs.declared.func.Func.{Func}
use Rattle.cc_program.specs.declared.program.Program.{Program}
use Rattle.cc_program.specs.declared.types.CType.{CType, fold-CType, fold_out-CType}
use Rattle.cc_program.specs.declared.types.Shape.{Shape, fold-Shape, fold_out-Shape, out-Shape, roll-Shape, out-roll-Shape, map-Shape}
use Rattle.cc_program.specs.declared.types.Shape.TheOpen as shape
use Rattle.cc_program.specs.declared.types.Sig.{Sig, fold-Sig}
use Rattle.cc_program.specs.declared.types.Structure.{Structure}
use Rattle.cc_state.specs.Shape.{IsCellType, OfScalar, OfElements, declared_type, object_ctype, local_ctype, member_ctype, ctype_of}
use Rattle.cc_state_reads.specs.CcStateFacts.declared.facts.Key.{Key}
use Rattle.cc_state_reads.specs.CcStateFacts.declared.facts.Key.TheVariants as key
use Rattle.cc_state_reads.specs.CcStateKeys.Keys.{scalars_step, are_scalars, has_object_key, has_local_key, has_member_key, local_keys, member_keys, keys_of}
use Rattle.cc_state_reads.specs.CcStateKeys.Lists.{only_if, made_from, all_from}
use Rattle.cc_state_reads.specs.Reads.{is_pointer}
use Rattle.cc_state_shape.specs.Empty.{addresses_step, holds_addresses}
use Rattle.cc_state_reads.proofs.CcSyntax.KindRolls.{parts_kind, kind-opens}
use Rattle.cc_state_reads.specs.CcSyntax.Kinds.{Kind, IsArray, IsFunction, bytes_in, is_small, array_kind, is_result, extent_kind, shape_kind, qualified_kind, kind_of, is_sig, extent_in}
use Rattle.cc_state_reads.specs.CcSyntax.Programs.{kind_in}
use Rattle.cc_state_reads.specs.CcSyntax.Registers.{is_register}
use Rattle.cc_state_reads.specs.CcSyntax.SameTypes.{is_void_shape}
use Rattle.cc_state_reads.specs.CcSyntax.Values.{ValueType, NoValue, Integer, pointer_shape, pointer_to, scalar_shape, scalar_value, result_value}

-- ---- the folds, opened

abbrev parts_scalars : shape.Shape-F Shape CType Sig → Bool
parts_scalars x = scalars_step (map-Shape Shape CType Sig Bool Bool (Unit {0})
    (λ s. fold-Shape Bool Bool (Unit {0}) scalars_step (λ t. t.shape) (λ s. tt) s) (λ t. fold-CType Bool Bool (Unit {0}) scalars_step (λ t. t.shape) (λ s. tt) t)
    (λ s. fold-Sig Bool Bool (Unit {0}) scalars_step (λ t. t.shape) (λ s. tt) s) x)

scalars_open : (t : CType) → are_scalars t ≡ parts_scalars (out-Shape t.shape)
unfolding are_scalars
scalars_open t = fold_out-CType Bool Bool (Unit {0}) scalars_step (λ t. t.shape) (λ s. tt) t ∙ fold_out-Shape Bool Bool (Unit {0}) scalars_step (λ t. t.shape) (λ s. tt) t.shape

abbrev parts_addresses : shape.Shape-F Shape CType Sig → Bool
parts_addresses x = addresses_step (map-Shape Shape CType Sig Bool Bool (Unit {0})
    (λ s. fold-Shape Bool Bool (Unit {0}) addresses_step (λ t. t.shape) (λ s. tt) s) (λ t. fold-CType Bool Bool (Unit {0}) addresses_step (λ t. t.shape) (λ s. tt) t)
    (λ s. fold-Sig Bool Bool (Unit {0}) addresses_step (λ t. t.shape) (λ s. tt) s) x)

addresses_open : (t : CType) → holds_addresses t ≡ parts_addresses (out-Shape t.shape)
unfolding holds_addresses
addresses_open t = fold_out-CType Bool Bool (Unit {0}) addresses_step (λ t. t.shape) (λ s. tt) t ∙ fold_out-Shape Bool Bool (Unit {0}) addresses_step (λ t. t.shape) (λ s. tt) t.shape

element_scalars : (of : CType) (n : ℕ) → parts_scalars (shape.Array of n) ≡ are_scalars of
unfolding are_scalars
element_scalars of n = refl

element_addresses : (of : CType) (n : ℕ) → parts_addresses (shape.Array of n) ≡ holds_addresses of
unfolding holds_addresses
element_addresses of n = refl

pointer_kind : (t : CType) (x : shape.Shape-F Shape CType Sig) → is_pointer (pointer_shape t x) ≡ true
pointer_kind t (shape.Func sig) = refl
pointer_kind t shape.Void = refl
pointer_kind t (shape.Int i) = refl
pointer_kind t (shape.Pointer to) = refl
pointer_kind t (shape.Array of n) = refl
pointer_kind t (shape.Struct s) = refl

pub scalar_addresses : (t : CType) (u : ValueType) → scalar_value t ≡ Some u → is_pointer u ≡ holds_addresses t
scalar_addresses t u e = by (out-Shape t.shape) refl e
  where
    by : (x : shape.Shape-F Shape CType Sig) → out-Shape t.shape ≡ x → scalar_shape x ≡ Some u → is_pointer u ≡ holds_addresses t
    by (shape.Int i) k h = ap is_pointer (sym (same_Some (Integer i) u h)) ∙ sym (addresses_open t ∙ ap parts_addresses k)
    by (shape.Pointer to) k h = ap is_pointer (sym (same_Some (pointer_to to) u h)) ∙ (pointer_kind to (out-Shape to.shape) ∙ sym (addresses_open t ∙ ap parts_addresses k))
    by shape.Void k h = absurd (none-some u h)
    by (shape.Array of n) k h = absurd (none-some u h)
    by (shape.Struct s) k h = absurd (none-some u h)
    by (shape.Func sig) k h = absurd (none-some u h)

-- ---- cells

-- the cells of a declared type, where it is one of scalars
abbrev pub HasCells : CType → Type 0
HasCells t = (u : ValueType) × IsCellType t u × (is_pointer u ≡ holds_addresses t)

cells_at : (t : CType) (x : shape.Shape-F Shape CType Sig) → out-Shape t.shape ≡ x → TypeParts (λ t. are_scalars t ≡ true → HasCells t) (λ s. Unit {0}) x → are_scalars t ≡ true → HasCells t
cells_at t (shape.Int i) e parts h = (Integer i, OfScalar (ap scalar_shape e), sym (addresses_open t ∙ ap parts_addresses e))
cells_at t (shape.Pointer to) e parts h = (pointer_to to, OfScalar (ap scalar_shape e), pointer_kind to (out-Shape to.shape) ∙ sym (addresses_open t ∙ ap parts_addresses e))
cells_at t (shape.Array of n) e parts h =
    let w = parts (sym (element_scalars of n) ∙ sym (scalars_open t ∙ ap parts_scalars e) ∙ h) in
    (w.0, OfElements of n e w.1, w.2 ∙ sym (addresses_open t ∙ (ap parts_addresses e ∙ element_addresses of n)))
cells_at t shape.Void e parts h = absurd (true≢false (sym h ∙ (scalars_open t ∙ ap parts_scalars e)))
cells_at t (shape.Struct s) e parts h = absurd (true≢false (sym h ∙ (scalars_open t ∙ ap parts_scalars e)))
cells_at t (shape.Func sig) e parts h = absurd (true≢false (sym h ∙ (scalars_open t ∙ ap parts_scalars e)))

pub has_cells : (t : CType) → are_scalars t ≡ true → HasCells t
has_cells = by_type (λ t. are_scalars t ≡ true → HasCells t) (λ s. Unit {0})
    (λ constant volatile x parts. cells_at (with_shape constant volatile (roll-Shape x)) x (out-roll-Shape x) parts) (λ x parts. tt)

-- ---- the keys of a program

module _ (p : Program) where
  abbrev pub IsTypedKey : Key → Type 0
  IsTypedKey k = (c : CType) × (ctype_of p k ≡ Some c) × (are_scalars c ≡ true)

each_append : {A : Type 0} (P : A → Type 0) (xs ys : List A) → AllByRecursion P xs → AllByRecursion P ys → AllByRecursion P (xs ++ ys)
each_append P [] ys h k = k
each_append P (x ∷ xs) ys h k = (h.0, each_append P xs ys h.1 k)

module _ {A B : Type 0} (P : B → Type 0) (passes : ℕ → A → Bool) (make : ℕ → B) where
  only_each : (n : ℕ) (b : Bool) → (b ≡ true → P (make n)) → AllByRecursion P (only_if b (make n))
  only_each n true h = (h refl, tt)
  only_each n false h = tt

  made_each : (n : ℕ) (xs : List A) → ((i j : ℕ) (x : A) → slice_get xs i ≡ Some x → j ≡ n + i → passes j x ≡ true → P (make j)) → AllByRecursion P (made_from passes make n xs)
  made_each n [] h = tt
  made_each n (x ∷ xs) h =
      each_append P (only_if (passes n x) (make n)) (made_from passes make (n + 1) xs) (only_each n (passes n x) (λ t. h zero n x refl (omega arith) t))
      (made_each (n + 1) xs (λ i j y e q t. h (suc i) j y e (omega (arith, q)) t))

module _ {A B : Type 0} (P : B → Type 0) (lists : ℕ → A → List B) where
  listed_each : (n : ℕ) (xs : List A) → ((i j : ℕ) (x : A) → slice_get xs i ≡ Some x → j ≡ n + i → AllByRecursion P (lists j x)) → AllByRecursion P (all_from lists n xs)
  listed_each n [] h = tt
  listed_each n (x ∷ xs) h = each_append P (lists n x) (all_from lists (n + 1) xs) (h zero n x refl (omega arith)) (listed_each (n + 1) xs (λ i j y e q. h (suc i) j y e (omega (arith, q))))

first_true : (a b : Bool) → (a && b) ≡ true → a ≡ true
first_true true b h = refl
first_true false b h = h

from_zero : (i j : ℕ) → j ≡ 0 + i → i ≡ j
from_zero i j q = omega (arith, q)

module _ (p : Program) where
  locals_typed : (j : ℕ) (f : Func) → slice_get p.funcs j ≡ Some f → AllByRecursion (IsTypedKey p) (local_keys j f)
  locals_typed j f own = made_each (IsTypedKey p) (has_local_key f) (key.Local j) 0 f.locals
      (λ i r l e q t. (l.1, ap (local_ctype r) own ∙ ap declared_type (ap (slice_get f.locals) (sym (from_zero i r q)) ∙ e), first_true (are_scalars l.1) (not (is_register f r)) t))

  members_typed : (j : ℕ) (s : Structure) → slice_get p.structures j ≡ Some s → AllByRecursion (IsTypedKey p) (member_keys j s)
  members_typed j s own = made_each (IsTypedKey p) has_member_key (key.Member j) 0 s.members
      (λ i m n e q t. (n.1, ap (member_ctype m) own ∙ ap declared_type (ap (slice_get s.members) (sym (from_zero i m q)) ∙ e), t))

  pub typed_keys : AllByRecursion (IsTypedKey p) (keys_of p)
  typed_keys =
      each_append (IsTypedKey p) (made_from has_object_key key.Object 0 p.objects) (all_from local_keys 0 p.funcs ++ all_from member_keys 0 p.structures)
      (made_each (IsTypedKey p) has_object_key key.Object 0 p.objects (λ i j o e q t. (o.ctype, ap object_ctype (ap (slice_get p.objects) (sym (from_zero i j q)) ∙ e), t)))
      (each_append (IsTypedKey p) (all_from local_keys 0 p.funcs) (all_from member_keys 0 p.structures)
      (listed_each (IsTypedKey p) local_keys 0 p.funcs (λ i j f e q. locals_typed j f (ap (slice_get p.funcs) (sym (from_zero i j q)) ∙ e)))
      (listed_each (IsTypedKey p) member_keys 0 p.structures (λ i j s e q. members_typed j s (ap (slice_get p.structures) (sym (from_zero i j q)) ∙ e))))

-- ---- the results of functions

sized_result : (q b : Bool) (k : ℕ) → is_result (qualified_kind q (if b then Some (IsArray k) else None)) ≡ false
sized_result true true k = refl
sized_result true false k = refl
sized_result false true k = refl
sized_result false false k = refl

array_result : (q : Bool) (n : ℕ) (size : Option ℕ) → is_result (qualified_kind q (array_kind n size)) ≡ false
array_result q n None = refl
array_result q n (Some m) = sized_result q (nat_le 1 n && (nat_le n 65535 && is_small m)) (n * m)

struct_result : (q : Bool) (o : Option (Option ℕ)) → is_result (qualified_kind q (extent_kind o)) ≡ false
struct_result q None = refl
struct_result q (Some None) = refl
struct_result q (Some (Some n)) = refl

function_result : (q good : Bool) → is_result (qualified_kind q (if good then Some IsFunction else None)) ≡ false
function_result true true = refl
function_result true false = refl
function_result false true = refl
function_result false false = refl

abbrev value_in : shape.Shape-F Shape CType Sig → Option ValueType
value_in x = if is_void_shape x then Some NoValue else scalar_shape x

module _ (p : Program) where
  abbrev kinds : shape.Shape-F (Option Kind) (Option Kind) Bool → Option Kind
  kinds x = shape_kind p.target (extent_in p.structures p.target) x

  array_by : (q : Bool) (o : Option Kind) (n : ℕ) → is_result (qualified_kind q (kinds (shape.Array o n))) ≡ false
  array_by q None n = refl
  array_by q (Some k) n = array_result q n (bytes_in k)

  -- an array, a structure and a function are no results
  opened : (t : CType) (x : shape.Shape-F Shape CType Sig) → out-Shape t.shape ≡ x → kind_in p t ≡ qualified_kind (t.constant || t.volatile) (kinds (parts_kind p.target (extent_in p.structures p.target) x))
  opened t x e = kind-opens p.target (extent_in p.structures p.target) t ∙ ap (λ y. qualified_kind (t.constant || t.volatile) (kinds (parts_kind p.target (extent_in p.structures p.target) y))) e

  pub has_result : (t : CType) → is_result (kind_in p t) ≡ true → (u : ValueType) × (result_value t ≡ Some u) × (is_pointer u ≡ holds_addresses t)
  has_result t h = by (out-Shape t.shape) refl
    where
      none : (x : shape.Shape-F Shape CType Sig) → out-Shape t.shape ≡ x → is_result (qualified_kind (t.constant || t.volatile) (kinds (parts_kind p.target (extent_in p.structures p.target) x))) ≡ false → ⊥
      none x e g = true≢false (sym h ∙ (ap is_result (opened t x e) ∙ g))

      by : (x : shape.Shape-F Shape CType Sig) → out-Shape t.shape ≡ x → (u : ValueType) × (result_value t ≡ Some u) × (is_pointer u ≡ holds_addresses t)
      by shape.Void e = (NoValue, ap value_in e, sym (addresses_open t ∙ ap parts_addresses e))
      by (shape.Int i) e = (Integer i, ap value_in e, sym (addresses_open t ∙ ap parts_addresses e))
      by (shape.Pointer to) e = (pointer_to to, ap value_in e, pointer_kind to (out-Shape to.shape) ∙ sym (addresses_open t ∙ ap parts_addresses e))
      by (shape.Array of n) e = absurd (none (shape.Array of n) e (array_by (t.constant || t.volatile) (kind_of p.target (extent_in p.structures p.target) of) n))
      by (shape.Struct i) e = absurd (none (shape.Struct i) e (struct_result (t.constant || t.volatile) (extent_in p.structures p.target i)))
      by (shape.Func sig) e = absurd (none (shape.Func sig) e (function_result (t.constant || t.volatile) (is_sig p.target (extent_in p.structures p.target) sig)))
