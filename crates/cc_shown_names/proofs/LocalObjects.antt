-- Automatic objects that are declared one behind another: which the function has then, and what is known outside their scope.
use Rattle.std.proofs.Common.{◌≡◌, Bool, true, false, not, ◌||◌, List, [], ◌∷◌, ◌++◌, map, length, refl, ap, sym, ◌∙◌, append_assoc, append-nil}
use Rattle.std.specs.List.{list_all}
use Rattle.cc_type.specs.CcObjects.Linked.{with_automatic}
use Rattle.cc_type.specs.CcOperands.Qualified.{at_element, no_const, without_const}
use Rattle.cc_program.specs.Qualifiers.{of_element, is_const}
use Rattle.cc_program.specs.declared.types.CType.{CType}
use Rattle.cc_program.specs.declared.types.Shape.{Shape, Array, roll-Shape, out-roll-Shape}
use Rattle.cc_program.specs.declared.types.Shape.TheOpen as shape
use Rattle.cc_program.specs.declared.types.Shape.TheVariants as shape_rolls
use Rattle.cc_program.specs.declared.types.Sig.{Sig}
use Rattle.cc_program.proofs.QualifierLemmas.{parts_const, const-opens}
use Rattle.cc_program.proofs.TypeInduction.{TypeParts, with_shape, by_type}
use Rattle.cc_type.specs.CcScopes.State.{State, Scope, with_name, in_innermost, with_scopes, with_locals, outer_scopes, left}
use Rattle.cc_type.specs.CcScopes.declared.designated.Designated.TheVariants as means
use Rattle.cc_shown_expressions.specs.OperationNumbers.{Numbers}
use Rattle.cc_shown_expressions.specs.Numbers.{type_numbered, named_numbered}
use Rattle.cc_shown_expressions.proofs.Bases.{opens-as}
use Rattle.cc_shown_expressions.proofs.Kept.{const-numbered}
use Rattle.cc_type.specs.CcSyntax.Sound.{is_automatic}
use Rattle.cc_type.specs.CcSyntax.Types.{Named}
use Rattle.cc_type.proofs.CcSyntax.Prefixes.{both_true}
use Rattle.cc_shown_names.specs.Bodies.{with_local_objects}

-- ---- what is not const stays as it is

neither : (a b : Bool) → a || b ≡ false → (a ≡ false) × (b ≡ false)
neither true b h = absurd (cc)
neither false b h = (refl, h)

not-false : (b : Bool) → not b ≡ true → b ≡ false
not-false true h = absurd (cc)
not-false false h = refl

abbrev Stays : CType → Type 0
Stays t = is_const t ≡ false → without_const t ≡ t

abbrev NoClaim : Sig → Type 0
NoClaim s = Unit {0}

stays-plain : (t : CType) → t.constant ≡ false → no_const t ≡ t
stays-plain t h = ap (λ (b : Bool). record { constant = b; volatile = t.volatile; shape = t.shape }) (sym h)

stays-level : (c v : Bool) (x : shape.Shape-F Shape CType Sig) → TypeParts Stays NoClaim x → (c ≡ false) × (of_element (parts_const x) ≡ false) → without_const (with_shape c v (roll-Shape x)) ≡ with_shape c v (roll-Shape x)
unfolding at_element
stays-level c v (shape.Array of n) h k =
    opens-as no_const (with_shape c v (roll-Shape (shape.Array of n))) (shape.Array of n) (out-roll-Shape (shape.Array of n))
    ∙ ap (λ (e : CType). with_shape c v (Array e n)) (h k.1)
    ∙ ap (λ (s : Shape). with_shape c v s) (sym (shape_rolls.rolls-Array of n))
stays-level c v shape.Void h k = opens-as no_const (with_shape c v (roll-Shape shape.Void)) shape.Void (out-roll-Shape shape.Void) ∙ stays-plain (with_shape c v (roll-Shape shape.Void)) k.0
stays-level c v (shape.Int i) h k = opens-as no_const (with_shape c v (roll-Shape (shape.Int i))) (shape.Int i) (out-roll-Shape (shape.Int i)) ∙ stays-plain (with_shape c v (roll-Shape (shape.Int i))) k.0
stays-level c v (shape.Pointer to) h k = opens-as no_const (with_shape c v (roll-Shape (shape.Pointer to))) (shape.Pointer to) (out-roll-Shape (shape.Pointer to)) ∙ stays-plain (with_shape c v (roll-Shape (shape.Pointer to))) k.0
stays-level c v (shape.Struct i) h k = opens-as no_const (with_shape c v (roll-Shape (shape.Struct i))) (shape.Struct i) (out-roll-Shape (shape.Struct i)) ∙ stays-plain (with_shape c v (roll-Shape (shape.Struct i))) k.0
stays-level c v (shape.Func s) h k = opens-as no_const (with_shape c v (roll-Shape (shape.Func s))) (shape.Func s) (out-roll-Shape (shape.Func s)) ∙ stays-plain (with_shape c v (roll-Shape (shape.Func s))) k.0

stays-parts : (c v : Bool) (x : shape.Shape-F Shape CType Sig) → is_const (with_shape c v (roll-Shape x)) ≡ false → (c ≡ false) × (of_element (parts_const x) ≡ false)
stays-parts c v x h = neither c (of_element (parts_const x)) (sym (const-opens (with_shape c v (roll-Shape x)) ∙ ap (λ y. c || of_element (parts_const y)) (out-roll-Shape x)) ∙ h)

stays : (t : CType) → Stays t
stays = by_type Stays NoClaim (λ c v x h k. stays-level c v x h (stays-parts c v x k)) (λ x h. tt)

-- ---- the function's objects

pub objects-behind : (n : Numbers) (ls : List Named) (s : State) → list_all is_automatic ls ≡ true → (with_local_objects n ls s).locals ≡ s.locals ++ map (named_numbered n.structure) ls
objects-behind n [] s h = sym (append-nil s.locals)
objects-behind n (l ∷ ls) s h =
    let q = both_true (is_automatic l) (list_all is_automatic ls) h in
    let t = type_numbered n.structure l.1 in
    let plain : is_const t ≡ false = const-numbered n.structure l.1 ∙ not-false (is_const l.1) q.0 in
    objects-behind n ls (with_automatic l.0 t s) q.1
    ∙ ap (λ (t : CType). (s.locals ++ (l.0, t) ∷ []) ++ map (named_numbered n.structure) ls) (stays t plain)
    ∙ append_assoc s.locals ((l.0, t) ∷ []) (map (named_numbered n.structure) ls)

-- ---- outside their scope

outer-stays : (change : Scope → Scope) (scopes : List Scope) → outer_scopes (in_innermost change scopes) ≡ outer_scopes scopes
outer-stays change [] = refl
outer-stays change (scope ∷ outer) = refl

pub outside-stays : (n : Numbers) (ls : List Named) (s : State) → left (with_local_objects n ls s) ≡ with_locals (with_local_objects n ls s).locals (left s)
outside-stays n [] s = refl
outside-stays n (l ∷ ls) s =
    let t = type_numbered n.structure l.1 in
    outside-stays n ls (with_automatic l.0 t s)
    ∙ ap (λ (scopes : List Scope). with_scopes scopes (with_locals (with_local_objects n ls (with_automatic l.0 t s)).locals s))
    (outer-stays (λ scope. record { names = with_name l.0 (means.Automatic (length s.locals) t) scope.names; tags = scope.tags }) s.scopes)
