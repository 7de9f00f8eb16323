-- What a sound program has is as it was behind the numbers of its unit and ids that give each name its own number again; and nothing
-- speaks of a handler.
use Rattle.std.proofs.Common.{◌≡◌, ◌∙◌, ◌⊎◌, inl, inr, ◌+◌, ◌<◌, ℕ, Bool, true, false, true≢false, cond, List, [], ◌∷◌, length, map, flat_map, Option, Some, None, is_some, slice_get, refl, ap, sym, subst, arith}
use Rattle.std.specs.Prelude.{nat_eq, nat_lt, ◌&&◌}
use Rattle.std.specs.List.{list_all, list_any}
use Rattle.std.proofs.lemmas.Bool.{eqb-true, ltb-true, ltb-false}
use Rattle.cc_expression_trees.proofs.Levels.{sig-roll}
use Rattle.cc_program.proofs.Each.{Each}
use Rattle.cc_program.specs.declared.func.Func.{Func}
use Rattle.cc_program.specs.declared.object.Object.{Object}
use Rattle.cc_program.specs.declared.program.Program.{Program}
use Rattle.cc_program.specs.declared.stmt.Stmt.{Stmt}
use Rattle.cc_program.specs.declared.types.CType.{CType}
use Rattle.cc_program.specs.declared.types.Shape.{out-Shape, Func as FuncShape}
use Rattle.cc_program.specs.declared.types.Shape.TheOpen as shape
use Rattle.cc_program.specs.declared.types.Shape.TheVariants.{outs-Func}
use Rattle.cc_program.specs.declared.types.Sig.{Sig, out-Sig, roll-out-Sig}
use Rattle.cc_program.specs.declared.value.Leaf.{Leaf}
use Rattle.cc_type.specs.CcOperands.Qualified.{plain}
use Rattle.cc_shown_declarations.specs.Numbers.{leaf_numbered}
use Rattle.cc_shown_effects.specs.Numbers.{stmt_numbered}
use Rattle.cc_shown_expressions.specs.KnownNames.{TypesStand}
use Rattle.cc_shown_expressions.specs.Numbers.{sig_numbered}
use Rattle.cc_shown_expressions.proofs.Identity.{stays}
use Rattle.cc_shown_expressions.proofs.Numbering.{level-at}
use Rattle.cc_shown_expressions.proofs.Stand.{types-stand}
use Rattle.cc_shown_expressions.proofs.Standing.{Stands}
use Rattle.cc_printed_programs.specs.Kept.{AreKept}
use Rattle.cc_shown_declarations.specs.UnitNumbers.{first_function, device_number}
use Rattle.cc_printed_programs.specs.Numbers.{unit_numbers, own_numbers}
use Rattle.cc_printed_programs.specs.Returning.{Returns, HoldsOfNames}
use Rattle.cc_printed_programs.specs.Units.{names_shown}
use Rattle.cc_printed_programs.proofs.ShownLists.{get-in, within}
use Rattle.cc_printed_programs.proofs.Own.{stmt-own, leaf-own}
use Rattle.cc_printed_programs.proofs.Statements.{StmtsCome, body-comes}
use Rattle.cc_printed_programs.proofs.Types.{comes, sig-back}
use Rattle.cc_printed_programs.proofs.UnitNames.{Shown, NamedDevice, AFunction, AnObject, NumberedDevice, shown-at}
use Rattle.cc_printed_programs.proofs.Values.{LeavesCome, initial-comes}
use Rattle.cc_structures.proofs.Elements.{In, in-any, in-cases}
use Rattle.cc_type.proofs.CcSyntax.Parts.{all_at}
use Rattle.cc_type.specs.CcSyntax.Kinds.{Kind, is_object_type, is_sig, is_plain_scalar, extent_in}
use Rattle.cc_type.specs.CcSyntax.Lists.{come_first}
use Rattle.cc_type.specs.CcSyntax.Normal.{has_name, count_named}
use Rattle.cc_type.specs.CcSyntax.Operators.{is_handler}
use Rattle.cc_type.specs.CcSyntax.Programs.{kind_in, IsInitial}
use Rattle.cc_type.specs.CcSyntax.Sound.{IsSound, IsFunc, is_main_there}
use Rattle.cc_type.specs.CcUnit.Mentioned.{mentioned, in_kind}
use Rattle.cc_type.specs.CcUnit.Renumbered.{type_renumbered, sig_renumbered}
use Rattle.cc_type.specs.CcUnit.declared.ids.Ids.{Ids}
use Rattle.cc_type.specs.CcUnit.declared.unit.UnitName.{UnitName}

not-true : (b : Bool) → (b ≡ true → ⊥) → b ≡ false
not-true true h = absurd (h refl)
not-true false h = refl

each-in : (M : ℕ → Type 0) (xs : List ℕ) (x : ℕ) → Each M xs → In x xs → M x
each-in M [] x h i = absurd i
each-in M (y ∷ ys) x h (inl e) = subst M e h.0
each-in M (y ∷ ys) x h (inr i) = each-in M ys x h.1 i

in-flat : {A : Type 0} (f : A → List ℕ) (xs : List A) (k : ℕ) → In k (flat_map f xs) → (x : A) × (In x xs) × (In k (f x))
in-flat f [] k h = absurd h
in-flat {A} f (x ∷ xs) k h = by (in-cases (f x) (flat_map f xs) k h) (in-flat f xs k)
  where
    by : In k (f x) ⊎ In k (flat_map f xs) → (In k (flat_map f xs) → (y : A) × (In y xs) × (In k (f y))) → (y : A) × (In y (x ∷ xs)) × (In k (f y))
    by (inl i) rest = (x, inl refl, i)
    by (inr i) rest = let r = rest i in (r.0, inr r.1, r.2)

object-some : (k : Option Kind) → is_object_type k ≡ true → is_some k ≡ true
object-some None h = absurd (true≢false (sym h))
object-some (Some k) h = refl

mapped-all : {A B : Type 0} (test : B → Bool) (f : A → B) (xs : List A) → list_all (λ (x : A). test (f x)) xs ≡ true → list_all test (map f xs) ≡ true
mapped-all test f [] h = refl
mapped-all test f (x ∷ xs) h = by (test (f x)) refl h (mapped-all test f xs)
  where
    by : (b : Bool) → test (f x) ≡ b → b && list_all (λ x. test (f x)) xs ≡ true → (list_all (λ x. test (f x)) xs ≡ true → list_all test (map f xs) ≡ true) → test (f x) && list_all test (map f xs) ≡ true
    by true e k rest = ap (λ (b : Bool). b && list_all test (map f xs)) e ∙ rest k
    by false e k rest = absurd (true≢false (sym k))

leaves-own : (ls : List Leaf) → map (leaf_numbered own_numbers) ls ≡ ls
leaves-own [] = refl
leaves-own (l ∷ ls) = ap (λ (m : Leaf). m ∷ map (leaf_numbered own_numbers) ls) (leaf-own l) ∙ ap (λ (ms : List Leaf). l ∷ ms) (leaves-own ls)

stmts-own : (ss : List Stmt) → map (stmt_numbered own_numbers) ss ≡ ss
stmts-own [] = refl
stmts-own (s ∷ ss) = ap (λ (m : Stmt). m ∷ map (stmt_numbered own_numbers) ss) (stmt-own s) ∙ ap (λ (ms : List Stmt). s ∷ ms) (stmts-own ss)

sig-own : (s : Sig) → sig_numbered own_numbers.structure s ≡ s
sig-own s =
    let t : CType = plain (FuncShape s) in
    let opened : shape.Func (sig_numbered own_numbers.structure s) ≡ shape.Func s = sym (level-at own_numbers.structure t (shape.Func s) (outs-Func s)) ∙ (ap (λ (u : CType). out-Shape u.shape) (stays t) ∙ outs-Func s) in
    cc

module _ (p : Program) (function_at object_at : ℕ → ℕ) (sound : IsSound p) (order : come_first has_name p.devices ≡ true) (ids : Ids) (returns : Returns p ids (unit_numbers p) own_numbers) where
  -- ---- types

  type-kept : (t : CType) → Stands p t → type_renumbered ids.structures t ≡ t
  type-kept t h = sym (ap (type_renumbered ids.structures) (stays t)) ∙ (comes p ids.structures (unit_numbers p).structure own_numbers.structure returns.structures t h ∙ stays t)

  sig-kept : (s : Sig) → is_sig p.target (extent_in p.structures p.target) s ≡ true → sig_renumbered ids.structures s ≡ s
  sig-kept s h = sym (ap (sig_renumbered ids.structures) (sig-own s)) ∙ (sig-back p ids.structures (unit_numbers p).structure own_numbers.structure returns.structures s h ∙ sig-own s)

  own-function : (i : ℕ) (f : Func) → slice_get p.funcs i ≡ Some f → IsFunc p f
  own-function i f e = all_at (IsFunc p) p.funcs i f e sound.funcs

  sig-stands : (f : Func) → IsFunc p f → is_sig p.target (extent_in p.structures p.target) f.sig ≡ true
  sig-stands f own =
      let ps = mapped-all is_plain_scalar (kind_in p) (out-Sig f.sig).params own.parameters in
      sym (ap (is_sig p.target (extent_in p.structures p.target)) (roll-out-Sig f.sig)) ∙ (sig-roll p.structures (length p.structures) p.target (out-Sig f.sig) ∙ rw (own.result, ps) refl)

  some-function : (i : ℕ) × (f : Func) × (slice_get p.funcs i ≡ Some f)
  some-function = by (slice_get p.funcs p.main) refl sound.main
    where
      by : (o : Option Func) → slice_get p.funcs p.main ≡ o → is_main_there o ≡ true → (i : ℕ) × (f : Func) × (slice_get p.funcs i ≡ Some f)
      by None e h = absurd (true≢false (sym h))
      by (Some f) e h = (p.main, f, e)

  stand : TypesStand p some-function.1
  stand = types-stand p sound some-function.0 some-function.1 some-function.2

  -- ---- no number of a handler

  abbrev NoHandler : ℕ → Type 0
  NoHandler k = (i : ℕ) (f : Func) → slice_get p.funcs i ≡ Some f → is_handler f ≡ true → k ≡ first_function p + i → ⊥

  device-number-other : (i j : ℕ) → j < length p.funcs → device_number p i ≡ first_function p + j → ⊥
  device-number-other i j l h = by (nat_lt i (count_named p.devices)) refl
    where
      by : (b : Bool) → nat_lt i (count_named p.devices) ≡ b → ⊥
      by true e =
          let low = ltb-true i (count_named p.devices) e in
          let s : device_number p i ≡ i = ap (λ (b : Bool). cond b i (length p.funcs + (length p.objects + i))) e in
          omega (arith, low, s, h)
      by false e =
          let high = ltb-false i (count_named p.devices) e in
          let s : device_number p i ≡ length p.funcs + (length p.objects + i) = ap (λ (b : Bool). cond b i (length p.funcs + (length p.objects + i))) e in
          omega (arith, high, s, h, l)

  some-same : (f g : Func) → Some f ≡ Some g → f ≡ g
  some-same f g e = cc e

  holds : HoldsOfNames p (unit_numbers p) NoHandler
  holds = record {
    objects = λ i o e j f g k h. let l = within p.funcs j f g in omega (arith, l, h);
    devices = λ i d e j f g k h. device-number-other i j (within p.funcs j f g) h;
    funcs = λ i f e plain j g h k s.
        let same : i ≡ j = omega (arith, s) in
        let own : f ≡ g = some-same f g (sym e ∙ (ap (slice_get p.funcs) same ∙ h)) in
        true≢false (sym k ∙ (ap is_handler (sym own) ∙ plain));
  }

  body : (i : ℕ) (f : Func) → slice_get p.funcs i ≡ Some f → StmtsCome p ids (unit_numbers p) own_numbers returns NoHandler holds f f.body
  body i f e = body-comes p ids (unit_numbers p) own_numbers returns NoHandler holds f f.body (own-function i f e).body

  value : (i : ℕ) (o : Object) → slice_get p.objects i ≡ Some o → LeavesCome p ids (unit_numbers p) own_numbers returns NoHandler holds o.init
  value i o e = initial-comes p ids (unit_numbers p) own_numbers returns NoHandler holds o.ctype o.init (all_at (λ (o : Object). IsInitial p o.ctype o.init) p.objects i o e sound.initial)

  spoken : (k j : ℕ) (n : UnitName) → Shown p function_at object_at order j n → In k (in_kind n.kind) → NoHandler k
  spoken k j n (NamedDevice d e f h low s) i = absurd (subst (λ (m : UnitName). In k (in_kind m.kind)) s i)
  spoken k j n (AFunction a f e h s) i = each-in NoHandler _ k (body a f e).said (subst (λ (m : UnitName). In k (in_kind m.kind)) s i)
  spoken k j n (AnObject a o e h s) i = each-in NoHandler _ k (value a o e).said (subst (λ (m : UnitName). In k (in_kind m.kind)) s i)
  spoken k j n (NumberedDevice a d e h high g s) i = absurd (subst (λ (m : UnitName). In k (in_kind m.kind)) s i)

  unused : (i : ℕ) (f : Func) → slice_get p.funcs i ≡ Some f → is_handler f ≡ true → list_any (nat_eq (first_function p + i)) (mentioned (names_shown p function_at object_at)) ≡ false
  unused i f e h = not-true (list_any (nat_eq (first_function p + i)) (mentioned (names_shown p function_at object_at))) (λ u.
      let r = in-any (nat_eq (first_function p + i)) (mentioned (names_shown p function_at object_at)) u in
      let q = in-flat (λ (n : UnitName). in_kind n.kind) (names_shown p function_at object_at) r.0 r.1.0 in
      let at = get-in (names_shown p function_at object_at) q.0 q.1 in
      spoken r.0 at.0 q.0 (shown-at p function_at object_at order at.0 q.0 at.1) q.2 i f e h (sym (eqb-true (first_function p + i) r.0 r.1.1)))

  pub are-kept : AreKept p ids (names_shown p function_at object_at)
  are-kept = record {
    members = λ s i m j. let a = get-in p.structures s i in let b = get-in s.members m j in type-kept m.1 (stand.members a.0 b.0 s m a.1 b.1).1;
    objects = λ i o e. type-kept o.ctype (object-some (kind_in p o.ctype) (stand.objects i o e));
    values = λ i o e. (value i o e).back ∙ leaves-own o.init;
    sigs = λ i f e. sig-kept f.sig (sig-stands f (own-function i f e));
    locals = λ i f e l j. let a = get-in f.locals l j in type-kept l.1 (object-some (kind_in p l.1) ((types-stand p sound i f e).locals a.0 l a.1));
    bodies = λ i f e. (body i f e).back ∙ stmts-own f.body;
    handlers = unused;
  }
