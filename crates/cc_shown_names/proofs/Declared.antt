-- The declarators of definitions give the functions of a sound program, with their parameters in a scope of their own.
use Rattle.std.proofs.Common.{◌≡◌, ℕ, suc, Bool, true, false, not, ◌||◌, List, [], ◌∷◌, ◌++◌, map, length, take, drop, Some, None, Ok, refl, ap, sym, ◌∙◌, slice_get, take-append-drop, append_assoc, eqb-true}
use Rattle.std.specs.List.{list_all, list_any}
use Rattle.std.specs.Option.{is_some}
use Rattle.std.specs.Str.{bytes_eq}
use Rattle.std.proofs.lemmas.List.{map-append}
use Rattle.std.proofs.lemmas.List.Folds.{list_any-append}
use Rattle.cc_unit_trees.specs.Units.{parameters_of}
use Rattle.cc_type.specs.CcOperands.Qualified.{plain, unqualified}
use Rattle.cc_type.specs.CcTypedTerms.Primary.{intrinsic_named, is_intrinsic}
use Rattle.cc_program.specs.declared.func.Func.{Func}
use Rattle.cc_program.specs.declared.program.Program.{Program}
use Rattle.cc_program.specs.declared.program.Roles.{Roles}
use Rattle.cc_program.specs.declared.types.CType.{CType}
use Rattle.cc_program.specs.declared.types.Shape.{Shape}
use Rattle.cc_program.specs.declared.types.Sig.{out-Sig}
use Rattle.cc_type.specs.CcScopes.State.{State, Scope, Name, name_or_none, structures_of, layouts_of}
use Rattle.cc_type.specs.CcScopes.declared.designated.Designated.TheVariants as means
use Rattle.cc_type.specs.CcSpecifiers.Declarators.{type_found}
use Rattle.cc_type.specs.CcSpecifiers.Derivations.{in_definition}
use Rattle.cc_type.specs.CcSpecifiers.declared.derivation.Derivation.TheVariants as to
use Rattle.cc_type.specs.CcSpecifiers.declared.derivation.Parameter.{Parameter}
use Rattle.cc_type.specs.CcSyntax.Kinds.{is_plain_scalar}
use Rattle.cc_type.specs.CcSyntax.Names.{local_names, file_names}
use Rattle.cc_type.specs.CcSyntax.Programs.{kind_in}
use Rattle.cc_type.specs.CcSyntax.SameTypes.{same_shape}
use Rattle.cc_type.specs.CcSyntax.Sizes.{AreSized}
use Rattle.cc_type.specs.CcSyntax.Sound.{IsSound, IsFunc, are_parameters}
use Rattle.cc_type.specs.CcSyntax.Types.{Named}
use Rattle.cc_type.proofs.CcSyntax.Parts.{all_at}
use Rattle.cc_type.proofs.CcSyntax.Prefixes.{both_true}
use Rattle.cc_type.proofs.CcSyntax.SameLemmas.{and_true, shape_of_same}
use Rattle.cc_tree.specs.declared.at.At.{At}
use Rattle.cc_tree.specs.declared.tree.Declr.{Declr}
use Rattle.cc_type.specs.Functions.{local_of, locals_of}
use Rattle.cc_expression_trees.specs.Types.{Function, Declares}
use Rattle.cc_program.specs.CcWords.Names.{is_name, are_distinct}
use Rattle.cc_shown_names.proofs.Names.{own-name}
use Rattle.cc_shown_declarations.specs.Parameters.{Entry, entry_numbered, entry_of, entry_names, HaveNewNames, locals_from, scope_of}
use Rattle.cc_shown_declarations.proofs.Functions.{are-scalars, is-declared}
use Rattle.cc_shown_names.specs.Functions.{names_from, parameters_scope, IsDefinition}
use Rattle.cc_shown_names.proofs.Parameters.{taken-at}
use Rattle.cc_shown_expressions.specs.OperationNumbers.{Numbers}
use Rattle.cc_shown_expressions.specs.Known.{KnowsStructures}
use Rattle.cc_shown_expressions.specs.Numbers.{type_numbered, named_numbered}
use Rattle.cc_shown_expressions.proofs.Standing.{scalar-plain}

-- the declarators of a program's definitions give its functions, wherever the structures are known
abbrev pub DeclaresFunctions : Program → Numbers → Type 0
DeclaresFunctions p n = (s : State) → KnowsStructures p n.structure s → (i : ℕ) (f : Func) → slice_get p.funcs i ≡ Some f → (b : CType) (d : At Declr) → Declares p.structures b d.node (Function f.name (parameters_of f)) (out-Sig f.sig).result → IsDefinition p f n s b d

abbrev entry : Named → Entry
entry l = (Some l.0, l.1)

-- ---- their types

module _ (p : Program) where
  type-is : (t u : CType) → is_plain_scalar (kind_in p t) ≡ true → t.shape ≡ u.shape → unqualified u ≡ t
  type-is t u h e =
      let q = scalar-plain p t h in
      ap (λ (s : Shape). plain s) (sym e) ∙ ap (λ (b : Bool). record { constant = b; volatile = false; shape = t.shape }) (sym q.0) ∙ ap (λ (b : Bool). record { constant = t.constant; volatile = b; shape = t.shape }) (sym q.1)

  types-are : (ts : List CType) (ls : List Named) → are_parameters ts ls ≡ true → list_all (λ t. is_plain_scalar (kind_in p t)) ts ≡ true → map (λ (e : Entry). unqualified e.1) (map entry (take (length ts) ls)) ≡ ts
  types-are [] [] h k = refl
  types-are [] (l ∷ ls) h k = refl
  types-are (t ∷ ts) [] h k = absurd (cc)
  types-are (t ∷ ts) (l ∷ ls) h k =
      let a = both_true (same_shape t.shape l.1.shape) (are_parameters ts ls) h in
      let b = both_true (is_plain_scalar (kind_in p t)) (list_all (λ t. is_plain_scalar (kind_in p t)) ts) k in
      ap (λ u. u ∷ map (λ (e : Entry). unqualified e.1) (map entry (take (length ts) ls))) (type-is t l.1 b.0 (shape_of_same t l.1 a.0)) ∙ ap (λ us. t ∷ us) (types-are ts ls a.1 b.1)

-- ---- their names

names-are : (ls : List Named) → entry_names (map entry ls) ≡ local_names ls
names-are [] = refl
names-are (l ∷ ls) = ap (λ xs. l.0 ∷ xs) (names-are ls)

all-named : (ls : List Named) → list_all (λ (e : Entry). is_some e.0) (map entry ls) ≡ true
all-named [] = refl
all-named (l ∷ ls) = all-named ls

not-any : (a b : Bool) → not (a || b) ≡ true → not a ≡ true
not-any true b h = absurd (cc)
not-any false b h = refl

front-distinct : (xs ys : List Name) → are_distinct (xs ++ ys) ≡ true → are_distinct xs ≡ true
front-distinct [] ys h = refl
front-distinct (x ∷ xs) ys h =
    let q = both_true (not (list_any (bytes_eq x) (xs ++ ys))) (are_distinct (xs ++ ys)) h in
    and_true (not (list_any (bytes_eq x) xs)) (are_distinct xs) (not-any (list_any (bytes_eq x) xs) (list_any (bytes_eq x) ys) (ap not (sym (list_any-append (bytes_eq x) xs ys)) ∙ q.0)) (front-distinct xs ys q.1)

first-distinct : (ls : List Named) (k : ℕ) (ys : List Name) → are_distinct (local_names ls ++ ys) ≡ true → are_distinct (local_names (take k ls)) ≡ true
first-distinct ls k ys h =
    front-distinct (local_names (take k ls)) (local_names (drop k ls) ++ ys)
    (ap are_distinct (sym (append_assoc (local_names (take k ls)) (local_names (drop k ls)) ys) ∙ ap (λ xs. xs ++ ys) (sym (map-append (λ (l : Named). l.0) (take k ls) (drop k ls)) ∙ ap local_names (take-append-drop k ls))) ∙ h)

no-intrinsics : (roles : Roles) (ls : List Named) → ((k : ℕ) (l : Named) → slice_get ls k ≡ Some l → intrinsic_named roles l.0 ≡ None) → list_all (λ x. not (is_intrinsic roles x)) (local_names ls) ≡ true
no-intrinsics roles [] h = refl
no-intrinsics roles (l ∷ ls) h =
    and_true (not (is_intrinsic roles l.0)) (list_all (λ x. not (is_intrinsic roles x)) (local_names ls)) (ap (λ o. not (is_some o)) (h 0 l refl)) (no-intrinsics roles ls (λ k m e. h (suc k) m e))

-- ---- their scope, and the locals that they are

module _ (number : ℕ → ℕ) where
  scope-from : (i : ℕ) (ls : List Named) → locals_from i (map (entry_numbered number) (map entry ls)) ≡ names_from number i ls
  scope-from i [] = refl
  scope-from i (l ∷ ls) = ap (λ names. (l.0, means.Automatic i (type_numbered number l.1)) ∷ names) (scope-from (suc i) ls)

  scope-is : (ls : List Named) → scope_of (map (entry_numbered number) (map entry ls)) ≡ parameters_scope number ls
  scope-is ls = ap (λ names. record { names = names; tags = [] }) (scope-from 0 ls)

  abbrev back : Entry → Named
  back e = (name_or_none e.0, e.1)

  locals-back : (ps : List Parameter) → locals_of ps ≡ map back (map entry_of ps)
  locals-back [] = refl
  locals-back (q ∷ ps) = ap (λ ls. local_of q ∷ ls) (locals-back ps)

  back-is : (ls : List Named) → map back (map (entry_numbered number) (map entry ls)) ≡ map (named_numbered number) ls
  back-is [] = refl
  back-is (l ∷ ls) = ap (λ ms. named_numbered number l ∷ ms) (back-is ls)

module _ (p : Program) (n : Numbers) (sound : IsSound p) (sized : AreSized p.structures p.target) where
  new-names : (f : Func) → IsFunc p f → HaveNewNames p.roles (parameters_of f)
  new-names f own =
      let ls = take f.params f.locals in
      let all = (both_true (list_all is_name (local_names f.locals ++ file_names p)) (are_distinct (local_names f.locals ++ file_names p)) own.names).1 in (
        ap are_distinct (names-are ls) ∙ first-distinct f.locals f.params (file_names p) all,
        ap (λ xs. list_all (λ x. not (is_intrinsic p.roles x)) xs) (names-are ls) ∙ no-intrinsics p.roles ls (λ k l e. (own-name p f own.names k l (taken-at f.locals f.params k l e).1).intrinsic),
      )

  pub functions-declared : DeclaresFunctions p n
  functions-declared s known i f there b d h =
      let own = all_at (IsFunc p) p.funcs i f there sound.funcs in
      let ls = take f.params f.locals in
      let ts = (out-Sig f.sig).params in
      let count : f.params ≡ length ts = eqb-true f.params (length ts) own.count in
      let types : map (λ (e : Entry). unqualified e.1) (parameters_of f) ≡ ts =
      ap (λ k. map (λ (e : Entry). unqualified e.1) (map entry (take k f.locals))) count ∙ types-are p ts f.locals own.first own.parameters in
      let q = is-declared p n.structure p.roles sized s known f.sig f.name (parameters_of f) types own.result (are-scalars p (parameters_of f) ts types own.parameters) in_definition (new-names f own) (all-named ls) b d.node h d.at in
      let scope = scope-is n.structure ls in
      record {
        parameters = q.parameters;
        are = locals-back n.structure q.parameters ∙ ap (map (back n.structure)) q.are ∙ back-is n.structure ls;
        place = q.place;
        outer = q.outer;
        is = q.is ∙ ap (λ (z : Scope). Ok (record { name = Some f.name; derivations = record { at = q.place; node = to.Function q.parameters z } ∷ q.outer }, s)) scope;
        typed = ap (λ (z : Scope). type_found p.target (structures_of s) (layouts_of s) in_definition (type_numbered n.structure b) (record { at = q.place; node = to.Function q.parameters z } ∷ q.outer)) (sym scope) ∙ q.typed;
      }
