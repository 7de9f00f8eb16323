-- The prototypes of intrinsics leave known what was known in front of them, whatever that was.
use Rattle.std.proofs.Common.{arith, ◌≡◌, ◌⊎◌, inl, inr, ℕ, true, false, not, ◌&&◌, List, [], ◌∷◌, ◌++◌, map, Some, None, Ok, refl, ap, sym, ◌∙◌, subst}
use Rattle.std.specs.Prelude.{if◌then◌else◌}
use Rattle.std.specs.List.{list_all}
use Rattle.std.specs.Option.{is_some}
use Rattle.std.specs.Str.{bytes_eq}
use Rattle.cc_bodies.specs.Stmts.{intrinsic_name}
use Rattle.cc_type.specs.CcDesignators.Calls.{byte_type, intrinsic_signature}
use Rattle.cc_expression_trees.specs.Constants.{plain as plainly}
use Rattle.cc_expression_trees.specs.Types.{Function, unnamed, Declares}
use Rattle.cc_type.specs.CcLinkage.Linkage.{declared}
use Rattle.cc_type.specs.CcLinkage.declared.linkage.DeclaredAs.TheVariants.{AsExtern}
use Rattle.cc_program.specs.CcNum.declared.int_type.IntType.TheVariants as int
use Rattle.cc_type.specs.CcObjects.Categories.{setting_of}
use Rattle.cc_type.specs.CcObjects.Names.{is_prototype, function_judged, prototype_judged}
use Rattle.cc_type.specs.CcObjects.declared.category.Category.TheVariants as declares
use Rattle.cc_type.specs.CcOperands.Qualified.{plain, is_function_type}
use Rattle.cc_type.specs.CcOperands.Verdicts.{Judged, must}
use Rattle.cc_type.specs.CcOperands.declared.rule.Rule.TheVariants as rule
use Rattle.cc_type.specs.CcTypedTerms.Primary.{intrinsic_named}
use Rattle.cc_program.specs.declared.expr.Intr.{Intr}
use Rattle.cc_program.specs.declared.expr.Intr.TheVariants as intr
use Rattle.cc_program.specs.declared.program.Program.{Program}
use Rattle.cc_program.specs.declared.program.Roles.{Roles}
use Rattle.cc_program.specs.declared.types.CType.{CType}
use Rattle.cc_program.specs.declared.types.Shape.{Shape, Void, Int, Func, roll-Shape, out-roll-Shape}
use Rattle.cc_program.specs.declared.types.Shape.TheOpen as shape
use Rattle.cc_program.specs.declared.types.Shape.TheVariants.{outs-Void, outs-Int}
use Rattle.cc_program.specs.declared.types.Sig.{Sig, out-Sig, roll-Sig, out-roll-Sig, roll-out-Sig}
use Rattle.cc_type.specs.CcScopes.State.{State, Name}
use Rattle.cc_type.specs.CcScopes.Verdicts.{Found, whole, and_then, Checked, checked}
use Rattle.cc_type.specs.CcSpecifiers.declared.storage.Where.TheVariants as stands
use Rattle.cc_type.specs.CcSyntax.Kinds.{is_plain_scalar, is_result}
use Rattle.cc_type.specs.CcSyntax.Names.{device_names, intrinsic_names}
use Rattle.cc_type.specs.CcSyntax.Programs.{kind_in}
use Rattle.cc_type.specs.CcSyntax.SameTypes.{same_type}
use Rattle.cc_type.specs.CcSyntax.Sizes.{AreSized}
use Rattle.cc_type.specs.CcSyntax.Sound.{IsSound}
use Rattle.cc_type.proofs.CcSyntax.SameLemmas.{compared}
use Rattle.cc_type.proofs.CcSyntax.StructureLemmas.{structures_sized}
use Rattle.cc_type.specs.CcTerms.InTurn.{in_turn}
use Rattle.cc_tree.specs.declared.at.At.{At}
use Rattle.cc_tree.specs.declared.tree.Declr.{Declr}
use Rattle.cc_tree.specs.declared.unit.Decl.{Decl}
use Rattle.cc_tree.specs.declared.unit.Item.{Item}
use Rattle.cc_tree.specs.declared.unit.Item.TheVariants as item
use Rattle.cc_type.specs.Units.{item_found, item_next, items_found}
use Rattle.cc_type.specs.CcTypedBodies.Declarations.{declared_left, named_found}
use Rattle.cc_type.specs.CcTypedBodies.Functions.{with_function, function_refused, function_left}
use Rattle.cc_type.specs.CcUnit.declared.unit.UnitKind.TheVariants as kind
use Rattle.cc_unit_trees.specs.Externals.{AnIntrinsic}
use Rattle.cc_unit_trees.specs.Items.{ShowsIntrinsic, AnIntrinsic as AnIntrinsicItem, intrinsic_result, intrinsic_parameters}
use Rattle.cc_unit_trees.specs.Programs.{ShowsExternals, NoExternal, MoreExternals}
use Rattle.cc_unit_trees.specs.Units.{ShowsDecl, ShowsOne}
use Rattle.cc_shown_expressions.specs.Known.{KnowsStructures}
use Rattle.cc_shown_expressions.specs.Numbers.{type_numbered, sig_numbered}
use Rattle.cc_shown_expressions.proofs.Bases.{type-of-fields, shape-of-level}
use Rattle.cc_shown_expressions.proofs.Numbering.{level-at, constant-kept, volatile-kept, sig-level}
use Rattle.cc_shown_expressions.proofs.Standing.{kind-at}
use Rattle.cc_shown_expressions.proofs.Words.{start, words-found}
use Rattle.cc_shown_names.proofs.Names.{name-itself}
use Rattle.cc_shown_names.proofs.Basic.{IsBasic, AllBasic, base-same, base-alone, function-alone}
use Rattle.cc_shown_names.proofs.Keys.{Distinct, back, distinct_file, object_names, func_names}
use Rattle.cc_shown_names.proofs.One.{init_of, decl_of, behind-found, one-found}
use Rattle.cc_shown_names.proofs.Signatures.{function-category, function-declarator}

-- ---- each has its own name

differ : (i j : ℕ) (x y : Name) → (i ≡ j → ⊥) → (i ≡ j) ⊎ (bytes_eq x y ≡ false) → bytes_eq x y ≡ false
differ i j x y h (inl e) = absurd (h e)
differ i j x y h (inr e) = e

module _ (roles : Roles) (apart : Distinct (intrinsic_names roles)) where
  pub named-intrinsic : (i : Intr) → intrinsic_named roles (intrinsic_name roles i) ≡ Some i
  named-intrinsic intr.Off = let a = name-itself roles.off in rw a refl
  named-intrinsic intr.On =
      let a = differ 1 0 roles.on roles.off (λ e. omega (arith, e)) (apart 1 0 roles.on roles.off refl refl) in
      let b = name-itself roles.on in
      rw (a, b) refl
  named-intrinsic intr.Save =
      let a = differ 2 0 roles.save roles.off (λ e. omega (arith, e)) (apart 2 0 roles.save roles.off refl refl) in
      let b = differ 2 1 roles.save roles.on (λ e. omega (arith, e)) (apart 2 1 roles.save roles.on refl refl) in
      let c = name-itself roles.save in
      rw (a, b, c) refl
  named-intrinsic intr.Restore =
      let a = differ 3 0 roles.restore roles.off (λ e. omega (arith, e)) (apart 3 0 roles.restore roles.off refl refl) in
      let b = differ 3 1 roles.restore roles.on (λ e. omega (arith, e)) (apart 3 1 roles.restore roles.on refl refl) in
      let c = differ 3 2 roles.restore roles.save (λ e. omega (arith, e)) (apart 3 2 roles.restore roles.save refl refl) in
      let d = name-itself roles.restore in
      rw (a, b, c, d) refl

-- ---- their types

abbrev byte : CType
byte = plainly (shape.Int int.UChar)

void-same : plainly shape.Void ≡ plain Void
void-same = ap (λ (s : Shape). plain s) (shape-of-level (roll-Shape shape.Void) Void (out-roll-Shape shape.Void ∙ sym outs-Void))

byte-same : byte ≡ byte_type
byte-same = ap (λ (s : Shape). plain s) (shape-of-level (roll-Shape (shape.Int int.UChar)) (Int int.UChar) (out-roll-Shape (shape.Int int.UChar) ∙ sym (outs-Int int.UChar)))

abbrev parts_of : Intr → shape.Sig-F Shape CType Sig
parts_of i = record { result = intrinsic_result i; params = intrinsic_parameters i }

signature-is : (i : Intr) → out-Sig (intrinsic_signature i) ≡ parts_of i
signature-is intr.Off = out-roll-Sig (record { result = plain Void; params = [] }) ∙ ap (λ (t : CType). record { result = t; params = [] }) (sym void-same)
signature-is intr.On = out-roll-Sig (record { result = plain Void; params = [] }) ∙ ap (λ (t : CType). record { result = t; params = [] }) (sym void-same)
signature-is intr.Save = out-roll-Sig (record { result = byte_type; params = [] }) ∙ ap (λ (t : CType). record { result = t; params = [] }) (sym byte-same)
signature-is intr.Restore =
    out-roll-Sig (record { result = plain Void; params = byte_type ∷ [] }) ∙ ap (λ (t : CType). record { result = t; params = byte_type ∷ [] }) (sym void-same)
    ∙ ap (λ (t : CType). record { result = plainly shape.Void; params = t ∷ [] }) (sym byte-same)

module _ (number : ℕ → ℕ) where
  void-stays : type_numbered number (plainly shape.Void) ≡ plainly shape.Void
  void-stays =
      let t = plainly shape.Void in
      type-of-fields (type_numbered number t) t (constant-kept number t) (volatile-kept number t) (shape-of-level (type_numbered number t).shape (roll-Shape shape.Void) (level-at number t shape.Void (out-roll-Shape shape.Void) ∙ sym (out-roll-Shape shape.Void)))

  byte-stays : type_numbered number byte ≡ byte
  byte-stays =
      type-of-fields (type_numbered number byte) byte (constant-kept number byte) (volatile-kept number byte)
      (shape-of-level (type_numbered number byte).shape (roll-Shape (shape.Int int.UChar)) (level-at number byte (shape.Int int.UChar) (out-roll-Shape (shape.Int int.UChar)) ∙ sym (out-roll-Shape (shape.Int int.UChar))))

  result-stays : (i : Intr) → type_numbered number (intrinsic_result i) ≡ intrinsic_result i
  result-stays intr.Off = void-stays
  result-stays intr.On = void-stays
  result-stays intr.Save = byte-stays
  result-stays intr.Restore = void-stays

  parameters-stay : (i : Intr) → map (type_numbered number) (intrinsic_parameters i) ≡ intrinsic_parameters i
  parameters-stay intr.Off = refl
  parameters-stay intr.On = refl
  parameters-stay intr.Save = refl
  parameters-stay intr.Restore = ap (λ (t : CType). t ∷ []) byte-stays

  signature-stays : (i : Intr) → sig_numbered number (intrinsic_signature i) ≡ intrinsic_signature i
  signature-stays i =
      let s = intrinsic_signature i in
      sym (roll-out-Sig (sig_numbered number s))
      ∙ ap roll-Sig (sig-level number s ∙ ap (λ (q : shape.Sig-F Shape CType Sig). record { result = type_numbered number q.result; params = map (type_numbered number) q.params }) (signature-is i)
      ∙ ap (λ (t : CType). record { result = t; params = map (type_numbered number) (intrinsic_parameters i) }) (result-stays i) ∙ ap (λ (ts : List CType). record { result = intrinsic_result i; params = ts }) (parameters-stay i)
      ∙ sym (signature-is i))
      ∙ roll-out-Sig s

basic-result : (i : Intr) → IsBasic (intrinsic_result i)
basic-result intr.Off = rw (out-roll-Shape shape.Void) refl
basic-result intr.On = rw (out-roll-Shape shape.Void) refl
basic-result intr.Save = rw (out-roll-Shape (shape.Int int.UChar)) refl
basic-result intr.Restore = rw (out-roll-Shape shape.Void) refl

basic-parameters : (i : Intr) → AllBasic (unnamed (intrinsic_parameters i))
basic-parameters intr.Off = tt
basic-parameters intr.On = tt
basic-parameters intr.Save = tt
basic-parameters intr.Restore = (rw (out-roll-Shape (shape.Int int.UChar)) refl, tt)

module _ (p : Program) where
  void-result : is_result (kind_in p (plainly shape.Void)) ≡ true
  void-result = ap is_result (kind-at p (plainly shape.Void) shape.Void (out-roll-Shape shape.Void))

  byte-result : is_result (kind_in p byte) ≡ true
  byte-result = ap is_result (kind-at p byte (shape.Int int.UChar) (out-roll-Shape (shape.Int int.UChar)))

  byte-scalar : is_plain_scalar (kind_in p byte) ≡ true
  byte-scalar = ap is_plain_scalar (kind-at p byte (shape.Int int.UChar) (out-roll-Shape (shape.Int int.UChar)))

  result-good : (i : Intr) → is_result (kind_in p (intrinsic_result i)) ≡ true
  result-good intr.Off = void-result
  result-good intr.On = void-result
  result-good intr.Save = byte-result
  result-good intr.Restore = void-result

  parameters-good : (i : Intr) → list_all (λ t. is_plain_scalar (kind_in p t)) (intrinsic_parameters i) ≡ true
  parameters-good intr.Off = refl
  parameters-good intr.On = refl
  parameters-good intr.Save = refl
  parameters-good intr.Restore = ap (λ b. b && true) byte-scalar

-- ---- their prototypes

-- a program without structures, of which nothing needs to be known
abbrev without_structures : Program → Program
without_structures p = record { target = p.target; roles = p.roles; structures = []; devices = p.devices; objects = p.objects; funcs = p.funcs; main = p.main }

abbrev itself : ℕ → ℕ
itself i = i

module _ (p : Program) (apart : Distinct (intrinsic_names p.roles)) (defined : List Name) (s : State) (i : Intr) where
  abbrev q : Program
  q = without_structures p

  none-known : KnowsStructures q itself s
  none-known = record { tags = λ j t e. absurd (cc); structures = λ j t e. absurd (cc); layouts = λ j t e. absurd (cc) }

  sized : AreSized q.structures q.target
  sized = structures_sized 0 p.target [] refl

  abbrev name : Name
  name = intrinsic_name p.roles i

  abbrev sig : Sig
  sig = intrinsic_signature i

  abbrev type : CType
  type = plain (Func (sig_numbered itself sig))

  prototype-is : is_prototype type (Some i) ≡ true
  prototype-is = ap (λ (g : Sig). same_type type (plain (Func g))) (sym (signature-stays itself i)) ∙ (compared type).itself

  judged-is : prototype_judged p.roles AsExtern name type None s ≡ Ok type
  judged-is =
      ap (λ o. if is_some o then must (is_prototype type o && not false) rule.MainOrIntrinsic (Ok type) else function_judged AsExtern name type s) (named-intrinsic p.roles apart i)
      ∙ ap (λ b. must (b && true) rule.MainOrIntrinsic (Ok type)) prototype-is

  left-is : function_left p.target p.roles AsExtern name type [] None s ≡ Ok ([], s)
  left-is =
      ap (λ o. if is_some o then function_refused p.target p.roles None s else function_refused p.target p.roles None (with_function None (declared name AsExtern type (kind.Func None None) s))) (named-intrinsic p.roles apart i)

  named-is : (at : ℕ) (c : At Declr) → named_found p.target p.roles defined at (declares.Function AsExtern) type [] (init_of c at None).node (Some name) s ≡ Ok ([], s)
  named-is at c =
      ap (λ (j : Judged CType). and_then (whole at s j) (λ t s. declared_left p.target p.roles defined at (declares.Function AsExtern) name t [] None s)) judged-is ∙ left-is

  shown : (b : CType) (d : Declr) → Declares p.structures b d (Function name (unnamed (intrinsic_parameters i))) (intrinsic_result i) → Declares [] b d (Function name (unnamed (out-Sig sig).params)) (out-Sig sig).result
  shown b d h =
      subst (λ (g : shape.Sig-F Shape CType Sig). Declares [] b d (Function name (unnamed g.params)) g.result) (sym (signature-is i))
      (function-alone p.structures b (intrinsic_result i) d (Function name (unnamed (intrinsic_parameters i))) name (unnamed (intrinsic_parameters i)) h refl (basic-result i) (basic-parameters i))

  decl-found : (c : Decl) → ShowsDecl p.structures [] (Function name (unnamed (intrinsic_parameters i))) (intrinsic_result i) c → item_found p.target p.roles defined (item.Decl c) s ≡ Ok (checked, s)
  decl-found _ (ShowsOne b qs ss c at words base h) =
      let setting = setting_of stands.AtFile (decl_of (qs ++ ss) c at None) s in
      let lead = words-found p.target p.roles setting [] qs words (start None []) (start None []) s refl in
      let same = base-same p.structures b (intrinsic_result i) c.node (Function name (unnamed (intrinsic_parameters i))) h (basic-result i) in
      let alone = base-alone p.structures b ss base (subst IsBasic (sym same) (basic-result i)) in
      let declarator = shown b c.node h in
      let good = ap (λ (g : shape.Sig-F Shape CType Sig). is_result (kind_in q g.result)) (signature-is i) ∙ result-good q i in
      let goods = ap (λ (g : shape.Sig-F Shape CType Sig). list_all (λ t. is_plain_scalar (kind_in q t)) g.params) (signature-is i) ∙ parameters-good q i in
      one-found q itself defined s none-known (qs ++ ss) c at None name b type None [] (declares.Function AsExtern) s
      (behind-found q itself defined s none-known setting None [] b qs ss lead alone) refl
      (function-declarator q itself defined s none-known sized name sig good goods c at b declarator)
      (function-category q b (out-Sig sig).result c.node name (unnamed (out-Sig sig).params) None (is_function_type (type_numbered itself b)) declarator)
      (named-is at c)

  pub item-found : (c : Item) → ShowsIntrinsic p i c → item_found p.target p.roles defined c s ≡ Ok (checked, s)
  item-found _ (AnIntrinsicItem c h) = decl-found c h

module _ (p : Program) (sound : IsSound p) (defined : List Name) (s : State) where
  intrinsics-apart : Distinct (intrinsic_names p.roles)
  intrinsics-apart =
      back (func_names p) (intrinsic_names p.roles) (back (object_names p) (func_names p ++ intrinsic_names p.roles) (back (device_names p.devices) (object_names p ++ (func_names p ++ intrinsic_names p.roles)) (distinct_file p sound.names)))

  pub intrinsics-found : (is : List Intr) (xs : List (At Item)) → ShowsExternals p (map AnIntrinsic is) xs → items_found p.target p.roles defined xs s ≡ Ok (checked, s)
  intrinsics-found [] _ NoExternal = refl
  intrinsics-found (i ∷ is) _ (MoreExternals _ _ c cs h r) =
      ap (λ (m : Found Checked). and_then m (in_turn (item_next p.target p.roles defined) cs)) (item-found p intrinsics-apart defined s i c.node h) ∙ intrinsics-found is cs r
