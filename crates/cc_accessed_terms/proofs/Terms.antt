-- What expressions of a text account for, and that its type names, specifiers and declarators declare no device without a name.
use Rattle.std.proofs.Common.{◌≡◌, ℕ, ℤ, Bool, List, [], ◌∷◌, map, Ok}
use Rattle.cc_terms.specs.CcDesignators.Designators.{TypedExpr}
use Rattle.cc_program.specs.CcNum.declared.target.Target.{Target}
use Rattle.cc_terms.specs.CcOperands.Operands.{Operand, constancy}
use Rattle.cc_program.proofs.Each.{Each}
use Rattle.cc_program.specs.declared.program.Roles.{Roles}
use Rattle.cc_program.specs.declared.types.CType.{CType}
use Rattle.cc_terms.specs.CcScopes.State.{Scope, State}
use Rattle.cc_terms.specs.CcSpecifiers.declared.derivation.Allowed.{Allowed}
use Rattle.cc_terms.specs.CcSpecifiers.declared.derivation.Declarator.{Declarator}
use Rattle.cc_terms.specs.CcSpecifiers.declared.derivation.Parameter.{Parameter}
use Rattle.cc_terms.specs.CcSpecifiers.declared.specifier.Specified.{Specified}
use Rattle.cc_terms.specs.CcSpecifiers.declared.storage.Setting.{Setting}
use Rattle.cc_terms.specs.CcSyntax.Folding.{Value}
use Rattle.cc_terms.specs.Meanings.{SpecMeaning}
use Rattle.cc_terms.specs.Specifiers.{specified_found}
use Rattle.cc_terms.specs.Terms.{declr_of, here, params_of, spec_here, tree_of, type_name_of}
use Rattle.cc_tree.specs.declared.at.At.{At}
use Rattle.cc_tree.specs.declared.tree.Declr.{Declr}
use Rattle.cc_tree.specs.declared.tree.Params.{Params}
use Rattle.cc_tree.specs.declared.tree.Spec.{Spec}
use Rattle.cc_tree.specs.declared.tree.Tree.{Tree}
use Rattle.cc_tree.specs.declared.tree.TypeName.{TypeName}
use Rattle.cc_terms.specs.CcTypedTerms.Values.{value_found, designated_found}
use Rattle.cc_accessed_operands.specs.Accessed.{accesses}
use Rattle.cc_accessed_operands.specs.Kept.{TrapsWithoutAccess}
use Rattle.cc_accessed_terms.specs.Accounted.{Accounts, DeclaresNone, IsAccounted}
use Rattle.cc_accessed_terms.proofs.Cycle.{each_declr, each_params, each_spec, each_tree, each_type_name}
use Rattle.cc_accessed_terms.proofs.Specifiers.{SpecDeclares, specified_declares}
use Rattle.cc_accessed_terms.proofs.Values.{Stands, value_stands, designator_stands, constant_nothing}

accounted : (s : State) (r : TypedExpr × State) → Stands s r → IsAccounted s r
accounted s r k = record { known = k.known; accounts = k.declares.accounts }

module _ (target : Target) (roles : Roles) where
  pub tree_accounts : (e : Tree) (at : ℕ) (s : State) (r : TypedExpr × State) → tree_of target roles e at s ≡ Ok r → IsAccounted s r
  tree_accounts e at s r h = accounted s r (each_tree target roles e at s r h)

  pub value_accounts : (e : At Tree) (s : State) (r : Operand × State) → value_found (here target roles e) s ≡ Ok r → Accounts (λ i. accesses i r.0.value) s r.1
  value_accounts e s r h = (value_stands (here target roles e) (each_tree target roles e.node) s r h).declares.accounts

  pub value_known : (e : At Tree) (s : State) (r : Operand × State) → value_found (here target roles e) s ≡ Ok r → TrapsWithoutAccess r.0
  value_known e s r h = (value_stands (here target roles e) (each_tree target roles e.node) s r h).known

  pub designated_accounts : (e : At Tree) (s : State) (r : TypedExpr × State) → designated_found (here target roles e) s ≡ Ok r → IsAccounted s r
  designated_accounts e s r h = accounted s r (designator_stands (here target roles e) (each_tree target roles e.node) s r h)

  pub constant_declares : (e : At Tree) (s : State) (r : Operand × State) (n : ℤ) → value_found (here target roles e) s ≡ Ok r → constancy r.0 ≡ Value n → DeclaresNone s r.1
  constant_declares e s r n h c = (constant_nothing (here target roles e) (each_tree target roles e.node) s r n h c).accounts

  pub declr_declares : (d : Declr) (allowed : Allowed) (at : ℕ) (s : State) (r : Declarator Scope × State) → declr_of target roles d allowed at s ≡ Ok r → DeclaresNone s r.1
  declr_declares d allowed at s r h = (each_declr target roles d allowed at s r h).accounts

  pub params_declare : (ps : Params) (unnamed : Bool) (s : State) (r : (List Parameter × Scope) × State) → params_of target roles ps unnamed s ≡ Ok r → DeclaresNone s r.1
  params_declare ps unnamed s r h = (each_params target roles ps unnamed s r h).accounts

  each_specifier : (specs : List (At Spec)) → Each (λ (x : At SpecMeaning). SpecDeclares x.node) (map (spec_here target roles) specs)
  each_specifier [] = tt
  each_specifier (x ∷ xs) = (each_spec target roles x.node, each_specifier xs)

  pub specifiers_declare : (set : Setting) (specs : List (At Spec)) (s : State) (r : Specified × State) → specified_found set (map (spec_here target roles) specs) s ≡ Ok r → DeclaresNone s r.1
  specifiers_declare set specs s r h = (specified_declares set (map (spec_here target roles) specs) (each_specifier specs) s r h).accounts

  pub type_name_declares : (t : TypeName) (cast : Bool) (s : State) (r : CType × State) → type_name_of target roles t cast s ≡ Ok r → DeclaresNone s r.1
  type_name_declares t cast s r h = (each_type_name target roles t cast s r h).accounts
