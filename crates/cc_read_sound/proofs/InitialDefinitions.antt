-- The definition of a function leaves each object with first values of its type.
use Rattle.std.proofs.Common.{◌≡◌, ℕ, true, List, [], length, Option, Some, None, Ok, refl, ap, sym, ◌∙◌, subst}
use Rattle.cc_read_sound.specs.External.{AreEntries}
use Rattle.cc_read_sound.specs.Values.{AreInitial, HasContents}
use Rattle.cc_read_sound.proofs.InitialisedBodies.{body_initialises}
use Rattle.cc_read_sound.proofs.InitialisedNames.{entry_initial, one_more, one_told}
use Rattle.cc_read_sound.proofs.Strings.{expression_initial}
use Rattle.cc_read_sound.specs.Initialises.{Initialises}
use Rattle.cc_type.specs.CcLinkage.Linkage.{declared, declared_by, new_declared}
use Rattle.cc_type.specs.CcLinkage.declared.linkage.DeclaredAs.{DeclaredAs}
use Rattle.cc_program.specs.declared.func.Entry.{Entry}
use Rattle.cc_program.specs.declared.func.Func.{Func}
use Rattle.cc_program.specs.declared.program.Roles.{Roles}
use Rattle.cc_program.specs.declared.types.CType.{CType}
use Rattle.cc_program.specs.declared.types.Sig.{out-Sig}
use Rattle.cc_read_sound.specs.Ranges.{item_fits}
use Rattle.cc_type.specs.CcScopes.Definitions.{defined_at, with_entry}
use Rattle.cc_type.specs.CcScopes.Linked.{linked_name}
use Rattle.cc_type.specs.CcScopes.State.{State, Name, with_locals}
use Rattle.cc_type.specs.CcScopes.Verdicts.{Checked, checked}
use Rattle.cc_type.specs.CcScopes.declared.unit.Declared.{Declared}
use Rattle.cc_read_sound.proofs.Functions.{declared_in, definition_begins, definition_knows, derived_in, inner_fits, specified}
use Rattle.cc_read_sound.proofs.Parts.{IsFound, IsNamed, named_is}
use Rattle.cc_read_sound.specs.Definitions.{AreApart}
use Rattle.cc_read_sound.proofs.FunctionBodies.{declared_begun}
use Rattle.cc_read_sound.specs.FunctionBodies.{begun}
use Rattle.cc_sound_terms.proofs.Founds.{answer_is}
use Rattle.cc_sound_terms.specs.Ordered.{IsOrdered}
use Rattle.cc_sound_terms.specs.Typing.{Knows}
use Rattle.cc_type.specs.CcSpecifiers.Attributes.{entry_by}
use Rattle.cc_type.specs.CcSyntax.Views.{View}
use Rattle.cc_tree.specs.declared.at.At.{At}
use Rattle.cc_tree.specs.declared.tree.Attr.{Attr}
use Rattle.cc_tree.specs.declared.tree.Declr.{Declr}
use Rattle.cc_tree.specs.declared.tree.Spec.{Spec}
use Rattle.cc_tree.specs.declared.unit.Item.TheVariants as item
use Rattle.cc_tree.specs.declared.unit.Line.{Line}
use Rattle.cc_type.specs.Functions.{asked_by, entered_function, entry_at, function_of, locals_of, named_function, signature_of}
use Rattle.cc_type.specs.CcTypedStatements.Jumps.{no_jumps}
use Rattle.cc_type.specs.CcUnit.declared.unit.UnitKind.TheVariants as kind

module _ (v : View) (roles : Roles) (defined : List Name) where
  abbrev Initial : State → Type 0
  Initial s = AreInitial v s.names

  -- ---- a function that is declared has no first values

  declared_initial : (x : Name) (asked : DeclaredAs) (t : CType) (s : State) (o : Option ℕ) → Initial s → Initial (declared_by x asked t (kind.Func None None) s o).1
  declared_initial x asked t s (Some i) h = h
  declared_initial x asked t s None h = one_more v s.names (new_declared x asked t (kind.Func None None)) h tt

  entered_initial : (x : Name) (asked : DeclaredAs) (t : CType) (entry : Option Entry) (s : State) → Initial s → Initial (entered_function entry (declared x asked t (kind.Func None None) s)).1
  entered_initial x asked t entry s h =
      let known = declared x asked t (kind.Func None None) s in
      one_told v known.1.names known.0 (with_entry entry) (λ d k. entry_initial v entry d.ctype d.kind k) (declared_initial x asked t s (linked_name x s) h)

  -- ---- a definition

  module _ (specs : List (At Spec)) (d : At Declr) (attrs : List (At Attr)) (body : List (At Line)) (s : State) (r : Checked × State) (fits : item_fits (item.Func specs d attrs body) ≡ true) (ordered : IsOrdered s)
      (entries : AreEntries v.target defined s.names) (apart : AreApart s.names) (found : IsFound v.target roles defined specs d attrs body s r) where
    front_initial : Initial s → Initial found.type.1
    front_initial h =
        expression_initial v found.declarator.1 found.type.1 (derived_in v roles defined specs d attrs body s r fits ordered entries apart found).grows
        (expression_initial v found.base.1 found.declarator.1 (declared_in v roles defined specs d attrs body s r fits ordered entries apart found).grows
        (expression_initial v s found.base.1 (specified v roles defined specs d attrs body s r fits ordered entries apart found).grows h))

    module _ (x : Name) (parts : IsNamed v.target roles defined d.at (asked_by found.base.0.specs.storage) x found.type.0 found.declarator.0.derivations body found.type.1 r.1) where
      abbrev start : ℕ × State
      start = entered_function (entry_by parts.marks) (declared x (asked_by found.base.0.specs.storage) found.type.0 (kind.Func None None) found.type.1)

      abbrev told : Declared → Declared
      told = defined_at d.at found.type.0 (kind.Func (entry_at start.0 (with_locals [] parts.inside.1)) (Some (function_of x (signature_of found.type.0) (length (locals_of parts.ps)) parts.inside.1.locals parts.inside.0)))

      named_initial : Initialises v [] s r.1
      named_initial w c o h =
          let begins = begun parts.ps parts.scope start.1 in
          let there = entered_initial x (asked_by found.base.0.specs.storage) found.type.0 (entry_by parts.marks) found.type.1 (front_initial h) in
          let in_body = body_initialises v (length parts.ps) roles defined (out-Sig (signature_of found.type.0)).result body (inner_fits v roles defined specs d attrs body s r fits ordered entries apart found).1 no_jumps
          (locals_of parts.ps) begins parts.inside (declared_begun v parts.ps parts.scope start.1) parts.read in
          let last = in_body.2 (definition_knows v roles defined specs d attrs body s r fits ordered entries apart found x parts w) (subst (λ (z : State). HasContents v z.structures) parts.last c)
          (definition_begins v roles defined specs d attrs body s r fits ordered entries apart found x parts) there in
          subst Initial (sym parts.last) (one_told v parts.inside.1.names start.0 told (λ d k. tt) last)

    initial_by : (o : Option Name) → o ≡ found.declarator.0.name → named_function v.target roles defined d.at found.base.0 found.type.0 found.declarator.0.derivations attrs body o found.type.1 ≡ Ok r → Initialises v [] s r.1
    initial_by (Some x) e h w c o k = named_initial x (named_is v.target roles defined d.at found.base.0 found.type.0 found.declarator.0.derivations attrs body x found.type.1 r h) w c o k
    initial_by None e h w c o k = subst Initial (sym (answer_is checked found.type.1 r h).1) (front_initial k)

    pub definition_initial : Initialises v [] s r.1
    definition_initial w c o k = initial_by found.declarator.0.name refl found.named w c o k
