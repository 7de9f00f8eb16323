-- Bodies over the states of the rules: what is known of a state, and the locals of a function.
use Rattle.std.proofs.Common.{◌≡◌, ℕ, true, List, [], map, Some, Ok, refl, ap, sym, ◌∙◌, subst}
use Rattle.std.specs.Prelude.{is_some}
use Rattle.std.specs.List.{list_all}
use Rattle.cc_type.specs.CcSyntax.Views.{View}
use Rattle.cc_type.specs.CcSyntax.Expressions.{type_of}
use Rattle.cc_program.specs.declared.expr.Expr.{Expr}
use Rattle.cc_program.specs.declared.program.Roles.{Roles}
use Rattle.cc_program.specs.declared.stmt.Stmt.{Stmt}
use Rattle.cc_program.specs.declared.types.CType.{CType}
use Rattle.cc_read_sound.specs.Ranges.{each_fits, line_in_range}
use Rattle.cc_sound_declarations.specs.Ranges.{decl_fits}
use Rattle.cc_operand_types.proofs.Typed.{reduced_typed}
use Rattle.cc_type.specs.CcScopes.State.{State, Name}
use Rattle.cc_sound_declarations.proofs.Declarations.{declaration_reaches}
use Rattle.cc_sound_declarations.proofs.Has.{given_on}
use Rattle.cc_sound_declarations.proofs.Unconst.{lowered_reduced}
use Rattle.cc_sound_declarations.specs.Assigns.{AssignsTyped, BodyReached, HasObjects}
use Rattle.cc_sound_declarations.proofs.Storage.{IsInside, Block, For}
use Rattle.cc_read_sound.specs.Sound.{Keeps}
use Rattle.cc_sound_declarations.proofs.Declaring.{of_extends, wider}
use Rattle.cc_sound_declarations.specs.Declaring.{Declares, lowered}
use Rattle.cc_sound_declarations.specs.Reached.{Reached}
use Rattle.cc_sound_terms.proofs.Cycle.{tree_holds}
use Rattle.cc_sound_terms.proofs.Trees.{value_holds}
use Rattle.cc_sound_terms.specs.Ranges.{fits}
use Rattle.cc_sound_terms.specs.Typing.{Knows}
use Rattle.cc_operand_types.specs.Reduced.{ReducedLocals}
use Rattle.cc_type.specs.CcSpecifiers.declared.storage.Where.{Where}
use Rattle.cc_type.specs.CcSpecifiers.declared.storage.Where.TheVariants as place
use Rattle.cc_type.specs.CcSyntax.Types.{Named}
use Rattle.cc_type.specs.CcTerms.Terms.{here}
use Rattle.cc_tree.specs.declared.at.At.{At}
use Rattle.cc_tree.specs.declared.tree.Tree.{Tree}
use Rattle.cc_tree.specs.declared.unit.Decl.{Decl}
use Rattle.cc_tree.specs.declared.unit.Line.{Line}
use Rattle.cc_type.specs.CcTypedBodies.Lines.{line_here}
use Rattle.cc_type.specs.CcTypedBodies.Meanings.{lines_found}
use Rattle.cc_type.specs.CcTypedBodies.Parts.{value_here}
use Rattle.cc_type.specs.CcTypedBodies.Declarations.{declaration}
use Rattle.cc_type.specs.CcTypedStatements.declared.jumps.Jumps.{Jumps}
use Rattle.cc_read_sound.specs.Bodies.{ResultStands, StatementsSound}
use Rattle.cc_read_sound.proofs.Constructs.{EachTyped, ValueHolds, DeclHolds}
use Rattle.cc_read_sound.proofs.Induction.{body_sound}

module _ (v : View) (k : ℕ) where
  abbrev Lowered : List Named → List Named → Type 0
  Lowered L F = F ≡ lowered k L

  keeps : (L F : List Named) → Lowered L F → Keeps v L (type_of v F)
  keeps L F low = λ e t h. reduced_typed v F L (subst (λ (locals : List Named). ReducedLocals locals L) (sym low) (lowered_reduced k L)) e t h

  module _ (result : CType) where
    abbrev There : Type 0
    There = ResultStands v result

    -- throughout the result may stand
    abbrev Known : List Named → State → State → Type 0
    Known D s t = There × Knows v D s t

    values_hold : (roles : Roles) (defined : List Name) (e : At Tree) → fits e.node ≡ true → ValueHolds (Declares v defined) Known (HasObjects k) (given_on v defined k There) v Lowered roles e
    unfolding value_here
    values_hold roles defined e f D s r d h =
        let o = λ (L : List Named). value_holds v L (here v.target roles e) (tree_holds v L roles e.node f) s r h in
        record { objects = D; goes = of_extends v defined (Unit {0}) s r.1 D (o []).grows; holds = λ L more g w. (o L).holds (wider v D more L s r.1 g w.1) }

    typed_there : (defined : List Name) (L : List Named) (es : List Expr) → AssignsTyped v k L es → EachTyped (Declares v defined) Known (HasObjects k) (given_on v defined k There) v Lowered L es
    typed_there defined L es h F low = ap (λ (locals : List Named). list_all (λ e. is_some (type_of v locals e)) es) low ∙ h

    declared_there : (roles : Roles) (defined : List Name) (stands : Where) (d : Decl) → IsInside stands → decl_fits d ≡ true → (D : List Named) (s : State) (r : List Expr × State) → HasObjects k D s →
        declaration v.target roles defined stands d s ≡ Ok r → Reached (Declares v defined) Known (HasObjects k) (List Expr) (EachTyped (Declares v defined) Known (HasObjects k) (given_on v defined k There) v Lowered) D s r
    declared_there roles defined stands d i f D s r a h =
        let o = declaration_reaches v roles defined k stands d D s r i f a h in
        record { objects = o.objects; goes = o.goes; holds = λ L more g w. typed_there defined L r.0 (o.holds L more g w.1) }

    declares : (roles : Roles) (defined : List Name) (d : Decl) → decl_fits d ≡ true → DeclHolds (Declares v defined) Known (HasObjects k) (given_on v defined k There) v Lowered roles defined d
    declares roles defined d q = (declared_there roles defined place.InBlock d Block q, declared_there roles defined place.InFor d For q)

    pub body_holds : (roles : Roles) (defined : List Name) (ls : List (At Line)) → each_fits line_in_range ls ≡ true → (j : Jumps) (D : List Named) (s : State) (r : List Stmt × State) → HasObjects k D s →
        lines_found j (map (line_here v.target roles defined result) ls) s ≡ Ok r → BodyReached v k defined (List Stmt) (λ L ss. There → StatementsSound v k result j L ss) D s r
    body_holds roles defined ls q j D s r a h =
        let o = body_sound (Declares v defined) Known (HasObjects k) (given_on v defined k There) v Lowered keeps roles defined result (λ D s t w. w.0) (values_hold roles defined) (declares roles defined) ls q j D s r a h in
        record { objects = o.objects; goes = o.goes; holds = λ L more g w there. o.holds L more g (there, w) (lowered k L) refl }
