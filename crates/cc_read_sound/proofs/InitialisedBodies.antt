-- The lines of a function's body leave first values, by induction over them: what is declared, and first values, are put one behind another together.
use Rattle.std.proofs.Common.{◌≡◌, ℕ, true, List, [], ◌++◌, map, Ok}
use Rattle.std.specs.Prelude.{is_some}
use Rattle.std.specs.List.{list_all}
use Rattle.cc_read_sound.proofs.InitialisedDeclarations.{block_initialises}
use Rattle.cc_read_sound.proofs.Strings.{expression_initial}
use Rattle.cc_read_sound.proofs.Through.{initialises_through}
use Rattle.cc_read_sound.specs.Initialises.{Initialises}
use Rattle.cc_program.specs.declared.expr.Expr.{Expr}
use Rattle.cc_program.specs.declared.program.Roles.{Roles}
use Rattle.cc_program.specs.declared.stmt.Stmt.{Stmt}
use Rattle.cc_program.specs.declared.types.CType.{CType}
use Rattle.cc_read_sound.specs.Ranges.{each_fits, line_in_range}
use Rattle.cc_type.specs.CcScopes.State.{State, Name, entered, empty, left}
use Rattle.cc_read_sound.proofs.Constructs.{ValueHolds, DeclHolds}
use Rattle.cc_read_sound.proofs.Induction.{body_sound}
use Rattle.cc_sound_declarations.proofs.Blocks.{declaration_leaves}
use Rattle.cc_sound_declarations.proofs.Storage.{IsInside, Block, For}
use Rattle.cc_sound_declarations.specs.Ranges.{decl_fits}
use Rattle.cc_sound_declarations.proofs.Declaring.{goes_on, of_extends}
use Rattle.cc_sound_declarations.specs.Declaring.{AreDeclared, Declares}
use Rattle.cc_sound_declarations.specs.Reached.{GoesOn, Reached}
use Rattle.cc_read_sound.specs.Sound.{Keeps}
use Rattle.cc_sound_terms.proofs.Cycle.{tree_holds}
use Rattle.cc_sound_terms.proofs.Trees.{value_holds}
use Rattle.cc_sound_terms.specs.Ordered.{IsOrdered}
use Rattle.cc_sound_terms.specs.Ranges.{fits}
use Rattle.cc_type.specs.CcSpecifiers.declared.storage.Where.{Where}
use Rattle.cc_type.specs.CcSpecifiers.declared.storage.Where.TheVariants as place
use Rattle.cc_type.specs.CcSyntax.Expressions.{type_of}
use Rattle.cc_type.specs.CcSyntax.Types.{Named}
use Rattle.cc_type.specs.CcSyntax.Views.{View}
use Rattle.cc_type.specs.CcTerms.Terms.{here}
use Rattle.cc_tree.specs.declared.at.At.{At}
use Rattle.cc_tree.specs.declared.tree.Tree.{Tree}
use Rattle.cc_tree.specs.declared.unit.Decl.{Decl}
use Rattle.cc_tree.specs.declared.unit.Line.{Line}
use Rattle.cc_type.specs.CcTypedBodies.Lines.{line_here}
use Rattle.cc_type.specs.CcTypedBodies.Meanings.{lines_found}
use Rattle.cc_type.specs.CcTypedBodies.Parts.{value_here}
use Rattle.cc_type.specs.CcTypedBodies.Declarations.{declaration}
use Rattle.cc_type.specs.CcTypedStatements.declared.jumps.Jumps.{Jumps}

module _ (v : View) (defined : List Name) (k : ℕ) where
  abbrev Goes : State → List Named → State → List Named → Type 0
  Goes s D t E = Declares v defined s D t E × Initialises v D s t

  -- nothing is asked of what is found but this
  abbrev Known : List Named → State → State → Type 0
  Known D s t = ⊥

  inside : (s : State) → IsOrdered s → IsOrdered (entered empty s)
  inside s o = record { listed = o.listed; order = o.order; tags = o.tags }

  both_go_on : GoesOn Goes Known (AreDeclared k)
  both_go_on = record {
    itself = λ s D. ((goes_on v defined k).itself s D, λ w c o i. i);
    through = λ s t u D E F a b. ((goes_on v defined k).through s t u D E F a.0 b.0, initialises_through v defined s t u D E F a.0 b.0 a.1 b.1);
    front = λ s t D E a. (goes_on v defined k).front s t D E a.0;
    has = λ s t D E a d. (goes_on v defined k).has s t D E a.0 d;
    first = λ s t u D E F a b w. w;
    second = λ s t u D E F a b w. w;
    enters = λ s D d. (goes_on v defined k).enters s D d;
    inside = λ s t D w. w;
    leaves = λ s t D E a. ((goes_on v defined k).leaves s t D E a.0, λ w c o i. a.1 ((goes_on v defined k).inside s t D w) c (inside s o) i);
  }

  -- nothing is asked of the function's locals here
  abbrev Nowhere : List Named → List Named → Type 0
  Nowhere L F = ⊥

  keeps : (L F : List Named) → Nowhere L F → Keeps v L (type_of v F)
  keeps L F n = absurd n

  module _ (roles : Roles) where
    values_hold : (e : At Tree) → fits e.node ≡ true → ValueHolds Goes Known (AreDeclared k) both_go_on v Nowhere roles e
    unfolding value_here
    values_hold e f D s r d h =
        let g = (value_holds v [] (here v.target roles e) (tree_holds v [] roles e.node f) s r h).grows in
        record { objects = D; goes = (of_extends v defined (Unit {0}) s r.1 D g, λ w c ordered i. expression_initial v s r.1 g i); holds = λ L more e w. absurd w }

    declared : (stands : Where) (d : Decl) → IsInside stands → decl_fits d ≡ true → (D : List Named) (s : State) (r : List Expr × State) → AreDeclared k D s → declaration v.target roles defined stands d s ≡ Ok r →
        Reached Goes Known (AreDeclared k) (List Expr) (λ L es. (F : List Named) → Nowhere L F → list_all (λ e. is_some (type_of v F e)) es ≡ true) D s r
    declared stands d i f D s r a h =
        let l = declaration_leaves v roles defined k stands d D s r i f a h in
        record { objects = l.0; goes = (l.1, block_initialises v roles defined k stands d D s r i f a h); holds = λ L more e w F n. absurd n }

    declarations_hold : (d : Decl) → decl_fits d ≡ true → DeclHolds Goes Known (AreDeclared k) both_go_on v Nowhere roles defined d
    declarations_hold d f = (declared place.InBlock d Block f, declared place.InFor d For f)

pub body_initialises : (v : View) (k : ℕ) (roles : Roles) (defined : List Name) (result : CType) (ls : List (At Line)) → each_fits line_in_range ls ≡ true → (j : Jumps) (D : List Named) (s : State) (r : List Stmt × State) → AreDeclared k D s →
    lines_found j (map (line_here v.target roles defined result) ls) s ≡ Ok r → (E : List Named) × Declares v defined s D r.1 E × Initialises v D s r.1
body_initialises v k roles defined result ls q j D s r d h =
    let o = body_sound (Goes v defined k) (Known v defined k) (AreDeclared k) (both_go_on v defined k) v (Nowhere v defined k) (keeps v defined k) roles defined result (λ D s t w. absurd w) (values_hold v defined k roles) (declarations_hold v defined k roles) ls q j D s r d h in
    (o.objects, o.goes.0, o.goes.1)
