-- The body of a function, and its definition, keep what is so of entries.
use Rattle.std.proofs.Common.{◌≡◌, ◌⊎◌, inl, inr, ℕ, Bool, true, false, ◌&&◌, List, [], ◌∷◌, ◌++◌, map, Option, Some, None, Ok, refl, ap, sym, ◌∙◌, subst}
use Rattle.std.specs.Prelude.{is_some, slice_get}
use Rattle.std.specs.List.{list_all}
use Rattle.cc_type.specs.CcLinkage.Linkage.{declared}
use Rattle.cc_type.specs.CcLinkage.declared.linkage.DeclaredAs.{DeclaredAs}
use Rattle.cc_operand_types.specs.Typed.{IsTypedOperand}
use Rattle.cc_type.specs.CcOperands.Operands.{Operand}
use Rattle.cc_type.specs.CcOperands.Qualified.{is_function_type}
use Rattle.cc_program.specs.declared.expr.Expr.{Expr}
use Rattle.cc_program.specs.declared.func.Entry.{Entry}
use Rattle.cc_program.specs.declared.func.Func.{Func}
use Rattle.cc_program.specs.declared.program.Roles.{Roles}
use Rattle.cc_program.specs.declared.stmt.Stmt.{Stmt}
use Rattle.cc_program.specs.declared.types.CType.{CType}
use Rattle.cc_read_sound.specs.Ranges.{each_fits, line_in_range}
use Rattle.cc_type.specs.CcScopes.State.{State, Name, empty, entered, left}
use Rattle.cc_read_sound.proofs.Constructs.{EachTyped, ValueHolds, DeclHolds}
use Rattle.cc_read_sound.proofs.Induction.{body_sound}
use Rattle.cc_sound_declarations.proofs.Storage.{IsInside, Block, For}
use Rattle.cc_sound_declarations.specs.Ranges.{decl_fits}
use Rattle.cc_read_sound.proofs.Kept.{extends_well, same_well}
use Rattle.cc_read_sound.proofs.Places.{inside_keeps}
use Rattle.cc_read_sound.specs.Entries.{AreWell}
use Rattle.cc_sound_declarations.specs.Reached.{GoesOn, Reached}
use Rattle.cc_read_sound.specs.Sound.{Keeps}
use Rattle.cc_sound_terms.proofs.Cycle.{tree_holds}
use Rattle.cc_sound_terms.proofs.Trees.{value_holds}
use Rattle.cc_sound_terms.specs.Ranges.{fits}
use Rattle.cc_type.specs.CcSpecifiers.declared.storage.Where.{Where}
use Rattle.cc_type.specs.CcSpecifiers.declared.storage.Where.TheVariants as place
use Rattle.cc_type.specs.CcSyntax.Expressions.{type_of}
use Rattle.cc_type.specs.CcSyntax.Types.{Named}
use Rattle.cc_type.specs.CcSyntax.Views.{View}
use Rattle.cc_type.specs.CcTerms.Terms.{here}
use Rattle.cc_tree.specs.declared.at.At.{At}
use Rattle.cc_tree.specs.declared.tree.Tree.{Tree}
use Rattle.cc_tree.specs.declared.unit.Decl.{Decl}
use Rattle.cc_tree.specs.declared.unit.Line.{Line}
use Rattle.cc_type.specs.CcTypedBodies.Lines.{line_here}
use Rattle.cc_type.specs.CcTypedBodies.Meanings.{lines_found}
use Rattle.cc_type.specs.CcTypedBodies.Parts.{value_here}
use Rattle.cc_type.specs.CcTypedBodies.Declarations.{declaration}
use Rattle.cc_type.specs.CcTypedStatements.declared.jumps.Jumps.{Jumps}

append_nothing : {A : Type 0} (xs : List A) → xs ++ [] ≡ xs
append_nothing [] = refl
append_nothing (x ∷ xs) = ap (λ ys. x ∷ ys) (append_nothing xs)

module _ (v : View) (roles : Roles) (defined : List Name) (P : CType → Func → Type 0) where
  -- from state to state; of values and locals nothing is told
  abbrev Goes : State → List Named → State → List Named → Type 0
  Goes s D t E = (D ≡ E) × ((done : List Name) → AreWell v.target roles defined P done s → AreWell v.target roles defined P done t)

  abbrev Known : List Named → State → State → Type 0
  Known D s t = ⊥

  abbrev Has : List Named → State → Type 0
  Has D s = Unit {0}

  on : GoesOn Goes Known Has
  on = record {
    itself = λ s D. (refl, λ done w. w);
    through = λ s t u D E F a b. (a.0 ∙ b.0, λ done w. b.1 done (a.1 done w));
    front = λ s t D E a. ([], sym a.0 ∙ sym (append_nothing D));
    has = λ s t D E a h. tt;
    first = λ s t u D E F a b k. k;
    second = λ s t u D E F a b k. k;
    enters = λ s D h. tt;
    inside = λ s t D k. k;
    leaves = λ s t D E a. (a.0, λ done w. same_well v roles defined P done t (left t) refl (a.1 done (same_well v roles defined P done s (entered empty s) refl w)));
  }

  -- there are no locals
  abbrev Lowered : List Named → List Named → Type 0
  Lowered L F = ⊥

  keeps : (L F : List Named) → Lowered L F → Keeps v L (type_of v F)
  keeps L F low = absurd low

  values_hold : (e : At Tree) → fits e.node ≡ true → ValueHolds Goes Known Has on v Lowered roles e
  unfolding value_here
  values_hold e f D s r d h =
      let o = value_holds v [] (here v.target roles e) (tree_holds v [] roles e.node f) s r h in
      record { objects = D; goes = (refl, λ done w. extends_well v roles defined P done s r.1 o.grows w); holds = λ L more g k. absurd k }

  declares_by : (stands : Where) → IsInside stands → (d : Decl) → decl_fits d ≡ true → (D : List Named) (s : State) (r : List Expr × State) → Has D s → declaration v.target roles defined stands d s ≡ Ok r →
      Reached Goes Known Has (List Expr) (EachTyped Goes Known Has on v Lowered) D s r
  declares_by stands i d f D s r has h = record { objects = D; goes = (refl, λ done w. inside_keeps v roles defined P stands d s r i f h done w); holds = λ L more g k. absurd k }

  declares : (d : Decl) → decl_fits d ≡ true → DeclHolds Goes Known Has on v Lowered roles defined d
  declares d f = (declares_by place.InBlock Block d f, declares_by place.InFor For d f)

  pub body_keeps : (result : CType) (ls : List (At Line)) → each_fits line_in_range ls ≡ true → (j : Jumps) (s : State) (r : List Stmt × State) → lines_found j (map (line_here v.target roles defined result) ls) s ≡ Ok r →
      (done : List Name) → AreWell v.target roles defined P done s → AreWell v.target roles defined P done r.1
  body_keeps result ls q j s r h =
      (body_sound Goes Known Has on v Lowered keeps roles defined result (λ D s t k. absurd k) values_hold declares ls q j [] s r tt h).goes.1
