use Rattle.std.proofs.Common.{◌≡◌, ◌≤◌, ℕ, Bool, true, false, List, [], map, length, Some, None, Ok, refl, ap, sym, ◌∙◌, subst, slice_get, arith}
use Rattle.std.proofs.lemmas.List.{take_all, append-nil}
use Rattle.cc_type.specs.CcInitialisers.Contents.{contents_over, structure_inside}
use Rattle.cc_type.specs.CcInitialisers.Initialisers.{initialised, here as given_here}
use Rattle.cc_type.specs.CcObjects.Values.{leaf_given, no_leaf}
use Rattle.cc_program.specs.declared.func.Func.{Func}
use Rattle.cc_program.specs.declared.object.Object.{Object}
use Rattle.cc_program.specs.declared.program.Program.{Program}
use Rattle.cc_program.specs.declared.types.CType.{CType}
use Rattle.cc_program.specs.declared.types.Sig.{roll-Sig}
use Rattle.cc_type.specs.CcOperands.Qualified.{plain}
use Rattle.cc_program.specs.declared.types.Shape.{Void}
use Rattle.cc_program.specs.declared.value.Leaf.{Leaf}
use Rattle.cc_type.specs.CcScopes.State.{State, structures_of}
use Rattle.cc_type.specs.CcTypedTerms.Primary.{leaves_or_none}
use Rattle.cc_program.specs.declared.types.Structure.{Structure}
use Rattle.cc_type.specs.CcSyntax.Programs.{AreLeaves, IsInitial}
use Rattle.cc_type.specs.CcSyntax.Sizes.{AreSized}
use Rattle.cc_type.specs.CcSyntax.Sound.{IsSound, is_object}
use Rattle.cc_type.specs.CcSyntax.Types.{is_complete}
use Rattle.cc_type.proofs.CcSyntax.Parts.{all_at}
use Rattle.cc_type.proofs.CcSyntax.StructureLemmas.{structures_sized, object_complete}
use Rattle.cc_tree.specs.declared.at.At.{At}
use Rattle.cc_tree.specs.declared.unit.Given.{Given}
use Rattle.cc_type.specs.CcTypedBodies.Plans.{steps_done}
use Rattle.cc_unit_trees.specs.Values.{ShowsGiven, ShowsInitial, ShowsFirst}
use Rattle.cc_shown_expressions.proofs.Stand.{tested-at}
use Rattle.cc_shown_expressions.specs.KnownNames.{TypesStand}
use Rattle.cc_shown_expressions.specs.OperationNumbers.{Numbers}
use Rattle.cc_shown_expressions.specs.Numbers.{type_numbered}
use Rattle.cc_shown_declarations.specs.Known.{KnowsStatics}
use Rattle.cc_shown_declarations.specs.Numbers.{leaf_numbered}
use Rattle.cc_shown_declarations.proofs.Givens.{given-gives}
use Rattle.cc_shown_declarations.proofs.Stand.{stands-without}
use Rattle.cc_shown_declarations.proofs.Zeros.{start-fits, start-kept}
use Rattle.cc_shown_declarations.proofs.value_law.values_are_typed.Goals as goal

-- outside of all functions no name is a local's
abbrev no_function : Func
no_function = record { name = []; sig = roll-Sig (record { result = plain Void; params = [] }); entry = None; params = 0; locals = []; body = [] }

module _ (p : Program) (n : Numbers) (s : State) (sound : IsSound p) (known : KnowsStatics p n s) where
  sized : AreSized p.structures p.target
  sized = structures_sized (length p.structures) p.target p.structures sound.structures

  stand : TypesStand p no_function
  stand = stands-without p sound no_function refl

  complete : (i : ℕ) (o : Object) → slice_get p.objects i ≡ Some o → is_complete p.structures o.ctype ≡ true
  complete i o e = object_complete (length p.structures) p.target p.structures o.ctype sized (tested-at (is_object p) p.objects i o sound.objects e)

  many : length p.structures ≤ length (structures_of s)
  many = known.many

  values : (t : CType) (leaves : List Leaf) (g : At Given) → ShowsGiven p t leaves [] g.node → AreLeaves p t leaves [] → is_complete p.structures t ≡ true → (constant : Bool) →
      steps_done p.target p.roles Leaf (leaf_given p.target) no_leaf (initialised (contents_over (structure_inside (structures_of s) (length (structures_of s))) (type_numbered n.structure t) constant) (given_here g)) s ≡ Ok (map (leaf_numbered n) leaves, s)
  values t leaves g h fits c constant =
      let whole = subst (λ (ss : List Structure). is_complete ss t ≡ true) (sym (take_all (length p.structures) p.structures (omega arith))) c in
      let q = (given-gives p no_function n s sized known stand complete (length p.structures) (length (structures_of s)) many t leaves [] g.node h g.at [] fits whole constant).1 in
      q.gives [] ∙ ap (λ (ls : List Leaf). Ok (map (leaf_numbered n) ls, s)) (sym (q.split ∙ append-nil q.own))

  record ObjectGiven (o : Object) (g : At Given) : Type 0 where
    leaves : List Leaf
    kept : leaves_or_none leaves ≡ map (leaf_numbered n) o.init
    done : steps_done p.target p.roles Leaf (leaf_given p.target) no_leaf (initialised (contents_over (structure_inside (structures_of s) (length (structures_of s))) (type_numbered n.structure o.ctype) false) (given_here g)) s ≡ Ok (leaves, s)

  object-given : (i : ℕ) (o : Object) → slice_get p.objects i ≡ Some o → (at : ℕ) (x : Given) → ShowsInitial p o x → ObjectGiven o (record { at = at; node = x })
  object-given i o there at _ (ShowsFirst ls x start h) =
      let initial = all_at (λ (o : Object). IsInitial p o.ctype o.init) p.objects i o there sound.initial in
      record {
        leaves = map (leaf_numbered n) ls;
        kept = start-kept p n o.ctype ls o.init initial start;
        done = values o.ctype ls (record { at = at; node = x }) h (start-fits p o.ctype ls o.init x initial start h) (complete i o there) false;
      }

pub returns : goal.returns
returns c = record {
  values = λ p n s sound known t leaves g h fits whole constant. values p n s sound known t leaves g h fits whole constant;
  objects = λ p n s sound known i o there g h. let q = object-given p n s sound known i o there g.at g.node h in (q.leaves, q.kept, q.done);
}
