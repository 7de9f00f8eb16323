-- What a program has is as it was behind the numbers of its unit and the ids that linking gives.
use Rattle.std.specs.Prelude.{◌≡◌, ℕ, ◌+◌, false, true, nat_eq, List, map, Some, slice_get}
use Rattle.std.specs.List.{list_any}
use Rattle.cc_program.specs.declared.func.Func.{Func}
use Rattle.cc_program.specs.declared.object.Object.{Object}
use Rattle.cc_program.specs.declared.program.Program.{Program}
use Rattle.cc_program.specs.declared.types.Structure.{Structure}
use Rattle.cc_shown_declarations.specs.Numbers.{leaf_numbered}
use Rattle.cc_shown_effects.specs.Numbers.{stmt_numbered}
use Rattle.cc_shown_declarations.specs.UnitNumbers.{first_function}
use Rattle.cc_printed_programs.specs.Numbers.{unit_numbers}
use Rattle.cc_structures.proofs.Elements.{In}
use Rattle.cc_type.specs.CcSyntax.Operators.{is_handler}
use Rattle.cc_type.specs.CcSyntax.Types.{Named}
use Rattle.cc_type.specs.CcUnit.Mentioned.{mentioned}
use Rattle.cc_type.specs.CcUnit.Renumbered.{type_renumbered, sig_renumbered, leaf_renumbered, stmt_renumbered}
use Rattle.cc_type.specs.CcUnit.declared.ids.Ids.{Ids}
use Rattle.cc_type.specs.CcUnit.declared.unit.UnitName.{UnitName}

pub record AreKept (p : Program) (ids : Ids) (names : List UnitName) : Type 0 where
  pub members : (s : Structure) → In s p.structures → (m : Named) → In m s.members → type_renumbered ids.structures m.1 ≡ m.1
  pub objects : (i : ℕ) (o : Object) → slice_get p.objects i ≡ Some o → type_renumbered ids.structures o.ctype ≡ o.ctype
  pub values : (i : ℕ) (o : Object) → slice_get p.objects i ≡ Some o → map (leaf_renumbered ids) (map (leaf_numbered (unit_numbers p)) o.init) ≡ o.init
  pub sigs : (i : ℕ) (f : Func) → slice_get p.funcs i ≡ Some f → sig_renumbered ids.structures f.sig ≡ f.sig
  pub locals : (i : ℕ) (f : Func) → slice_get p.funcs i ≡ Some f → (l : Named) → In l f.locals → type_renumbered ids.structures l.1 ≡ l.1
  pub bodies : (i : ℕ) (f : Func) → slice_get p.funcs i ≡ Some f → map (stmt_renumbered ids) (map (stmt_numbered (unit_numbers p)) f.body) ≡ f.body
  -- nothing speaks of a handler
  pub handlers : (i : ℕ) (f : Func) → slice_get p.funcs i ≡ Some f → is_handler f ≡ true → list_any (nat_eq (first_function p + i)) (mentioned names) ≡ false
