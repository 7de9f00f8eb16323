use Rattle.std.proofs.Common.{length}
use Rattle.cc_program.specs.declared.program.Program.{Program}
use Rattle.cc_program.specs.declared.types.Sig.{out-Sig}
use Rattle.cc_type.specs.CcSyntax.Sizes.{AreSized}
use Rattle.cc_type.specs.CcSyntax.Sound.{IsSound, IsFunc}
use Rattle.cc_type.proofs.CcSyntax.Parts.{all_at}
use Rattle.cc_type.proofs.CcSyntax.StructureLemmas.{structures_sized}
use Rattle.cc_shown_expressions.proofs.Stand.{types-stand}
use Rattle.cc_shown_expressions.specs.Numbers.{type_numbered}
use Rattle.cc_shown_names.proofs.Lines.{lines-typed}
use Rattle.cc_shown_names.proofs.Order.{uses-known}
use Rattle.cc_shown_names.proofs.Statements.{stmts-typed}
use Rattle.cc_shown_names.proofs.Uses.{names-used}
use Rattle.cc_shown_names.proofs.statement_law.statements_are_typed.Goals as goal

sized : (p : Program) → IsSound p → AreSized p.structures p.target
sized p h = structures_sized (length p.structures) p.target p.structures h.structures

pub returns : goal.returns
returns c = record {
  statements = λ p i f n s u sound there names defined j ss ls shown normal good uses.
      lines-typed p n defined (type_numbered n.structure (out-Sig f.sig).result) j ss ls s u
      (stmts-typed p f n defined sound (sized p sound) (types-stand p sound i f there) (all_at (IsFunc p) p.funcs i f there sound.funcs) ss ls shown j s u names normal good uses);
  behind = λ p f n s u names ids uses. names-used p n f ids s u names uses;
  devices = λ p n first behind s differ known ids next few. uses-known p n differ ids first behind s known next few;
}
