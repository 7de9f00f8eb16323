-- The structures of a typed program are in order, and its objects have complete types.
use Rattle.std.proofs.Common.{List, sym, subst}
use Rattle.std.proofs.lemmas.Result.{IfOk-weaker}
use Rattle.cc_program.specs.declared.object.Object.{Object}
use Rattle.cc_program.specs.declared.types.Structure.{Structure}
use Rattle.cc_state_keys.specs.CcStateFacts.declared.facts.Key.{Key}
use Rattle.cc_state_keys.proofs.Typed.{few-members}
use Rattle.cc_state_scalars.proofs.Over.{objects_all}
use Rattle.cc_state_scalars.proofs.listed.static_keys.Goals as goal
use Rattle.cc_state_scalars.specs.Listed.{IsTableOf, AreObjectKeys}
use Rattle.cc_state_keys.specs.CcSyntax.Types.{AreShort}

pub structure_keys-requires-clause-short : goal.structure_keys-requires-clause-short
structure_keys-requires-clause-short c = subst AreShort (sym c.all.ensures) (few-members c.args.p.now c.requires)

pub returns : goal.returns
returns c =
    let table = subst (λ (s : List Structure). IsTableOf s c.in_ok-table.table) c.all.ensures c.in_ok-table.ensures in
    IfOk-weaker c.object_keys.result _ _
    (λ keys k. objects_all c.args.p.now c.requires c.in_ok-table.table table keys
    (subst (λ (o : List Object). AreObjectKeys c.in_ok-table.table o keys) c.all-3.ensures (subst (λ (t : List (List Key)). AreObjectKeys t c.all-3.result.now keys) c.all-2.ensures k))) c.object_keys.ensures
