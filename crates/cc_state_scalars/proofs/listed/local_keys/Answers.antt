-- The locals of a function of a typed program have complete types.
use Rattle.std.proofs.Common.{◌<◌, ◌^◌, List, length, sym, subst}
use Rattle.std.proofs.lemmas.Result.{IfOk-weaker}
use Rattle.cc_program.specs.declared.types.Structure.{Structure}
use Rattle.cc_state_keys.specs.CcStateFacts.declared.facts.Key.{Key}
use Rattle.cc_state_keys.proofs.Typed.{few-members}
use Rattle.cc_state_scalars.proofs.Locals.{few_locals_of, locals_all}
use Rattle.cc_state_scalars.proofs.listed.local_keys.Goals as goal
use Rattle.cc_state_scalars.specs.Listed.{IsTableOf, AreLocalKeysOver}
use Rattle.cc_state_keys.specs.CcSyntax.Types.{AreShort, Named}

pub structure_keys-requires-clause-short : goal.structure_keys-requires-clause-short
structure_keys-requires-clause-short c = subst AreShort (sym c.all.ensures) (few-members c.args.p.now c.requires.typed)

pub local_keys_over-requires : goal.local_keys_over-requires
local_keys_over-requires c = subst (λ (ls : List Named). length ls < 2 ^ 32) (sym c.all-3.ensures) (few_locals_of c.args.p.now c.requires.typed c.args.id c.args.f.now c.requires.there)

pub returns : goal.returns
returns c =
    let table = subst (λ (s : List Structure). IsTableOf s c.in_ok-table.table) c.all.ensures c.in_ok-table.ensures in
    IfOk-weaker c.local_keys_over.result _ _
    (λ keys k. locals_all c.args.p.now c.requires.typed c.args.id c.args.f.now c.requires.there c.in_ok-table.table table keys
    (subst (λ (ls : List Named). AreLocalKeysOver c.in_ok-table.table c.args.id ls keys) c.all-3.ensures (subst (λ (t : List (List Key)). AreLocalKeysOver t c.args.id c.all-3.result.now keys) c.all-2.ensures k))) c.local_keys_over.ensures
