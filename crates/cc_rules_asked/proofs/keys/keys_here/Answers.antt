use Rattle.std.proofs.Common.{◌≡◌, ◌<◌, ◌^◌, List, length, sym, subst, ◌∙◌}
use Rattle.std.proofs.lemmas.Result.{IfOk-weaker}
use Rattle.cc_rules.specs.CcStateFacts.declared.facts.Key.{Key}
use Rattle.cc_rules.specs.CcStateKeys.Keys.{keys_of}
use Rattle.cc_rules.specs.CcStateOperators.Domains.{domain}
use Rattle.cc_rules.specs.CcStateReads.Contexts.{AreNamedIn}
use Rattle.cc_rules.specs.CcStateReads.Named.{is_among}
use Rattle.cc_rules_asked.specs.Asks.{AreNumbered}
use Rattle.cc_rules_asked.proofs.Listed.{stand_kept}
use Rattle.cc_rules_asked.proofs.ValuesHere.{keys_here}
use Rattle.cc_rules_asked.proofs.keys.keys_here.Goals as goal

pub keys_named-requires : goal.keys_named-requires
keys_named-requires g c = record { sized = c.requires.here.sized; sets = c.requires.here.known; pure = c.requires.pure; keys = c.all-keys.ensures ∙ c.requires.here.keys }

pub numbers_of-requires : goal.numbers_of-requires
numbers_of-requires g c = record {
  keys = c.all-keys.ensures ∙ c.requires.here.keys;
  few = subst (λ (ks : List Key). length ks < 2 ^ 32) (sym c.all-keys.ensures) c.requires.few;
  there = stand_kept (is_among c.in_ok-named.ensures.0) (keys_of c.args.here.now.context.program.now) c.all.result.now (c.all.ensures ∙ c.in_ok-named.ensures.2);
}

pub returns : goal.returns
returns g c =
    IfOk-weaker c.numbers_of.result (λ numbers. AreNumbered c.args.here.now.context.program.now c.all.result.now numbers.items) _
    (λ numbers e. keys_here (domain g.I.Concrete.Has g.I.Lattice.IsBelow g.I.IntDomain.OpGives g.I.IntDomain.OpOneGives g.I.IntDomain.ToGives g.I.IntDomain.KeepGives g.I.IntDomain.members_of) c.args.here.now c.args.a.now c.all.result.now numbers.items c.requires.here
    (subst (AreNamedIn (domain g.I.Concrete.Has g.I.Lattice.IsBelow g.I.IntDomain.OpGives g.I.IntDomain.OpOneGives g.I.IntDomain.ToGives g.I.IntDomain.KeepGives g.I.IntDomain.members_of) c.args.here.now.context c.args.a.now) (sym c.all.ensures) c.in_ok-named.ensures) e)
    c.numbers_of.ensures
