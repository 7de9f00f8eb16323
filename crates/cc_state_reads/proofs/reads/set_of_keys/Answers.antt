-- The keys of the place have sets of the kind of its type, which are joined.
use Rattle.std.proofs.Common.{List, sym, ap, ◌∙◌, subst}
use Rattle.std.specs.Prelude.{option_map}
use Rattle.std.specs.List.{Contains}
use Rattle.std.proofs.lemmas.Result.{IfOk-weaker}
use Rattle.cc_state_keys.specs.CcStateFacts.declared.facts.Key.{Key}
use Rattle.cc_state_values.specs.CcStateOperators.Domains.{domain, IsUnion}
use Rattle.cc_state_reads.specs.Reads.{IsOfKeys}
use Rattle.cc_state_reads.proofs.Joins.{kinds_of}
use Rattle.cc_state_reads.proofs.reads.set_of_keys.Goals as goal
use Rattle.cc_state_keys.specs.CcTyped.View.{value_view}

pub union_of-requires-clause-sets : goal.union_of-requires-clause-sets
union_of-requires-clause-sets g c = λ k h.
    let s = c.requires.kinds c.in_ok-named.named k (value_view c.in-Some.t) c.in_ok-named.ensures (subst (λ (keys : List Key). Contains keys k) c.all-in-Some.ensures h) (sym c.type_read.ensures ∙ ap (option_map value_view) c.in-Some.is) in
    (s.0, s.1, kinds_of (value_view c.in-Some.t) c.none_of.result s.0 c.none_of.ensures.kind s.2)

pub returns : goal.returns
returns g c =
    IfOk-weaker c.union_of.result _ _
    (λ y u. record {
      type = value_view c.in-Some.t;
      kind = c.none_of.result;
      keys = c.in_ok-named.named;
      is_type = sym c.type_read.ensures ∙ ap (option_map value_view) c.in-Some.is;
      is_kind = c.none_of.ensures.kind;
      named = c.in_ok-named.ensures;
      union = subst (λ (keys : List Key). IsUnion (domain g.I.Concrete.Has g.I.Lattice.IsBelow g.I.IntDomain.OpGives g.I.IntDomain.OpOneGives g.I.IntDomain.ToGives g.I.IntDomain.KeepGives g.I.IntDomain.members_of) c.none_of.result (IsOfKeys c.args.c.now.program.now c.args.facts.now keys) y) c.all-in-Some.ensures u;
    }) c.union_of.ensures
