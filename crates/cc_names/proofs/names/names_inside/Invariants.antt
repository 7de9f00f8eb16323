use Rattle.std.proofs.Common.{◌≡◌, ◌++◌, ℕ, List, drop}
use Rattle.cc_names.specs.Holds.{Holds}
use Rattle.cc_names.specs.Names.{names_for}
use Rattle.cc_names.specs.View.{HaveSame, wishes_of}
use Rattle.cc_names.proofs.names.names_inside.Given as goal

abbrev pub invariant-loop-wish : goal.invariant-loop-wish
invariant-loop-wish l = record {
  taken : (reserved given : List (List ℕ)) → Holds l.initial.taken reserved given → Holds l.taken reserved (given ++ l.names.items);
  space : HaveSame l.space l.names.items;
  names : (reserved given had : List (List ℕ)) → Holds l.initial.taken reserved given → HaveSame l.outer had →
      names_for reserved given had (wishes_of l.wishes) ≡ l.names.items ++ names_for reserved (given ++ l.names.items) (had ++ l.names.items) (wishes_of (drop l.wish-index l.wishes));
}
