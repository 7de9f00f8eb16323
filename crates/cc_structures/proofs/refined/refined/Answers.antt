use Rattle.std.proofs.Common.{subst}
use Rattle.cc_structures.specs.Refined.{IsSplit}
use Rattle.cc_structures.specs.View.{units_of, nodes_of}
use Rattle.cc_structures.proofs.RefineLemmas.{round-first, nodes-more_round, nodes-last, nodes-smaller}
use Rattle.cc_structures.proofs.refined.refined.Goals as goal

pub rounds-init : goal.rounds-init
rounds-init c = round-first (units_of c.args.texts.now) c.args.start.numbers.items c.args.start.count c.requires.start

pub rounds-preserved : goal.rounds-preserved
rounds-preserved c =
    nodes-more_round (units_of c.args.texts.now) c.args.nodes.now c.requires.nodes c.args.start.numbers.items c.rounds.current.numbers.items c.in_ok-next.next.numbers.items c.rounds.current.count c.in_ok-next.next.count c.rounds.invariant
    (subst (λ n. IsSplit (units_of c.args.texts.now) (nodes_of c.args.nodes.now) n c.in_ok-next.next.numbers.items c.in_ok-next.next.count) c.as_slice.ensures.value c.in_ok-next.ensures)

pub rounds-smaller : goal.rounds-smaller
rounds-smaller c =
    nodes-smaller (units_of c.args.texts.now) c.args.nodes.now c.requires.nodes c.args.start.numbers.items c.rounds.current.numbers.items c.in_ok-next.next.numbers.items c.rounds.current.count c.in_ok-next.next.count c.rounds.invariant
    (subst (λ n. IsSplit (units_of c.args.texts.now) (nodes_of c.args.nodes.now) n c.in_ok-next.next.numbers.items c.in_ok-next.next.count) c.as_slice.ensures.value c.in_ok-next.ensures) c.if-next-current.false

pub returns-then-next-current : goal.returns-then-next-current
returns-then-next-current c =
    nodes-last (units_of c.args.texts.now) c.args.nodes.now c.requires.nodes c.args.start.numbers.items c.rounds.current.numbers.items c.in_ok-next.next.numbers.items c.rounds.current.count c.in_ok-next.next.count c.rounds.invariant
    (subst (λ n. IsSplit (units_of c.args.texts.now) (nodes_of c.args.nodes.now) n c.in_ok-next.next.numbers.items c.in_ok-next.next.count) c.as_slice.ensures.value c.in_ok-next.ensures) c.if-next-current.true
