use Rattle.std.proofs.Common.{ℕ, false, length, replicate, ap, sym, ◌∙◌, subst}
use Rattle.std.specs.List.{AllZip}
use Rattle.cc_state_reads.specs.CcStateKeys.Keys.{keys_of}
use Rattle.cc_state_shape.proofs.facts.lowest_of.Goals as goal
use Rattle.cc_state_shape.specs.Lowest.{IsNoneOfKey, IsNoneOfResult}

pub returns : goal.returns
returns g c =
    let p = c.args.p.now in
    let funcs = ap length c.all-funcs.ensures in
    record {
      keys = c.requires.keys;
      whole = subst (AllZip (IsNoneOfKey g.I.Concrete.Has p) (keys_of p)) (sym c.of.ensures) c.requires.whole;
      results = subst (AllZip (IsNoneOfResult g.I.Concrete.Has) p.funcs) (sym c.of-2.ensures) c.requires.results;
      by_main = c.in_ok-by_main.ensures.0 ∙ ap (λ (n : ℕ). replicate n false) funcs;
      by_handler = c.in_ok-by_main.ensures.1 ∙ ap (λ (n : ℕ). replicate n false) funcs;
      levels = c.in_ok-levels.ensures.0 ∙ ap (λ (n : ℕ). replicate n 0) funcs;
      from = c.in_ok-levels.ensures.1 ∙ ap (λ (n : ℕ). replicate n 0) funcs;
      handler_reads = c.in_ok-handler_reads.ensures.0 ∙ ap (λ (n : ℕ). replicate n false) c.requires.count;
      handler_writes = c.in_ok-handler_reads.ensures.1 ∙ ap (λ (n : ℕ). replicate n false) c.requires.count;
      read_levels = c.in_ok-read_levels.ensures.0 ∙ ap (λ (n : ℕ). replicate n 0) c.requires.count;
      write_levels = c.in_ok-read_levels.ensures.1 ∙ ap (λ (n : ℕ). replicate n 0) c.requires.count;
      at = c.of-3.ensures ∙ c.requires.at;
    }
