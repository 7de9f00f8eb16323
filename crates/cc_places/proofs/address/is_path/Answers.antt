-- Paths are the same where they compare equal.
use Rattle.std.proofs.Common.{◌∙◌, ap, is_eq}
use Rattle.cc_places.specs.Kept.{path_for}
use Rattle.cc_places.specs.laws.OrderLaws.{equal_paths}
use Rattle.cc_places.proofs.address.is_path.Goals as goal

pub returns : goal.returns
returns c = equal_paths c.args.member.now (path_for c.args.is_exact c.args.path.now) c.is_eq.result
    (rw (← c.all.ensures, ← c.all-2.ensures) (c.is_eq.ensures ∙ ap is_eq c.compare_paths.ensures))
