use Rattle.cc_standing_units.proofs.OwnViews.{types_known, all_is_known, first_ordered}
use Rattle.cc_standing_units.proofs.view_law.own_view.Goals as goal

pub returns : goal.returns
returns c = record { types = types_known; all = all_is_known; order = first_ordered }
