-- Definitions of cc_places, passed on.
pub use Rattle.cc_rules_flows.specs.CcPlaces.Abstract
pub use Rattle.cc_rules_flows.specs.CcPlaces.Kept
pub use Rattle.cc_rules_flows.specs.CcPlaces.Members
pub use Rattle.cc_rules_flows.specs.CcPlaces.Order
pub use Rattle.cc_rules_flows.specs.CcPlaces.declared
pub use Rattle.cc_rules_flows.specs.CcPlaces.laws
