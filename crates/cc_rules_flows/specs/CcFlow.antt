-- Definitions of cc_flow, passed on.
pub use Rattle.cc_flow_sound.specs.CcFlow.Laws
pub use Rattle.cc_flow_sound.specs.CcFlow.Next
pub use Rattle.cc_flow_sound.specs.CcFlow.Points
pub use Rattle.cc_flow_sound.specs.CcFlow.View
pub use Rattle.cc_flow_sound.specs.CcFlow.declared
