-- Definitions of cc_flow_sound, passed on.
pub use Rattle.cc_flow_sound.specs.Moves
pub use Rattle.cc_flow_sound.specs.Sites
pub use Rattle.cc_flow_sound.specs.Statements
