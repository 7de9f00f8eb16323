-- Definitions of cc_objects, passed on.
pub use Rattle.cc_objects.specs.Categories
pub use Rattle.cc_objects.specs.Linked
pub use Rattle.cc_objects.specs.Names
pub use Rattle.cc_objects.specs.Tags
pub use Rattle.cc_objects.specs.Types
pub use Rattle.cc_objects.specs.Values
pub use Rattle.cc_objects.specs.declared
