-- What waits in the code's stack, the innermost first.
use Rattle.std.specs.Prelude.{List, reverse}
use Rattle.cc_machine.specs.declared.waiting.Waiting.{Waiting}
use Rattle.cc_tree.specs.declared.state.Frame.{Frame}

unfoldable pub waiting : Waiting → List Frame
waiting w = reverse w.frames.items
