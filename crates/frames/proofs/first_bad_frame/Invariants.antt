use Rattle.frames.specs.Frames.{Frame}
use Rattle.truth.specs.Truth.Tests.{Passed}
use Rattle.frames.proofs.first_bad_frame.Given as goal

abbrev pub invariant-loop-i : goal.invariant-loop-i
invariant-loop-i l = Passed (Frame l.n l.stack) l.height l.i
