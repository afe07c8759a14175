-- What is read so far, v, has fewer than i + 1 digits, and with it the digits to come say the same number.
use Prim.Native.Nat.{◌^◌, ◌<◌}
use mathlib.Core.Path.{◌≡◌}
use lib.ListN.{drop}
use Rattle.scan.specs.Scan.{digits_from}
use Rattle.scan.proofs.read_digits.Given as goal

abbrev pub invariant-loop-b : goal.invariant-loop-b
invariant-loop-b l = (digits_from l.v (drop l.b-index l.s) ≡ digits_from 0 l.s) × (l.v < 10 ^ l.b-index)
