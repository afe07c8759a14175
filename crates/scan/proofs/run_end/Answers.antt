use mathlib.Core.Path.{ap, ◌∙◌}
use native.Mathlib.Omega.{arith}
use lib.ListN.{length, drop, length-take}
use Prim.Native.Nat.{ℕ, ◌+◌, ◌-◌}
use Rattle.scan.specs.Scan.{run}
use Rattle.scan.specs.Scan.Runs.{run_counted, run_most}
use Rattle.scan.proofs.run_end.Goals as goal

pub overflow_add-result : goal.overflow_add-result
overflow_add-result c =
    let a = c.args in
    let most = run_most a.class c.field.result.now in
    let long = ap (length {A = ℕ}) c.field.ensures in
    let cut = length-take {A = ℕ} (length a.s.now - a.at) (drop a.at a.s.now) in
    omega (arith, most, long, cut, c.run_len.ensures)

pub returns : goal.returns
returns c =
    let a = c.args in
    ap (λ (n : ℕ). a.at + n) (c.run_len.ensures ∙ ap (run a.class) c.field.ensures ∙ run_counted a.class a.s.now a.at)
