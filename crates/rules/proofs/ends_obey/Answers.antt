use Rattle.std.proofs.Common.{inl, inr, ⊎_elim, arith}
use Rattle.truth.specs.Truth.{fails}
use Rattle.truth.specs.Truth.Tests.{says_same, says_no, eq?}
use borrow.Author.Rules.{rules}
use Rattle.rules.proofs.ends_obey.Goals as goal

pub returns-in-0 : goal.returns-in-0
returns-in-0 c = says_same (eq? _ _) (λ e. record { way_known = omega arith; call_leaves = λ _. e; transfer_leaves = λ z. absurd (omega arith); transfer_grants = λ z. absurd (omega arith) }) (λ r. r.call_leaves c.in-0.is)

pub returns-then-leaves-eq-KIND_CHECK : goal.returns-then-leaves-eq-KIND_CHECK
returns-then-leaves-eq-KIND_CHECK c = says_same (eq? _ _) (λ e. record { way_known = omega arith; call_leaves = λ z. absurd (omega arith); transfer_leaves = λ _. ⊎_elim inl (λ x. inr x.1) c.if-leaves-eq-KIND_CHECK.either; transfer_grants = λ _. e }) (λ r. r.transfer_grants c.in-1.is)

pub returns-else-leaves-eq-KIND_CHECK : goal.returns-else-leaves-eq-KIND_CHECK
returns-else-leaves-eq-KIND_CHECK c = let (no_call, no_check) = c.if-leaves-eq-KIND_CHECK.false in says_no (search rules) (λ r. ⊎_elim no_call no_check (r.transfer_leaves c.in-1.is))

pub returns-in_default : goal.returns-in_default
returns-in_default c = let h = c.in_default in fails (λ r. omega (arith, r.way_known))
