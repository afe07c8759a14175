use borrow.Author.Rules.{rules}
use borrow.Author.Tests.{tests}
use Rattle.truth.specs.Truth.Tests.{says_same, says_no, first_all, all_first, le?}
use Rattle.frames.proofs.stack_fits.Goals as goal

pub returns-then-height-stack : goal.returns-then-height-stack
returns-then-height-stack c =
    let (slice, held) = c.if-height-stack.true in
    let first = c.first_bad_frame.ensures in
    says_same (le? _ _) (λ h. record { slice = slice; held = held; nodes = first_all first h }) (λ s. all_first first s.nodes)

pub returns-else-height-stack : goal.returns-else-height-stack
returns-else-height-stack c = says_no (search rules) (λ f. search (rules, tests))
