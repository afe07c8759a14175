use Rattle.std.specs.Prelude.{◌≡◌, Err}
use Rattle.std.proofs.Common.{rules}
use Rattle.machine.specs.Inspect.{FullAnswers}
use Rattle.machine.specs.Inspect.Laws.{may_be_asked, refused_asking}
use Rattle.machine.proofs.full.Goals as goal

pub returns-in_err-judge_asked : goal.returns-in_err-judge_asked
returns-in_err-judge_asked c =
    let e : (c.from_residual.result ≡ Err c.in_err-judge_asked.field-0.0) = search rules in
    rw e (FullAnswers.refused (refused_asking c.in_err-judge_asked.ensures))

pub look_full-requires : goal.look_full-requires
look_full-requires c = let a = may_be_asked c.in_ok-judge_asked.ensures in record { accepted = a.acceptable; fits = a.fits }

pub returns : goal.returns
returns c = FullAnswers.looked (may_be_asked c.in_ok-judge_asked.ensures) c.look_full.ensures
