use borrow.Author.Rules.{rules, lives}
use Rattle.stacks.specs.Machine.Inspections.{full_bottom}
use Rattle.machine.proofs.look_full.Goals as goal

pub look-requires : goal.look-requires
look-requires c κs within =
    let s = c.requires.accepted.shape.nodes in (
      search (lives, within.0, within.1.0, within.1.1.0) depth 20 fits 20000,
      (
        c.requires.fits.held,
        record {
          asked = λ i h. let n = c.requires.fits.nodes i h in search rules;
          answered = λ i h v p. search rules;
          no_frame = full_bottom _ _;
        },
      ),
    )

pub returns : goal.returns
returns c = c.look.ensures
