-- What the two reads tell of the net.
use Rattle.std.proofs.Common.{sym}
use Rattle.faults.proofs.Caught.{opposite_read}
use Rattle.faults.proofs.catching.opposite_at.Goals as goal

pub returns : goal.returns
returns c =
    record { says_whether_its_values_are_opposite = sym (opposite_read c.args.good.now c.args.faulty.now c.args.net 256 _ _ _ c.requires.is_a_net c.told-good c.told-faulty c.opposite.ensures.one_is_low_and_the_other_high) }
