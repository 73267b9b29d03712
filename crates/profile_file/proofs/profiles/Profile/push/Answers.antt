use Rattle.std.proofs.Common.{arith}
use Rattle.profile_file.proofs.Rows.{rows_push}
use Rattle.profile_file.proofs.profiles.Profile.push.Goals as goal

pub invariant_of-self-2 : goal.invariant_of-self-2
invariant_of-self-2 c =
    let above = rw (← c.self.view_is) at c.requires.above in
    rw c.in_ok-push.ensures.items (rows_push c.self.inside.rows.items c.args.row c.self.invariant (omega arith) c.requires.row above)
