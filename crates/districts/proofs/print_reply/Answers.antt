-- What is printed of a reply lies within the room for it.
use Rattle.std.proofs.Common.{◌≤◌, length, rules}
use Rattle.districts.proofs.DistrictReplies.{district_fits}
use Rattle.districts.proofs.print_reply.Goals as goal

pub slice_bounds-write_all-end : goal.slice_bounds-write_all-end
slice_bounds-write_all-end c =
    let fits : c.write_text-end.result ≤ length c.room-out.result = district_fits c.args.whole c.requires c.write_text-end.ensures in
    search rules
