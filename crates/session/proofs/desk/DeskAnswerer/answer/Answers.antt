use Rattle.std.proofs.Common.{rules}
use Rattle.session.proofs.Doing.{inside}
use Rattle.session.proofs.desk.DeskAnswerer.answer.Goals as goal

pub slice_bounds-write_all-end : goal.slice_bounds-write_all-end
slice_bounds-write_all-end g c =
    let fits = inside _ _ _ _ c.in-Ok.ensures.answer.written in
    search rules
