-- `schema_writer::write::write_left` meets its contract: where each type is kept the file is copied; else, measured, what is left of it is too long
-- for the output, or it is written.
use mathlib.Core.Path.{◌≡◌, sym}
use native.Mathlib.Omega.{arith}
use borrow.Author.Rules.{rules}
use lib.ListN.{length}
use lib.Seq.{length-take-le}
use Rattle.sdtd.specs.Limits.{most_types}
use Rattle.schema.proofs.LimitLaws.{within_room}
use Rattle.schema_writer.proofs.Answered.{stated_inside, kept_below, reduced_file, short_writes, fits_writes, each_kept, same_writes}
use Rattle.schema_writer.proofs.write.write_left.Goals as goal

pub slice_bounds-used-end : goal.slice_bounds-used-end
slice_bounds-used-end c =
    let long : length c.used_types-used.result ≡ most_types = search rules in
    let room = within_room c.args.schema.now (stated_inside c.requires) in
    omega (arith, c.from.ensures, long, room.types)

pub slice_bounds-all_kept-end : goal.slice_bounds-all_kept-end
slice_bounds-all_kept-end c =
    let long : length c.used_types-used.result ≡ most_types = search rules in
    let room = within_room c.args.schema.now (stated_inside c.requires) in
    sym (length-take-le c.from.result c.used_types-used.result (omega (arith, c.from.ensures, long, room.types)))

pub returns-then-all_kept : goal.returns-then-all_kept
returns-then-all_kept c =
    let v = c.args.schema.now in
    let long : length c.used_types-used.result ≡ most_types = search rules in
    let room = within_room v (stated_inside c.requires) in
    let all = rw c.from.ensures at c.all_kept.ensures.0 (rw c.if-all_kept.true tt) in
    same_writes v c.requires c.used_types-used.ensures (each_kept _ v.types room.types long all) c.write_same.ensures

pub measured-length-requires : goal.measured-length-requires
measured-length-requires c =
    let inside = stated_inside c.requires in
    (inside, rw c.new-kept.ensures (kept_below c.args.schema.now inside c.used_types-used.ensures))

pub returns-then-out-length : goal.returns-then-out-length
returns-then-out-length c =
    let left = reduced_file (stated_inside c.requires) c.used_types-used.ensures c.args.file.now in
    short_writes left (rw c.new-kept.ensures at c.measured-length.ensures) _ c.if-out-length.true

pub lay_file-requires : goal.lay_file-requires
lay_file-requires c =
    let inside = stated_inside c.requires in
    (inside, rw c.new-kept.ensures (kept_below c.args.schema.now inside c.used_types-used.ensures))

pub returns : goal.returns
returns c =
    let left = reduced_file (stated_inside c.requires) c.used_types-used.ensures c.args.file.now in
    fits_writes left (rw c.new-kept.ensures at c.measured-length.ensures) _ c.if-out-length.false (omega (arith, c.well_formed))
    (rw c.new-kept.ensures at c.lay_file.ensures)
